use denote.Param.Send.{sendable}
use Rattle.std.proofs.Crossing.{crosses}
use Rattle.pause_gate.proofs.flag_gate.FlagGate.TheSendSync as gate
use Rattle.pause_gate.proofs.flag_gate.Pass.TheSendSync as pass
use Rattle.monitor_serving.proofs.Sending.{machine_send}
use Rattle.monitor_serving.proofs.beside.run_in_threads.Goals as goal

pub join_mut-ran-requires-send-F : goal.join_mut-ran-requires-send-F
join_mut-ran-requires-send-F g c κs within =
    let turns = c.type_bounds.send-W in
    let sink = c.type_bounds.send-K in
    let threads = c.type_bounds.sync-R in
    search (machine_send, gate.the_sync, pass.the_send, sendable, crosses) depth 40 fits 10000
