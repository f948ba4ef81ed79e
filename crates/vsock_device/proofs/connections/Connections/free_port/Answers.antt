use Rattle.std.proofs.Common.{◌<◌, ◌∙◌, ap, arith, length, sym}
use Rattle.vsock_device.proofs.Ports.{past_port}
use Rattle.vsock_device.proofs.connections.Connections.free_port.Goals as goal

pub loop-preserved : goal.loop-preserved
loop-preserved c =
    let cs = c.args.self.now in
    let less : c.loop.counter < length cs = omega (arith, c.loop-test.true, ap length c.as_slice-end.ensures.connections) in
    c.loop.invariant
    ∙ past_port (length cs) c.loop.counter cs c.loop.port c.port_after-port.result less
    (sym c.has_port.ensures ∙ c.if-has_port.true) c.port_after-port.ensures
