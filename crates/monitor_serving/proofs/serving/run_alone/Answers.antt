use Rattle.std.proofs.Common.{sym, subst, refl, Option}
use Rattle.monitor_machine.specs.declared.machine.LiveMachine.{LiveMachine}
use Rattle.monitor_machine.specs.State.{IsLive}
use Rattle.monitor_running.specs.Ran.{RanOn}
use Rattle.monitor_running.specs.Objects.{known_with}
use Rattle.monitor_running.specs.Reached.{seen}
use Rattle.monitor_serving.specs.declared.served.Served.{Served}
use Rattle.monitor_serving.specs.Connections.{Goes, place}
use Rattle.monitor_serving.specs.Views.{hosts}
use Rattle.monitor_serving.proofs.Alone.{ran_alone}
use Rattle.monitor_serving.proofs.serving.run_alone.Goals as goal

pub returns-clause-goes : goal.returns-clause-goes
returns-clause-goes g c =
    let ran = c.run_once in
    let before = known_with (g.W.TurnObjects.known c.args.with.now) (g.K.Sink.known c.args.sink.now) in
    let after = known_with (g.W.TurnObjects.known ran.new.with) (g.K.Sink.known ran.new.sink) in
    let monitor = record c.args.monitor.now { machine = ran.new.machine } in
    λ files listener tell.
    subst (λ (end : Option Served). Goes end (place c.args.monitor.now (hosts before files) listener) (place monitor (hosts after files) listener))
    (sym c.alone_end.ensures)
    (ran_alone c.args.monitor.now monitor ran.new.machine before after files listener refl ran.result
    (subst (λ (m : LiveMachine). RanOn IsLive ran.result (seen before) m (seen after) ran.new.machine) c.machine.ensures.value
    (ran.ensures.went.ran tell.trace tell.sink))
    ran.ensures.unclosed)
