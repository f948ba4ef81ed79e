use Rattle.std.proofs.Common.{refl}
use Rattle.vm_types.specs.declared.op.Op.{Op}
use Rattle.monitor_running.proofs.Answered.{host_beside, host_given}
use Rattle.monitor_running.proofs.asking.ask_host.Goals as goal

pub returns-clause-given : goal.returns-clause-given
returns-clause-given g c = rw c.in-Out.is
    (host_given c.args.device (Op.Out c.in-Out.act) c.ask.result (g.W.TurnObjects.known c.args.with.now) _ _ _ c.host-host.ensures.value
    (g.met.W.TurnObjects.host_set c.args.with.now (record { devices = c.ask.new.self; clock = c.host-host.result.now.clock }))
    c.ask.ensures.given)

pub returns-clause-beside : goal.returns-clause-beside
returns-clause-beside g c =
    host_beside (g.W.TurnObjects.known c.args.with.now) _ _ _ c.host-host.ensures.value (g.met.W.TurnObjects.host_set c.args.with.now _) refl
