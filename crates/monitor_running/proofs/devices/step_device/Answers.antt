use Rattle.std.proofs.Common.{sym, subst, List}
use Rattle.vm_types.specs.declared.entry.Entry.{Entry}
use Rattle.monitor_running.specs.Devices.{HaveActed}
use Rattle.monitor_running.proofs.Acting.{acted_more, acted_still}
use Rattle.monitor_running.proofs.devices.step_device.Goals as goal

pub returns-in-Ok-clause-acted : goal.returns-in-Ok-clause-acted
returns-in-Ok-clause-acted g c = λ first asked less acted.
    subst (λ (es : List Entry). HaveActed es first c.step_with.new.self asked (g.W.TurnObjects.known c.ask_host-given.new.with).host.devices)
    (sym c.push_reserved.ensures.items)
    (acted_more first c.args.world.now asked (g.W.TurnObjects.known c.args.with.now).host.devices (g.W.TurnObjects.known c.ask_host-given.new.with).host.devices
    c.args.events.now.items c.args.device c.in-Some.op c.ask_host-given.result less c.in-Some.ensures.wants c.ask_host-given.ensures.given
    acted c.step_with.new.self c.in-Ok.entry c.in-Ok.ensures.made)

pub returns-in-Err-clause-acted : goal.returns-in-Err-clause-acted
returns-in-Err-clause-acted g c = λ first asked less acted.
    acted_still first c.args.world.now asked (g.W.TurnObjects.known c.args.with.now).host.devices (g.W.TurnObjects.known c.ask_host-given.new.with).host.devices
    c.args.events.now.items c.args.device c.in-Some.op c.ask_host-given.result less c.in-Some.ensures.wants c.ask_host-given.ensures.given
    acted c.step_with.new.self c.in-Err.ensures.err
    (λ h is none ready. let no = c.in-Err.ensures.promised h c.in-Some.op is (c.in-Some.ensures.wants h is) none ready in cc)

pub step_with-requires : goal.step_with-requires
step_with-requires g c = sym c.in-Some.ensures.state
