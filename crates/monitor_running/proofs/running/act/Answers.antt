use Rattle.monitor_running.proofs.Lent.{devices_unasked}
use Rattle.monitor_running.proofs.Told.{devices_gone, devices_happened}
use Rattle.monitor_running.proofs.Turns.{wanting_part}
use Rattle.monitor_running.proofs.Paces.{timed_same, timed_so}
use Rattle.monitor_running.proofs.running.act.Goals as goal

pub returns-in_default-clause-part : goal.returns-in_default-clause-part
returns-in_default-clause-part g c =
    let all = g.W.TurnObjects.known in
    wanting_part (all c.args.with.now) (all c.devices_by.new.with) _ _ _
    (devices_unasked _ _ c.devices_by.ensures.beside c.in_default.ensures.unasked) c.in_default.ensures.world

pub returns-clause-part : goal.returns-clause-part
returns-clause-part g c =
    let was = g.W.TurnObjects.known c.args.with.now in
    let now = g.W.TurnObjects.known c.devices_by.new.with in
    let es = c.in-Ok.events.items in
    c.tell_slice.ensures.part was c.args.world.now
    (devices_happened es _ was now c.args.world.now c.devices_by.new.world c.as_slice.ensures.value c.devices_by.ensures.beside
    (devices_gone es c.args.world.now c.devices_by.new.world was.host.clock was.host.devices now.host.devices c.in-Ok.ensures.gone
    c.in-Ok.ensures.made c.in-Ok.ensures.asked))

pub returns-in_default-clause-acted : goal.returns-in_default-clause-acted
returns-in_default-clause-acted g c = λ none. absurd cc

pub returns-clause-acted : goal.returns-clause-acted
returns-clause-acted g c = λ none. record {
  events = c.in-Ok.events.items;
  mid = c.devices_by.new.world;
  serial = c.in-Ok.ensures.gone;
  made = c.in-Ok.ensures.made;
  drained = c.tell_slice.ensures.world;
}

pub returns-in_default-clause-timed : goal.returns-in_default-clause-timed
returns-in_default-clause-timed g c = timed_same c.args.pace.now c.devices_by.new.pace c.in_default.ensures.untold

pub returns-clause-timed : goal.returns-clause-timed
returns-clause-timed g c = timed_so c.args.pace.now c.devices_by.new.pace _ c.in-Ok.ensures.told
