use Rattle.std.proofs.Common.{ap}
use Rattle.monitor_machine.specs.Kinds.{links}
use Rattle.monitor_running.specs.Objects.{TurnKnown}
use Rattle.monitor_serving.proofs.AllNamed.{lent_attached}
use Rattle.monitor_serving.proofs.attaching.attach_links.Goals as goal

pub returns-clause-attached : goal.returns-clause-attached
returns-clause-attached g c = λ files m is.
    lent_attached links m _ _ _ _ c.link.ensures.value
    (ap (λ (k : TurnKnown). k.host.devices.link) (g.met.W.TurnObjects.link_set c.args.with.now c.attach_links.new.link))
    (c.attach_links.ensures.attached files m is)
