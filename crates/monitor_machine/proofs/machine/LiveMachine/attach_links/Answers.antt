use Rattle.std.proofs.Common.{arith, subst}
use Rattle.vm_config.specs.declared.config.Config.{Config}
use Rattle.monitor_machine.specs.Kinds.{links}
use Rattle.monitor_machine.specs.Objects.{Named}
use Rattle.monitor_machine.proofs.Attaching.{links_beside, named_more, uncalled_more, uncalled_none}
use Rattle.monitor_machine.proofs.machine.LiveMachine.attach_links.Goals as goal

pub loop-device-init : goal.loop-device-init
loop-device-init g c = record {
  attached = λ k less. absurd (omega (arith, less));
  uncalled = uncalled_none links links_beside (g.L.Link.known c.args.link.now);
}

pub loop-device-preserved : goal.loop-device-preserved
loop-device-preserved g c =
    let L = g.L.Link in
    let before = c.loop-device.invariant in
    let after = c.attach_link.ensures in record {
      attached =
          named_more links c.self.inside.config c.loop-device.device (L.known c.args.link.now) (L.known c.loop-device.link)
          (L.known c.attach_link.new.link) before.uncalled before.attached
          (subst (λ (config : Config). Named links (L.known c.loop-device.link).health config c.loop-device.device (L.known c.attach_link.new.link))
          c.get.ensures.same after.attached)
          after.others;
      uncalled = uncalled_more links links_beside _ _ _ before.uncalled after.uncalled;
    }
