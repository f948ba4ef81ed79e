use Rattle.std.proofs.Common.{arith, subst}
use Rattle.vm_config.specs.declared.config.Config.{Config}
use Rattle.monitor_machine.specs.Kinds.{disks}
use Rattle.monitor_machine.specs.Objects.{Named}
use Rattle.monitor_machine.proofs.Attaching.{disks_beside, named_more, uncalled_more, uncalled_none}
use Rattle.monitor_machine.proofs.machine.LiveMachine.attach_disks.Goals as goal

pub loop-device-init : goal.loop-device-init
loop-device-init g c = record {
  attached = λ k less. absurd (omega (arith, less));
  uncalled = uncalled_none disks disks_beside (g.D.Disk.known c.args.disk.now);
}

pub loop-device-preserved : goal.loop-device-preserved
loop-device-preserved g c =
    let D = g.D.Disk in
    let before = c.loop-device.invariant in
    let after = c.attach_disk.ensures in record {
      attached =
          named_more disks c.self.inside.config c.loop-device.device (D.known c.args.disk.now) (D.known c.loop-device.disk)
          (D.known c.attach_disk.new.disk) before.uncalled before.attached
          (subst (λ (config : Config). Named disks (D.known c.loop-device.disk).health config c.loop-device.device (D.known c.attach_disk.new.disk))
          c.get.ensures.same after.attached)
          after.others;
      uncalled = uncalled_more disks disks_beside _ _ _ before.uncalled after.uncalled;
    }
