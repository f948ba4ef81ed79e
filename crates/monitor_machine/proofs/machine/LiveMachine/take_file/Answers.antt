use Rattle.std.proofs.Common.{refl, sym, ap, subst}
use Rattle.vm_config.specs.declared.config.Config.{Config}
use Rattle.guest_devices.specs.Kinds.{sectors_change}
use Rattle.api_calls.specs.declared.call.ApiCall.TheVariants as call
use Rattle.flat_machine.specs.Limits.{limits_told}
use Rattle.flat_machine.specs.Ready.{IsFitting}
use Rattle.flat_machine.specs.Requests.{shows_by}
use Rattle.flat_machine.proofs.Fresh.{limits_given}
use Rattle.monitor_machine.specs.Live.{Live}
use Rattle.monitor_machine.specs.Seen.{live_of}
use Rattle.monitor_machine.proofs.Configured.{applied_is, applied_stays}
use Rattle.monitor_machine.proofs.Standing.{relimits_stay, tells_stay}
use Rattle.monitor_machine.proofs.machine.LiveMachine.take_file.Goals as goal

pub tell_limits-requires : goal.tell_limits-requires
tell_limits-requires c = c.requires.1

pub apply-applied-requires : goal.apply-applied-requires
apply-applied-requires c =
    subst (λ (k : Config). IsFitting k (call.PatchDrive c.args.resize.patch)) (sym (ap (λ (l : Live). l.config) c.self.view_is)) c.requires

pub invariant_of-self : goal.invariant_of-self
invariant_of-self c =
    let resize = c.args.resize in
    let told : Live = record (live_of c.self.inside) { guest = c.tell_sectors.new.guest } in
    applied_stays (record (live_of c.self.inside) { guest = c.tell_limits.new.guest }) (call.PatchDrive resize.patch) c.apply-applied.result
    c.apply-applied.new.self c.apply-applied.ensures.ok c.apply-applied.ensures.err
    (subst (λ (k : Config). IsFitting k (call.PatchDrive resize.patch)) (sym (ap (λ (l : Live). l.config) c.self.view_is)) c.requires) tt
    (relimits_stay told limits_told limits_given resize.patch.rate_limiter resize.device c.tell_limits.new.guest c.tell_limits.ensures
    (tells_stay (live_of c.self.inside) resize.device (sectors_change resize.sectors) (shows_by (sectors_change resize.sectors))
    c.tell_sectors.new.guest (c.tell_sectors.ensures.fits, refl) c.tell_sectors.ensures.resizes c.self.invariant))

pub returns : goal.returns
returns c =
    rw (← c.self.view_is)
    (record {
      mid = c.tell_sectors.new.guest;
      world = c.tell_sectors.ensures.resizes;
      limits = c.tell_limits.ensures;
      rest =
          ap (λ (k : Config). record (live_of c.self.inside) { config = k; guest = c.tell_limits.new.guest })
          (applied_is c.apply-applied.result _ (c.apply-applied.ensures.succeeds refl) c.apply-applied.ensures.ok);
    })
