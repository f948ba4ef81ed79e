use Rattle.std.proofs.Common.{◌≡◌, subst, true}
use Rattle.queue_device.specs.declared.device.QueueRounds.{QueueRounds}
use Rattle.entropy_device.specs.Work.{Kept}
use Rattle.guest_devices.specs.declared.device.Device.TheVariants as device
use Rattle.guest_devices.specs.Kept.{is_sized, kept_of}
use Rattle.guest_devices.proofs.OfKind.{kept_is}
use Rattle.guest_devices.proofs.Placed.{kept_from}
use Rattle.guest_devices.proofs.entropy.kept_entropy.Goals as goal

pub returns-clause-kept : goal.returns-clause-kept
returns-clause-kept c =
    kept_is (device.Entropy c.args.entropy.now)
    (kept_from (device.Entropy c.args.entropy.now) c.state-kept.ensures.is
    (subst (λ (b : QueueRounds Kept). is_sized (kept_of (device.Entropy b)) ≡ true) c.state-kept.ensures.state c.has_sizes.ensures))
