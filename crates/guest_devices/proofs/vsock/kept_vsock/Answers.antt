use Rattle.std.proofs.Common.{◌≡◌, subst, true}
use Rattle.queue_device.specs.declared.device.QueueRounds.{QueueRounds}
use Rattle.vsock_device.specs.declared.kind.VsockKind.{VsockKind}
use Rattle.guest_devices.specs.declared.device.Device.TheVariants as device
use Rattle.guest_devices.specs.Kept.{is_sized, kept_of}
use Rattle.guest_devices.proofs.OfKind.{kept_is}
use Rattle.guest_devices.proofs.Placed.{kept_from}
use Rattle.guest_devices.proofs.vsock.kept_vsock.Goals as goal

pub returns-clause-kept : goal.returns-clause-kept
returns-clause-kept c =
    kept_is (device.Vsock c.args.vsock.now)
    (kept_from (device.Vsock c.args.vsock.now) c.state-kept.ensures.is
    (subst (λ (b : QueueRounds VsockKind). is_sized (kept_of (device.Vsock b)) ≡ true) c.state-kept.ensures.state c.has_sizes.ensures))
