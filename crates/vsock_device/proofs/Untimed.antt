-- A vsock device never asks for guest time.
use Rattle.std.proofs.Common.{◌≡◌, refl, Bool, true, false}
use Rattle.device_trace.specs.Script.{Script}
use Rattle.queue_device.specs.Service.{Queued}
use Rattle.queue_device.specs.Timing.{is_timed_left}
use Rattle.queue_device.proofs.Timed.{timed_left}
use Rattle.vsock_device.specs.declared.data.Vsock.{Vsock}
use Rattle.vsock_device.specs.Vsock.{vsock}

untimed_by : (t : Script (Queued Vsock)) (timed : Bool) → is_timed_left vsock t ≡ timed → timed ≡ false
untimed_by t true is = let wrong : false ≡ true = (timed_left vsock t is).1.1 in absurd (cc)
untimed_by t false is = refl

pub untimed : (t : Script (Queued Vsock)) → is_timed_left vsock t ≡ false
untimed t = untimed_by t (is_timed_left vsock t) refl
