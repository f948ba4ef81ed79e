use Rattle.std.proofs.Common.{◌∙◌, ap, sym}
use Rattle.device_trace.specs.Script.{Ends}
use Rattle.rate_gate.specs.Gate.{Buckets}
use Rattle.entropy_device.specs.Entropy as entropies
use Rattle.guest_devices.specs.Devices.{left_of, new_left}
use Rattle.guest_devices.specs.Kinds.{Entropy}
use Rattle.guest_devices.proofs.entropy.new_entropy.Goals as goal

pub returns : goal.returns
returns c = λ new same.
    ap (left_of Entropy) c.new_entropy_device.ensures
    ∙ ap (λ (limits : Buckets). left_of Entropy (Ends (entropies.new_entropy c.args.port c.args.pages limits))) c.again.ensures
    ∙ ap (new_left c.args.port c.args.pages) (sym same)
