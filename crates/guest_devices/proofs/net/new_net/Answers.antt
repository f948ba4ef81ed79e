use Rattle.std.proofs.Common.{◌∙◌, ap, sym}
use Rattle.device_trace.specs.Script.{Ends}
use Rattle.rate_gate.specs.Gate.{Buckets}
use Rattle.net_device.specs.Net as nets
use Rattle.guest_devices.specs.Devices.{left_of, new_left}
use Rattle.guest_devices.specs.Kinds.{Net}
use Rattle.guest_devices.proofs.net.new_net.Goals as goal

pub returns : goal.returns
returns c = λ new same.
    let what = c.args.what.now in
    ap (left_of Net) c.new_net_device.ensures
    ∙ ap (λ (rx : Buckets). left_of Net (Ends (nets.new_net c.args.port c.args.pages rx c.again-2.result))) c.again.ensures
    ∙ ap (λ (tx : Buckets). left_of Net (Ends (nets.new_net c.args.port c.args.pages what.rx tx))) c.again-2.ensures
    ∙ ap (new_left c.args.port c.args.pages) (sym same)
