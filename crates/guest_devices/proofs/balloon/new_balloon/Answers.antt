use Rattle.std.proofs.Common.{◌∙◌, ap, sym}
use Rattle.guest_devices.specs.Devices.{left_of, new_left}
use Rattle.guest_devices.specs.Kinds.{Balloon}
use Rattle.guest_devices.proofs.balloon.new_balloon.Goals as goal

pub returns : goal.returns
returns c = λ what same. ap (left_of Balloon) c.new_balloon_device.ensures ∙ ap (new_left c.args.port c.args.pages) (sym same)
