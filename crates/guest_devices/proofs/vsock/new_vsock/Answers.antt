use Rattle.std.proofs.Common.{◌∙◌, ap, sym}
use Rattle.guest_devices.specs.Devices.{left_of, new_left}
use Rattle.guest_devices.specs.Kinds.{Vsock}
use Rattle.guest_devices.proofs.vsock.new_vsock.Goals as goal

pub returns : goal.returns
returns c = λ what same. ap (left_of Vsock) c.new_vsock_device.ensures ∙ ap (new_left c.args.port c.args.pages) (sym same)
