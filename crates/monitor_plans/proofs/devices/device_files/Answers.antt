use Rattle.std.proofs.Common.{◌∙◌, ap, List}
use Rattle.vm_config.specs.Drives.{in_order}
use Rattle.guest_devices.specs.declared.new_device.NewDevice.{NewDevice}
use Rattle.monitor_plans.specs.Starting.{with_others}
use Rattle.monitor_plans.proofs.DevicesMade.{fit_with, kinds_with, made_of, many_with}
use Rattle.monitor_plans.proofs.DrivesAsked.{drives_of}
use Rattle.monitor_plans.proofs.devices.device_files.Goals as goal

pub drive_files-requires : goal.drive_files-requires
drive_files-requires g c = drives_of c.args.config.now.drives c.requires.drives

pub returns-in-Ok-with_others-clause-devices : goal.returns-in-Ok-with_others-clause-devices
returns-in-Ok-with_others-clause-devices g c = λ told.
    let config = c.args.config.now in
    let saved = (g.F.Files.known c.args.files.now).saved in
    c.in-Ok-with_others.ensures.drives ∙ ap (λ (l : List NewDevice). with_others l config.interfaces config.vsock config.balloon config.entropy) (c.in-Ok.ensures.drives told)
    ∙ made_of (in_order config.drives) config.interfaces config.vsock config.balloon config.entropy saved

pub returns-in-Ok-with_others-clause-there : goal.returns-in-Ok-with_others-clause-there
returns-in-Ok-with_others-clause-there g c = λ told. c.in-Ok-with_others.ensures.there ∙ c.in-Ok.ensures.there told

pub returns-in-Ok-with_others-clause-many : goal.returns-in-Ok-with_others-clause-many
returns-in-Ok-with_others-clause-many g c =
    rw c.in-Ok-with_others.ensures.drives (many_with c.in-Ok.found.drives.items c.args.config.now.interfaces c.args.config.now.vsock c.args.config.now.balloon c.args.config.now.entropy _ c.in-Ok.ensures.many)

pub returns-in-Ok-with_others-clause-kinds : goal.returns-in-Ok-with_others-clause-kinds
returns-in-Ok-with_others-clause-kinds g c =
    let config = c.args.config.now in
    rw c.in-Ok-with_others.ensures.drives
    (kinds_with c.in-Ok.found.drives.items config.drives config.interfaces config.vsock config.balloon config.entropy c.in-Ok.ensures.many c.in-Ok.ensures.fit)

pub returns-in-Ok-with_others-clause-fit : goal.returns-in-Ok-with_others-clause-fit
returns-in-Ok-with_others-clause-fit g c =
    rw c.in-Ok-with_others.ensures.drives (fit_with c.in-Ok.found.drives.items c.args.config.now.interfaces c.args.config.now.vsock c.args.config.now.balloon c.args.config.now.entropy c.in-Ok.ensures.fit)
