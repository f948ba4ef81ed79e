use Rattle.std.proofs.Common.{ap, arith, is_some, length}
use Rattle.monitor_plans.proofs.Loads.{fits_here, start_gives}
use Rattle.monitor_plans.proofs.starting.start_by.Goals as goal

pub guest_of-requires-clause-source : goal.guest_of-requires-clause-source
guest_of-requires-clause-source g c = ap is_some c.in-Some.is

pub guest_of-requires-clause-many : goal.guest_of-requires-clause-many
guest_of-requires-clause-many g c =
    let many = c.in-Ok-device_files.ensures.many in
    let lent = ap length c.deref-in-Ok-load_disk.ensures.value in
    omega (arith, many, lent)

pub guest_of-requires-clause-kinds : goal.guest_of-requires-clause-kinds
guest_of-requires-clause-kinds g c = rw c.deref-in-Ok-load_disk.ensures.value c.in-Ok-device_files.ensures.kinds

pub guest_of-requires-clause-fit : goal.guest_of-requires-clause-fit
guest_of-requires-clause-fit g c = rw c.deref-in-Ok-load_disk.ensures.value c.in-Ok-device_files.ensures.fit

pub guest_of-requires-clause-fits : goal.guest_of-requires-clause-fits
guest_of-requires-clause-fits g c =
    fits_here c.args.config.now c.in-Some-size.len c.in-Ok-disk_file.file c.in-Ok-device_files.found.are_there
    c.in-Ok-read_front.image.items c.deref.result.now c.in-Ok-load_disk.disk c.in_default-boot_refusal.ensures
    c.in-Ok-read_front.ensures.size c.deref.ensures.value c.in-Ok-load_disk.ensures.size

pub returns-in-Ok-guest_of-clause-gives : goal.returns-in-Ok-guest_of-clause-gives
returns-in-Ok-guest_of-clause-gives g c t =
    let t1 = c.in-Ok.ensures.called.lasts.still t in
    let t2 = c.in-Ok-disk_file.ensures.called.lasts.still t1 in
    let t3 = c.in-Ok-device_files.ensures.lasts.still t2 in
    let t4 = c.in-Ok-read_front.ensures.lasts.still t3 in
    start_gives c.args.config.now c.in-Some.source _ _ _ _ _ c.as_str-path.result.now c.in-Ok.size c.in-Some-size.len c.in-Ok-disk_file.file
    c.in-Ok-read_front.image.items c.deref.result.now c.in-Ok-load_disk.disk c.in-Ok-device_files.found.drives.items c.deref-in-Ok-load_disk.result.now
    c.in-Ok-device_files.found.are_there c.in-Ok-guest_of.guest
    c.in-Some.is c.as_str-path.ensures (c.in-Ok.ensures.size t) c.in-Some-size.is
    (c.in-Ok.ensures.same t).saved (c.in-Ok-disk_file.ensures.same t1).saved (c.in-Ok-device_files.ensures.same t2).saved
    (c.in-Ok-read_front.ensures.same t3).saved (c.in-Ok-disk_file.ensures.file t1) (c.in-Ok-device_files.ensures.devices t2)
    (c.in-Ok-device_files.ensures.there t2) c.in_default-boot_refusal.ensures c.in-Ok-read_front.ensures.size (c.in-Ok-read_front.ensures.bytes t3)
    (c.in-Ok-load_disk.ensures.disk t4) c.deref.ensures.value c.deref-in-Ok-load_disk.ensures.value c.in-Ok-guest_of.ensures.world

pub returns-in-Ok-guest_of-clause-keeps : goal.returns-in-Ok-guest_of-clause-keeps
returns-in-Ok-guest_of-clause-keeps g c = λ world. (tt, tt, c.in-Ok-guest_of.ensures.ready)
