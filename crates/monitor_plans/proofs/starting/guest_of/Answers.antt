use Rattle.std.proofs.Common.{arith, refl, ◌∙◌}
use Rattle.flat_machine.proofs.Taken.{bounded}
use Rattle.monitor_plans.proofs.Loads.{has_room, loads_are}
use Rattle.monitor_plans.proofs.Standing.{start_ready}
use Rattle.monitor_plans.proofs.starting.guest_of.Goals as goal

pub initrd_place-requires : goal.initrd_place-requires
initrd_place-requires c = let mib = (bounded c.args.config.now c.requires.taken).mib in omega (arith, mib)

pub world_of-requires-clause-few : goal.world_of-requires-clause-few
world_of-requires-clause-few c = (bounded c.args.config.now c.requires.taken).harts

pub world_of-requires-clause-small : goal.world_of-requires-clause-small
world_of-requires-clause-small c = let mib = (bounded c.args.config.now c.requires.taken).mib in omega (arith, mib)

pub world_of-requires-clause-few_devices : goal.world_of-requires-clause-few_devices
world_of-requires-clause-few_devices c =
    let most = (bounded c.args.config.now c.requires.taken).drives in
    omega (arith, c.requires.many, most)

pub world_of-requires-clause-room : goal.world_of-requires-clause-room
world_of-requires-clause-room c =
    has_room c.args.config.now (record { image = c.args.image.now; initrd = _; tree = _ }) c.args.image.now c.args.disk.now _ c.requires.taken
    refl c.initrd_of.ensures (c.as_slice.ensures.value ∙ c.in_ok-tree.ensures) c.requires.fits

pub returns-clause-world : goal.returns-clause-world
returns-clause-world c =
    loads_are c.args.config.now c.args.image.now c.args.disk.now _ _ _ _ c.args.devices.now c.in_ok-world.world
    c.initrd_of.ensures c.initrd_place.ensures c.in_ok-tree.ensures c.as_slice.ensures.value c.in_ok-world.ensures

pub returns-clause-ready : goal.returns-clause-ready
returns-clause-ready c =
    start_ready c.args.config.now c.args.image.now c.args.disk.now c.args.devices.now c.in_ok-world.world c.requires.taken c.requires.source
    c.requires.many c.requires.kinds c.requires.fit c.requires.fits
    (loads_are c.args.config.now c.args.image.now c.args.disk.now _ _ _ _ c.args.devices.now c.in_ok-world.world
    c.initrd_of.ensures c.initrd_place.ensures c.in_ok-tree.ensures c.as_slice.ensures.value c.in_ok-world.ensures)
