use Rattle.std.proofs.Common.{subst, sym, refl}
use Rattle.boot_loader.specs.Loading.{loads_of}
use Rattle.flat_guest.specs.Start.{started}
use Rattle.vm_world.specs.Worlds.{IsWorld, WorldValue}
use Rattle.vm_world.proofs.Listed.{started_is}
use Rattle.vm_world.proofs.world.World.start.Goals as goal

pub returns-clause-world : goal.returns-clause-world
returns-clause-world c =
    let loads = loads_of c.args.loads.now in
    let booted = c.in_ok-pages.ensures in
    subst (λ (w : WorldValue). IsWorld w (started c.args.harts c.args.mem_size_mib loads c.args.devices.now))
    (sym c.from_parts.ensures)
    (started_is c.args.mem_size_mib c.args.harts loads c.args.devices.now _ c.len.result _ _ booted.memory booted.marks
    c.in-Ok.ensures c.in-Ok-ports_at_start.ensures.ports refl booted.start c.in-Ok-start_harts.ensures c.len.ensures.bytes
    c.in-Ok-devices_at_start.ensures c.in-Ok-ports_at_start.ensures.fit)
