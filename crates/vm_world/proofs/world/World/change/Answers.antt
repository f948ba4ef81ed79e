use Rattle.std.proofs.Common.{sym, subst}
use Rattle.vm_world.specs.Worlds.{IsWorld, WorldValue, world_with}
use Rattle.vm_world.proofs.Events.{told_is}
use Rattle.vm_world.proofs.world.World.change.Goals as goal

pub returns-clause-guest : goal.returns-clause-guest
returns-clause-guest c = λ g is.
    let w = c.self.inside in
    told_is (record (world_with w.pages.pages w.board w.ports.items w.timer w.harts.items w.devices.items) { spare = w.pages.spare })
    c.show.new.board c.show.new.ports.items c.tell_device.new.devices.items c.args.device c.args.change c.args.shown
    g c.requires (subst (λ (v : WorldValue). IsWorld v g) (sym c.self.view_is) is) c.show.ensures.board c.show.ensures.ports
    c.tell_device.ensures.told
