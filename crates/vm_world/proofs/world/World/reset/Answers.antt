use Rattle.std.proofs.Common.{ap, arith, length}
use Rattle.std.proofs.lemmas.List.{with_items_is}
use Rattle.vm_world.specs.Worlds.{world_with}
use Rattle.vm_world.proofs.Events.{reset_is}
use Rattle.vm_world.proofs.Resets.{world_is}
use Rattle.vm_world.proofs.world.World.reset.Goals as goal

pub returns-clause-reset : goal.returns-clause-reset
returns-clause-reset c =
    let w = c.self.inside in
    let same = c.deref_mut.ensures.value in
    let long = c.reset_all.auto.devices in
    let items = with_items_is w.devices c.reset_all.new.devices (omega (arith, long, ap length same, w.devices.ok)) in
    world_is c.args.self.now
    (record (world_with w.pages.pages w.board w.ports.items w.timer w.harts.items w.devices.items) { spare = w.pages.spare })
    _ c.reset_all.new.devices _ c.self.view_is same items c.reset_all.ensures

pub returns-clause-guest : goal.returns-clause-guest
returns-clause-guest c = λ g is.
    let w = c.self.inside in
    let same = c.deref_mut.ensures.value in
    let long = c.reset_all.auto.devices in
    let items = with_items_is w.devices c.reset_all.new.devices (omega (arith, long, ap length same, w.devices.ok)) in
    reset_is c.args.self.now _ g
    (world_is c.args.self.now
    (record (world_with w.pages.pages w.board w.ports.items w.timer w.harts.items w.devices.items) { spare = w.pages.spare })
    _ c.reset_all.new.devices _ c.self.view_is same items c.reset_all.ensures) is
