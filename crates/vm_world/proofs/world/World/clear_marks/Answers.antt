use Rattle.std.proofs.Common.{subst, sym}
use Rattle.vm_world.specs.Worlds.{IsWorld, WorldValue, world_with}
use Rattle.vm_world.proofs.Events.{unwritten_is}
use Rattle.vm_world.proofs.world.World.clear_marks.Goals as goal

pub returns-clause-guest : goal.returns-clause-guest
returns-clause-guest c = λ g is.
    let w = c.self.inside in
    unwritten_is (record (world_with w.pages.pages w.board w.ports.items w.timer w.harts.items w.devices.items) { spare = w.pages.spare }) c.clear_marks.new.self.pages g (subst (λ (w : WorldValue). IsWorld w g) (sym c.self.view_is) is)
    c.clear_marks.ensures.memory c.clear_marks.ensures.marks
