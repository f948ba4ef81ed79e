-- The world is reset, and then no page of it is marked.
use Rattle.std.proofs.Common.{Option, Some, ap, refl, subst, sym}
use Rattle.vm_world.specs.Worlds.{WorldValue}
use Rattle.create_end.specs.Saved.{IsSavedWorld}
use Rattle.create_end.proofs.ending.go_on_saved.Goals as goal

pub returns-in-Some : goal.returns-in-Some
returns-in-Some c =
    subst (λ (o : Option WorldValue). IsSavedWorld o (Some c.clear_marks.new.self)) (sym c.in-Some.is)
    (c.reset.new.self, c.reset.ensures.reset, ap (λ (v : WorldValue). Some v) c.clear_marks.ensures.pages)

pub returns-in-None : goal.returns-in-None
returns-in-None c = subst (λ (o : Option WorldValue). IsSavedWorld o o) (sym c.in-None.is) refl
