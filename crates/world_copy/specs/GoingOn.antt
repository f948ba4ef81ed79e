-- Harts that go on from their copies.
use Rattle.std.specs.Prelude.{List, [], ◌∷◌}
use Rattle.hart_trace.specs.States.{Hart, LeadsTo}
use Rattle.snap_harts.specs.declared.hart.SavedHart.{SavedHart}
use Rattle.snap_harts.specs.Copy.{regs_of}
use Rattle.flat_snapshot.specs.Carried.{steps_at}

-- each is where the steps of its copy lead
abbrev pub GoOn : List SavedHart → List Hart → Type 0
GoOn [] [] = Unit {0}
GoOn (s ∷ saved) (h ∷ harts) = LeadsTo (regs_of s) (steps_at s.place s.pc) h × GoOn saved harts
GoOn saved harts = ⊥
