-- Acts on pages that touch no byte outside RAM.
use Rattle.std.specs.Prelude.{◌≡◌, ℕ, ◌<◌, true, List, [], ◌∷◌, length}
use Rattle.vm_types.specs.declared.op.Op.{Op}
use Rattle.vq_split.specs.declared.queue.Part.{Part}
use Rattle.vq_split.specs.declared.walk.Walk.{Walk}
use Rattle.vq_split.specs.declared.walk.Walk.TheVariants as walk
use Rattle.vq_split.specs.Chain.{is_inside}

-- a read or write of RAM alone, or an act on no page; the atomic acts of harts are none of a device's
abbrev pub IsInside : ℕ → Op → Type 0
IsInside pages (Op.Read at len) = is_inside pages at len ≡ true
IsInside pages (Op.Write at piece) = is_inside pages at (length piece) ≡ true
IsInside pages (Op.Amo at value kind wide) = ⊥
IsInside pages (Op.Lr at wide) = ⊥
IsInside pages (Op.Sc at value wide) = ⊥
IsInside pages (Op.Port port act) = Unit {0}
IsInside pages (Op.Board act) = Unit {0}
IsInside pages (Op.Out act) = Unit {0}
IsInside pages Op.Idle = Unit {0}

-- parts of at least one byte, inside RAM
abbrev pub AreInside : ℕ → List Part → Type 0
AreInside pages [] = Unit {0}
AreInside pages (part ∷ parts) = (0 < part.len) × (is_inside pages part.at part.len ≡ true) × AreInside pages parts

-- what a walk comes to has such parts
abbrev pub WalkInside : ℕ → Walk → Type 0
WalkInside pages (walk.Chain head parts) = AreInside pages parts
WalkInside pages walk = Unit {0}
