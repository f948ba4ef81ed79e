-- What passes on from call to call: that an object lasts, that files are the same, and that a count rose.
use Rattle.std.proofs.Common.{◌≤◌, ℕ, arith, ◌∙◌}
use Rattle.vm_types.specs.Causes.{Rose}
use Rattle.vm_outside.specs.Filing.{SameFiles}
use Rattle.vm_outside.specs.Known.{FilesKnown, Health, Lasts}

pub lasts_same : (h : Health) → Lasts h h
lasts_same h = record { still = λ tells. tells; later = omega arith }

pub lasts_more : (a b c : Health) → Lasts a b → Lasts b c → Lasts a c
lasts_more a b c first second = record { still = λ tells. second.still (first.still tells); later = omega (arith, first.later, second.later) }

pub same_more : (a b c : FilesKnown) → SameFiles a b → SameFiles b c → SameFiles a c
same_more a b c first second = record { saved = second.saved ∙ first.saved; calls = second.calls ∙ first.calls }

pub later_rose : (i mid j : ℕ) → i ≤ mid → Rose mid j → Rose i j
later_rose i mid j later rose = omega (arith, later, rose)

pub rose_later : (i mid j : ℕ) → Rose i mid → mid ≤ j → Rose i j
rose_later i mid j rose later = omega (arith, later, rose)
