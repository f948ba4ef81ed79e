-- How a replay tells that a call on the files failed, or that there was no memory.
use Rattle.std.specs.Prelude.{ℕ, ◌||◌, Bool, false, List, [], ◌∷◌, take, codes}
use Rattle.std.specs.Str.{bytes_eq}
use Rattle.vm_types.specs.declared.exit.Exit.{Exit}
use Rattle.vm_types.specs.declared.exit.Object.TheVariants as object

-- `< 500 ` or `< 503 ` stands at the front
abbrev pub begins_failure : List ℕ → Bool
begins_failure text = bytes_eq (take 6 text) (codes "< 500 ") || bytes_eq (take 6 text) (codes "< 503 ")

-- or further on
abbrev pub tells_failure : List ℕ → Bool
tells_failure [] = false
tells_failure (c ∷ text) = begins_failure (c ∷ text) || tells_failure text

-- how a replay ends early whose lines are all items and whose source never fails: the files or its sink failed, or there was
-- no memory
abbrev pub IsShortage : Exit → Type 0
IsShortage (Exit.Fault object.Files) = Unit {0}
IsShortage (Exit.Fault object.Sink) = Unit {0}
IsShortage Exit.OutOfMemory = Unit {0}
IsShortage exit = ⊥
