-- A write to a file that is there.
use Rattle.std.specs.Prelude.{◌≡◌, ℕ, List, Some}
use Rattle.std.specs.FinMap.{get, insert}
use Rattle.vm_types.specs.Saved.{Saved, written}

abbrev pub PutsAt : Saved → List ℕ → ℕ → List ℕ → Saved → Type 0
PutsAt old name at bytes new =
    (content : List ℕ) × (get old name ≡ Some content) × (new ≡ insert old name (written content at bytes))
