-- The calls of a create in their order, and what they leave.
use Rattle.std.specs.Prelude.{◌≡◌, ◌≢◌, ℕ, ◌+◌, List, [], ◌∷◌, ◌++◌, length}
use Rattle.std.specs.FinMap.{get, insert}
use Rattle.vm_outside.specs.Calls.{FileCall, MakesFront}
use Rattle.vm_outside.specs.Known.{FilesKnown}
use Rattle.gate_file.specs.Gate.{fill_calls, open_calls}
use Rattle.snap_writer.specs.Blocks.{writes_at}

-- a header behind the gate, and all of a memory's bytes behind the header
abbrev pub memory_writes : List ℕ → List ℕ → List (ℕ × List ℕ)
memory_writes head bytes = (1, head) ∷ writes_at (1 + length head) bytes

-- each file closed, filled and synced
abbrev pub memory_calls : List ℕ → List ℕ → List ℕ → List FileCall
memory_calls name head bytes = fill_calls name (memory_writes head bytes) (head ++ bytes)

abbrev pub state_calls : List ℕ → List ℕ → List FileCall
state_calls name body = fill_calls name ((1, body) ∷ []) body

-- The memory file and then the state file are closed, filled and synced; then the memory file is opened, and then the
-- state file.
unfoldable pub create_calls : List ℕ → List ℕ → List ℕ → List ℕ → List ℕ → List FileCall
create_calls memory head bytes state body =
    memory_calls memory head bytes
    ++ (state_calls state body ++ (open_calls memory (head ++ bytes) ++ open_calls state body))

-- all of these calls were done: both files hold an open gate and what belongs behind it, and nothing else changed
pub record Creates (memory head bytes state body : List ℕ) (old new : FilesKnown) : Type 0 where
  pub saved : new.saved ≡ insert (insert old.saved memory (1 ∷ head ++ bytes)) state (1 ∷ body)
  pub calls : new.calls ≡ old.calls ++ create_calls memory head bytes state body

-- the first of them were done, and every name but these two holds what it held
pub record CreatesPart (memory head bytes state body : List ℕ) (old new : FilesKnown) : Type 0 where
  pub others : (name : List ℕ) → name ≢ memory → name ≢ state → get new.saved name ≡ get old.saved name
  pub calls : MakesFront (create_calls memory head bytes state body) old.calls new.calls
