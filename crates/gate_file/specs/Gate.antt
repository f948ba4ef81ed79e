-- A file behind a gate, which is its byte 0: closed at 0, open at 1. The order of its calls.
use Rattle.std.specs.Prelude.{ℕ, List, [], ◌∷◌, ◌++◌, Some}
use Rattle.vm_outside.specs.Calls.{FileCall}
use Rattle.vm_outside.specs.Calls.FileCall.{Writing, Synced}
use Rattle.gate_file.specs.Runs.{save_calls}

-- it is made with its gate closed, and synced
abbrev pub close_calls : List ℕ → List FileCall
close_calls name = save_calls name (0 ∷ [])

-- each of these writes, an offset and bytes, in turn
abbrev pub write_calls : List ℕ → List (ℕ × List ℕ) → List FileCall
write_calls name [] = []
write_calls name (w ∷ writes) = Writing name w.0 w.1 ∷ write_calls name writes

-- everything else is written, and synced with these bytes behind the gate
abbrev pub behind_calls : List ℕ → List (ℕ × List ℕ) → List ℕ → List FileCall
behind_calls name writes rest = write_calls name writes ++ Synced name (Some (0 ∷ rest)) ∷ []

-- closed, and then filled behind the gate
abbrev pub fill_calls : List ℕ → List (ℕ × List ℕ) → List ℕ → List FileCall
fill_calls name writes rest = close_calls name ++ behind_calls name writes rest

-- the gate of a file that holds a closed one and these bytes is opened, and synced
abbrev pub open_calls : List ℕ → List ℕ → List FileCall
open_calls name rest = Writing name 0 (1 ∷ []) ∷ Synced name (Some (1 ∷ rest)) ∷ []
