-- Two files behind gates, written in one order of calls, at every moment.
use Rattle.std.specs.Prelude.{◌≡◌, ◌⊎◌, ℕ, List, ◌∷◌, ◌++◌, Some}
use Rattle.vm_outside.specs.Calls.{FileCall}
use Rattle.vm_outside.specs.Crashes.{Disk}
use Rattle.gate_file.specs.Moments.{IsShut, AsBefore}
use Rattle.gate_file.specs.Gate.{fill_calls, open_calls}

-- a file that a create makes: its name, the writes behind the gate, and what they make of it there
pub record Target : Type 0 where
  pub name : List ℕ
  pub writes : List (ℕ × List ℕ)
  pub rest : List ℕ

abbrev pub text_of : Target → List ℕ
text_of t = 1 ∷ t.rest

-- the memory file and then the state file are closed, filled and synced
abbrev pub both_filled : Target → Target → List FileCall
both_filled memory state = fill_calls memory.name memory.writes memory.rest ++ fill_calls state.name state.writes state.rest

-- then the memory file is opened, and then the state file
abbrev pub pair_calls : Target → Target → List FileCall
pair_calls memory state = both_filled memory state ++ (open_calls memory.name memory.rest ++ open_calls state.name state.rest)

-- A create is completed once both of its files have had their second sync, whether it is answered or not.
abbrev pub IsCompleted : Target → Target → List FileCall → Type 0
IsCompleted memory state done = (more : List FileCall) × (done ≡ both_filled memory state ++ more)

-- Behind these of its calls. Each file is as it might have been before, or absent or refused for its gate, or whole, which
-- is only where the create is completed. A state file that is neither as before nor shut is whole only where the memory file
-- is.
pub record PairLeaves (before : List FileCall) (memory state : Target) (done : List FileCall) (disk : Disk) : Type 0 where
  pub memory_file : AsBefore before memory.name disk ⊎ IsShut 2 (disk memory.name)
      ⊎ (disk memory.name ≡ Some (text_of memory)) × IsCompleted memory state done
  pub state_file : AsBefore before state.name disk ⊎ IsShut 2 (disk state.name)
      ⊎ (disk state.name ≡ Some (text_of state)) × (disk memory.name ≡ Some (text_of memory)) × IsCompleted memory state done
  pub others : (name : List ℕ) → (name ≡ memory.name → ⊥) → (name ≡ state.name → ⊥) → AsBefore before name disk
