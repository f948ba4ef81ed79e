-- Calls on one file, one after another: how far they came, and what they left.
use Rattle.std.specs.Prelude.{◌≡◌, ℕ, List, [], ◌∷◌, ◌++◌, Some}
use Rattle.std.specs.FinMap.{insert}
use Rattle.vm_types.specs.Saved.{SameOthers}
use Rattle.vm_outside.specs.Calls.{FileCall, MakesFront}
use Rattle.vm_outside.specs.Calls.FileCall.{Making, Made, Writing, Synced}
use Rattle.vm_outside.specs.Known.{FilesKnown}

-- all of these calls were done: the file of this name holds this text, and nothing else changed
pub record RunsAll (name : List ℕ) (script : List FileCall) (text : List ℕ) (old new : FilesKnown) : Type 0 where
  pub saved : new.saved ≡ insert old.saved name text
  pub calls : new.calls ≡ old.calls ++ script

-- one of them failed: the first were done, and every other name holds what it held
pub record RunsPart (name : List ℕ) (script : List FileCall) (old new : FilesKnown) : Type 0 where
  pub others : SameOthers old.saved name new.saved
  pub calls : MakesFront script old.calls new.calls

-- a file is made, written whole and synced
abbrev pub save_calls : List ℕ → List ℕ → List FileCall
save_calls name text = Making name ∷ Made name ∷ Writing name 0 text ∷ Synced name (Some text) ∷ []
