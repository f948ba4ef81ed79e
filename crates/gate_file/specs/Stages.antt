-- A file that is written in stages, each of which ends with a sync, and what a crash may leave of it.
use Rattle.std.specs.Prelude.{◌≡◌, ◌≤◌, ◌⊎◌, ℕ, ◌+◌, List, [], ◌∷◌, ◌++◌, length, Some}
use Rattle.vm_types.specs.Saved.{written}
use Rattle.vm_outside.specs.Calls.{FileCall}
use Rattle.vm_outside.specs.Calls.FileCall.{Synced}
use Rattle.vm_outside.specs.Crashes.{Disk, Images, IsBytes}
use Rattle.gate_file.specs.Gate.{write_calls}

abbrev pub written_all : List (ℕ × List ℕ) → List ℕ → List ℕ
written_all [] text = text
written_all (w ∷ writes) text = written_all writes (written text w.0 w.1)

abbrev pub stage_calls : List ℕ → List (ℕ × List ℕ) → List ℕ → List FileCall
stage_calls name writes text = write_calls name writes ++ Synced name (Some (written_all writes text)) ∷ []

abbrev pub calls_of : List ℕ → List (List (ℕ × List ℕ)) → List ℕ → List FileCall
calls_of name [] text = []
calls_of name (writes ∷ stages) text =
    stage_calls name writes text ++ calls_of name stages (written_all writes text)

abbrev pub text_after : List (List (ℕ × List ℕ)) → List ℕ → List ℕ
text_after [] text = text
text_after (writes ∷ stages) text = text_after stages (written_all writes text)

-- A moment of these calls: behind a front of them, which may be none or all. As a write and a make stand in the list from
-- when they begin, this is any moment inside a call too.
pub record Moment (before script : List FileCall) (disk : Disk) : Type 0 where
  pub done : List FileCall
  pub rest : List FileCall
  pub parts : done ++ rest ≡ script
  pub left : Images (before ++ done) disk

-- in every image as these calls begin, the file holds this text
abbrev pub IsSettled : List FileCall → List ℕ → List ℕ → Type 0
IsSettled before name text = (disk : Disk) → Images before disk → disk name ≡ Some text

-- each of these writes is inside a file of so many bytes
abbrev pub AreInside : ℕ → List (ℕ × List ℕ) → Type 0
AreInside size [] = Unit {0}
AreInside size (w ∷ writes) = (w.0 + length w.1 ≤ size) × AreInside size writes

abbrev pub AllInside : ℕ → List (List (ℕ × List ℕ)) → Type 0
AllInside size [] = Unit {0}
AllInside size (writes ∷ stages) = AreInside size writes × AllInside size stages

-- the same places and sizes, and any bytes
abbrev pub AreLike : List (ℕ × List ℕ) → List (ℕ × List ℕ) → Type 0
AreLike [] [] = Unit {0}
AreLike (w ∷ writes) (v ∷ others) = (v.0 ≡ w.0) × (length v.1 ≡ length w.1) × AreLike writes others
AreLike writes others = ⊥

-- each of these writes is of bytes
abbrev pub AreOfBytes : List (ℕ × List ℕ) → Type 0
AreOfBytes [] = Unit {0}
AreOfBytes (w ∷ writes) = IsBytes w.1 × AreOfBytes writes

-- What may be left of a text inside a stage: what writes of the same places and sizes make of it; and bytes, where the text
-- and the stage's writes are.
pub record IsTorn (writes : List (ℕ × List ℕ)) (text left : List ℕ) : Type 0 where
  pub others : List (ℕ × List ℕ)
  pub like : AreLike writes others
  pub made : left ≡ written_all others text
  pub are_bytes : AreOfBytes writes → IsBytes text → IsBytes left

-- inside one of the stages, each begun on the text that the ones before it made; or behind them all
abbrev pub IsLeft : List (List (ℕ × List ℕ)) → List ℕ → List ℕ → Type 0
IsLeft [] text left = left ≡ text
IsLeft (writes ∷ stages) text left = IsTorn writes text left ⊎ IsLeft stages (written_all writes text) left

-- a crash at some moment between these two left this disk: inside any of the calls that were made
pub record LeftMeanwhile (before now : List FileCall) (disk : Disk) : Type 0 where
  pub done : List FileCall
  pub calls : now ≡ before ++ done
  pub moment : Moment before done disk
