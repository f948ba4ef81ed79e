-- What a crash leaves of one file that is written alone.
use Rattle.std.proofs.Common.{◌≡◌, ◌≤◌, ◌⊎◌, inl, inr, ⊎_elim, ℕ, ◌+◌, List, [], ◌∷◌, ◌++◌, length, Some, refl, sym, ◌∙◌, ap, subst, arith, append-nil}
use Rattle.std.proofs.lemmas.List.{append_cancel_left}
use Rattle.std.specs.Int.{div_ceil}
use Rattle.vm_outside.specs.Calls.{FileCall, MakesFront}
use Rattle.vm_outside.specs.Crashes.{Disk, Images, Left, LeftSince, NoFile}
use Rattle.gate_file.specs.Gate.{fill_calls, open_calls}
use Rattle.gate_file.specs.Moments.{AreBehind, AsBefore, IsShut}
use Rattle.gate_file.specs.Stages.{LeftMeanwhile}
use Rattle.gate_file.proofs.Leaving.{at_end, fill_moments, filled, left_then, longer, open_moments, split}
use Rattle.snap_writer.specs.Blocks.{block_size}
use Rattle.snap_writer.specs.Create.{memory_writes}
use Rattle.snap_writer.specs.Saving.{saving_calls}
use Rattle.snap_writer.proofs.Crashing.{behind_blocks, front_moment}

front_nil : (a b : List FileCall) → a ++ b ≡ [] → a ≡ []
front_nil [] b is = refl
front_nil (call ∷ a) b is = absurd cc

-- where no call was made, all is as it might have been
pub moments_none : (before now : List FileCall) (disk : Disk) → now ≡ before → LeftMeanwhile before now disk → Images before disk
moments_none before now disk is left =
    let none : left.done ≡ [] = append_cancel_left before left.done [] (sym left.calls ∙ is ∙ sym (append-nil before)) in
    let first : left.moment.done ≡ [] = front_nil left.moment.done left.moment.rest (left.moment.parts ∙ none) in
    subst (λ (l : List FileCall). Images l disk) (ap (λ (l : List FileCall). before ++ l) first ∙ append-nil before) left.moment.left

module _ (name head bytes : List ℕ) (header : ℕ) (most : 2 ≤ header) where
  -- as it was, shut, or whole
  abbrev pub Stands : List FileCall → Disk → Type 0
  Stands before disk = AsBefore before name disk ⊎ IsShut header (disk name) ⊎ (disk name ≡ Some (1 ∷ head ++ bytes))

  behind : AreBehind (memory_writes head bytes)
  behind = (omega arith, behind_blocks (1 + length head) (div_ceil (length bytes) block_size) bytes (omega arith))

  inside : (before : List FileCall) (disk : Disk) → LeftSince (Images before) (saving_calls name head bytes) disk → Stands before disk
  inside before disk left =
      let fill : List FileCall = fill_calls name (memory_writes head bytes) (head ++ bytes) in
      ⊎_elim
      (λ filling. ⊎_elim (λ old. inl old) (λ shut. inr (inl shut)) (fill_moments name (Images before) header (memory_writes head bytes) (head ++ bytes) most behind disk filling))
      (λ opening. inr (open_moments name (Left (Images before) fill) header (head ++ bytes) (filled name (Images before) (memory_writes head bytes) (head ++ bytes)) disk opening))
      (split (Images before) fill (open_calls name (head ++ bytes)) disk left)

  of_moment : (before done rest : List FileCall) (disk : Disk) → done ++ rest ≡ saving_calls name head bytes → Images (before ++ done) disk → Stands before disk
  of_moment before done rest disk parts left =
      inside before disk
      (subst (λ (l : List FileCall). LeftSince (Images before) l disk) parts
      (longer (Images before) done rest disk (at_end (Images before) done disk (left_then NoFile before done disk left))))

  -- where all calls were made
  pub moments_all : (before now : List FileCall) (disk : Disk) → now ≡ before ++ saving_calls name head bytes → LeftMeanwhile before now disk → Stands before disk
  moments_all before now disk calls left =
      let all : List FileCall = saving_calls name head bytes in
      of_moment before left.moment.done (left.moment.rest ++ []) disk (front_moment before now all all [] disk (append-nil all) calls left) left.moment.left

  -- and where the first were
  pub moments_part : (before now : List FileCall) (disk : Disk) → MakesFront (saving_calls name head bytes) before now → LeftMeanwhile before now disk → Stands before disk
  moments_part before now disk front left =
      of_moment before left.moment.done (left.moment.rest ++ front.rest) disk
      (front_moment before now (saving_calls name head bytes) front.done front.rest disk front.parts front.calls left) left.moment.left
