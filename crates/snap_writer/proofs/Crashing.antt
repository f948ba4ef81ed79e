-- What a crash inside a create leaves.
use Rattle.std.proofs.Common.{◌≡◌, ◌≢◌, ◌≤◌, ℕ, zero, suc, ◌+◌, List, [], ◌∷◌, ◌++◌, length, drop, Some, Result, Ok, Err, sym, ◌∙◌, ap, subst, arith, append_assoc, append-nil}
use Rattle.std.proofs.lemmas.List.{append_cancel_left}
use Rattle.std.specs.Prelude.{OnOk, OnErr}
use Rattle.std.specs.Int.{div_ceil}
use Rattle.vm_outside.specs.Calls.{FileCall}
use Rattle.vm_outside.specs.Crashes.{Disk, Images}
use Rattle.vm_outside.specs.Known.{FilesKnown}
use Rattle.gate_file.specs.Gate.{fill_calls, open_calls}
use Rattle.gate_file.specs.Moments.{AreBehind}
use Rattle.gate_file.specs.Pairs.{PairLeaves, Target, pair_calls}
use Rattle.gate_file.specs.Stages.{LeftMeanwhile, Moment}
use Rattle.gate_file.proofs.Pairs.{at_end, moments}
use Rattle.snap_writer.specs.Blocks.{block_size, block_writes}
use Rattle.snap_writer.specs.Create.{Creates, CreatesPart, create_calls, memory_writes}
use Rattle.snap_writer.specs.Moments.{memory_target, state_target}

pub behind_blocks : (at count : ℕ) (bytes : List ℕ) → 1 ≤ at → AreBehind (block_writes at count bytes)
behind_blocks at zero bytes behind = tt
behind_blocks at (suc count) bytes behind = (behind, behind_blocks (at + block_size) count (drop block_size bytes) (omega (arith, behind)))

-- the moments of the first of the calls are moments of all
pub front_moment : (before now script done rest : List FileCall) (disk : Disk) → done ++ rest ≡ script → now ≡ before ++ done → (left : LeftMeanwhile before now disk)
    → left.moment.done ++ (left.moment.rest ++ rest) ≡ script
front_moment before now script done rest disk parts calls left =
    let same : left.done ≡ done = append_cancel_left before left.done done (sym left.calls ∙ calls) in
    sym (append_assoc left.moment.done left.moment.rest rest) ∙ ap (λ (l : List FileCall). l ++ rest) (left.moment.parts ∙ same) ∙ parts

module _ (memory head bytes state body : List ℕ) (differ : memory ≢ state) where
  abbrev first : Target
  first = memory_target memory head bytes

  abbrev second : Target
  second = state_target state body

  same_calls : create_calls memory head bytes state body ≡ pair_calls first second
  unfolding create_calls
  same_calls =
      sym (append_assoc (fill_calls memory (memory_writes head bytes) (head ++ bytes)) (fill_calls state ((1, body) ∷ []) body)
      (open_calls memory (head ++ bytes) ++ open_calls state body))

  behind_first : AreBehind (memory_writes head bytes)
  behind_first = (omega arith, behind_blocks (1 + length head) (div_ceil (length bytes) block_size) bytes (omega arith))

  leaves : (before : List FileCall) (disk : Disk) (moment : Moment before (create_calls memory head bytes state body) disk) → PairLeaves before first second moment.done disk
  leaves before disk moment =
      moments before first second differ behind_first (omega arith, tt) disk
      (record { done = moment.done; rest = moment.rest; parts = moment.parts ∙ same_calls; left = moment.left })

  pub crash : {T E P : Type 0} (result : Result T E) (old new : FilesKnown) → P → OnOk result (P → Creates memory head bytes state body old new)
      → OnErr result (P → CreatesPart memory head bytes state body old new) → (disk : Disk) (left : LeftMeanwhile old.calls new.calls disk)
      → PairLeaves old.calls first second left.moment.done disk
  crash (Ok done) old new tells all part disk left =
      let created = all tells in
      leaves old.calls disk (record {
        done = left.moment.done;
        rest = left.moment.rest ++ [];
        parts = front_moment old.calls new.calls (create_calls memory head bytes state body) (create_calls memory head bytes state body) [] disk (append-nil (create_calls memory head bytes state body)) created.calls left;
        left = left.moment.left;
      })
  crash (Err why) old new tells all part disk left =
      let front = (part tells).calls in
      leaves old.calls disk (record {
        done = left.moment.done;
        rest = left.moment.rest ++ front.rest;
        parts = front_moment old.calls new.calls (create_calls memory head bytes state body) front.done front.rest disk front.parts front.calls left;
        left = left.moment.left;
      })

  pub lasting : {T E : Type 0} (P : Type 0) (result : Result T E) (old new : FilesKnown) → OnOk result (P → Creates memory head bytes state body old new)
      → OnOk result (P → (disk : Disk) → Images new.calls disk → (disk memory ≡ Some (1 ∷ head ++ bytes)) × (disk state ≡ Some (1 ∷ body)))
  lasting P (Ok done) old new all = λ tells disk image.
      at_end old.calls first second differ disk (subst (λ (l : List FileCall). Images l disk) ((all tells).calls ∙ ap (λ (l : List FileCall). old.calls ++ l) same_calls) image)
  lasting P (Err why) old new all = tt
