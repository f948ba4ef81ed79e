-- A merge that is stopped, and run again, as often as may be.
use Rattle.std.proofs.Common.{◌≡◌, ◌≢◌, ◌⊎◌, ℕ, List, [], ◌∷◌, ◌++◌, Option, Some, Result, Ok, Err, inl, inr, ⊎_elim, sym, ◌∙◌, ap, subst, append-nil, refl}
use Rattle.refusals.specs.declared.refusal.Refusal.{Refusal}
use Rattle.refusals.specs.declared.refusal.Refusal.TheVariants as refusal
use Rattle.vm_outside.specs.Calls.{FileCall}
use Rattle.vm_outside.specs.Calls.FileCall.{Synced}
use Rattle.vm_outside.specs.Crashes.{Disk, Images, Left, NoFile}
use Rattle.gate_file.specs.Moments.{AsBefore}
use Rattle.gate_file.specs.Stages.{Moment, calls_of, text_after}
use Rattle.gate_file.proofs.Staging.{Step, behind, in_stages, left_then, of_other}
use Rattle.file_format.specs.Format.{IsBytes}
use Rattle.snap_diff.specs.Copies.{DiffCopy, Joins, MemoryCopy, overlaid}
use Rattle.snap_diff.specs.Diffs.{IsDiffFile}
use Rattle.snapshot_merge.specs.Calls.{stages}
use Rattle.snapshot_merge.specs.Memories.{IsMemoryFile}
use Rattle.snapshot_merge.specs.Plans.{Plan, planned}
use Rattle.snapshot_merge.specs.Stops.{Begins, IsMerge, Restarts, StandsOn, Stopped, WasBegun}
use Rattle.snapshot_merge.proofs.InOrder.{same_plan}
use Rattle.snapshot_merge.proofs.Planned.{texts_differ}
use Rattle.snapshot_merge.proofs.Standing.{At, Going, at_bytes, base_at, from_at, full_file, stands}

pub same_some : (x y : List ℕ) → ◌≡◌ {A = Option (List ℕ)} (Some x) (Some y) → x ≡ y
same_some x y same = cc

pub not_both : (p : Plan) → ◌≡◌ {A = Result Plan Refusal} (Ok p) (Err refusal.ParentDiffers) → ⊥
not_both p wrong = cc

module _ (base diff file : List ℕ) (m : MemoryCopy) (d : DiffCopy) (joins : Joins m d) (of : IsBytes file) (is_d : IsDiffFile file d) where
  -- the base stands somewhere in the merge
  abbrev pub AtBase : Disk → Type 0
  AtBase disk = (text : List ℕ) × ((disk base ≡ Some text) × At m d joins file of is_d text)

  -- and the diff's file is there
  abbrev pub AtBoth : Disk → Type 0
  AtBoth disk = AtBase disk × (disk diff ≡ Some file)

  abbrev pub EachAt : List FileCall → Type 0
  EachAt before = (disk : Disk) → Images before disk → AtBoth disk

  abbrev pub GoingFrom : List ℕ → Type 0
  GoingFrom text = Going m d joins file of is_d text

  -- the calls of what is left to do from here: before the first, or from the text that it syncs
  pub in_calls : (before : List FileCall) (text : List ℕ) (going : GoingFrom text) (done rest : List FileCall)
      → done ++ rest ≡ Synced base (Some text) ∷ calls_of base going.rest text → (disk : Disk) → Left (Images before) done disk → Images before disk ⊎ AtBase disk
  in_calls before text going [] rest is disk left = inl left
  in_calls before text going (call ∷ done) rest is disk left =
      let first : call ≡ Synced base (Some text) = cc in
      let others : done ++ rest ≡ calls_of base going.rest text = cc in
      let there = in_stages base (Step (Synced base (Some text)) (Images before)) going.rest text going.inside (λ new step. step.2.file)
      done rest others disk (subst (λ (c : FileCall). Left (Step c (Images before)) done disk) first left) in
      inr (there.0, (there.1, going.does.each there.0 there.2))

  module _ (before calls : List FileCall) (merge : IsMerge base diff file before calls) where
    pub names_apart : diff ≢ base
    names_apart same =
        texts_differ merge.text file merge.plan merge.planned
        (same_some merge.text file (sym merge.there ∙ ap (λ (n : List ℕ). merge.image n) (sym same) ∙ merge.diff_there))

    at_text : EachAt before → At m d joins file of is_d merge.text
    at_text each =
        let begun = (each merge.image merge.is).0 in
        subst (At m d joins file of is_d) (same_some begun.0 merge.text (sym begun.1.0 ∙ merge.there)) begun.1.1

    plan_is : (going : GoingFrom merge.text) → merge.plan ≡ record { diff = d; merge = going.merge }
    plan_is going = same_plan merge.plan (record { diff = d; merge = going.merge }) (sym merge.planned ∙ going.is)

    pub calls_are : (going : GoingFrom merge.text) → calls ≡ Synced base (Some merge.text) ∷ calls_of base going.rest merge.text
    calls_are going =
        merge.makes
        ∙ ap (λ (p : Plan). calls_of base (stages p.merge p.diff) merge.text) (plan_is going)
        ∙ ap (λ (ws : List (List (ℕ × List ℕ))). calls_of base ws merge.text) going.are_rest

    -- at any moment of it
    pub one_stop : EachAt before → (disk : Disk) → Moment before calls disk → AtBoth disk
    one_stop each disk moment =
        let other = of_other base before diff names_apart (stages merge.plan.merge merge.plan.diff) merge.text disk
        (record { done = moment.done; rest = moment.rest; parts = moment.parts ∙ merge.makes; left = moment.left }) in (
          ⊎_elim
              (λ going.
              ⊎_elim (λ image. (each disk image).0) (λ at. at)
              (in_calls before merge.text going moment.done moment.rest (moment.parts ∙ calls_are going) disk (left_then NoFile before moment.done disk moment.left)))
              (λ over. absurd (not_both merge.plan (sym merge.planned ∙ over.1)))
              (from_at m d joins file of is_d merge.text (at_text each)),
          other.2 ∙ (each other.0 other.1).1,
        )

    -- what it comes to
    abbrev pub last_text : List ℕ
    last_text = text_after (stages merge.plan.merge merge.plan.diff) merge.text

    abbrev pub IsDone : List ℕ → Type 0
    IsDone text = IsBytes text × IsMemoryFile text (overlaid m d)

    rest_is : (going : GoingFrom merge.text) → last_text ≡ text_after going.rest merge.text
    rest_is going =
        ap (λ (p : Plan). text_after (stages p.merge p.diff) merge.text) (plan_is going)
        ∙ ap (λ (ws : List (List (ℕ × List ℕ))). text_after ws merge.text) going.are_rest

    pub end_text : EachAt before → IsDone last_text
    end_text each =
        ⊎_elim
        (λ going.
        subst IsDone (sym (rest_is going))
        (going.does.end.are_bytes, full_file m d joins file of is_d (text_after going.rest merge.text) going.does.end going.does.settled))
        (λ over. absurd (not_both merge.plan (sym merge.planned ∙ over.1)))
        (from_at m d joins file of is_d merge.text (at_text each))

    -- at its end
    pub at_its_end : EachAt before → (disk : Disk) → Images (before ++ calls) disk → (disk base ≡ Some last_text) × (disk diff ≡ Some file)
    at_its_end each disk image =
        ⊎_elim
        (λ going.
        let left = subst (λ (l : List FileCall). Left (Images before) l disk) (calls_are going) (left_then NoFile before calls disk image) in (
          behind base (Step (Synced base (Some merge.text)) (Images before)) going.rest merge.text (λ new step. step.2.file) disk left ∙ ap (λ (l : List ℕ). Some l) (sym (rest_is going)),
          (one_stop each disk (record { done = calls; rest = []; parts = append-nil calls; left = image })).1,
        ))
        (λ over. absurd (not_both merge.plan (sym merge.planned ∙ over.1)))
        (from_at m d joins file of is_d merge.text (at_text each))

  restart : (before calls next : List FileCall) → ((old : Disk) → Moment before calls old → AtBoth old) → Restarts base diff before calls next → EachAt next
  restart before calls next each restarts disk is =
      let old = restarts disk is in
      let at = each old.0 old.1 in
      ((at.0.0, (old.2.0 ∙ at.0.1.0, at.0.1.1)), old.2.1 ∙ at.1)

  stops : (lives : List (List FileCall)) (before now : List FileCall) → EachAt before → Stopped base diff file before lives now → EachAt now
  stops [] before now each same = subst EachAt same each
  stops (next ∷ lives) before now each (calls, merge, (restarts, later)) =
      stops lives next now (restart before calls next (λ old moment. one_stop before calls merge each old moment) restarts) later

  first_at : (first : List FileCall) → Begins base diff m file first → EachAt first
  first_at first begins disk image =
      let b = begins disk image in
      ((b.0, (b.1.0, base_at m d joins file of is_d b.0 b.1.1)), b.1.2)

  pub each_at : (first now : List FileCall) (lives : List (List FileCall)) → Begins base diff m file first → Stopped base diff file first lives now → EachAt now
  each_at first now lives begins stop = stops lives first now (first_at first begins) stop

  pub stands_on : (disk : Disk) → AtBoth disk → StandsOn base diff m d file disk
  stands_on disk at =
      record { text = at.0.0; there = at.0.1.0; stands = stands m d joins file of is_d at.0.0 at.0.1.1; diff_there = at.1 }

  -- a base of which the diff is refused for its parent is merged
  pub over_at : (text : List ℕ) → At m d joins file of is_d text → planned (Some text) (Some file) ≡ Err refusal.ParentDiffers → IsBytes text × IsMemoryFile text (overlaid m d)
  over_at text at is =
      ⊎_elim (λ going. absurd (not_both (record { diff = d; merge = going.merge }) (sym going.is ∙ is)))
      (λ over. (at_bytes m d joins file of is_d text at, over.0))
      (from_at m d joins file of is_d text at)

-- ---- where it was begun, and stopped

module _ (base diff file : List ℕ) (m : MemoryCopy) (d : DiffCopy) (now : List FileCall) (was : WasBegun base diff m d file now) where
  pub each : EachAt base diff file m d was.joins was.are_bytes was.is now
  each = each_at base diff file m d was.joins was.are_bytes was.is was.first now was.lives was.begins was.stopped

  pub between : (disk : Disk) → Images now disk → StandsOn base diff m d file disk
  between disk image = stands_on base diff file m d was.joins was.are_bytes was.is disk (each disk image)

  pub same_diff : (disk : Disk) → Images now disk → disk diff ≡ Some file
  same_diff disk image = (each disk image).1

  -- each of the two has what it had in some image
  pub as_before : (disk : Disk) → AsBefore now base disk → AsBefore now diff disk → StandsOn base diff m d file disk
  as_before disk first second =
      let at = each first.0 first.1 in
      stands_on base diff file m d was.joins was.are_bytes was.is disk
      ((at.0.0, (first.2 ∙ at.0.1.0, at.0.1.1)), second.2 ∙ same_diff second.0 second.1)

  -- the files are as they were, or lack some of the images
  pub goes_on : (next : List FileCall) → ((disk : Disk) → Images next disk → (old : Disk) × Images now old × ((disk base ≡ old base) × (disk diff ≡ old diff)))
      → WasBegun base diff m d file next
  goes_on next found = by_lives was.lives was.first was.begins was.stopped
    where
      last_life : (life : List FileCall) (lives : List (List FileCall)) (before : List FileCall) → Stopped base diff file before (life ∷ lives) now
          → (others : List (List FileCall)) × Stopped base diff file before others next
      last_life life [] before (calls, merge, (restarts, same)) = (
        next ∷ [],
        (
          calls,
          merge,
          (
            (λ disk image.
                let mid = found disk image in
                let old = restarts mid.0 (subst (λ (l : List FileCall). Images l mid.0) (sym same) mid.1) in
                (old.0, old.1, (mid.2.0 ∙ old.2.0, mid.2.1 ∙ old.2.1))),
            refl,
          ),
        ),
      )
      last_life life (other ∷ lives) before (calls, merge, (restarts, later)) =
          let rest = last_life other lives life later in (life ∷ rest.0, (calls, merge, (restarts, rest.1)))

      by_lives : (lives : List (List FileCall)) (first : List FileCall) → Begins base diff m file first → Stopped base diff file first lives now → WasBegun base diff m d file next
      by_lives [] first begins same = record {
        are_bytes = was.are_bytes;
        is = was.is;
        joins = was.joins;
        first = next;
        lives = [];
        begins = λ disk image.
            let mid = found disk image in
            let b = begins mid.0 (subst (λ (l : List FileCall). Images l mid.0) (sym same) mid.1) in
            (b.0, (mid.2.0 ∙ b.1.0, b.1.1, mid.2.1 ∙ b.1.2));
        stopped = refl;
      }
      by_lives (life ∷ lives) first begins stop =
          let rest = last_life life lives first stop in
          record { are_bytes = was.are_bytes; is = was.is; joins = was.joins; first = first; lives = rest.0; begins = begins; stopped = rest.1 }

  module _ (calls : List FileCall) (merge : IsMerge base diff file now calls) where
    pub inside : (disk : Disk) → Moment now calls disk → StandsOn base diff m d file disk
    inside disk moment =
        stands_on base diff file m d was.joins was.are_bytes was.is disk
        (one_stop base diff file m d was.joins was.are_bytes was.is now calls merge each disk moment)

    -- one life more
    pub stopped_more : (next : List FileCall) → Restarts base diff now calls next → WasBegun base diff m d file next
    stopped_more next restarts = record {
      are_bytes = was.are_bytes;
      is = was.is;
      joins = was.joins;
      first = was.first;
      lives = was.lives ++ next ∷ [];
      begins = was.begins;
      stopped = more was.lives was.first was.stopped;
    }
      where
        more : (lives : List (List FileCall)) (before : List FileCall) → Stopped base diff file before lives now → Stopped base diff file before (lives ++ next ∷ []) next
        more [] before same =
            subst (λ (l : List FileCall). Stopped base diff file l (next ∷ []) next) (sym same) (calls, merge, (restarts, refl))
        more (life ∷ lives) before (others, other, (starts, later)) = (others, other, (starts, more lives life later))
