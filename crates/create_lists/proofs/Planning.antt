-- Where the merge of a listed diff stands, from files that agree with the list.
use Rattle.std.proofs.Common.{◌≡◌, ◌<◌, ◌≤◌, ℕ, suc, ◌+◌, ◌*◌, ◌==◌, ◌&&◌, not, Bool, true, false, cond, MatchBool, List, [], ◌∷◌, length, get_or, Option, Some, None, Result, Ok, Err, ⊎_elim, refl, sym, ◌∙◌, ap, subst, arith}
use Rattle.std.specs.Prelude.{nat_lt, slice_get}
use Rattle.std.specs.List.{list_any}
use Rattle.std.proofs.lemmas.Bool.{and_parts, cases_Bool, cases_lt, eqb-false, eqb-true, ltb-true, ne_eqb, not-false}
use Rattle.vm_types.specs.declared.identity.Identity.{Identity}
use Rattle.refusals.specs.declared.refusal.Refusal.{Refusal}
use Rattle.refusals.specs.declared.refusal.Refusal.TheVariants as refusal
use Rattle.file_format.specs.Format.{IsBytes}
use Rattle.file_format.specs.Identities.{is_same}
use Rattle.snap_memory.specs.declared.header.MemHeader.{MemHeader}
use Rattle.snap_memory.specs.declared.slot.Slot.{Slot}
use Rattle.snap_memory.specs.Headers as memory
use Rattle.snap_memory.specs.Slots.{is_open}
use Rattle.snap_diff.specs.Copies.{DiffCopy, IsDiffOf, Joins, MemoryCopy, overlaid}
use Rattle.snap_diff.specs.Diffs.{IsDiffFile}
use Rattle.snap_diff.specs.Found.{diff_found}
use Rattle.snap_diff.specs.Headers.{names_of}
use Rattle.snap_diff.proofs.Files.{found_good}
use Rattle.snap_diff.proofs.Overlays.{diff_joins, makes_new}
use Rattle.snapshot_merge.specs.declared.merge.Merge.{Merge}
use Rattle.snapshot_merge.specs.declared.merge.Merge.TheVariants.{GoOn, Finish}
use Rattle.snapshot_merge.specs.Bases.{base_found}
use Rattle.snapshot_merge.specs.Memories.{Holds}
use Rattle.snapshot_merge.specs.Merges.{begun_merge, done_merge, merge_of, new_merge, open_slots, unfinished_merge}
use Rattle.snapshot_merge.specs.Plans.{Plan, plan_by, plan_with, planned}
use Rattle.snapshot_merge.proofs.NextSlot.{IsFree}
use Rattle.snapshot_merge.proofs.Overlaid.{slots_fit}
use Rattle.snapshot_merge.proofs.Standing.{At, base_at, header_tests}
use Rattle.snapshot_merge.proofs.Standing.At.{at_start, at_pages, at_slot, at_end}
use Rattle.flat_snapshot.proofs.Finds.{holds, passes}
use Rattle.create_lists.specs.Listed.{AgreesText, AreCreates, Create, IsAmong, IsMergeInto, IsPartOf, IsWholeOf, diff_since, memory_of}
use Rattle.create_lists.proofs.Listing.{free_whole, held_agrees, part_merge}
use Rattle.flat_snapshot.proofs.Loaded.{same_when}
use Rattle.create_lists.proofs.Spelled.{base_holds, copy_in}

-- ---- anywhere in the merge of a listed diff into its base

module _ (creates : List Create) (are : AreCreates creates) (c e : Create) (parent : Identity) (of_c : IsAmong c creates) (of_e : IsAmong e creates) (base : e.base ≡ Some parent)
    (same : c.identity ≡ parent) (since : IsDiffOf (memory_of c) (memory_of e) (diff_since parent e)) (file : List ℕ) (of : IsBytes file) (is_d : IsDiffFile file (diff_since parent e)) where
  pub joins : Joins (memory_of c) (diff_since parent e)
  joins = diff_joins (memory_of c) (memory_of e) (diff_since parent e) (are.whole c of_c) (are.whole e of_e) since

  makes : overlaid (memory_of c) (diff_since parent e) ≡ memory_of e
  makes = makes_new (memory_of c) (memory_of e) (diff_since parent e) (are.whole c of_c) (are.whole e of_e) since

  abbrev pub AtHere : List ℕ → Type 0
  AtHere text = At (memory_of c) (diff_since parent e) joins file of is_d text

  numbered : (i : Identity) → i ≡ e.identity → (i.number == 0) ≡ false
  numbered i is =
      let test = (header_tests (memory_of c) (diff_since parent e) joins file of is_d).0 in
      let some : 0 < e.identity.number = ltb-true 0 e.identity.number (and_parts (nat_lt 0 e.identity.number) (nat_lt e.identity.number 0x8000_0000_0000_0000) test).0 in
      ap (λ (x : Identity). x.number == 0) is ∙ ne_eqb e.identity.number 0 (λ none. omega (arith, none, some))

  whole_e : IsWholeOf creates (overlaid (memory_of c) (diff_since parent e))
  whole_e = (e, (of_e, makes))

  pub at_agrees : (text : List ℕ) → AtHere text → AgreesText creates text
  at_agrees text (at_start f) =
      held_agrees creates text f.head (memory_of c) f.holds (λ settled. (c, (of_c, refl))) (λ begun. absurd (begun f.settled))
  at_agrees text (at_pages b) =
      held_agrees creates text b.head (record { identity = c.identity; pages = c.copy.pages; bytes = b.pages }) b.holds
      (λ settled. absurd (eqb-false b.head.merging 0 b.unsettled settled))
      (λ begun. part_merge creates (slice_get b.head.slots (open_slots b.head.slots)) b.next (record { identity = c.identity; pages = c.copy.pages; bytes = b.pages }) b.there (numbered b.next.identity b.same) (record {
        c = c;
        e = e;
        is = of_c;
        also = of_e;
        of = refl;
        names = b.same;
        base = base ∙ ap (λ (i : Identity). Some i) (sym same);
        pages = refl;
        others = b.alike;
      }))
  at_agrees text (at_slot f unsettled) =
      held_agrees creates text f.head (overlaid (memory_of c) (diff_since parent e)) f.holds (λ settled. whole_e)
      (λ begun. free_whole creates (slice_get f.head.slots (open_slots f.head.slots)) (overlaid (memory_of c) (diff_since parent e)) f.free whole_e)
  at_agrees text (at_end f settled) =
      held_agrees creates text f.head (overlaid (memory_of c) (diff_since parent e)) f.holds (λ settled. whole_e)
      (λ begun. free_whole creates (slice_get f.head.slots (open_slots f.head.slots)) (overlaid (memory_of c) (diff_since parent e)) f.free whole_e)

  -- ---- from a file with this header

  module _ (text : List ℕ) (bytes : IsBytes text) (h : MemHeader) (held : Holds text h (copy_in h text)) where
    from_base : copy_in h text ≡ memory_of c → h.merging ≡ 0 → open_slots h.slots < 100 → AtHere text
    from_base is settled room =
        base_at (memory_of c) (diff_since parent e) joins file of is_d text (record {
          are_bytes = bytes;
          file = record { head = h; holds = subst (λ (m : MemoryCopy). Holds text h m) is held; settled = settled };
          left = room;
        })

    from_done : copy_in h text ≡ memory_of e → (h.merging == 0) ≡ false → IsFree (slice_get h.slots (open_slots h.slots)) → AtHere text
    from_done is unsettled free =
        at_slot (record { head = h; holds = subst (λ (m : MemoryCopy). Holds text h m) (is ∙ sym makes) held; free = free; are_bytes = bytes }) unsettled

    from_part : (slot : Slot) (part : IsPartOf creates slot (copy_in h text)) → part.c ≡ c → part.e ≡ e → slice_get h.slots (open_slots h.slots) ≡ Some slot → (h.merging == 0) ≡ false → AtHere text
    from_part slot part is_c is_e there unsettled =
        let name : (copy_in h text).identity ≡ c.identity = part.of ∙ ap (λ (x : Create). x.identity) is_c in
        let count : (copy_in h text).pages ≡ c.copy.pages = part.pages ∙ ap (λ (x : Create). x.copy.pages) is_c in
        let copy : copy_in h text ≡ record { identity = c.identity; pages = c.copy.pages; bytes = (copy_in h text).bytes } = (λ i. record { identity = name i; pages = count i; bytes = (copy_in h text).bytes }) in
        at_pages (record {
          head = h;
          pages = (copy_in h text).bytes;
          holds = subst (λ (m : MemoryCopy). Holds text h m) copy held;
          unsettled = unsettled;
          next = slot;
          there = there;
          same = part.names ∙ ap (λ (x : Create). x.identity) is_e;
          alike = λ number at small none.
              part.others number at small (subst (λ (x : Create). list_any (λ n. n == number) x.numbers ≡ false) (sym is_e) none)
              ∙ ap (λ (x : Create). get_or x.bytes (4096 * number + at) 0) is_c;
          whole = are.whole c of_c;
          are_bytes = bytes;
        })

-- ---- the parts of a plan

pub record PlanIs (text file : List ℕ) (plan : Plan) : Type 0 where
  pub h : MemHeader
  pub base : base_found (Some text) ≡ Ok h
  pub diff : diff_found (Some file) ≡ Ok plan.diff
  pub merge : merge_of h (names_of plan.diff) ≡ Ok plan.merge

plan_with_is : (text file : List ℕ) (h : MemHeader) (d : DiffCopy) (plan : Plan) (r : Result Merge Refusal) → base_found (Some text) ≡ Ok h → diff_found (Some file) ≡ Ok d
    → merge_of h (names_of d) ≡ r → plan_with d r ≡ Ok plan → PlanIs text file plan
plan_with_is text file h d plan (Err why) base diff merge is = absurd cc
plan_with_is text file h d plan (Ok m) base diff merge is =
    let same : record { diff = d; merge = m } ≡ plan = cc in
    subst (λ (p : Plan). PlanIs text file p) same (record { h = h; base = base; diff = diff; merge = merge })

plan_by_is : (text file : List ℕ) (plan : Plan) (r : Result MemHeader Refusal) (q : Result DiffCopy Refusal) → base_found (Some text) ≡ r → diff_found (Some file) ≡ q
    → plan_by r q ≡ Ok plan → PlanIs text file plan
plan_by_is text file plan (Err why) q base diff is = absurd cc
plan_by_is text file plan (Ok h) (Err why) base diff is = absurd cc
plan_by_is text file plan (Ok h) (Ok d) base diff is = plan_with_is text file h d plan (merge_of h (names_of d)) base diff refl is

pub plan_is : (text file : List ℕ) (plan : Plan) → planned (Some text) (Some file) ≡ Ok plan → PlanIs text file plan
plan_is text file plan is = plan_by_is text file plan (base_found (Some text)) (diff_found (Some file)) refl refl is

most : (slots : List Slot) → open_slots slots ≤ length slots
most [] = omega arith
most (s ∷ slots) = by (is_open s) (most slots)
  where
    by : (b : Bool) → open_slots slots ≤ length slots → cond b (suc (open_slots slots)) 0 ≤ suc (length slots)
    by true le = omega (arith, le)
    by false le = omega arith

strict : (n l : ℕ) → l ≡ 100 → n ≤ l → (n ≡ 100 → ⊥) → n < 100
strict n l hundred le not_all = ⊎_elim (λ lt. lt) (λ ge. absurd (not_all (omega (arith, hundred, le, ge)))) (cases_lt n 100)

-- ---- the plan of a merge over files that agree

module _ (creates : List Create) (are : AreCreates creates) (text file : List ℕ) (of_text : IsBytes text) (of_file : IsBytes file)
    (base_agrees : AgreesText creates text) (diff_agrees : AgreesText creates file) (plan : Plan) (is_plan : planned (Some text) (Some file) ≡ Ok plan) where
  p : PlanIs text file plan
  p = plan_is text file plan is_plan

  plan_diff : IsDiffFile file plan.diff
  plan_diff = found_good file plan.diff of_file p.diff

  pub e_is : (e : Create) × ((parent : Identity) × (IsAmong e creates × (e.base ≡ Some parent) × (plan.diff ≡ diff_since parent e)))
  e_is = diff_agrees.diff plan.diff plan_diff

  abbrev pub e : Create
  e = e_is.0

  abbrev pub parent : Identity
  parent = e_is.1.0

  pub c_is : (c : Create) × (IsAmong c creates × (c.identity ≡ parent) × IsDiffOf (memory_of c) (memory_of e) (diff_since parent e))
  c_is = are.based e parent e_is.1.1.0 e_is.1.1.1

  abbrev pub c : Create
  c = c_is.0

  pub is_diff : IsDiffFile file (diff_since parent e)
  is_diff = subst (λ (d : DiffCopy). IsDiffFile file d) e_is.1.1.2 plan_diff

  abbrev pub AtText : List ℕ → Type 0
  AtText left = AtHere creates are c e parent c_is.1.0 e_is.1.1.0 e_is.1.1.1 c_is.1.1 c_is.1.2 file of_file is_diff left

  pub left_agrees : (left : List ℕ) → AtText left → AgreesText creates left
  left_agrees left at = at_agrees creates are c e parent c_is.1.0 e_is.1.1.0 e_is.1.1.1 c_is.1.1 c_is.1.2 file of_file is_diff left at

  abbrev pub text_joins : Joins (memory_of c) (diff_since parent e)
  text_joins = joins creates are c e parent c_is.1.0 e_is.1.1.0 e_is.1.1.1 c_is.1.1 c_is.1.2 file of_file is_diff

  held : Holds text p.h (copy_in p.h text)
  held = base_holds text of_text p.h p.base

  -- the base's identity is that of the diff's parent, or of the diff
  same_c : (x : Create) → IsAmong x creates → x.identity ≡ memory.identity_of p.h → is_same plan.diff.parent (memory.identity_of p.h) ≡ true → x ≡ c
  same_c x of name is =
      let one : plan.diff.parent ≡ memory.identity_of p.h = same_when plan.diff.parent (memory.identity_of p.h) is in
      are.one x c of c_is.1.0 (name ∙ sym one ∙ ap (λ (d : DiffCopy). d.parent) e_is.1.1.2 ∙ sym c_is.1.1)

  same_e : (x : Create) → IsAmong x creates → x.identity ≡ plan.diff.identity → x ≡ e
  same_e x of name = are.one x e of e_is.1.1.0 (name ∙ ap (λ (d : DiffCopy). d.identity) e_is.1.1.2)

  merges : (b : Bool) → (p.h.merging == 0) ≡ b → cond b (new_merge p.h (names_of plan.diff)) (unfinished_merge p.h (names_of plan.diff) (slice_get p.h.slots (open_slots p.h.slots))) ≡ Ok plan.merge
  merges b is =
      subst (λ (t : Bool). cond t (new_merge p.h (names_of plan.diff)) (unfinished_merge p.h (names_of plan.diff) (slice_get p.h.slots (open_slots p.h.slots))) ≡ Ok plan.merge) is
      (passes _ refusal.SizesDiffer _ plan.merge p.merge).1

  from_new : (p.h.merging == 0) ≡ true → AtText text
  from_new settled =
      let zero : p.h.merging ≡ 0 = eqb-true p.h.merging 0 settled in
      let one = passes (not (is_same plan.diff.parent (memory.identity_of p.h))) refusal.ParentDiffers _ plan.merge (merges true settled) in
      let two = passes (open_slots p.h.slots == 100) refusal.NoSlotLeft _ plan.merge one.1 in
      let x = base_agrees.memory (copy_in p.h text) (record { head = p.h; holds = held; settled = zero }) in
      let is_c : x.0 ≡ c = same_c x.0 x.1.0 (ap (λ (m : MemoryCopy). m.identity) (sym x.1.1)) (not-false _ one.0) in
      from_base creates are c e parent c_is.1.0 e_is.1.1.0 e_is.1.1.1 c_is.1.1 c_is.1.2 file of_file is_diff text of_text p.h held
      (x.1.1 ∙ ap memory_of is_c) zero (strict (open_slots p.h.slots) (length p.h.slots) (slots_fit p.h held.fits).0 (most p.h.slots) (eqb-false (open_slots p.h.slots) 100 two.0))

  from_whole : (p.h.merging == 0) ≡ false → IsWholeOf creates (copy_in p.h text) → IsFree (slice_get p.h.slots (open_slots p.h.slots)) → done_merge p.h (names_of plan.diff) ≡ Ok plan.merge → AtText text
  from_whole unsettled x free merge =
      let one = holds (is_same (memory.identity_of p.h) plan.diff.identity) refusal.MergeUnfinished (Ok Finish) plan.merge merge in
      let is_e : x.0 ≡ e = same_e x.0 x.1.0 (ap (λ (m : MemoryCopy). m.identity) (sym x.1.1) ∙ same_when (memory.identity_of p.h) plan.diff.identity one.0) in
      from_done creates are c e parent c_is.1.0 e_is.1.1.0 e_is.1.1.1 c_is.1.1 c_is.1.2 file of_file is_diff text of_text p.h held
      (x.1.1 ∙ ap memory_of is_e) unsettled free

  from_slot : (slot : Slot) (b : Bool) → slice_get p.h.slots (open_slots p.h.slots) ≡ Some slot → (slot.identity.number == 0) ≡ b → (p.h.merging == 0) ≡ false
      → MatchBool b (IsWholeOf creates (copy_in p.h text)) (IsPartOf creates slot (copy_in p.h text))
      → cond b (done_merge p.h (names_of plan.diff)) (begun_merge p.h (names_of plan.diff) slot) ≡ Ok plan.merge → AtText text
  from_slot slot true there number unsettled whole merge =
      from_whole unsettled whole (subst (λ (o : Option Slot). IsFree o) (sym there) number) merge
  from_slot slot false there number unsettled part merge =
      let one = holds (is_same slot.identity plan.diff.identity && is_same plan.diff.parent (memory.identity_of p.h)) refusal.MergeUnfinished (Ok (GoOn (open_slots p.h.slots))) plan.merge merge in
      let tests = and_parts (is_same slot.identity plan.diff.identity) (is_same plan.diff.parent (memory.identity_of p.h)) one.0 in
      let is_c : part.c ≡ c = same_c part.c part.is (sym part.of) tests.1 in
      let is_e : part.e ≡ e = same_e part.e part.also (sym part.names ∙ same_when slot.identity plan.diff.identity tests.0) in
      from_part creates are c e parent c_is.1.0 e_is.1.1.0 e_is.1.1.1 c_is.1.1 c_is.1.2 file of_file is_diff text of_text p.h held slot part is_c is_e there unsettled

  from_next : (o : Option Slot) → slice_get p.h.slots (open_slots p.h.slots) ≡ o → (p.h.merging == 0) ≡ false → IsMergeInto creates o (copy_in p.h text)
      → unfinished_merge p.h (names_of plan.diff) o ≡ Ok plan.merge → AtText text
  from_next None there unsettled whole merge = from_whole unsettled whole (subst (λ (o : Option Slot). IsFree o) (sym there) tt) merge
  from_next (Some slot) there unsettled by merge = from_slot slot (slot.identity.number == 0) there refl unsettled by merge

  pub at_text : AtText text
  at_text =
      ⊎_elim from_new
      (λ unsettled.
      from_next (slice_get p.h.slots (open_slots p.h.slots)) refl unsettled
      (base_agrees.unfinished p.h (copy_in p.h text) held (eqb-false p.h.merging 0 unsettled)) (merges false unsettled))
      (cases_Bool (p.h.merging == 0))
