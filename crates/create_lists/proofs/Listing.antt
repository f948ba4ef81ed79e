-- Memory files that agree with a list, and one create more.
use Rattle.std.proofs.Common.{◌≡◌, ◌≢◌, ℕ, ◌==◌, Bool, true, false, MatchBool, List, ◌∷◌, ◌++◌, Option, Some, None, inr, sym, ◌∙◌, ap, subst, arith}
use Rattle.std.specs.Prelude.{slice_get}
use Rattle.std.proofs.lemmas.List.{append_cancel_left}
use Rattle.snap_memory.specs.declared.header.MemHeader.{MemHeader}
use Rattle.snap_memory.specs.declared.slot.Slot.{Slot}
use Rattle.snap_memory.specs.Headers as memory
use Rattle.snap_memory.proofs.Fronts as fronts
use Rattle.snap_diff.specs.Copies.{MemoryCopy}
use Rattle.snapshot_merge.specs.Memories.{Holds}
use Rattle.snapshot_merge.specs.Merges.{open_slots}
use Rattle.snapshot_merge.proofs.NextSlot.{IsFree}
use Rattle.create_lists.specs.Listed.{AgreesText, Create, IsMergeInto, IsPartOf, IsWholeOf}
use Rattle.create_lists.proofs.FileKinds.{diff_kind, memory_kind, state_kind, two_kinds}

-- a memory file has one header, and is of one copy
pub one_held : (text : List ℕ) (g h : MemHeader) (m n : MemoryCopy) → Holds text g m → Holds text h n → (g ≡ h) × (m ≡ n)
one_held text g h m n a b =
    let head : g ≡ h =
    fronts.one text g h (record { fits = a.fits; valid = a.valid; pages = m.bytes; bytes = a.bytes }) (record { fits = b.fits; valid = b.valid; pages = n.bytes; bytes = b.bytes }) in
    let bytes : m.bytes ≡ n.bytes =
    append_cancel_left (memory.header.bytes h) m.bytes n.bytes (ap (λ (x : MemHeader). memory.header.bytes x ++ m.bytes) (sym head) ∙ sym a.bytes ∙ b.bytes) in
    let pages : m.pages ≡ n.pages = sym a.pages ∙ ap (λ (x : MemHeader). x.pages) head ∙ b.pages in
    let name : m.identity ≡ n.identity = sym a.identity ∙ ap (λ (x : MemHeader). memory.identity_of x) head ∙ b.identity in
    (head, λ i. record { identity = name i; pages = pages i; bytes = bytes i })

module _ (creates : List Create) where
  pub held_agrees : (text : List ℕ) (head : MemHeader) (m : MemoryCopy) → Holds text head m → (head.merging ≡ 0 → IsWholeOf creates m)
      → (head.merging ≢ 0 → IsMergeInto creates (slice_get head.slots (open_slots head.slots)) m) → AgreesText creates text
  held_agrees text head m holds whole merge = record {
    state = λ s e. absurd (two_kinds text 77 83 (λ is. omega (arith, is)) (memory_kind text head m holds) (state_kind text s e));
    memory = λ n file.
        let same = one_held text file.head head n m file.holds holds in
        subst (λ (x : MemoryCopy). IsWholeOf creates x) (sym same.1) (whole (ap (λ (x : MemHeader). x.merging) (sym same.0) ∙ file.settled));
    diff = λ d is. absurd (two_kinds text 77 68 (λ is. omega (arith, is)) (memory_kind text head m holds) (diff_kind text d is));
    unfinished = λ g n other begun.
        let same = one_held text g head n m other holds in
        subst (λ (p : MemHeader × MemoryCopy). IsMergeInto creates (slice_get p.0.slots (open_slots p.0.slots)) p.1) (λ i. (sym same.0 i, sym same.1 i))
        (merge (λ none. begun (ap (λ (x : MemHeader). x.merging) same.0 ∙ none)));
  }

  -- the whole memory of a create, with no slot that is named next
  pub free_whole : (o : Option Slot) (m : MemoryCopy) → IsFree o → IsWholeOf creates m → IsMergeInto creates o m
  free_whole None m free whole = whole
  free_whole (Some slot) m free whole = subst (λ (b : Bool). MatchBool b (IsWholeOf creates m) (IsPartOf creates slot m)) (sym free) whole

  pub part_merge : (o : Option Slot) (slot : Slot) (m : MemoryCopy) → o ≡ Some slot → (slot.identity.number == 0) ≡ false → IsPartOf creates slot m → IsMergeInto creates o m
  part_merge o slot m there number part =
      subst (λ (x : Option Slot). IsMergeInto creates x m) (sym there)
      (subst (λ (b : Bool). MatchBool b (IsWholeOf creates m) (IsPartOf creates slot m)) (sym number) part)

-- ---- with one create more

module _ (new : Create) (creates : List Create) where
  whole_more : (m : MemoryCopy) → IsWholeOf creates m → IsWholeOf (new ∷ creates) m
  whole_more m (c, (of, is)) = (c, (inr of, is))

  more_by : (m : MemoryCopy) (slot : Slot) (b : Bool) → MatchBool b (IsWholeOf creates m) (IsPartOf creates slot m)
      → MatchBool b (IsWholeOf (new ∷ creates) m) (IsPartOf (new ∷ creates) slot m)
  more_by m slot true whole = whole_more m whole
  more_by m slot false part = record {
    c = part.c;
    e = part.e;
    is = inr part.is;
    also = inr part.also;
    of = part.of;
    names = part.names;
    base = part.base;
    pages = part.pages;
    others = part.others;
  }

  more_merge : (m : MemoryCopy) (o : Option Slot) → IsMergeInto creates o m → IsMergeInto (new ∷ creates) o m
  more_merge m None whole = whole_more m whole
  more_merge m (Some slot) by = more_by m slot (slot.identity.number == 0) by

  pub agrees_more : (text : List ℕ) → AgreesText creates text → AgreesText (new ∷ creates) text
  agrees_more text agrees = record {
    state = λ s e. let f = agrees.state s e in (f.0, (inr f.1.0, f.1.1));
    memory = λ m is. whole_more m (agrees.memory m is);
    diff = λ d is. let f = agrees.diff d is in (f.0, (f.1.0, (inr f.1.1.0, f.1.1.1, f.1.1.2)));
    unfinished = λ head m holds begun. more_merge m (slice_get head.slots (open_slots head.slots)) (agrees.unfinished head m holds begun);
  }
