-- Where a merge can stand, what its stages may leave from there, and what they come to.
use Rattle.std.proofs.Common.{◌≡◌, ◌≢◌, ◌⊎◌, ℕ, ◌+◌, ◌*◌, ◌<◌, ◌≤◌, ◌==◌, ◌&&◌, Bool, true, false, cond, not, List, [], ◌∷◌, ◌++◌, length, get_or, Option, Some, Ok, Err, refl, sym, ◌∙◌, ap, subst, arith, inl, inr, ⊎_elim, length-append}
use Rattle.std.specs.Prelude.{nat_lt, slice_get}
use Rattle.std.specs.List.{list_any}
use Rattle.std.proofs.lemmas.Bool.{and_parts, cases_Bool, eqb-false, eqb-true, ltb-true, ne_eqb}
use Rattle.vm_types.specs.Saved.{written}
use Rattle.vm_types.specs.declared.identity.Identity.{Identity}
use Rattle.refusals.specs.declared.refusal.Refusal.TheVariants as refusal
use Rattle.gate_file.specs.Stages.{AllInside, AreInside, IsLeft, IsTorn, text_after, written_all}
use Rattle.file_format.specs.Format.{IsBytes}
use Rattle.file_format.specs.Identities.{identity, is_numbered, is_same}
use Rattle.snap_memory.specs.declared.header.MemHeader.{MemHeader}
use Rattle.snap_memory.specs.declared.slot.Slot.{Slot}
use Rattle.snap_memory.specs.Headers as memory
use Rattle.snap_memory.specs.Slots.{is_open}
use Rattle.snap_memory.proofs.Fronts.{length-header}
use Rattle.snap_diff.specs.Copies.{DiffCopy, Joins, MemoryCopy, overlaid, rises, with_pages}
use Rattle.snap_diff.specs.Diffs.{IsDiffFile}
use Rattle.snap_diff.specs.Headers.{names_of}
use Rattle.snap_diff.proofs.Files as files
use Rattle.snap_diff.proofs.Laying.{outside}
use Rattle.snapshot_merge.specs.declared.merge.Merge.{Merge}
use Rattle.snapshot_merge.specs.declared.merge.Merge.TheVariants.{Begin, GoOn, Finish}
use Rattle.snapshot_merge.specs.Calls.{filling, marking, naming, opening, page_writes, slot_at, stages}
use Rattle.snapshot_merge.specs.Memories.{Holds, IsMemoryFile}
use Rattle.snapshot_merge.specs.Merges.{begun_merge, done_merge, new_merge, open_slots, unfinished_merge}
use Rattle.snapshot_merge.specs.Plans.{plan_with, planned}
use Rattle.snapshot_merge.specs.Stops.{GoesOn, IsBase, IsUnfinished, Stands}
use Rattle.snapshot_merge.specs.Stops.Stands.{Old, Unfinished, Merged}
use Rattle.snapshot_merge.proofs.NextSlot.{IsFree, free_is_done, next_is_shut}
use Rattle.snapshot_merge.proofs.Overlaid as slots
use Rattle.snapshot_merge.proofs.Relaid.{same_once_put}
use Rattle.snapshot_merge.proofs.SetSlot.{next_there, open_free, open_last, open_valid, shut_count, shut_last, shut_valid, slot_count, with_next}
use Rattle.snapshot_merge.proofs.Texts.{gated, length-identity, marked, named, paged}
use Rattle.snapshot_merge.proofs.TornBytes.{all_bytes, byte_is, bytes_put, name_bytes, one_cell, one_torn, other_pages, pages_inside, pages_of_bytes, some_name}

-- alike in all pages but those of these numbers
abbrev pub AlikeOutside : List ℕ → List ℕ → List ℕ → Type 0
AlikeOutside numbers xs ys =
    (k r : ℕ) → r < 4096 → list_any (λ n. n == k) numbers ≡ false → get_or xs (4096 * k + r) 0 ≡ get_or ys (4096 * k + r) 0

module _ (m : MemoryCopy) (d : DiffCopy) (joins : Joins m d) (file : List ℕ) (of : IsBytes file) (is_d : IsDiffFile file d) where
  -- ---- what is known of the diff

  pub header_tests : (is_numbered d.identity ≡ true) × (not (is_same d.parent d.identity) ≡ true)
  header_tests =
      let header = files.names_good file d is_d in
      let both = and_parts (is_numbered d.parent && is_numbered d.identity) (not (is_same d.parent d.identity)) header in
      ((and_parts (is_numbered d.parent) (is_numbered d.identity) both.0).1, both.1)

  pub diff_rise : rises m.pages 0 d.numbers ≡ true
  diff_rise = subst (λ (n : ℕ). rises n 0 d.numbers ≡ true) joins.pages (files.whole file d is_d).rise

  pub diff_size : length d.bytes ≡ 4096 * length d.numbers
  diff_size = (files.whole file d is_d).size

  name_fits : identity.Fits d.identity
  name_fits = slots.identity_fits (names_of d) (files.names_fit file d is_d)

  pages_are : IsBytes d.bytes
  pages_are = files.copy_of_bytes file d is_d of

  -- ---- where it stands

  -- before it says that it is unfinished: its next slot may have any name
  pub record Fresh (text : List ℕ) : Type 0 where
    pub head : MemHeader
    pub holds : Holds text head m
    pub settled : head.merging ≡ 0
    pub room : open_slots head.slots < 100
    pub are_bytes : IsBytes text

  -- the diff's pages may hold anything
  pub record Begun (text : List ℕ) : Type 0 where
    pub head : MemHeader
    pub pages : List ℕ
    pub holds : Holds text head (record m { bytes = pages })
    pub unsettled : (head.merging == 0) ≡ false
    pub next : Slot
    pub there : slice_get head.slots (open_slots head.slots) ≡ Some next
    pub same : next.identity ≡ d.identity
    pub alike : AlikeOutside d.numbers pages m.bytes
    pub whole : length m.bytes ≡ 4096 * m.pages
    pub are_bytes : IsBytes text

  -- its slot is open, and it may be unfinished
  pub record Full (text : List ℕ) : Type 0 where
    pub head : MemHeader
    pub holds : Holds text head (overlaid m d)
    pub free : IsFree (slice_get head.slots (open_slots head.slots))
    pub are_bytes : IsBytes text

  pub data At (text : List ℕ) : Type 0 where
    at_start : Fresh text → At text
    at_pages : Begun text → At text
    at_slot : (f : Full text) → (f.head.merging == 0) ≡ false → At text
    at_end : (f : Full text) → f.head.merging ≡ 0 → At text

  pub at_bytes : (text : List ℕ) → At text → IsBytes text
  at_bytes text (at_start f) = f.are_bytes
  at_bytes text (at_pages b) = b.are_bytes
  at_bytes text (at_slot f unsettled) = f.are_bytes
  at_bytes text (at_end f settled) = f.are_bytes

  pub length_of : (text pages : List ℕ) (head : MemHeader) → memory.header.Fits head → length pages ≡ 4096 * m.pages
      → text ≡ memory.header.bytes head ++ pages → length text ≡ 4096 + 4096 * m.pages
  length_of text pages head fits whole is = omega (arith, ap length is, length-append (memory.header.bytes head) pages, length-header head fits, whole)

  -- what stages may leave, and what they come to
  pub record Does (all : List (List (ℕ × List ℕ))) (text : List ℕ) : Type 0 where
    pub each : (left : List ℕ) → IsLeft all text left → At left
    pub end : Full (text_after all text)
    pub settled : end.head.merging ≡ 0

  stage_does : (writes : List (ℕ × List ℕ)) (all : List (List (ℕ × List ℕ))) (text : List ℕ) → ((left : List ℕ) → IsTorn writes text left → At left)
      → Does all (written_all writes text) → Does (writes ∷ all) text
  stage_does writes all text torn rest = record {
    each = λ left is. ⊎_elim (torn left) (rest.each left) is;
    end = rest.end;
    settled = rest.settled;
  }

  -- ---- the merging byte

  module _ (text : List ℕ) (f : Full text) where
    pub full_long : length text ≡ 4096 + 4096 * m.pages
    full_long = length_of text (overlaid m d).bytes f.head f.holds.fits f.holds.whole f.holds.bytes

    remarked : (v : ℕ) → v < 256 → Full (written text 32 (v ∷ []))
    remarked v small = record {
      head = record f.head { merging = v };
      holds = record {
        fits = slots.with_mark f.head v f.holds.fits small;
        valid = f.holds.valid;
        pages = f.holds.pages;
        identity = f.holds.identity;
        whole = f.holds.whole;
        bytes = ap (λ (l : List ℕ). written l 32 (v ∷ [])) f.holds.bytes ∙ marked f.head (overlaid m d).bytes f.holds.fits v;
      };
      free = f.free;
      are_bytes = bytes_put text (v ∷ []) 32 (omega (arith, full_long)) (byte_is v small) f.are_bytes;
    }

    mark_leaves : (v : ℕ) → v < 256 → At (written text 32 (v ∷ []))
    unfolding remarked
    mark_leaves v small =
        ⊎_elim (λ yes. at_end (remarked v small) (eqb-true v 0 yes)) (λ other. at_slot (remarked v small) other) (cases_Bool (v == 0))

    pub full_does : Does ((marking 0 ∷ []) ∷ []) text
    unfolding remarked
    full_does = record {
      each = λ left is. ⊎_elim
          (λ torn.
          let one = one_torn 32 (0 ∷ []) text left (omega (arith, full_long)) (byte_is 0 (omega arith)) f.are_bytes torn in
          let cell = one_cell one.cells one.size one.of_cells in
          subst At (sym (one.made ∙ ap (λ (l : List ℕ). written text 32 l) cell.1.1)) (mark_leaves cell.0 cell.1.0))
          (λ last. subst At (sym last) (at_end (remarked 0 (omega arith)) refl))
          is;
      end = remarked 0 (omega arith);
      settled = refl;
    }

  -- ---- the slot's gate, once all pages are there

  module _ (text : List ℕ) (b : Begun text) where
    pub begun_long : length text ≡ 4096 + 4096 * m.pages
    begun_long = length_of text b.pages b.head b.holds.fits b.holds.whole b.holds.bytes

    pub begun_room : open_slots b.head.slots < 100
    begun_room =
        let lt = slots.in_range b.head.slots (open_slots b.head.slots) b.next b.there in
        omega (arith, lt, slot_count b.head b.holds.fits b.holds.valid)

    abbrev pub gate_at : ℕ
    gate_at = slot_at (open_slots b.head.slots) + 16

    -- the slot with this gate
    abbrev slot_by : ℕ → Slot
    slot_by g = record { identity = d.identity; gate = g }

    abbrev gated_head : ℕ → MemHeader
    gated_head g = with_next b.head b.holds.fits b.holds.valid (slot_by g)

    gate_text : (g : ℕ) → written text gate_at (g ∷ []) ≡ memory.header.bytes (gated_head g) ++ b.pages
    gate_text g =
        ap (λ (l : List ℕ). written l gate_at (g ∷ [])) b.holds.bytes
        ∙ gated b.head b.pages b.holds.fits (open_slots b.head.slots) g d.identity b.next (slot_count b.head b.holds.fits b.holds.valid) begun_room
        (slots.got b.head.slots (open_slots b.head.slots) b.next (slot_by g) b.there) b.same

    gate_fits : (g : ℕ) → g < 256 → memory.header.Fits (gated_head g)
    gate_fits g small = slots.with_slot b.head (open_slots b.head.slots) (slot_by g) b.holds.fits (slots.slot_fits d.identity g name_fits small)

    gate_bytes : (g : ℕ) → g < 256 → IsBytes (written text gate_at (g ∷ []))
    gate_bytes g small = bytes_put text (g ∷ []) gate_at (omega (arith, begun_long, begun_room)) (byte_is g small) b.are_bytes

    still_shut : (g : ℕ) → g < 256 → (g == 1) ≡ false → Begun (written text gate_at (g ∷ []))
    still_shut g small shut =
        let count = shut_count b.head b.holds.fits b.holds.valid (slot_by g) begun_room shut in
        record {
          head = gated_head g;
          pages = b.pages;
          holds = record {
            fits = gate_fits g small;
            valid = shut_valid b.head b.holds.fits b.holds.valid (slot_by g) begun_room shut;
            pages = b.holds.pages;
            identity = shut_last b.head b.holds.fits b.holds.valid (slot_by g) begun_room shut ∙ b.holds.identity;
            whole = b.holds.whole;
            bytes = gate_text g;
          };
          unsettled = b.unsettled;
          next = slot_by g;
          there = ap (λ (k : ℕ). slice_get (gated_head g).slots k) count ∙ next_there b.head b.holds.fits b.holds.valid (slot_by g) begun_room;
          same = refl;
          alike = b.alike;
          whole = b.whole;
          are_bytes = gate_bytes g small;
        }

    module _ (all : b.pages ≡ with_pages d.numbers d.bytes m.bytes) where
      now_open : (g : ℕ) → g < 256 → (g == 1) ≡ true → Full (written text gate_at (g ∷ []))
      now_open g small opens = record {
        head = gated_head g;
        holds = record {
          fits = gate_fits g small;
          valid = open_valid b.head b.holds.fits b.holds.valid (slot_by g) begun_room opens header_tests.0;
          pages = b.holds.pages;
          identity = open_last b.head b.holds.fits b.holds.valid (slot_by g) begun_room opens header_tests.0;
          whole = ap length (sym all) ∙ b.holds.whole;
          bytes = gate_text g ∙ ap (λ (l : List ℕ). memory.header.bytes (gated_head g) ++ l) all;
        };
        free = open_free b.head b.holds.fits b.holds.valid (slot_by g) begun_room opens header_tests.0;
        are_bytes = gate_bytes g small;
      }

      gate_leaves : (g : ℕ) → g < 256 → At (written text gate_at (g ∷ []))
      unfolding now_open
      gate_leaves g small =
          ⊎_elim (λ opens. at_slot (now_open g small opens) b.unsettled) (λ shut. at_pages (still_shut g small shut)) (cases_Bool (g == 1))

      pub gate_does : Does ((opening (open_slots b.head.slots) ∷ []) ∷ (marking 0 ∷ []) ∷ []) text
      unfolding now_open
      gate_does =
          stage_does (opening (open_slots b.head.slots) ∷ []) ((marking 0 ∷ []) ∷ []) text
          (λ left torn.
          let one = one_torn gate_at (1 ∷ []) text left (omega (arith, begun_long, begun_room)) (byte_is 1 (omega arith)) b.are_bytes torn in
          let cell = one_cell one.cells one.size one.of_cells in
          subst At (sym (one.made ∙ ap (λ (l : List ℕ). written text gate_at l) cell.1.1)) (gate_leaves cell.0 cell.1.0))
          (full_does (written text gate_at (1 ∷ [])) (now_open 1 (omega arith) refl))

  -- ---- the pages

  module _ (text : List ℕ) (b : Begun text) where
    laid_text : (pages : List ℕ) → length pages ≡ 4096 * length d.numbers
        → written_all (page_writes d.numbers pages) text ≡ memory.header.bytes b.head ++ with_pages d.numbers pages b.pages
    laid_text pages size =
        ap (written_all (page_writes d.numbers pages)) b.holds.bytes
        ∙ paged b.head b.pages b.holds.fits d.numbers m.pages 0 pages b.pages diff_rise b.holds.whole (omega (arith, size))

    laid_any : (pages : List ℕ) → length pages ≡ 4096 * length d.numbers → IsBytes (written_all (page_writes d.numbers pages) text)
        → Begun (written_all (page_writes d.numbers pages) text)
    laid_any pages size are =
        let kept = outside d.numbers m.pages 0 pages b.pages diff_rise b.holds.whole size in
        record {
          head = b.head;
          pages = with_pages d.numbers pages b.pages;
          holds = record {
            fits = b.holds.fits;
            valid = b.holds.valid;
            pages = b.holds.pages;
            identity = b.holds.identity;
            whole = kept.0;
            bytes = laid_text pages size;
          };
          unsettled = b.unsettled;
          next = b.next;
          there = b.there;
          same = b.same;
          alike = λ k r small none. kept.1 k r small none ∙ b.alike k r small none;
          whole = b.whole;
          are_bytes = are;
        }

    own_bytes : IsBytes (written_all (page_writes d.numbers d.bytes) text)
    own_bytes =
        let inside = pages_inside d.numbers d.bytes m.pages 0 diff_rise (omega (arith, diff_size)) in
        all_bytes (page_writes d.numbers d.bytes) text (subst (λ (n : ℕ). AreInside n (page_writes d.numbers d.bytes)) (sym (begun_long text b)) inside)
        (pages_of_bytes d.numbers d.bytes pages_are) b.are_bytes

    pub begun_does : Does (filling (open_slots b.head.slots) d) text
    unfolding laid_any
    begun_does =
        stage_does (page_writes d.numbers d.bytes) ((opening (open_slots b.head.slots) ∷ []) ∷ (marking 0 ∷ []) ∷ []) text
        (λ left torn.
        let found = other_pages d.numbers d.bytes torn.others (omega (arith, diff_size)) torn.like in
        let is : left ≡ written_all (page_writes d.numbers found.0) text = torn.made ∙ ap (λ (l : List (ℕ × List ℕ)). written_all l text) found.1.1 in
        subst At (sym is)
        (at_pages (laid_any found.0 found.1.0 (subst IsBytes is (torn.are_bytes (pages_of_bytes d.numbers d.bytes pages_are) b.are_bytes)))))
        (gate_does (written_all (page_writes d.numbers d.bytes) text) (laid_any d.bytes diff_size own_bytes)
        (same_once_put d.numbers m.pages 0 d.bytes b.pages m.bytes diff_rise b.holds.whole b.whole diff_size b.alike))

  -- ---- the name and the mark

  module _ (text : List ℕ) (f : Fresh text) where
    pub fresh_long : length text ≡ 4096 + 4096 * m.pages
    fresh_long = length_of text m.bytes f.head f.holds.fits f.holds.whole f.holds.bytes

    abbrev name_at : ℕ
    name_at = slot_at (open_slots f.head.slots)

    size : length f.head.slots ≡ 100
    size = slot_count f.head f.holds.fits f.holds.valid

    inside_slots : open_slots f.head.slots < length f.head.slots
    inside_slots = omega (arith, size, f.room)

    abbrev other : Slot
    other = record { identity = d.identity; gate = 1 }

    abbrev before : Slot
    before = get_or f.head.slots (open_slots f.head.slots) other

    -- the next slot with this name
    abbrev slot_named : Identity → Slot
    slot_named i = record { identity = i; gate = before.gate }

    abbrev named_head : Identity → MemHeader
    named_head i = with_next f.head f.holds.fits f.holds.valid (slot_named i)

    before_shut : is_open before ≡ false
    before_shut = next_is_shut f.head.slots other inside_slots

    name_text : (i : Identity) → written text name_at (identity.bytes i) ≡ memory.header.bytes (named_head i) ++ m.bytes
    name_text i =
        ap (λ (l : List ℕ). written l name_at (identity.bytes i)) f.holds.bytes
        ∙ named f.head m.bytes f.holds.fits (open_slots f.head.slots) i before size f.room
        (slots.same_get f.head.slots (open_slots f.head.slots) (slot_named i) other inside_slots)

    name_inside : (i : Identity) → name_at + length (identity.bytes i) ≤ length text
    name_inside i = omega (arith, fresh_long, f.room, length-identity i)

    named_fits : (i : Identity) → identity.Fits i → memory.header.Fits (named_head i)
    named_fits i fits =
        let fit = slots.slot_fits d.identity 1 name_fits (omega arith) in
        let gate : before.gate < 256 = slots.gate_fits f.head.slots (open_slots f.head.slots) other (slots.slots_fit f.head f.holds.fits).1 fit in
        slots.with_slot f.head (open_slots f.head.slots) (slot_named i) f.holds.fits (slots.slot_fits i before.gate fits gate)

    named_count : (i : Identity) → open_slots (named_head i).slots ≡ open_slots f.head.slots
    named_count i = shut_count f.head f.holds.fits f.holds.valid (slot_named i) f.room before_shut

    -- with this name and this mark
    abbrev head_by : Identity → ℕ → MemHeader
    head_by i v = record (named_head i) { merging = v }

    held : (now : List ℕ) (i : Identity) (v : ℕ) → identity.Fits i → v < 256 → now ≡ memory.header.bytes (head_by i v) ++ m.bytes → Holds now (head_by i v) m
    held now i v fits small is = record {
      fits = slots.with_mark (named_head i) v (named_fits i fits) small;
      valid = shut_valid f.head f.holds.fits f.holds.valid (slot_named i) f.room before_shut;
      pages = f.holds.pages;
      identity = shut_last f.head f.holds.fits f.holds.valid (slot_named i) f.room before_shut ∙ f.holds.identity;
      whole = f.holds.whole;
      bytes = is;
    }

    -- with any name
    named_any : (i : Identity) → identity.Fits i → Fresh (written text name_at (identity.bytes i))
    named_any i fits = record {
      head = head_by i f.head.merging;
      holds = held (written text name_at (identity.bytes i)) i f.head.merging fits (omega (arith, f.settled)) (name_text i);
      settled = f.settled;
      room = let count = named_count i in omega (arith, count, f.room);
      are_bytes = bytes_put text (identity.bytes i) name_at (name_inside i) (name_bytes i) f.are_bytes;
    }

    abbrev named_text : List ℕ
    named_text = written text name_at (identity.bytes d.identity)

    mark_text : (v : ℕ) → written named_text 32 (v ∷ []) ≡ memory.header.bytes (head_by d.identity v) ++ m.bytes
    mark_text v =
        ap (λ (l : List ℕ). written l 32 (v ∷ [])) (name_text d.identity) ∙ marked (named_head d.identity) m.bytes (named_fits d.identity name_fits) v

    named_bytes : IsBytes named_text
    named_bytes = bytes_put text (identity.bytes d.identity) name_at (name_inside d.identity) (name_bytes d.identity) f.are_bytes

    named_long : length named_text ≡ 4096 + 4096 * m.pages
    named_long = length_of named_text m.bytes (named_head d.identity) (named_fits d.identity name_fits) f.holds.whole (name_text d.identity)

    mark_bytes : (v : ℕ) → v < 256 → IsBytes (written named_text 32 (v ∷ []))
    mark_bytes v small = bytes_put named_text (v ∷ []) 32 (omega (arith, named_long)) (byte_is v small) named_bytes

    now_begun : (v : ℕ) → v < 256 → (v == 0) ≡ false → Begun (written named_text 32 (v ∷ []))
    now_begun v small some = record {
      head = head_by d.identity v;
      pages = m.bytes;
      holds = held (written named_text 32 (v ∷ [])) d.identity v name_fits small (mark_text v);
      unsettled = some;
      next = slot_named d.identity;
      there = ap (λ (k : ℕ). slice_get (named_head d.identity).slots k) (named_count d.identity)
          ∙ next_there f.head f.holds.fits f.holds.valid (slot_named d.identity) f.room;
      same = refl;
      alike = λ k r small none. refl;
      whole = f.holds.whole;
      are_bytes = mark_bytes v small;
    }

    still_fresh : (v : ℕ) → v < 256 → v ≡ 0 → Fresh (written named_text 32 (v ∷ []))
    still_fresh v small none = record {
      head = head_by d.identity v;
      holds = held (written named_text 32 (v ∷ [])) d.identity v name_fits small (mark_text v);
      settled = none;
      room = let count = named_count d.identity in omega (arith, count, f.room);
      are_bytes = mark_bytes v small;
    }

    mark_or_not : (v : ℕ) → v < 256 → At (written named_text 32 (v ∷ []))
    mark_or_not v small =
        ⊎_elim (λ none. at_start (still_fresh v small (eqb-true v 0 none))) (λ some. at_pages (now_begun v small some)) (cases_Bool (v == 0))

    marked_does : Does (filling (open_slots f.head.slots) d) (written named_text 32 (1 ∷ []))
    unfolding now_begun
    marked_does =
        subst (λ (k : ℕ). Does (filling k d) (written named_text 32 (1 ∷ []))) (named_count d.identity)
        (begun_does (written named_text 32 (1 ∷ [])) (now_begun 1 (omega arith) refl))

    pub fresh_does : Does ((naming (open_slots f.head.slots) d.identity ∷ []) ∷ (marking 1 ∷ []) ∷ filling (open_slots f.head.slots) d) text
    fresh_does =
        stage_does (naming (open_slots f.head.slots) d.identity ∷ []) ((marking 1 ∷ []) ∷ filling (open_slots f.head.slots) d) text
        (λ left torn.
        let one = one_torn name_at (identity.bytes d.identity) text left (name_inside d.identity) (name_bytes d.identity) f.are_bytes torn in
        let name = some_name one.cells (one.size ∙ length-identity d.identity) one.of_cells in
        subst At (sym (one.made ∙ ap (λ (l : List ℕ). written text name_at l) name.1.1)) (at_start (named_any name.0 name.1.0)))
        (stage_does (marking 1 ∷ []) (filling (open_slots f.head.slots) d) named_text
        (λ left torn.
        let one = one_torn 32 (1 ∷ []) named_text left (omega (arith, named_long)) (byte_is 1 (omega arith)) named_bytes torn in
        let cell = one_cell one.cells one.size one.of_cells in
        subst At (sym (one.made ∙ ap (λ (l : List ℕ). written named_text 32 l) cell.1.1)) (mark_or_not cell.0 cell.1.0))
        marked_does)

  -- ---- the plan

  not_itself : d.parent ≢ d.identity
  not_itself same =
      let both : is_same d.parent d.identity ≡ true = ap (λ (i : Identity). is_same i d.identity) same ∙ slots.same_identity d.identity in
      let wrong : false ≡ true = sym (ap not both) ∙ header_tests.1 in
      absurd cc

  begun_plan : (text : List ℕ) (b : Begun text) → planned (Some text) (Some file) ≡ Ok (record { diff = d; merge = GoOn (open_slots b.head.slots) })
  begun_plan text b =
      let copy : MemoryCopy = record m { bytes = b.pages } in
      let some : 0 < d.identity.number = ltb-true 0 d.identity.number (and_parts (nat_lt 0 d.identity.number) (nat_lt d.identity.number 0x8000_0000_0000_0000) header_tests.0).0 in
      let number : (b.next.identity.number == 0) ≡ false = ap (λ (i : Identity). i.number == 0) b.same ∙ ne_eqb d.identity.number 0 (λ none. omega (arith, none, some)) in
      let slot_is : is_same b.next.identity d.identity ≡ true = ap (λ (i : Identity). is_same i d.identity) b.same ∙ slots.same_identity d.identity in
      let parent_is : is_same d.parent (memory.identity_of b.head) ≡ true = ap (λ (i : Identity). is_same d.parent i) (b.holds.identity ∙ sym joins.parent) ∙ slots.same_identity d.parent in
      slots.planned_by text file b.head copy d b.holds is_d joins.pages
      ∙ ap (λ (c : Bool). plan_with d (cond c (new_merge b.head (names_of d)) (unfinished_merge b.head (names_of d) (slice_get b.head.slots (open_slots b.head.slots))))) b.unsettled
      ∙ ap (λ (o : Option Slot). plan_with d (unfinished_merge b.head (names_of d) o)) b.there
      ∙ ap (λ (c : Bool). plan_with d (cond c (done_merge b.head (names_of d)) (begun_merge b.head (names_of d) b.next))) number
      ∙ ap (λ (c : Bool). plan_with d (cond c (Ok (GoOn (open_slots b.head.slots))) (Err refusal.MergeUnfinished))) (ap (λ (c : Bool). c && is_same d.parent (memory.identity_of b.head)) slot_is ∙ parent_is)

  full_plan : (text : List ℕ) (f : Full text) → (f.head.merging == 0) ≡ false → planned (Some text) (Some file) ≡ Ok (record { diff = d; merge = Finish })
  full_plan text f unsettled =
      let same : is_same (memory.identity_of f.head) d.identity ≡ true = ap (λ (i : Identity). is_same i d.identity) f.holds.identity ∙ slots.same_identity d.identity in
      slots.planned_by text file f.head (overlaid m d) d f.holds is_d joins.pages
      ∙ ap (λ (c : Bool). plan_with d (cond c (new_merge f.head (names_of d)) (unfinished_merge f.head (names_of d) (slice_get f.head.slots (open_slots f.head.slots))))) unsettled
      ∙ ap (plan_with d) (free_is_done f.head (names_of d) (slice_get f.head.slots (open_slots f.head.slots)) f.free)
      ∙ ap (λ (c : Bool). plan_with d (cond c (Ok Finish) (Err refusal.MergeUnfinished))) same

  pub full_file : (text : List ℕ) (f : Full text) → f.head.merging ≡ 0 → IsMemoryFile text (overlaid m d)
  full_file text f settled = record { head = f.head; holds = f.holds; settled = settled }

  -- ---- what is left to do from anywhere

  pub record Going (text : List ℕ) : Type 0 where
    pub merge : Merge
    pub rest : List (List (ℕ × List ℕ))
    pub are_rest : stages merge d ≡ [] ∷ rest
    pub is : planned (Some text) (Some file) ≡ Ok (record { diff = d; merge = merge })
    pub inside : AllInside (length text) rest
    pub does : Does rest text
    pub copy : IsMemoryFile text m ⊎ IsUnfinished text

  filling_inside : (n : ℕ) → n < 100 → AllInside (4096 + 4096 * m.pages) (filling n d)
  filling_inside n lt = (pages_inside d.numbers d.bytes m.pages 0 diff_rise (omega (arith, diff_size)), ((omega (arith, lt), tt), ((omega arith, tt), tt)))

  in_text : (text : List ℕ) (all : List (List (ℕ × List ℕ))) → length text ≡ 4096 + 4096 * m.pages → AllInside (4096 + 4096 * m.pages) all → AllInside (length text) all
  in_text text all long inside = subst (λ (n : ℕ). AllInside n all) (sym long) inside

  unfinished : (text : List ℕ) (head : MemHeader) (copy : MemoryCopy) → Holds text head copy → (head.merging == 0) ≡ false → IsUnfinished text
  unfinished text head copy holds unsettled = record { head = head; copy = copy; holds = holds; begun = eqb-false head.merging 0 unsettled }

  pub from_at : (text : List ℕ) → At text → Going text ⊎ (IsMemoryFile text (overlaid m d) × (planned (Some text) (Some file) ≡ Err refusal.ParentDiffers))
  from_at text (at_start f) = inl (record {
    merge = Begin (open_slots f.head.slots);
    rest = (naming (open_slots f.head.slots) d.identity ∷ []) ∷ (marking 1 ∷ []) ∷ filling (open_slots f.head.slots) d;
    are_rest = refl;
    is = slots.is_begun_by text file f.head m d f.holds is_d joins.pages f.settled joins.parent f.room;
    inside = in_text text ((naming (open_slots f.head.slots) d.identity ∷ []) ∷ (marking 1 ∷ []) ∷ filling (open_slots f.head.slots) d) (fresh_long text f)
        ((omega (arith, f.room, length-identity d.identity), tt), ((omega arith, tt), filling_inside (open_slots f.head.slots) f.room));
    does = fresh_does text f;
    copy = inl (record { head = f.head; holds = f.holds; settled = f.settled });
  })
  from_at text (at_pages b) = inl (record {
    merge = GoOn (open_slots b.head.slots);
    rest = filling (open_slots b.head.slots) d;
    are_rest = refl;
    is = begun_plan text b;
    inside = in_text text (filling (open_slots b.head.slots) d) (begun_long text b) (filling_inside (open_slots b.head.slots) (begun_room text b));
    does = begun_does text b;
    copy = inr (unfinished text b.head (record m { bytes = b.pages }) b.holds b.unsettled);
  })
  from_at text (at_slot f unsettled) = inl (record {
    merge = Finish;
    rest = (marking 0 ∷ []) ∷ [];
    are_rest = refl;
    is = full_plan text f unsettled;
    inside = in_text text ((marking 0 ∷ []) ∷ []) (full_long text f) ((omega arith, tt), tt);
    does = full_does text f;
    copy = inr (unfinished text f.head (overlaid m d) f.holds unsettled);
  })
  from_at text (at_end f settled) =
      inr (full_file text f settled, slots.is_foreign_by text file f.head (overlaid m d) d f.holds is_d joins.pages settled not_itself)

  going_on : (text : List ℕ) (going : Going text) → GoesOn m d file text
  going_on text going = record {
    plan = record { diff = d; merge = going.merge };
    planned = going.is;
    end = subst (λ (ws : List (List (ℕ × List ℕ))). IsMemoryFile (text_after ws text) (overlaid m d)) (sym going.are_rest)
        (full_file (text_after going.rest text) going.does.end going.does.settled);
  }

  pub stands : (text : List ℕ) → At text → Stands m d file text
  stands text at =
      ⊎_elim
      (λ going. ⊎_elim (λ old. Old old (going_on text going)) (λ begun. Unfinished begun (going_on text going)) going.copy)
      (λ over. Merged over.0 over.1)
      (from_at text at)

  -- ---- what a merge begins with

  pub base_at : (text : List ℕ) → IsBase m text → At text
  base_at text base =
      at_start (record { head = base.file.head; holds = base.file.holds; settled = base.file.settled; room = base.left; are_bytes = base.are_bytes })
