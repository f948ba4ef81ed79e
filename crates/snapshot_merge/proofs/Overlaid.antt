-- What the stages of a merge make of a copy's file.
use Rattle.std.proofs.Common.{◌≡◌, ◌≢◌, ℕ, zero, suc, ◌+◌, ◌*◌, ◌<◌, ◌==◌, ◌&&◌, Bool, true, false, cond, not, List, [], ◌∷◌, ◌++◌, length, take, get_or, set, Some, Result, Ok, Err, refl, sym, ap, subst, ◌∙◌, arith, length-append}
use Rattle.std.specs.Prelude.{slice_get}
use Rattle.std.specs.List.{AllByRecursion, list_all}
use Rattle.std.proofs.lemmas.Bool.{and_parts, eq-eqb, eqb-true, ne_eqb, false_from_ne_true}
use Rattle.std.proofs.lemmas.List.{append-nil, get_or-set_same, length-set, set-set, take_at}
use Rattle.vm_types.specs.Saved.{written}
use Rattle.vm_types.specs.declared.identity.Identity.{Identity}
use Rattle.refusals.specs.declared.refusal.Refusal.{Refusal}
use Rattle.refusals.specs.declared.refusal.Refusal.TheVariants as refusal
use Rattle.file_format.specs.Kinds.{byte, times, zeros}
use Rattle.file_format.specs.Identities.{identity, is_numbered, is_same}
use Rattle.snap_memory.specs.declared.header.MemHeader.{MemHeader}
use Rattle.snap_memory.specs.declared.slot.Slot.{Slot}
use Rattle.snap_memory.specs.Headers as memory
use Rattle.snap_memory.specs.Slots.{is_open, is_zero, slot}
use Rattle.snap_memory.proofs.Fronts.{length-header}
use Rattle.snap_diff.specs.Copies.{DiffCopy, MemoryCopy, overlaid, rises, with_pages}
use Rattle.snap_diff.specs.Headers as diffs
use Rattle.snap_diff.specs.declared.header.DiffNames.{DiffNames}
use Rattle.snap_diff.specs.Diffs.{IsDiffFile}
use Rattle.snap_diff.specs.Found.{diff_found}
use Rattle.snap_diff.proofs.Files as files
use Rattle.snap_diff.proofs.Overlays.{stays_whole}
use Rattle.snapshot_merge.specs.declared.merge.Merge.TheVariants.{Begin, GoOn}
use Rattle.snapshot_merge.specs.Bases.{base_found}
use Rattle.gate_file.specs.Stages.{text_after}
use Rattle.snapshot_merge.specs.Calls.{filling, stages}
use Rattle.snapshot_merge.specs.Memories.{Holds, IsMemoryFile}
use Rattle.snapshot_merge.specs.Merges.{new_merge, open_slots, unfinished_merge}
use Rattle.snapshot_merge.specs.Plans.{both_by, merged_by, plan_by, plan_with, planned}
use Rattle.snapshot_merge.proofs.Judged.{base_good}
use Rattle.snapshot_merge.proofs.Texts.{gated, marked, named, paged}

-- ---- slots

-- zeros are slots, of which none is open
zeros_are_slots : (slots : List Slot) → list_all is_zero slots ≡ true → memory.are_slots slots ≡ true
zeros_are_slots [] zeros = refl
zeros_are_slots (s ∷ others) zeros =
    let tests = and_parts (is_zero s) (list_all is_zero others) zeros in
    let gate = (and_parts ((s.identity.lineage == 0) && (s.identity.number == 0)) (s.gate == 0) tests.0).1 in
    let shut : is_open s ≡ false = ap (λ (n : ℕ). n == 1) (eqb-true s.gate 0 gate) in
    ap (λ (b : Bool). cond b (is_numbered s.identity && memory.are_slots others) (list_all is_zero others)) shut ∙ tests.1

none_of_zeros : (slots : List Slot) → list_all is_zero slots ≡ true → open_slots slots ≡ 0
none_of_zeros [] zeros = refl
none_of_zeros (s ∷ others) zeros =
    let tests = and_parts (is_zero s) (list_all is_zero others) zeros in
    let gate = (and_parts ((s.identity.lineage == 0) && (s.identity.number == 0)) (s.gate == 0) tests.0).1 in
    let shut : is_open s ≡ false = ap (λ (n : ℕ). n == 1) (eqb-true s.gate 0 gate) in
    ap (λ (b : Bool). cond b (suc (open_slots others)) 0) shut

last_of_zeros : (made_as : Identity) (slots : List Slot) → list_all is_zero slots ≡ true → memory.last_identity made_as slots ≡ made_as
last_of_zeros made_as [] zeros = refl
last_of_zeros made_as (s ∷ others) zeros =
    let tests = and_parts (is_zero s) (list_all is_zero others) zeros in
    let gate = (and_parts ((s.identity.lineage == 0) && (s.identity.number == 0)) (s.gate == 0) tests.0).1 in
    let shut : is_open s ≡ false = ap (λ (n : ℕ). n == 1) (eqb-true s.gate 0 gate) in
    ap (λ (b : Bool). cond b (memory.last_identity s.identity others) made_as) shut

-- the next slot is opened: the slots are slots, and it is the last that is open
module _ (t : Slot) (opens : is_open t ≡ true) (numbered : is_numbered t.identity ≡ true) where
  next_opened : (s : Slot) (others : List Slot) (b : Bool) → is_open s ≡ b → memory.are_slots (s ∷ others) ≡ true
      → (memory.are_slots others ≡ true → b ≡ true → memory.are_slots (set others (open_slots others) t) ≡ true)
      → memory.are_slots (set (s ∷ others) (open_slots (s ∷ others)) t) ≡ true
  next_opened s others true is are rest =
      let tests = and_parts (is_numbered s.identity) (memory.are_slots others) (subst (λ (b : Bool). cond b (is_numbered s.identity && memory.are_slots others) (list_all is_zero others) ≡ true) is are) in
      let count : open_slots (s ∷ others) ≡ suc (open_slots others) = ap (λ (b : Bool). cond b (suc (open_slots others)) 0) is in
      ap (λ (n : ℕ). memory.are_slots (set (s ∷ others) n t)) count
      ∙ ap (λ (b : Bool). cond b (is_numbered s.identity && memory.are_slots (set others (open_slots others) t)) (list_all is_zero (set others (open_slots others) t))) is
      ∙ ap (λ (b : Bool). b && memory.are_slots (set others (open_slots others) t)) tests.0
      ∙ rest tests.1 refl
  next_opened s others false is are rest =
      let zeros : list_all is_zero others ≡ true = subst (λ (b : Bool). cond b (is_numbered s.identity && memory.are_slots others) (list_all is_zero others) ≡ true) is are in
      let count : open_slots (s ∷ others) ≡ 0 = ap (λ (b : Bool). cond b (suc (open_slots others)) 0) is in
      ap (λ (n : ℕ). memory.are_slots (set (s ∷ others) n t)) count
      ∙ ap (λ (b : Bool). cond b (is_numbered t.identity && memory.are_slots others) (list_all is_zero others)) opens
      ∙ ap (λ (b : Bool). b && memory.are_slots others) numbered ∙ zeros_are_slots others zeros

  more_left : (s : Slot) (others : List Slot) → is_open s ≡ true → open_slots (s ∷ others) < suc (length others) → open_slots others < length others
  more_left s others is left = let count : open_slots (s ∷ others) ≡ suc (open_slots others) = ap (λ (b : Bool). cond b (suc (open_slots others)) 0) is in omega (arith, count, left)

  pub are_open : (slots : List Slot) → open_slots slots < length slots → memory.are_slots slots ≡ true → memory.are_slots (set slots (open_slots slots) t) ≡ true
  are_open [] left are = absurd (omega (arith, left))
  are_open (s ∷ others) left are = next_opened s others (is_open s) refl are (λ rest is. are_open others (more_left s others is left) rest)

  next_last : (made_as : Identity) (s : Slot) (others : List Slot) (b : Bool) → is_open s ≡ b → memory.are_slots (s ∷ others) ≡ true
      → (memory.are_slots others ≡ true → b ≡ true → memory.last_identity s.identity (set others (open_slots others) t) ≡ t.identity)
      → memory.last_identity made_as (set (s ∷ others) (open_slots (s ∷ others)) t) ≡ t.identity
  next_last made_as s others true is are rest =
      let tests = and_parts (is_numbered s.identity) (memory.are_slots others) (subst (λ (b : Bool). cond b (is_numbered s.identity && memory.are_slots others) (list_all is_zero others) ≡ true) is are) in
      let count : open_slots (s ∷ others) ≡ suc (open_slots others) = ap (λ (b : Bool). cond b (suc (open_slots others)) 0) is in
      ap (λ (n : ℕ). memory.last_identity made_as (set (s ∷ others) n t)) count
      ∙ ap (λ (b : Bool). cond b (memory.last_identity s.identity (set others (open_slots others) t)) made_as) is
      ∙ rest tests.1 refl
  next_last made_as s others false is are rest =
      let zeros : list_all is_zero others ≡ true = subst (λ (b : Bool). cond b (is_numbered s.identity && memory.are_slots others) (list_all is_zero others) ≡ true) is are in
      let count : open_slots (s ∷ others) ≡ 0 = ap (λ (b : Bool). cond b (suc (open_slots others)) 0) is in
      ap (λ (n : ℕ). memory.last_identity made_as (set (s ∷ others) n t)) count
      ∙ ap (λ (b : Bool). cond b (memory.last_identity t.identity others) made_as) opens
      ∙ last_of_zeros t.identity others zeros

  pub last_opened : (made_as : Identity) (slots : List Slot) → open_slots slots < length slots → memory.are_slots slots ≡ true → memory.last_identity made_as (set slots (open_slots slots) t) ≡ t.identity
  last_opened made_as [] left are = absurd (omega (arith, left))
  last_opened made_as (s ∷ others) left are = next_last made_as s others (is_open s) refl are (λ rest is. last_opened s.identity others (more_left s others is left) rest)

  -- and one slot more is open
  next_count : (s : Slot) (others : List Slot) (b : Bool) → is_open s ≡ b → memory.are_slots (s ∷ others) ≡ true
      → (memory.are_slots others ≡ true → b ≡ true → open_slots (set others (open_slots others) t) ≡ suc (open_slots others))
      → open_slots (set (s ∷ others) (open_slots (s ∷ others)) t) ≡ suc (open_slots (s ∷ others))
  next_count s others true is are rest =
      let tests = and_parts (is_numbered s.identity) (memory.are_slots others) (subst (λ (b : Bool). cond b (is_numbered s.identity && memory.are_slots others) (list_all is_zero others) ≡ true) is are) in
      let count : open_slots (s ∷ others) ≡ suc (open_slots others) = ap (λ (b : Bool). cond b (suc (open_slots others)) 0) is in
      ap (λ (n : ℕ). open_slots (set (s ∷ others) n t)) count
      ∙ ap (λ (b : Bool). cond b (suc (open_slots (set others (open_slots others) t))) 0) is
      ∙ ap suc (rest tests.1 refl) ∙ ap suc (sym count)
  next_count s others false is are rest =
      let zeros : list_all is_zero others ≡ true = subst (λ (b : Bool). cond b (is_numbered s.identity && memory.are_slots others) (list_all is_zero others) ≡ true) is are in
      let count : open_slots (s ∷ others) ≡ 0 = ap (λ (b : Bool). cond b (suc (open_slots others)) 0) is in
      ap (λ (n : ℕ). open_slots (set (s ∷ others) n t)) count
      ∙ ap (λ (b : Bool). cond b (suc (open_slots others)) 0) opens
      ∙ ap suc (none_of_zeros others zeros) ∙ ap suc (sym count)

  pub one_opened : (slots : List Slot) → open_slots slots < length slots → memory.are_slots slots ≡ true → open_slots (set slots (open_slots slots) t) ≡ suc (open_slots slots)
  one_opened [] left are = absurd (omega (arith, left))
  one_opened (s ∷ others) left are = next_count s others (is_open s) refl are (λ rest is. one_opened others (more_left s others is left) rest)

-- ---- headers that fit

pub slots_fit : (h : MemHeader) → memory.header.Fits h → (length h.slots ≡ 100) × AllByRecursion slot.Fits h.slots
unfolding memory.header times
slots_fit h fits = fits.1.1.1.1.1.1.0

pub slot_fits : (i : Identity) (gate : ℕ) → identity.Fits i → gate < 256 → slot.Fits (record { identity = i; gate = gate })
unfolding slot byte zeros
slot_fits i gate fits small = (fits, (small, tt))

all_set : (slots : List Slot) (j : ℕ) (s : Slot) → AllByRecursion slot.Fits slots → slot.Fits s → AllByRecursion slot.Fits (set slots j s)
all_set [] j s all fits = tt
all_set (t ∷ ts) zero s all fits = (fits, all.1)
all_set (t ∷ ts) (suc j) s all fits = (all.0, all_set ts j s all.1 fits)

pub with_slot : (h : MemHeader) (j : ℕ) (s : Slot) → memory.header.Fits h → slot.Fits s → memory.header.Fits (record h { slots = set h.slots j s })
unfolding memory.header times
with_slot h j s fits fit =
    (fits.0, (fits.1.0, (fits.1.1.0, (fits.1.1.1.0, (fits.1.1.1.1.0, (fits.1.1.1.1.1.0, ((length-set h.slots j s ∙ fits.1.1.1.1.1.1.0.0, all_set h.slots j s fits.1.1.1.1.1.1.0.1 fit), fits.1.1.1.1.1.1.1)))))))

pub with_mark : (h : MemHeader) (v : ℕ) → memory.header.Fits h → v < 256 → memory.header.Fits (record h { merging = v })
unfolding memory.header byte
with_mark h v fits small = (fits.0, (fits.1.0, (fits.1.1.0, (fits.1.1.1.0, (small, fits.1.1.1.1.1)))))

pub gate_fits : (slots : List Slot) (j : ℕ) (s : Slot) → AllByRecursion slot.Fits slots → slot.Fits s → (get_or slots j s).gate < 256
unfolding slot byte
gate_fits [] j s all fits = fits.1.0
gate_fits (t ∷ ts) zero s all fits = all.0.1.0
gate_fits (t ∷ ts) (suc j) s all fits = gate_fits ts j s all.1 fits

pub identity_fits : (n : DiffNames) → diffs.names.Fits n → identity.Fits n.identity
unfolding diffs.names
identity_fits n fits = fits.1.1

pub in_range : (slots : List Slot) (j : ℕ) (s : Slot) → slice_get slots j ≡ Some s → j < length slots
in_range [] j s there = absurd cc
in_range (t ∷ ts) zero s there = omega arith
in_range (t ∷ ts) (suc j) s there = let rest = in_range ts j s there in omega (arith, rest)

pub got : (slots : List Slot) (j : ℕ) (s t : Slot) → slice_get slots j ≡ Some s → get_or slots j t ≡ s
got [] j s t there = absurd cc
got (u ∷ us) zero s t there = cc
got (u ∷ us) (suc j) s t there = got us j s t there

-- a slot that is there is found whatever stands in for one that isn't
pub same_get : (slots : List Slot) (j : ℕ) (s t : Slot) → j < length slots → get_or slots j s ≡ get_or slots j t
same_get [] j s t lt = absurd (omega (arith, lt))
same_get (u ∷ us) zero s t lt = refl
same_get (u ∷ us) (suc j) s t lt = same_get us j s t (omega (arith, lt))

-- ---- the merge of a diff into a base's file

module _ (given file : List ℕ) (head : MemHeader) (m : MemoryCopy) (d : DiffCopy) (holds : Holds given head m) (is : IsDiffFile file d) (pages : d.pages ≡ m.pages) where
  abbrev pub merged_head : MemHeader
  merged_head = record head { merging = 0; slots = set head.slots (open_slots head.slots) (record { identity = d.identity; gate = 1 }) }

  tests : (is_numbered head.made_as ≡ true) × (memory.are_slots head.slots ≡ true)
  tests = and_parts (is_numbered head.made_as) (memory.are_slots head.slots) holds.valid

  pub diff_header : (diffs.are_names (diffs.names_of d) ≡ true) × (rises d.pages 0 d.numbers ≡ true)
  diff_header = (files.names_good file d is, (files.whole file d is).rise)

  pub numbered : is_numbered d.identity ≡ true
  numbered = (and_parts (is_numbered d.parent) (is_numbered d.identity) (and_parts (is_numbered d.parent && is_numbered d.identity) (not (is_same d.parent d.identity)) diff_header.0).0).1

  pub of_identity : identity.Fits d.identity
  of_identity = identity_fits (diffs.names_of d) (files.names_fit file d is)

  pub size : length head.slots ≡ 100
  size = (slots_fit head holds.fits).0

  pub fit : slot.Fits (record { identity = d.identity; gate = 1 })
  fit = slot_fits d.identity 1 of_identity (omega arith)

  pub rise : rises m.pages 0 d.numbers ≡ true
  rise = subst (λ (n : ℕ). rises n 0 d.numbers ≡ true) pages diff_header.1

  -- the last stages, from a header whose next slot has the diff's identity
  fill_of : (h : MemHeader) (s : Slot) → memory.header.Fits h → h.pages ≡ head.pages → h.made_as ≡ head.made_as
      → set h.slots (open_slots head.slots) (record { identity = d.identity; gate = 1 }) ≡ set head.slots (open_slots head.slots) (record { identity = d.identity; gate = 1 })
      → open_slots head.slots < 100 → get_or h.slots (open_slots head.slots) (record { identity = d.identity; gate = 1 }) ≡ s → s.identity ≡ d.identity
      → text_after (filling (open_slots head.slots) d) (memory.header.bytes h ++ m.bytes) ≡ memory.header.bytes merged_head ++ with_pages d.numbers d.bytes m.bytes
  fill_of h s fits same_pages same_made same_slots left there same =
      let slots : List Slot = set h.slots (open_slots head.slots) (record { identity = d.identity; gate = 1 }) in
      let laid : List ℕ = with_pages d.numbers d.bytes m.bytes in
      let open_h : MemHeader = record h { slots = slots } in
      ap (λ (t : List ℕ). written (written t (64 + 32 * open_slots head.slots + 16) (1 ∷ [])) 32 (0 ∷ []))
      (paged h m.bytes fits d.numbers m.pages 0 d.bytes m.bytes rise holds.whole (let all = (files.whole file d is).size in omega (arith, all)))
      ∙ ap (λ (t : List ℕ). written t 32 (0 ∷ []))
      (gated h laid fits (open_slots head.slots) 1 d.identity s ((slots_fit h fits).0) left there same)
      ∙ marked open_h laid (with_slot h (open_slots head.slots) (record { identity = d.identity; gate = 1 }) fits fit) 0
      ∙ ap (λ (p : ℕ × Identity × List Slot). memory.header.bytes (record { pages = p.0; made_as = p.1; merging = 0; slots = p.2 }) ++ laid)
      (λ i. (same_pages i, same_made i, same_slots i))

  -- it is a file of the overlaid copy, with this header
  pub is_overlaid : (text : List ℕ) → open_slots head.slots < 100 → text ≡ memory.header.bytes merged_head ++ with_pages d.numbers d.bytes m.bytes
      → (file : IsMemoryFile text (overlaid m d)) × (file.head ≡ merged_head)
  is_overlaid text left text_is = (
    record {
      head = merged_head;
      settled = refl;
      holds = record {
        fits = with_mark (record head { slots = set head.slots (open_slots head.slots) (record { identity = d.identity; gate = 1 }) }) 0 (with_slot head (open_slots head.slots) (record { identity = d.identity; gate = 1 }) holds.fits fit) (omega arith);
        valid = ap (λ (b : Bool). b && memory.are_slots (set head.slots (open_slots head.slots) (record { identity = d.identity; gate = 1 }))) tests.0
            ∙ are_open (record { identity = d.identity; gate = 1 }) refl numbered head.slots (omega (arith, left, size)) tests.1;
        pages = holds.pages;
        identity = last_opened (record { identity = d.identity; gate = 1 }) refl numbered head.made_as head.slots (omega (arith, left, size)) tests.1;
        whole = stays_whole m d holds.whole (files.whole file d is) pages;
        bytes = text_is;
      };
    },
    refl,
  )

  pub one_more : open_slots head.slots < 100 → open_slots merged_head.slots ≡ suc (open_slots head.slots)
  one_more left = one_opened (record { identity = d.identity; gate = 1 }) refl numbered head.slots (omega (arith, left, size)) tests.1

  pub from_slot : (s : Slot) → slice_get head.slots (open_slots head.slots) ≡ Some s → s.identity ≡ d.identity
      → IsMemoryFile (text_after (stages (GoOn (open_slots head.slots)) d) given) (overlaid m d)
  from_slot s there same =
      let left = in_range head.slots (open_slots head.slots) s there in
      (is_overlaid _ (omega (arith, left, size))
      (ap (text_after (filling (open_slots head.slots) d)) holds.bytes
      ∙ fill_of head s holds.fits refl refl refl (omega (arith, left, size)) (got head.slots (open_slots head.slots) s (record { identity = d.identity; gate = 1 }) there) same)).0

  pub from_start_as : open_slots head.slots < 100
      → (file : IsMemoryFile (text_after (stages (Begin (open_slots head.slots)) d) given) (overlaid m d)) × (file.head ≡ merged_head)
  from_start_as left =
      let s : Slot = get_or head.slots (open_slots head.slots) (record { identity = d.identity; gate = 1 }) in
      let t : Slot = record { identity = d.identity; gate = s.gate } in
      let named_head : MemHeader = record head { slots = set head.slots (open_slots head.slots) t } in
      let gate : s.gate < 256 = gate_fits head.slots (open_slots head.slots) (record { identity = d.identity; gate = 1 }) (slots_fit head holds.fits).1 fit in
      let named_fits = with_slot head (open_slots head.slots) t holds.fits (slot_fits d.identity s.gate of_identity gate) in
      let marked_head : MemHeader = record named_head { merging = 1 } in
      is_overlaid _ left
      (ap (λ (l : List ℕ). text_after (filling (open_slots head.slots) d) (written (written l (64 + 32 * open_slots head.slots) (identity.bytes d.identity)) 32 (1 ∷ []))) holds.bytes
      ∙ ap (λ (l : List ℕ). text_after (filling (open_slots head.slots) d) (written l 32 (1 ∷ [])))
      (named head m.bytes holds.fits (open_slots head.slots) d.identity s size left (same_get head.slots (open_slots head.slots) t (record { identity = d.identity; gate = 1 }) (omega (arith, left, size))))
      ∙ ap (text_after (filling (open_slots head.slots) d)) (marked named_head m.bytes named_fits 1)
      ∙ fill_of marked_head t (with_mark named_head 1 named_fits (omega arith)) refl refl (set-set head.slots (open_slots head.slots) t (record { identity = d.identity; gate = 1 })) left
      (get_or-set_same head.slots (open_slots head.slots) t (record { identity = d.identity; gate = 1 }) (omega (arith, left, size))) refl)

  pub from_start : open_slots head.slots < 100 → IsMemoryFile (text_after (stages (Begin (open_slots head.slots)) d) given) (overlaid m d)
  from_start left = (from_start_as left).0

-- ---- the plan

pub same_identity : (i : Identity) → is_same i i ≡ true
same_identity i = ap (λ (b : Bool). b && (i.number == i.number)) (eq-eqb i.lineage i.lineage refl) ∙ eq-eqb i.number i.number refl

same_when : (a b : Identity) → is_same a b ≡ true → a ≡ b
same_when a b e =
    let both = and_parts (a.lineage == b.lineage) (a.number == b.number) e in
    λ i. record { lineage = eqb-true a.lineage b.lineage both.0 i; number = eqb-true a.number b.number both.1 i }

all_three : (a b c : Bool) → a ≡ true → b ≡ true → c ≡ true → (a && b && c) ≡ true
all_three a b c p q r = rw (p, q, r) refl

module _ (given file : List ℕ) (head : MemHeader) (m : MemoryCopy) (d : DiffCopy) (holds : Holds given head m) (diff : IsDiffFile file d) (pages : d.pages ≡ m.pages) where
  front_is : take 4096 given ≡ memory.header.bytes head
  front_is = ap (take 4096) holds.bytes ∙ take_at (memory.header.bytes head) m.bytes 4096 (length-header head holds.fits)

  base_is : base_found (Some given) ≡ Ok head
  base_is =
      base_good (length given) (take 4096 given) head
      (record { fits = holds.fits; valid = holds.valid; pages = []; bytes = front_is ∙ sym (append-nil (memory.header.bytes head)) })
      ∙ ap (λ (b : Bool). cond b (Ok head) (Err refusal.SizesDiffer))
      (eq-eqb (length given) (4096 + 4096 * head.pages) (omega (arith, ap length holds.bytes, length-append (memory.header.bytes head) m.bytes, length-header head holds.fits, holds.whole, holds.pages)))

  -- by the merging byte
  pub planned_by : planned (Some given) (Some file) ≡ plan_with d (cond (head.merging == 0) (new_merge head (diffs.names_of d)) (unfinished_merge head (diffs.names_of d) (slice_get head.slots (open_slots head.slots))))
  planned_by =
      ap (λ (r : Result MemHeader Refusal). plan_by r (diff_found (Some file))) base_is
      ∙ ap (plan_by (Ok head)) (files.found_again file d diff)
      ∙ ap (λ (b : Bool). plan_with d (cond (not b) (Err refusal.SizesDiffer) (cond (head.merging == 0) (new_merge head (diffs.names_of d)) (unfinished_merge head (diffs.names_of d) (slice_get head.slots (open_slots head.slots))))))
      (eq-eqb d.pages head.pages (pages ∙ sym holds.pages))

  planned_new : head.merging ≡ 0 → planned (Some given) (Some file) ≡ plan_with d (new_merge head (diffs.names_of d))
  planned_new settled =
      planned_by
      ∙ ap (λ (n : ℕ). plan_with d (cond (n == 0) (new_merge head (diffs.names_of d)) (unfinished_merge head (diffs.names_of d) (slice_get head.slots (open_slots head.slots))))) settled

  pub is_begun_by : head.merging ≡ 0 → d.parent ≡ m.identity → open_slots head.slots < 100 → planned (Some given) (Some file) ≡ Ok (record { diff = d; merge = Begin (open_slots head.slots) })
  is_begun_by settled parent left =
      let same : is_same d.parent (memory.identity_of head) ≡ true = ap (λ (i : Identity). is_same d.parent i) (holds.identity ∙ sym parent) ∙ same_identity d.parent in
      planned_new settled
      ∙ ap (λ (b : Bool). plan_with d (cond (not b) (Err refusal.ParentDiffers) (cond (open_slots head.slots == 100) (Err refusal.NoSlotLeft) (Ok (Begin (open_slots head.slots)))))) same
      ∙ ap (λ (b : Bool). plan_with d (cond b (Err refusal.NoSlotLeft) (Ok (Begin (open_slots head.slots))))) (ne_eqb (open_slots head.slots) 100 (λ full. omega (arith, full, left)))

  pub is_foreign_by : head.merging ≡ 0 → d.parent ≢ m.identity → planned (Some given) (Some file) ≡ Err refusal.ParentDiffers
  is_foreign_by settled other =
      let differs : is_same d.parent (memory.identity_of head) ≡ false = false_from_ne_true _ (λ e. other (same_when d.parent (memory.identity_of head) e ∙ holds.identity)) in
      planned_new settled
      ∙ ap (λ (b : Bool). plan_with d (cond (not b) (Err refusal.ParentDiffers) (cond (open_slots head.slots == 100) (Err refusal.NoSlotLeft) (Ok (Begin (open_slots head.slots)))))) differs

  -- the diff was merged before
  pub is_merged_by : head.merging ≡ 0 → d.identity ≡ m.identity → merged_by (both_by (base_found (Some given)) (diff_found (Some file))) ≡ true
  is_merged_by settled own =
      let name : is_same (memory.identity_of head) d.identity ≡ true = ap (λ (i : Identity). is_same i d.identity) (holds.identity ∙ sym own) ∙ same_identity d.identity in
      ap (λ (r : Result MemHeader Refusal). merged_by (both_by r (diff_found (Some file)))) base_is
      ∙ ap (λ (r : Result DiffCopy Refusal). merged_by (both_by (Ok head) r)) (files.found_again file d diff)
      ∙ all_three (d.pages == head.pages) (head.merging == 0) (is_same (memory.identity_of head) d.identity) (eq-eqb d.pages head.pages (pages ∙ sym holds.pages)) (eq-eqb head.merging 0 settled) name

module _ (given file : List ℕ) (m : MemoryCopy) (d : DiffCopy) (is : IsMemoryFile given m) (diff : IsDiffFile file d) (pages : d.pages ≡ m.pages) where
  pub is_begun : d.parent ≡ m.identity → open_slots is.head.slots < 100 → planned (Some given) (Some file) ≡ Ok (record { diff = d; merge = Begin (open_slots is.head.slots) })
  is_begun = is_begun_by given file is.head m d is.holds diff pages is.settled

  pub is_foreign : d.parent ≢ m.identity → planned (Some given) (Some file) ≡ Err refusal.ParentDiffers
  is_foreign = is_foreign_by given file is.head m d is.holds diff pages is.settled
