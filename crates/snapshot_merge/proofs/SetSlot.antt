-- A header whose next slot, the first that isn't open, was set.
use Rattle.std.proofs.Common.{◌≡◌, ℕ, ◌<◌, ◌&&◌, Bool, true, false, length, set, Some, sym, ◌∙◌, ap, subst, arith}
use Rattle.std.specs.Prelude.{slice_get}
use Rattle.std.proofs.lemmas.Bool.{and_parts}
use Rattle.file_format.specs.Identities.{is_numbered}
use Rattle.snap_memory.specs.declared.header.MemHeader.{MemHeader}
use Rattle.snap_memory.specs.declared.slot.Slot.{Slot}
use Rattle.snap_memory.specs.Headers as memory
use Rattle.snap_memory.specs.Slots.{is_open}
use Rattle.snapshot_merge.specs.Merges.{open_slots}
use Rattle.snapshot_merge.proofs.NextSlot.{IsFree, free_behind, named_next, set_there}
use Rattle.snapshot_merge.proofs.Overlaid as slots

module _ (head : MemHeader) (fits : memory.header.Fits head) (valid : memory.is_valid head ≡ true) where
  pub slot_count : length head.slots ≡ 100
  slot_count = (slots.slots_fit head fits).0

  pub head_tests : (is_numbered head.made_as ≡ true) × (memory.are_slots head.slots ≡ true)
  head_tests = and_parts (is_numbered head.made_as) (memory.are_slots head.slots) valid

  abbrev pub with_next : Slot → MemHeader
  with_next t = record head { slots = set head.slots (open_slots head.slots) t }

  module _ (t : Slot) (left : open_slots head.slots < 100) where
    inside : open_slots head.slots < length head.slots
    inside = omega (arith, slot_count, left)

    pub next_there : slice_get (with_next t).slots (open_slots head.slots) ≡ Some t
    next_there = set_there head.slots (open_slots head.slots) t inside

    pub shut_valid : is_open t ≡ false → memory.is_valid (with_next t) ≡ true
    shut_valid shut =
        ap (λ (b : Bool). b && memory.are_slots (with_next t).slots) head_tests.0 ∙ (named_next t shut head.slots head_tests.1).0

    pub shut_count : is_open t ≡ false → open_slots (with_next t).slots ≡ open_slots head.slots
    shut_count shut = (named_next t shut head.slots head_tests.1).1

    pub shut_last : is_open t ≡ false → memory.identity_of (with_next t) ≡ memory.identity_of head
    shut_last shut = (named_next t shut head.slots head_tests.1).2 head.made_as

    pub open_valid : is_open t ≡ true → is_numbered t.identity ≡ true → memory.is_valid (with_next t) ≡ true
    open_valid opens numbered =
        ap (λ (b : Bool). b && memory.are_slots (with_next t).slots) head_tests.0 ∙ slots.are_open t opens numbered head.slots inside head_tests.1

    pub open_last : is_open t ≡ true → is_numbered t.identity ≡ true → memory.identity_of (with_next t) ≡ t.identity
    open_last opens numbered = slots.last_opened t opens numbered head.made_as head.slots inside head_tests.1

    pub open_free : is_open t ≡ true → is_numbered t.identity ≡ true → IsFree (slice_get (with_next t).slots (open_slots (with_next t).slots))
    open_free opens numbered =
        subst (λ (k : ℕ). IsFree (slice_get (with_next t).slots k)) (sym (slots.one_opened t opens numbered head.slots inside head_tests.1)) (free_behind t head.slots head_tests.1)
