-- The header of a memory file: 4,096 bytes, and then the pages. Numbers are little-endian.
use Rattle.std.specs.Prelude.{◌≡◌, ℕ, ◌&&◌, Bool, true, IsTrue, if◌then◌else◌, List, [], ◌∷◌, ◌++◌, replicate, refl}
use Rattle.std.specs.Prelude.{Result, Ok, Err}
use Rattle.std.specs.List.{list_all}
use Rattle.vm_types.specs.declared.identity.Identity.{Identity}
use Rattle.file_format.specs.Format.{Format}
use Rattle.file_format.specs.Kinds.{byte, number32, fixed, zeros, times, ◌&◌, made_of}
use Rattle.file_format.specs.Identities.{identity, is_numbered}
use Rattle.file_format.specs.declared.error.ReadError.{ReadError}
use Rattle.file_format.specs.declared.error.ReadError.TheVariants.{Bad, Memory}
use Rattle.snap_memory.specs.declared.slot.Slot.{Slot}
use Rattle.snap_memory.specs.declared.header.MemHeader.{MemHeader}
use Rattle.snap_memory.specs.Slots.{slot, is_open, is_zero}

-- ---- the encoding

-- "RVFCMEM", and version 1
abbrev pub magic : List ℕ
magic = 82 ∷ 86 ∷ 70 ∷ 67 ∷ 77 ∷ 69 ∷ 77 ∷ 1 ∷ 0 ∷ 0 ∷ 0 ∷ []

-- the open gate, magic and version, the number of pages, the identity that the file was made with, the merging byte and
-- zeros to 64; 100 slots, and zeros to 4,096
unfoldable pub header : Format MemHeader
header =
    made_of (λ h. (tt, (tt, (h.pages, (h.made_as, (h.merging, (tt, (h.slots, tt))))))))
    (λ (_, (_, (pages, (made_as, (merging, (_, (slots, _))))))).
    record { pages = pages; made_as = made_as; merging = merging; slots = slots })
    (λ _. refl) (λ _. refl)
    (fixed (1 ∷ []) & fixed magic & number32 & identity & byte & zeros 31 & times 100 slot & zeros 832)

-- the same behind the open gate
unfoldable pub behind_gate : Format MemHeader
behind_gate =
    made_of (λ h. (tt, (h.pages, (h.made_as, (h.merging, (tt, (h.slots, tt)))))))
    (λ (_, (pages, (made_as, (merging, (_, (slots, _)))))).
    record { pages = pages; made_as = made_as; merging = merging; slots = slots })
    (λ _. refl) (λ _. refl)
    (fixed magic & number32 & identity & byte & zeros 31 & times 100 slot & zeros 832)

-- ---- which headers there are

-- Leading open slots have numbers. The first that isn't open is free, but for its 15 zeros; all behind it are zeros.
abbrev pub are_slots : List Slot → Bool
are_slots [] = true
are_slots (s ∷ others) = if is_open s then is_numbered s.identity && are_slots others else list_all is_zero others

abbrev pub is_valid : MemHeader → Bool
is_valid h = is_numbered h.made_as && are_slots h.slots

-- the identity of what the file holds: that of the last of the leading open slots, or the one that it was made with
abbrev pub last_identity : Identity → List Slot → Identity
last_identity made_as [] = made_as
last_identity made_as (s ∷ others) = if is_open s then last_identity s.identity others else made_as

abbrev pub identity_of : MemHeader → Identity
identity_of h = last_identity h.made_as h.slots

-- as a create makes it: no merge has begun
abbrev pub new_header : ℕ → Identity → MemHeader
new_header pages made_as = record {
  pages = pages;
  made_as = made_as;
  merging = 0;
  slots = replicate 100 (record { identity = record { lineage = 0; number = 0 }; gate = 0 });
}

-- these bytes begin with this header, and the pages follow it
pub record Begins (given : List ℕ) (h : MemHeader) : Type 0 where
  pub fits : header.Fits h
  pub valid : IsTrue (is_valid h)
  pub pages : List ℕ
  pub bytes : given ≡ header.bytes h ++ pages

-- ---- for the parts of the code

-- the header at a front whose gate, magic and version were tested
abbrev pub Found : List ℕ → Result MemHeader ReadError → Type 0
Found given (Ok h) = Begins given h
Found given (Err Bad) = (h : MemHeader) → ¬ (Begins given h)
Found given (Err Memory) = Unit {0}
