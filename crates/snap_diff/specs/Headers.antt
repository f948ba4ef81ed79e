-- The header of a diff file, of either version: 64 bytes.
use Rattle.std.specs.Prelude.{◌≡◌, ℕ, ◌&&◌, Bool, not, List, [], ◌∷◌, ◌++◌, refl}
use Rattle.std.proofs.Common.{ap, sym}
use Rattle.file_format.specs.Format.{Format}
use Rattle.file_format.specs.Kinds.{number32, fixed, zeros, ◌&◌, made_of, variant, chosen_by}
use Rattle.file_format.specs.Identities.{identity, is_numbered, is_same}
use Rattle.file_format.specs.Versions.{version, version_bytes}
use Rattle.file_format.specs.declared.version.Version.{Version}
use Rattle.file_format.specs.declared.version.Version.TheVariants.{One, Two}
use Rattle.snap_diff.specs.declared.header.DiffHeader.{DiffHeader}
use Rattle.snap_diff.specs.declared.header.DiffNames.{DiffNames}
use Rattle.snap_diff.specs.Copies.{DiffCopy}

-- "RVFCDIF"
abbrev pub kind : List ℕ
kind = 82 ∷ 86 ∷ 70 ∷ 67 ∷ 68 ∷ 73 ∷ 70 ∷ []

-- and the version
abbrev pub magic : Version → List ℕ
magic v = kind ++ version_bytes v

-- How many entries the table has, and how many pages are stored behind it; and zeros to 64. In version 1 each entry has a
-- page, and the second isn't said.
unfoldable pub counts : Version → Format (ℕ × ℕ)
counts One = variant (λ (count, _). (count, count)) (λ c. (c.0, tt)) (λ _. refl) (number32 & zeros 12)
counts Two =
    made_of (λ c. (c.0, (c.1, tt))) (λ (count, (stored, _)). (count, stored)) (λ _. refl) (λ _. refl)
    (number32 & number32 & zeros 8)

-- the number of pages of the memory, the parent's identity and the diff's own
unfoldable pub names : Format DiffNames
names =
    made_of (λ n. (n.pages, (n.parent, n.identity)))
    (λ (pages, (parent, identity)). record { pages = pages; parent = parent; identity = identity })
    (λ _. refl) (λ _. refl)
    (number32 & identity & identity)

-- kind and version, and the names
abbrev pub front : Format (Unit {0} × (Version × DiffNames))
front = fixed kind & version & names

abbrev pub front_of : DiffHeader → Unit {0} × (Version × DiffNames)
front_of h = (tt, (h.version, h.names))

-- with these counts
abbrev pub counted : Unit {0} × (Version × DiffNames) → ℕ × ℕ → DiffHeader
counted (_, (v, ns)) c = record { version = v; names = ns; count = c.0; stored = c.1 }

abbrev pub behind_front : Unit {0} × (Version × DiffNames) → Format DiffHeader
behind_front f = variant (counted f) (λ h. (h.count, h.stored)) (λ _. refl) (counts f.1.0)

pub front_is : (f : Unit {0} × (Version × DiffNames)) (h : DiffHeader) → (behind_front f).Fits h → f ≡ front_of h
front_is f h fits = sym (ap front_of fits.0)

-- a header behind the open gate
unfoldable pub behind_gate : Format DiffHeader
behind_gate = chosen_by front behind_front front_of front_is

-- and with it
unfoldable pub header : Format DiffHeader
header = made_of (λ h. (tt, h)) (λ (_, h). h) (λ _. refl) (λ _. refl) (fixed (1 ∷ []) & behind_gate)

-- two snapshots that have numbers, and are not one
abbrev pub are_names : DiffNames → Bool
are_names n = is_numbered n.parent && is_numbered n.identity && not (is_same n.parent n.identity)

-- those of a diff
abbrev pub names_of : DiffCopy → DiffNames
names_of d = record { pages = d.pages; parent = d.parent; identity = d.identity }
