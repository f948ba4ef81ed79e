-- The sections of ports and of an entropy device are those that the test takes, and no others; and they are short.
use Rattle.std.proofs.Common.{◌≡◌, ℕ, ◌+◌, ◌≤◌, Bool, true, false, ◌&&◌, not, if◌then◌else◌, List, [], ◌∷◌, ◌++◌, length, map, Option, Some, None, refl, ap, ◌∙◌, arith, length-append}
use Rattle.std.specs.Int.{w32, to_le_bytes}
use Rattle.std.specs.List.{list_any}
use Rattle.std.specs.Str.{bytes_eq}
use Rattle.std.proofs.lemmas.Bool.{and_from, and_parts}
use Rattle.std.proofs.lemmas.List.{length-map}
use Rattle.std.proofs.lemmas.Slice.Eq.{bytes_eq-Decides}
use Rattle.api_calls.specs.declared.entropy.Entropy.{Entropy}
use Rattle.port_table.specs.declared.state.PortState.{PortState}
use Rattle.snap_state.specs.declared.sections.Section.{Section}
use Rattle.snap_state.specs.declared.sections.Section.TheVariants as section
use Rattle.snap_state.specs.Sections.{are_configured, are_sections, configured, entropy_in, is_offering, offering_byte, offering_bytes, sections_of}

-- ---- of an entropy device

configured_known : (sections : List Section) → are_configured sections ≡ true → sections ≡ configured (entropy_in sections)
configured_known [] is = refl
configured_known (section.Entropy e ∷ []) is = refl
configured_known (section.Entropy e ∷ t ∷ others) is = cc
configured_known (section.Offering bytes ∷ others) is = cc

configured_taken : (e : Option Entropy) → are_configured (configured e) ≡ true
configured_taken None = refl
configured_taken (Some e) = refl

-- ---- and of what is offered

abbrev offering_if : Bool → List ℕ → List Section
offering_if there bytes = if there then section.Offering bytes ∷ [] else []

none_offered : (there : Bool) (bytes : List ℕ) (sections : List Section) → (not there && are_configured sections) ≡ true
    → sections ≡ offering_if there bytes ++ configured (entropy_in sections)
none_offered true bytes sections is = absurd cc
none_offered false bytes sections is = configured_known sections is

pub sections_known : (ports : List PortState) (sections : List Section) → are_sections ports sections ≡ true
    → sections ≡ sections_of ports (entropy_in sections)
sections_known ports [] is = none_offered (list_any is_offering ports) (offering_bytes ports) [] is
sections_known ports (section.Entropy e ∷ others) is =
    none_offered (list_any is_offering ports) (offering_bytes ports) (section.Entropy e ∷ others) is
sections_known ports (section.Offering bytes ∷ others) is =
    let both = and_parts (list_any is_offering ports && bytes_eq bytes (offering_bytes ports)) (are_configured others) is in
    let own = and_parts (list_any is_offering ports) (bytes_eq bytes (offering_bytes ports)) both.0 in
    let same : bytes ≡ offering_bytes ports = (bytes_eq-Decides bytes (offering_bytes ports)).0 own.1 in
    rw own.0 (ap (λ (b : List ℕ). section.Offering b ∷ others) same
    ∙ ap (λ (l : List Section). section.Offering (offering_bytes ports) ∷ l) (configured_known others both.1))

module _ (ports : List PortState) where
  plain_taken : (e : Option Entropy) → list_any is_offering ports ≡ false → are_sections ports (configured e) ≡ true
  plain_taken None is = rw is refl
  plain_taken (Some e) is = rw is refl

  pub sections_taken : (e : Option Entropy) → are_sections ports (sections_of ports e) ≡ true
  sections_taken e = by (list_any is_offering ports) refl
    where
      by : (there : Bool) → list_any is_offering ports ≡ there
          → are_sections ports (offering_if there (offering_bytes ports) ++ configured e) ≡ true
      by true is =
          and_from (list_any is_offering ports && bytes_eq (offering_bytes ports) (offering_bytes ports)) (are_configured (configured e))
          (and_from (list_any is_offering ports) (bytes_eq (offering_bytes ports) (offering_bytes ports)) is
          ((bytes_eq-Decides (offering_bytes ports) (offering_bytes ports)).1 refl))
          (configured_taken e)
      by false is = plain_taken e is

-- they tell the entropy device
entropy_configured : (e : Option Entropy) → entropy_in (configured e) ≡ e
entropy_configured None = refl
entropy_configured (Some e) = refl

pub entropy_told : (ports : List PortState) (e : Option Entropy) → entropy_in (sections_of ports e) ≡ e
entropy_told ports e = by (list_any is_offering ports)
  where
    by : (there : Bool) → entropy_in (offering_if there (offering_bytes ports) ++ configured e) ≡ e
    by true = entropy_configured e
    by false = entropy_configured e

-- ---- how many bytes a section has, its tag and its count among them

abbrev pub tagged_most : Section → ℕ
tagged_most (section.Offering bytes) = 4 + length bytes
tagged_most (section.Entropy e) = 57

abbrev pub section_most : Section → ℕ
section_most s = 4 + tagged_most s

pub offering_short : (ports : List PortState) → length (offering_bytes ports) ≡ 4 + length ports
offering_short ports =
    let front : length (to_le_bytes w32 (length ports)) ≡ 4 = refl in
    omega (arith, front, length-append (to_le_bytes w32 (length ports)) (map offering_byte ports), length-map ports offering_byte)

pub two_at_most : (ports : List PortState) (e : Option Entropy) → length (sections_of ports e) ≤ 2
two_at_most ports e = by (list_any is_offering ports) e
  where
    by : (there : Bool) (o : Option Entropy) → length (offering_if there (offering_bytes ports) ++ configured o) ≤ 2
    by true None = omega arith
    by true (Some x) = omega arith
    by false None = omega arith
    by false (Some x) = omega arith
