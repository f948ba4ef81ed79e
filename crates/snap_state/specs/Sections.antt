-- What stands in the sections of a state file. Tag 1: which devices offer indirect descriptors and the event index. Tag 3: the entropy
-- device, as it is configured.
use Rattle.std.specs.Prelude.{ℕ, Bool, true, false, ◌&&◌, not, if◌then◌else◌, Option, Some, None, List, [], ◌∷◌, ◌++◌, length, map}
use Rattle.std.specs.Int.{w32, to_le_bytes}
use Rattle.std.specs.List.{list_any}
use Rattle.std.specs.Str.{bytes_eq}
use Rattle.api_calls.specs.declared.entropy.Entropy.{Entropy}
use Rattle.port_table.specs.declared.state.PortState.{PortState}
use Rattle.port_table.specs.Ports.{queue_features}
use Rattle.port_table.specs.Registers.{has_bits}
use Rattle.snap_state.specs.declared.sections.Section.{Section}
use Rattle.snap_state.specs.declared.sections.Section.TheVariants as section

-- ---- what is offered

-- the device of this port offers both
abbrev pub is_offering : PortState → Bool
is_offering p = has_bits p.offered queue_features

abbrev pub offering_byte : PortState → ℕ
offering_byte p = if is_offering p then 1 else 0

-- how many devices there are, and a byte a device: 1 where it offers them
abbrev pub offering_bytes : List PortState → List ℕ
offering_bytes ports = to_le_bytes w32 (length ports) ++ map offering_byte ports

-- the section is there exactly where a device offers them
abbrev pub offering : List PortState → List Section
offering ports = if list_any is_offering ports then section.Offering (offering_bytes ports) ∷ [] else []

-- ---- the entropy device

-- the section is there exactly where the device is
abbrev pub configured : Option Entropy → List Section
configured None = []
configured (Some e) = section.Entropy e ∷ []

abbrev pub entropy_by : Section → Option Entropy
entropy_by (section.Offering bytes) = None
entropy_by (section.Entropy e) = Some e

abbrev pub this_or : Option Entropy → Option Entropy → Option Entropy
this_or None found = found
this_or (Some e) found = Some e

-- as it is configured by these sections, if it is
abbrev pub entropy_in : List Section → Option Entropy
entropy_in [] = None
entropy_in (it ∷ others) = this_or (entropy_by it) (entropy_in others)

-- ---- both, by their tags

abbrev pub sections_of : List PortState → Option Entropy → List Section
sections_of ports entropy = offering ports ++ configured entropy

-- ---- the same as a test

-- of an entropy device alone, or none
abbrev pub are_configured : List Section → Bool
are_configured [] = true
are_configured (section.Entropy e ∷ []) = true
are_configured sections = false

abbrev pub are_sections : List PortState → List Section → Bool
are_sections ports (section.Offering bytes ∷ others) =
    list_any is_offering ports && bytes_eq bytes (offering_bytes ports) && are_configured others
are_sections ports sections = not (list_any is_offering ports) && are_configured sections
