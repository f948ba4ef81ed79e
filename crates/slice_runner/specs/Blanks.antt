-- Pages that were made when a slice began, and blanks for the others.
use Rattle.std.specs.Prelude.{ℕ, ◌≡◌, ◌+◌, ◌<◌, ◌⊎◌, min, Bool, true, List, length, slice_index_or}
use mathlib.Core.Option.{some}
use lib.ListN.{get_elem?}
use Rattle.vm_types.specs.declared.ids.PlaceId.{PlaceId}
use Rattle.vm_types.specs.declared.op.Op.{Op}
use Rattle.guest_pages.specs.Made.{unmade}
use Rattle.guest_pages.specs.Pages.{PageValue}
use Rattle.machine_places.specs.Acts.{IsMade}
use Rattle.machine_places.specs.declared.place.MachinePlace.{MachinePlace}
use Rattle.stamp_merge.specs.declared.layout.Layout.{Layout}
use Rattle.turn_table.specs.declared.held.Held.{Held}
use Rattle.turn_table.specs.declared.view.Round.{Round}
use Rattle.slice_runner.specs.Values.{route_among}

-- of these pages the place was made; what is no page is made
abbrev pub made_at : List Bool → PlaceId → Bool
made_at made (PlaceId.Page i) = slice_index_or made i true
made_at made place = true

-- the place of an op was
abbrev pub was_made : List Bool → Layout → Op → Bool
was_made made layout op = made_at made (route_among layout op)

-- so it stands in the round that began then, which has all places
pub record AreMade (layout : Layout) (made : List Bool) (round : Round MachinePlace) : Type 0 where
  pub many : length round.opens ≡ layout.pages + (layout.ports + 1)
  pub each : (i : ℕ) (first : Held MachinePlace) → get_elem? round.opens i ≡ some first → made_at made first.id ≡ true → IsMade first.place

-- an act can be made: its place was made then, or there is a blank
abbrev pub CanAct : List Bool → Layout → Op → ℕ → Type 0
CanAct made layout op blanks = (was_made made layout op ≡ true) ⊎ (0 < blanks)

-- how many blanks an actor has at first: as many as it may make steps, or as there are pages that aren't made, and 256 at most
abbrev pub pool_of : ℕ → List PageValue → ℕ
pool_of n pages = min (min n (unmade pages)) 256
