-- A machine's places in a list, and where each stands in it.
use Rattle.std.specs.Prelude.{ℕ, zero, suc, ◌≡◌, ◌+◌, nat_lt, Bool, true, false, cond, List, [], ◌∷◌, ◌++◌, length, map, Option, Some}
use Rattle.vm_types.specs.declared.ids.PlaceId.{PlaceId}
use Rattle.vm_types.specs.declared.ids.PlaceId.TheVariants as at
use Rattle.board_table.specs.Board.{Board as BoardValue}
use Rattle.guest_pages.specs.Pages.{PageValue}
use Rattle.port_table.specs.declared.state.PortState.{PortState}
use Rattle.stamp_merge.specs.declared.layout.Layout.{Layout}
use Rattle.turn_table.specs.declared.held.Held.{Held}
use Rattle.machine_places.specs.declared.place.MachinePlace.{MachinePlace}
use Rattle.machine_places.specs.declared.place.MachinePlace.TheVariants.{Page, Port, Board}

-- the place is one of so many pages and ports, or the board
abbrev pub is_laid : Layout → PlaceId → Bool
is_laid layout (at.Page i) = nat_lt i layout.pages
is_laid layout (at.Port k) = nat_lt k layout.ports
is_laid layout at.Board = true
is_laid layout at.Out = false

-- pages by number, then ports by number, then the board; a place that there isn't stands behind them
abbrev pub index_among : Layout → PlaceId → ℕ
index_among layout (at.Page i) = cond (nat_lt i layout.pages) i (i + (layout.ports + 1))
index_among layout (at.Port k) = cond (nat_lt k layout.ports) (layout.pages + k) (layout.pages + (k + 1))
index_among layout at.Board = layout.pages + layout.ports
index_among layout at.Out = layout.pages + (layout.ports + 1)

abbrev pub id_of : Held MachinePlace → PlaceId
id_of held = held.id

abbrev pub place_of : Held MachinePlace → MachinePlace
place_of held = held.place

-- n names, from the number k on
abbrev pub ids_from : (ℕ → PlaceId) → ℕ → ℕ → List PlaceId
ids_from name k zero = []
ids_from name k (suc n) = name k ∷ ids_from name (suc k) n

-- these pages, ports and board are in the list in this order
abbrev pub ArePlaces : List PageValue → List PortState → BoardValue → List (Held MachinePlace) → Type 0
ArePlaces pages ports b places = map place_of places ≡ map Page pages ++ (map Port ports ++ Board b ∷ [])

-- each with its id
pub record AreLaid (pages : List PageValue) (ports : List PortState) (b : BoardValue) (places : List (Held MachinePlace)) : Type 0 where
  pub places_are : ArePlaces pages ports b places
  pub ids_are : map id_of places ≡ ids_from at.Page 0 (length pages) ++ (ids_from at.Port 0 (length ports) ++ at.Board ∷ [])

abbrev pub pages_in : List MachinePlace → List PageValue
pages_in [] = []
pages_in (Page p ∷ places) = p ∷ pages_in places
pages_in (Port p ∷ places) = pages_in places
pages_in (Board b ∷ places) = pages_in places

abbrev pub ports_in : List MachinePlace → List PortState
ports_in [] = []
ports_in (Page p ∷ places) = ports_in places
ports_in (Port p ∷ places) = p ∷ ports_in places
ports_in (Board b ∷ places) = ports_in places

-- the last board, or the one before
abbrev pub board_in : Option BoardValue → List MachinePlace → Option BoardValue
board_in last [] = last
board_in last (Page p ∷ places) = board_in last places
board_in last (Port p ∷ places) = board_in last places
board_in last (Board b ∷ places) = board_in (Some b) places
