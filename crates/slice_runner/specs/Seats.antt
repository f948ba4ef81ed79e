-- Actors at the places of a slice.
use Rattle.std.specs.Prelude.{◌≡◌, []}
use Rattle.atomic_table.specs.declared.shared.Seat.{Seat}
use Rattle.turn_table.specs.declared.held.Held.{Held}
use Rattle.turn_table.specs.declared.view.Round.{Round}
use Rattle.turn_table.specs.declared.view.View.{View}
use Rattle.turn_table.specs.Steps.{IsReady}
use Rattle.turn_work.specs.declared.worker.Worker.{Worker}
use Rattle.turn_work.specs.Work.{AreNamed, HasNoted, IsAtWork}
use Rattle.machine_places.specs.declared.place.MachinePlace.{MachinePlace}
use Rattle.machine_places.specs.Laid.{index_among}
use Rattle.slice_runner.specs.Blanks.{AreMade}
use Rattle.slice_runner.specs.declared.places.Places.{Places}

-- the seat may act at these places, each of which is at its index and made where it is marked so, and nothing was done with
-- it in this round
pub record IsBare (places : Places) (seat : Seat (Held MachinePlace) (View MachinePlace)) : Type 0 where
  pub ready : IsReady places.turns.table.shared.table_id places.turns.round seat
  pub bare : seat.me.0.entries ≡ []
  pub named : AreNamed (index_among places.layout) seat.me.0.round
  pub made : AreMade places.layout places.made.items seat.me.0.round

-- the actor's seat may act at these places, each of which is at its index and made where it is marked so, and has noted just those
-- entries of its journal that have a place
pub record IsSeated (places : Places) (w : Worker MachinePlace) : Type 0 where
  pub work : IsAtWork places.turns.table.shared.table_id places.turns.round w
  pub named : AreNamed (index_among places.layout) w.seat.me.0.round
  pub made : AreMade places.layout places.made.items w.seat.me.0.round
  pub noted : HasNoted w.seat.me.0.round (index_among places.layout) w.seat.me.0 w.journal.items

-- in this round
pub record IsSeatedIn (places : Places) (round : Round MachinePlace) (w : Worker MachinePlace) : Type 0 where
  pub seat : IsSeated places w
  pub round_is : w.seat.me.0.round ≡ round

-- in the round in which it was
abbrev pub StaysSeated : Places → Worker MachinePlace → Worker MachinePlace → Type 0
StaysSeated places before after = IsSeatedIn places before.seat.me.0.round after
