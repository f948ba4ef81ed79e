-- A world whose places are in a table of turns.
use Rattle.std.specs.Prelude.{ℕ, ◌≡◌, ◌+◌, ◌≤◌, [], length, vec_capacity}
use Rattle.vm_world.specs.declared.world.parting.WorldParts.{WorldParts}
use Rattle.vm_world.specs.Worlds.{WorldValue, world_with}
use Rattle.machine_places.specs.Laid.{AreLaid}
use Rattle.slice_runner.specs.declared.sharing.Opened.{Opened}
use Rattle.guest_pages.specs.Made.{made_of}
use Rattle.slice_runner.specs.Seats.{IsBare}
use Rattle.slice_runner.specs.Values.{layout_in}

abbrev pub world_of : WorldParts → WorldValue
world_of parts =
    world_with parts.pages.items parts.board parts.ports.items parts.timer parts.harts.items parts.devices.items

-- the world's places, as they stand in it, are in a table; the seat has all parts of the right to act on them, one for each actor and
-- one more, where so many devices act; there is room for its pages and its ports
pub record IsOpened (w : WorldValue) (acting : ℕ) (opened : Opened) : Type 0 where
  pub seat : IsBare opened.places opened.seat
  pub all : opened.seat.me.0.parts ≡ opened.places.turns.table.shared.key.parts
  pub parts : opened.seat.me.0.parts ≡ length opened.harts.items + (acting + 2)
  pub layout : opened.places.layout ≡ layout_in w
  pub made : opened.places.made.items ≡ made_of w.pages
  pub laid : AreLaid w.pages w.ports w.board opened.seat.me.0.round.opens
  pub timer : opened.timer ≡ w.timer
  pub harts : opened.harts.items ≡ w.harts
  pub devices : opened.devices.items ≡ w.devices
  pub no_pages : opened.pages.items ≡ []
  pub for_pages : length w.pages ≤ vec_capacity opened.pages
  pub no_ports : opened.ports.items ≡ []
  pub for_ports : length w.ports ≤ vec_capacity opened.ports

-- these are the same parts
pub record AreBackParts (parts back : WorldParts) : Type 0 where
  pub pages : back.pages.items ≡ parts.pages.items
  pub world : world_of back ≡ world_of parts
