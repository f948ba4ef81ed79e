-- Room for a slice, made before its first step.
use Rattle.std.specs.Prelude.{ℕ, ◌≡◌, ◌+◌, ◌*◌, ◌≤◌, [], All, length, vec_capacity}
use Rattle.slice_runner.specs.declared.room.Counts.{Counts}
use Rattle.slice_runner.specs.declared.room.CrewRoom.{CrewRoom}
use Rattle.slice_runner.specs.declared.room.HomeRoom.{HomeRoom}
use Rattle.slice_runner.specs.declared.room.PlaceRoom.{PlaceRoom}
use Rattle.slice_runner.specs.declared.room.PostRoom.{PostRoom}
use Rattle.slice_runner.specs.declared.room.Room.{Room}
use Rattle.slice_runner.specs.declared.room.WorkRoom.{WorkRoom}

-- empty lists with room for so many pages and ports and the board in one, and for the pages and the ports
pub record ForPlaces (pages ports : ℕ) (room : PlaceRoom) : Type 0 where
  pub no_places : room.places.items ≡ []
  pub for_places : pages + (ports + 1) ≤ vec_capacity room.places
  pub no_pages : room.pages.items ≡ []
  pub for_pages : pages ≤ vec_capacity room.pages
  pub no_ports : room.ports.items ≡ []
  pub for_ports : ports ≤ vec_capacity room.ports
  pub no_made : room.made.items ≡ []
  pub for_made : pages ≤ vec_capacity room.made

abbrev pub counts_of : ℕ → ℕ → ℕ → Counts
counts_of harts devices passes = record { harts = harts; devices = devices; passes = passes }

-- the timer, the harts and the devices
abbrev pub actors_in : Counts → ℕ
actors_in counts = counts.harts + (counts.devices + 1)

-- with room for so many actors and passes, an empty journal for each actor, and a pool of so many blanks for each
pub record ForWork {Q : Type 0} (actors passes blanks : ℕ) (room : WorkRoom Q) : Type 0 where
  pub no_tracks : room.tracks.items ≡ []
  pub for_tracks : actors ≤ vec_capacity room.tracks
  pub none_left : room.left.items ≡ []
  pub for_left : passes ≤ vec_capacity room.left
  pub blank : length room.blank.items ≡ actors
  pub are_blank : All (λ journal. journal.items ≡ []) room.blank.items
  pub pools : length room.pools.items ≡ actors
  pub filled : All (λ pool. length pool.items ≡ blanks) room.pools.items

-- with room for so many harts and devices at work, and for what all actors did
pub record ForPosts {Q : Type 0} (counts : Counts) (room : PostRoom Q) : Type 0 where
  pub no_workers : room.workers.items ≡ []
  pub for_workers : counts.harts ≤ vec_capacity room.workers
  pub no_devices : room.devices.items ≡ []
  pub for_devices : counts.devices ≤ vec_capacity room.devices
  pub no_tracks : room.tracks.items ≡ []
  pub for_tracks : actors_in counts ≤ vec_capacity room.tracks

-- with room for what so many actors did
pub record IsHome (actors : ℕ) (room : HomeRoom) : Type 0 where
  pub no_journals : room.journals.items ≡ []
  pub for_journals : actors ≤ vec_capacity room.journals
  pub no_stops : room.stops.items ≡ []
  pub for_stops : actors ≤ vec_capacity room.stops
  pub no_pools : room.pools.items ≡ []
  pub for_pools : actors ≤ vec_capacity room.pools

-- and for so many harts and devices
pub record ForHome (counts : Counts) (room : HomeRoom) : Type 0 where
  pub no_harts : room.harts.items ≡ []
  pub for_harts : counts.harts ≤ vec_capacity room.harts
  pub no_devices : room.devices.items ≡ []
  pub for_devices : counts.devices ≤ vec_capacity room.devices
  pub done : IsHome (actors_in counts) room

-- so many steps of each actor have room in its journal, and all of them in the list of events
pub record ForCrew {Q : Type 0} (counts : Counts) (n blanks : ℕ) (room : CrewRoom Q) : Type 0 where
  pub work : ForWork (actors_in counts) counts.passes blanks room.work
  pub posts : ForPosts counts room.posts
  pub entries : All (λ journal. n ≤ vec_capacity journal) room.work.blank.items
  pub no_passes : room.passes.items ≡ []
  pub for_passes : counts.passes ≤ vec_capacity room.passes
  pub home : ForHome counts room.home
  pub no_resting : room.resting.items ≡ []
  pub no_events : room.events.items ≡ []
  pub for_events : actors_in counts * n ≤ vec_capacity room.events

pub record HasRoom {Q : Type 0} (pages ports : ℕ) (counts : Counts) (n blanks : ℕ) (room : Room Q) : Type 0 where
  pub places : ForPlaces pages ports room.places
  pub crew : ForCrew counts n blanks room.crew

-- one actor more came home, and no room is gone
pub record GrowsByOne (old new : HomeRoom) : Type 0 where
  pub pools : length new.pools.items ≡ length old.pools.items + 1
  pub for_pools : vec_capacity new.pools ≡ vec_capacity old.pools
  pub for_journals : vec_capacity new.journals ≡ vec_capacity old.journals
  pub for_stops : vec_capacity new.stops ≡ vec_capacity old.stops
