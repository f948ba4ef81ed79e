-- A guest behind a snapshot.
use Rattle.std.specs.Prelude.{◌≡◌, Option, Some, None}
use Rattle.guest_pages.specs.Pages.{cleared}
use Rattle.vm_world.specs.Worlds.{IsWorldReset, WorldValue}

-- a world that was saved: behind a Reset, with no page marked
abbrev pub IsSavedWorld : Option WorldValue → Option WorldValue → Type 0
IsSavedWorld None now = now ≡ None
IsSavedWorld (Some w) now = (v : WorldValue) × IsWorldReset w v × (now ≡ Some (record v { pages = cleared v.pages }))
