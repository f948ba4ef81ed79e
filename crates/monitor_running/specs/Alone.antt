-- Events of one hart alone.
use Rattle.std.specs.Prelude.{ℕ, ◌≡◌, List}
use Rattle.vm_types.specs.declared.entry.Entry.{Entry}
use Rattle.vm_types.specs.declared.ids.ActorId.{ActorId}
use Rattle.serve_host.specs.Events.{event_items}
use Rattle.serve_host.specs.Tracing.{steps_of}
use Rattle.flat_guest.specs.Guest.{Guest}
use Rattle.vm_world.specs.Worlds.{IsWorld, WorldValue}
use Rattle.slice_runner.specs.Slices.{Leads}

-- so many of them lead from each guest that the world was to one that it is, and each is told as a step of the hart
abbrev pub HasRun : ℕ → ℕ → WorldValue → WorldValue → Type 0
HasRun hart made old new =
    (g : Guest) → IsWorld old g
    → (es : List Entry) × (h : Guest) × Leads g es h × IsWorld new h × (event_items es ≡ steps_of (ActorId.Hart hart) made)
