-- What stands before the pages of a memory file, and which pages follow.
use Rattle.std.specs.Prelude.{◌≡◌, ℕ, Bool, true, false, IsTrue, List, length, Option, Some, None, Vec}
use Rattle.std.specs.Global.{Global}
use Rattle.vm_types.specs.declared.identity.Identity.{Identity}
use Rattle.file_format.specs.Identities.{is_numbered, is_same}
use Rattle.guest_pages.specs.Pages.{PageValue, flat_of}
use Rattle.snap_diff.specs.Copies.{pages_at}
use Rattle.snap_diff.specs.Runs.{kinds_of}
use Rattle.flat_guest.specs.Guest.{Guest}
use Rattle.flat_snapshot.specs.Files.{head_of, saved_pages}
use Rattle.snap_writer.specs.Selected.{can_select, selected}
use Rattle.vm_world.specs.Worlds.{IsWorld, WorldValue}
use Rattle.monitor_plans.specs.declared.heading.Heading.{Heading}

-- a diff is one since another snapshot, which has a number
abbrev pub HasParent : Option Identity → Identity → Type 0
HasParent None identity = Unit {0}
HasParent (Some parent) identity = IsTrue (is_numbered parent) × (is_same parent identity ≡ false)

abbrev pub numbers_in : Option (Vec ℕ Global) → Option (List ℕ)
numbers_in None = None
numbers_in (Some numbers) = Some numbers.items

-- which of the pages of these numbers aren't of zeros
abbrev pub kinds_in : List PageValue → List ℕ → List Bool
kinds_in pages numbers = kinds_of (length numbers) (pages_at numbers (flat_of pages).bytes)

-- of each guest that the world is, whose pages are those of these numbers
pub record IsHeading (it : Heading) (parent : Option Identity) (identity : Identity) (pages : ℕ) (w : WorldValue) : Type 0 where
  pub there : can_select (numbers_in it.numbers) (length w.pages) ≡ true
  pub head_is : (g : Guest) → IsWorld w g → it.head ≡ head_of parent identity pages g
  pub pages_are : (g : Guest) → IsWorld w g → selected (numbers_in it.numbers) g.memory.bytes ≡ saved_pages parent pages g
