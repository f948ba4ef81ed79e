-- What files in memory hold is one of the images that a crash may leave.
use Rattle.std.specs.Prelude.{◌≡◌, true, List, [], ◌∷◌, is_some}
use Rattle.std.specs.FinMap.{get}
use Rattle.std.proofs.Common.{sym, subst}
use Rattle.std.proofs.lemmas.Bool.{and_parts}
use Rattle.vm_types.specs.Saved.{Saved}
use Rattle.vm_outside.specs.Crashes.{Images}
use Rattle.vm_outside.proofs.Imaging.{disk_of, made_image, none_image, synced_image, wrote_image}
use Rattle.outside_mem.specs.declared.file_event.FileEvent.{FileEvent}
use Rattle.outside_mem.specs.declared.file_event.FileEvent.TheVariants.{Made, Wrote, Synced}
use Rattle.outside_mem.specs.Saving.{calls_of, found_theirs, saved_after}

pub images_of : (events : List FileEvent) → found_theirs events ≡ true → Images (calls_of events) (disk_of (saved_after events))
images_of [] found = none_image
images_of (Made name ∷ events) found = made_image (calls_of events) (saved_after events) name (images_of events found)
images_of (Wrote name at bytes ∷ events) found =
    wrote_image (calls_of events) (saved_after events) name at bytes
    (and_parts (is_some (get (saved_after events) name)) (found_theirs events) found).0
    (images_of events (and_parts (is_some (get (saved_after events) name)) (found_theirs events) found).1)
images_of (Synced name ∷ events) found = synced_image (calls_of events) (saved_after events) name (images_of events found)

pub image_of : (events : List FileEvent) (files : Saved) → files ≡ saved_after events → found_theirs events ≡ true
    → Images (calls_of events) (λ name. get files name)
image_of events files kept found =
    subst (λ (m : Saved). Images (calls_of events) (λ name. get m name)) (sym kept) (images_of events found)
