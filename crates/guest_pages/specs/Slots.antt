-- What a page of a set is: one that isn't made is zeros.
use Rattle.guest_pages.specs.Pages.{PageValue, new_page}
use Rattle.guest_pages.specs.declared.slot.State.{State}
use Rattle.guest_pages.specs.declared.slot.State.TheVariants.{Unmade, Made}

abbrev pub shown : State → PageValue
shown (Unmade number) = new_page number
shown (Made page) = page
