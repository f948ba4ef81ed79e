-- The page that a hart's instructions are in.
use Rattle.std.specs.Prelude.{◌≡◌, ◌<◌, true, List, length}
use Rattle.guest_pages.specs.Made.{is_made}
use Rattle.guest_pages.specs.Pages.{PageValue, page_start}
use Rattle.guest_pages.specs.declared.page_set.code.CodePage.{CodePage}

-- one of these pages, which is made, and where it begins
pub record IsCode (code : CodePage) (pages : List PageValue) : Type 0 where
  pub there : code.number < length pages
  pub made : is_made pages code.number ≡ true
  pub start : code.start ≡ page_start code.number
