-- Files of bytes.
use Rattle.std.specs.Prelude.{◌≡◌, ℕ, List, Some}
use Rattle.std.specs.FinMap.{get}
use Rattle.vm_types.specs.Saved.{Saved}
use Rattle.file_format.specs.Format.{IsBytes}

-- each file holds bytes
abbrev pub AreBytes : Saved → Type 0
AreBytes saved = (name content : List ℕ) → get saved name ≡ Some content → IsBytes content
