-- What the reader beside the slices heard.
use Rattle.std.specs.Prelude.{ℕ, ◌≡◌, ◌<◌, ◌≤◌, List, [], take}
use Rattle.vm_types.specs.Causes.{Rose}
use Rattle.vm_outside.specs.Known.{Lasts}
use Rattle.script_text.specs.declared.item.Item.{Item}
use Rattle.script_text.specs.declared.item.Item.TheVariants as item
use Rattle.serve_host.specs.Passing.{ConnKnown, Ends, Gives, Waits}
use Rattle.monitor_serving.specs.declared.listening.Heard.{Heard}
use Rattle.monitor_serving.specs.declared.listening.Heard.TheVariants as heard

-- the first of the bytes that were left, at the front of the buffer; the end; or no byte
abbrev pub HearsBy : Heard → ConnKnown → ConnKnown → List ℕ → Type 0
HearsBy (heard.Bytes count) old new buf = Gives old new (take count buf)
HearsBy heard.End old new buf = Ends old new
HearsBy heard.Fault old new buf = Waits old new
HearsBy heard.Nothing old new buf = Waits old new

-- as many bytes as there is room for at most, and one at least
abbrev pub IsWithin : Heard → ℕ → Type 0
IsWithin (heard.Bytes count) room = (0 < count) × (count ≤ room)
IsWithin it room = Unit {0}

-- a fault of the connection is told, and no other one is there
abbrev pub HeardCause : Heard → ℕ → ℕ → Type 0
HeardCause heard.Fault before now = Rose before now
HeardCause it before now = now ≡ before

-- the bytes of an item of bytes
abbrev pub bytes_in : Item → List ℕ
bytes_in (item.Bytes bytes) = bytes
bytes_in it = []

-- the connection gave these bytes, and took none meanwhile
pub record Gave (before now : ConnKnown) (bytes : List ℕ) : Type 0 where
  pub came : Gives before now bytes
  pub untaken : now.took ≡ before.took
  pub lasts : Lasts before.health now.health
