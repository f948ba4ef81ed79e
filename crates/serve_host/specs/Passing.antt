-- What is known of a connection, and what each call leaves of that.
use Rattle.std.specs.Prelude.{◌≡◌, ◌≤◌, ◌<◌, ℕ, List, ◌++◌, [], take, Result, MatchResult}
use Rattle.vm_outside.specs.Known.{Health}
use Rattle.serve_host.specs.declared.conn.Got.{Got}
use Rattle.serve_host.specs.declared.conn.Got.TheVariants.{Bytes, NotYet, End}

-- the bytes that a connection gave, those that it took, and those that it has left to give before its end
pub record ConnKnown : Type 0 where
  pub health : Health
  pub gave : List ℕ
  pub took : List ℕ
  pub left : List ℕ

-- no byte came
pub record Waits (old new : ConnKnown) : Type 0 where
  pub gave : new.gave ≡ old.gave
  pub left : new.left ≡ old.left

-- these bytes came, the first of those that were left
pub record Gives (old new : ConnKnown) (bytes : List ℕ) : Type 0 where
  pub gave : new.gave ≡ old.gave ++ bytes
  pub left : old.left ≡ bytes ++ new.left

-- the end of a connection, which has nothing left
pub record Ends (old new : ConnKnown) : Type 0 where
  pub waits : Waits old new
  pub left : old.left ≡ []

-- how many bytes came: at least one, and no more than there is room
abbrev pub IsWithin : Got → ℕ → Type 0
IsWithin (Bytes count) room = (0 < count) × (count ≤ room)
IsWithin NotYet room = Unit {0}
IsWithin End room = Unit {0}

-- what came stands at the front of the buffer
abbrev pub Comes : ConnKnown → ConnKnown → List ℕ → Got → Type 0
Comes old new buf (Bytes count) = Gives old new (take count buf)
Comes old new buf NotYet = Waits old new
Comes old new buf End = Ends old new

-- `read` gives some of the bytes that are left; where it fails, none
abbrev pub Reads : {E : Type 0} → ConnKnown → ConnKnown → Result Got E → List ℕ → Type 0
Reads old new result buf = MatchResult result (Comes old new buf) (λ _. Waits old new)
