-- What is known of a listener, and what each call leaves of that.
use Rattle.std.specs.Prelude.{◌≡◌, ℕ, List, [], ◌∷◌, ◌++◌, Option, Some, Result, MatchResult}
use Rattle.vm_outside.specs.Known.{Health, Tells}
use Rattle.serve_host.specs.Passing.{ConnKnown}
use Rattle.serve_host.specs.declared.listener.Accepted.{Accepted}
use Rattle.serve_host.specs.declared.listener.Accepted.TheVariants as accepted

-- a connection that is over: what it gave, took and had left, and how many of its calls had failed
pub record Ended : Type 0 where
  pub gave : List ℕ
  pub took : List ℕ
  pub left : List ℕ
  pub faults : ℕ

-- the path under which it listens, what each of the connections that are to come will give, and the connections that are over,
-- the newest first
pub record ListenerKnown : Type 0 where
  pub health : Health
  pub path : Option (List ℕ)
  pub coming : List (List ℕ)
  pub ended : List Ended

-- it listens under the same path
abbrev pub ListenerStays : ListenerKnown → ListenerKnown → Type 0
ListenerStays old new = Tells old.health → new.path ≡ old.path

-- no connection came, and none ended
pub record SameConnections (old new : ListenerKnown) : Type 0 where
  pub coming : new.coming ≡ old.coming
  pub ended : new.ended ≡ old.ended

-- `listen`: it listens under this path; where it fails, under the one of before
pub record Listens {T E : Type 0} (old : ListenerKnown) (under : List ℕ) (result : Result T E) (new : ListenerKnown) :
    Type 0 where
  pub path : MatchResult result (λ _. new.path ≡ Some under) (λ _. new.path ≡ old.path)
  pub same : SameConnections old new

-- a connection that gave and took nothing so far, and will give these bytes
pub record IsFresh (conn : ConnKnown) (bytes : List ℕ) : Type 0 where
  pub tells : Tells conn.health
  pub gave : conn.gave ≡ []
  pub took : conn.took ≡ []
  pub left : conn.left ≡ bytes
  pub faults : conn.health.faults ≡ 0

-- the first of the connections that were to come is given
pub record GivesConn (conn : ConnKnown) (old new : ListenerKnown) : Type 0 where
  pub bytes : List ℕ
  pub fresh : IsFresh conn bytes
  pub coming : old.coming ≡ bytes ∷ new.coming
  pub ended : new.ended ≡ old.ended

-- none is to come
pub record ComesToEnd (old new : ListenerKnown) : Type 0 where
  pub none : old.coming ≡ []
  pub coming : new.coming ≡ []
  pub ended : new.ended ≡ old.ended

-- `accept`
abbrev pub Accepts : {C : Type 0} → (C → ConnKnown) → ListenerKnown → Accepted C → ListenerKnown → Type 0
Accepts known old (accepted.Conn conn) new = GivesConn (known conn) old new
Accepts known old accepted.NotYet new = SameConnections old new
Accepts known old accepted.Ended new = ComesToEnd old new

-- what is kept of a connection that is over
abbrev pub ended_of : ConnKnown → Ended
ended_of conn = record { gave = conn.gave; took = conn.took; left = conn.left; faults = conn.health.faults }

-- `end`: the connection is over
pub record TakesBack (conn : ConnKnown) (old new : ListenerKnown) : Type 0 where
  pub coming : new.coming ≡ old.coming
  pub ended : new.ended ≡ ended_of conn ∷ old.ended

-- what the connections that are over had to give, the oldest first
abbrev pub brought : List Ended → List (List ℕ)
brought [] = []
brought (ended ∷ others) = brought others ++ (ended.gave ++ ended.left) ∷ []
