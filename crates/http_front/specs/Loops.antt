-- What a loop over the requests of a stream adds to a list.
use Rattle.std.specs.Prelude.{◌≡◌, ℕ, List, ◌++◌}
use Rattle.http_stream.specs.declared.request.Request.{Request}
use Rattle.http_stream.specs.Stream.{Connection}
use Rattle.http_stream.specs.Cuts.{Reads}

-- new is old and the requests that the stream gives, which leaves that connection
abbrev pub Drains : List ℕ → List Request → List Request → Connection → Type 0
Drains stream old new end = (rs : List Request) × (new ≡ old ++ rs) × Reads stream rs end

-- the same in midst: what the connection still gives comes after
abbrev pub Continues : List ℕ → List Request → List Request → Connection → Type 0
Continues stream old new c =
    (rs : List Request) × (new ≡ old ++ rs)
    × ((qs : List Request) (d : Connection) → Reads c.pending qs d → Reads stream (rs ++ qs) d)
