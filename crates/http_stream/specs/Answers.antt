-- Every stream has an answer, and only one.
use Rattle.std.specs.Prelude.{◌≡◌, ℕ, List}
use Rattle.http_stream.specs.declared.request.Request.{Request}
use Rattle.http_stream.specs.Stream.{Connection, Answer, Judged}
use Rattle.http_stream.specs.Cuts.{Reads}

-- whatever its bytes are, a stream is judged
abbrev pub SomeAnswer : Type 0
SomeAnswer = (stream : List ℕ) → (a : Answer) × Judged stream a

-- in one way
abbrev pub OneAnswer : Type 0
OneAnswer = (stream : List ℕ) (a b : Answer) → Judged stream a → Judged stream b → a ≡ b

-- so it can be read to its end
abbrev pub SomeReading : Type 0
SomeReading = (stream : List ℕ) → (rs : List Request) × (c : Connection) × Reads stream rs c
