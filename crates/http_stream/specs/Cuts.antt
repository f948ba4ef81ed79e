-- What a whole stream gives, however it comes.
use Rattle.std.specs.Prelude.{◌≡◌, ◌⊎◌, ℕ, ◌<◌, length, true, false, List, [], ◌∷◌, ◌++◌}
use Rattle.refusals.specs.declared.refusal.Refusal.{Refusal}
use Rattle.http_stream.specs.declared.request.Request.{Request}
use Rattle.http_stream.specs.declared.request.Next.TheVariants as next
use Rattle.http_stream.specs.Stream.{Connection, Judged}

-- the stream gives these requests and then no more, which leaves that connection
abbrev pub Reads : List ℕ → List Request → Connection → Type 0
Reads stream [] end =
    Judged stream (record { next = next.None; after = end })
    ⊎ (why : Refusal) × Judged stream (record { next = next.Bad why; after = end })
Reads stream (r ∷ rs) end =
    (rest : List ℕ)
    × Judged stream (record { next = next.Request r; after = record { pending = rest; failed = false } })
    × Reads rest rs end

-- a stream gives one thing
abbrev pub OneReading : Type 0
OneReading =
    (stream : List ℕ) (rs qs : List Request) (c d : Connection)
    → Reads stream rs c → Reads stream qs d → (rs ≡ qs) × (c ≡ d)

-- what has come first, and then what comes after it, is what the whole gives
abbrev pub CutsAnywhere : Type 0
CutsAnywhere =
    (first more : List ℕ) (rs qs : List Request) (c d : Connection)
    → Reads first rs c → c.failed ≡ false → Reads (c.pending ++ more) qs d → Reads (first ++ more) (rs ++ qs) d

-- what has failed stays so, whatever follows
abbrev pub FailsForGood : Type 0
FailsForGood =
    (first more : List ℕ) (rs : List Request) (c : Connection)
    → Reads first rs c → c.failed ≡ true → Reads (first ++ more) rs c

-- a request takes bytes, so that asking for the next one ends
abbrev pub RequestsTakeBytes : Type 0
RequestsTakeBytes =
    (stream : List ℕ) (r : Request) (c : Connection)
    → Judged stream (record { next = next.Request r; after = c }) → length c.pending < length stream
