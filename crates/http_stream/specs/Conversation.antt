-- What is answered to the bytes of a connection: each thing that it gives, in its order, until nothing is due.
use Rattle.std.specs.Prelude.{◌≡◌, ◌⊎◌, ℕ, true, false, List, [], ◌∷◌, ◌++◌, if◌then◌else◌}
use Rattle.http_stream.specs.declared.request.Next.{Next}
use Rattle.http_stream.specs.declared.request.Next.TheVariants as next
use Rattle.http_stream.specs.Stream.{Connection, Judged}

-- a connection of which no byte has come
abbrev pub new_connection : Connection
new_connection = record { pending = []; failed = false }

-- bytes come on a connection; one that has failed takes none
abbrev pub arrived : Connection → List ℕ → Connection
arrived c bytes = if c.failed then c else record c { pending = c.pending ++ bytes }

-- what asks for a reply: a request, or one that is refused as its bytes come
abbrev pub IsDue : Next → Type 0
IsDue (next.Request r) = Unit {0}
IsDue (next.Bad why) = Unit {0}
IsDue next.None = ⊥

-- what the connection gives next asks for a reply, and taking it leaves that connection
pub record Takes (c : Connection) (given : Next) (d : Connection) : Type 0 where
  pub live : c.failed ≡ false
  pub judged : Judged c.pending (record { next = given; after = d })
  pub due : IsDue given

-- it has failed, or gives nothing before more bytes come
abbrev pub IsQuiet : Connection → Type 0
IsQuiet c = (c.failed ≡ true) ⊎ ((c.failed ≡ false) × Judged c.pending (record { next = next.None; after = c }))

-- How what is due is answered by a machine m: `step how given m text n` gives the text, as bytes or as replies, and
-- leaves the machine n. Of what the connection c gives, everything is answered, each in its way, which leaves d and n.
abbrev pub Conversation : {W M A : Type 0} → (W → Next → M → List A → M → Type 0)
    → List W → Connection → M → List A → Connection → M → Type 0
Conversation step [] c m text d n = IsQuiet c × (d ≡ c) × (text ≡ []) × (n ≡ m)
Conversation {W} {M} {A} step (how ∷ hows) c m text d n =
    (given : Next) × (after : Connection) × (first : List A) × (mid : M) × (rest : List A)
    × Takes c given after × step how given m first mid × Conversation step hows after mid rest d n
    × (text ≡ first ++ rest)

-- only the first of it, and something is still due
abbrev pub ConversationFront : {W M A : Type 0} → (W → Next → M → List A → M → Type 0)
    → List W → Connection → M → List A → Connection → M → Type 0
ConversationFront step [] c m text d n =
    (given : Next) × (after : Connection) × Takes c given after × (d ≡ c) × (text ≡ []) × (n ≡ m)
ConversationFront {W} {M} {A} step (how ∷ hows) c m text d n =
    (given : Next) × (after : Connection) × (first : List A) × (mid : M) × (rest : List A)
    × Takes c given after × step how given m first mid × ConversationFront step hows after mid rest d n
    × (text ≡ first ++ rest)

-- a way of answering does one thing
abbrev pub IsDetermined : {W M A : Type 0} → (W → Next → M → List A → M → Type 0) → Type 0
IsDetermined {W} {M} {A} step =
    (how : W) (given : Next) (m : M) (s t : List A) (n k : M)
    → step how given m s n → step how given m t k → (s ≡ t) × (n ≡ k)
