-- What was answered so far of what a connection gives.
use Rattle.std.specs.Prelude.{◌≡◌, ◌≤◌, ℕ, List, [], ◌∷◌, ◌++◌, ◌⊎◌}
use Rattle.vm_outside.specs.Filing.{SameFiles}
use Rattle.vm_outside.specs.Known.{FilesKnown, Lasts, Tells}
use Rattle.http_stream.specs.declared.request.Next.{Next}
use Rattle.http_stream.specs.Stream.{Connection}
use Rattle.http_stream.specs.Conversation.{Takes, IsQuiet, arrived}
use Rattle.flat_machine.specs.Outcome.{Outcome}
use Rattle.flat_machine.specs.Machine.{Machine}
use Rattle.flat_machine.specs.Requests.{RequestStep}
use Rattle.responses.specs.declared.form.ResponseForm.{ResponseForm}
use Rattle.responses.specs.Responses.{Response, all_written}
use Rattle.monitor_core.specs.declared.monitor.Monitor.{Monitor}
use Rattle.monitor_core.specs.Going.{CountsFaults, GivesFiling}
use Rattle.monitor_core.specs.State.{IsBeside}

-- a conversation of which nothing is said of what is still due
abbrev pub Begins : {W M A : Type 0} → (W → Next → M → List A → M → Type 0)
    → List W → Connection → M → List A → Connection → M → Type 0
Begins step [] c m text d n = (d ≡ c) × (text ≡ []) × (n ≡ m)
Begins {W} {M} {A} step (how ∷ hows) c m text d n =
    (given : Next) × (after : Connection) × (first : List A) × (mid : M) × (rest : List A)
    × Takes c given after × step how given m first mid × Begins step hows after mid rest d n
    × (text ≡ first ++ rest)

-- the same of the connection alone
abbrev pub BeginsAny : List Outcome → Connection → Connection → Type 0
BeginsAny outcomes c d =
    Begins {W = Outcome} {M = Unit {0}} {A = Unit {0}} (λ how given m said n. Unit {0}) outcomes c tt [] d tt

-- the first of what was due went so, and this text is what was answered, in its form
pub record HasAnswered (form : ResponseForm) (monitor now : Monitor) (text : List ℕ) (known left : FilesKnown)
    : Type 0 where
  pub outcomes : List Outcome
  pub responses : List Response
  pub writes : text ≡ all_written form responses
  pub given : BeginsAny outcomes monitor.front now.front
  pub counted : CountsFaults outcomes known.health.faults left.health.faults
  pub uncalled : (GivesFiling monitor.front → ⊥) → left.health.faults ≡ known.health.faults
  pub same : outcomes ≡ [] → now ≡ record monitor { front = now.front }
  pub went : Tells known.health → (m : Machine) → IsBeside monitor known m
      → (n : Machine) × Begins RequestStep outcomes monitor.front m responses now.front n × IsBeside now left n
  pub lasts : Lasts known.health left.health

-- and nothing is due any more
pub record HasTalked (form : ResponseForm) (monitor now : Monitor) (text : List ℕ) (known left : FilesKnown)
    : Type 0 where
  pub answered : HasAnswered form monitor now text known left
  pub quiet : IsQuiet now.front

-- something is still due
abbrev pub IsStillDue : Connection → Type 0
IsStillDue c = (given : Next) × (d : Connection) × Takes c given d

-- The first was answered, after which the files were so; then there was no memory for what is due, and a call on the
-- files may have failed for it.
pub record HasStopped (form : ResponseForm) (monitor now : Monitor) (known left : FilesKnown) : Type 0 where
  pub text : List ℕ
  pub before : FilesKnown
  pub answered : HasAnswered form monitor now text known before
  pub due : IsStillDue now.front
  pub uncalled : (GivesFiling monitor.front → ⊥) → left.health.faults ≡ known.health.faults
  pub files : Tells before.health → SameFiles before left
  pub later : before.health.faults ≤ left.health.faults

-- where these bytes come: none of them was taken, or all, and then the first of what is due was answered
abbrev pub HasHalted : ResponseForm → List ℕ → Monitor → Monitor → FilesKnown → FilesKnown → Type 0
HasHalted form bytes monitor after known left =
    ((after ≡ monitor) × (left ≡ known))
    ⊎ HasStopped form (record monitor { front = arrived monitor.front bytes }) after known left
