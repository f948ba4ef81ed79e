-- Where harts wait, and the events that are made there.
use Rattle.std.specs.Prelude.{ℕ, zero, suc, ◌≡◌, ◌<◌, ◌≤◌, ◌-◌, ◌^◌, ◌⊎◌, nat_eq, nat_lt, Bool, true, false, if◌then◌else◌, List, [], ◌∷◌, ◌++◌, Option, Some, None, All, Any, length, map}
use Rattle.vm_types.specs.declared.entry.Entry.{Entry}
use Rattle.vm_types.specs.declared.ids.ActorId.{ActorId}
use Rattle.vm_types.specs.declared.op.Op.{Op}
use Rattle.vm_host.specs.Telling.{ClockKnown}
use Rattle.flat_guest.specs.Guest.{Guest}
use Rattle.monitor_machine.specs.declared.machine.LiveMachine.{LiveMachine}
use Rattle.monitor_machine.specs.Running.{running_world}
use Rattle.vm_world.specs.Worlds.{IsWorld, WorldValue, want_in}
use Rattle.slice_runner.specs.Slices.{ClockWasAsked, Leads}

-- from each guest that the world was they lead to one that it is, and the timer got the clock's next answers
abbrev pub HasGone : List Entry → WorldValue → WorldValue → ClockKnown → ClockKnown → Type 0
HasGone events old new asked now =
    (g : Guest) → IsWorld old g
    → ((h : Guest) × Leads g events h × IsWorld new h) × ClockWasAsked asked events now

-- each hart wants to wait
abbrev pub AllIdle : WorldValue → Type 0
AllIdle w = (k : ℕ) → k < length w.harts → want_in w (ActorId.Hart k) ≡ Some Op.Idle

-- no guest runs, or one of too many harts, or each hart of it wants to wait
abbrev pub IsQuiet : LiveMachine → Type 0
IsQuiet live = (w : WorldValue) → running_world live.guest live.paused ≡ Some w → length w.harts ≤ 32 → AllIdle w

-- each hart but this one wants to wait, and this one is there and doesn't
abbrev pub OthersIdle : ℕ → WorldValue → Type 0
OthersIdle alone w =
    (k : ℕ) → k < length w.harts → (k ≡ alone → ⊥) → want_in w (ActorId.Hart k) ≡ Some Op.Idle

pub record IsAlone (alone : ℕ) (w : WorldValue) : Type 0 where
  pub there : alone < length w.harts
  pub busy : want_in w (ActorId.Hart alone) ≡ Some Op.Idle → ⊥
  pub others : OthersIdle alone w

-- what is left from now on until the first of these moments that is not over, or no end where there is none
pub record IsLeft (now : ℕ) (moments : List ℕ) (left : ℕ) : Type 0 where
  pub least : All (λ m. now < m → left ≤ m - now) moments
  pub one : (left ≡ 2 ^ 64 - 1) ⊎ Any (λ m. (now < m) × (left ≡ m - now)) moments

-- an actor that takes turns: the timer, and each hart
abbrev pub takes_turn : Guest → ActorId → Bool
takes_turn g ActorId.Timer = true
takes_turn g (ActorId.Hart k) = nat_lt k (length g.starts)
takes_turn g actor = false

-- who made these events, one after another
abbrev pub makers : List Entry → List ActorId
makers events = map (λ (e : Entry). e.actor) events

-- the hart is this one, if there is one
abbrev pub is_left_out : Option ℕ → ℕ → Bool
is_left_out None k = false
is_left_out (Some but) k = nat_eq but k

-- two events of a hart that isn't left out
abbrev pub hart_turn : Option ℕ → ℕ → List ActorId
hart_turn but k = if is_left_out but k then [] else ActorId.Hart k ∷ ActorId.Hart k ∷ []

-- those of each of so many harts, in order
abbrev pub hart_turns : Option ℕ → ℕ → List ActorId
hart_turns but zero = []
hart_turns but (suc k) = hart_turns but k ++ hart_turn but k

-- two of the timer, and then those
abbrev pub turns : Option ℕ → ℕ → List ActorId
turns but harts = ActorId.Timer ∷ ActorId.Timer ∷ hart_turns but harts

-- the world was a guest, and is one with as many harts; and these actors made the events
abbrev pub HasMade : List ActorId → List Entry → WorldValue → WorldValue → Type 0
HasMade actors events old new =
    (g : Guest) → IsWorld old g
    → (h : Guest) × IsWorld new h × (length h.starts ≡ length g.starts) × (makers events ≡ actors)
