-- Why an actor makes no further step in a slice.
use Rattle.std.specs.Prelude.{ℕ, zero, suc, ◌≡◌, ◌+◌, ◌<◌, ◌≤◌, ◌^◌, ◌↔◌, ◌-◌, min, nat_le, nat_lt, if◌then◌else◌, Bool, true, false, List, [], ◌∷◌}
use Rattle.std.specs.Prelude.{Some, length, slice_get}
use Rattle.vm_types.specs.declared.entry.Entry.{Entry}
use Rattle.vm_types.specs.declared.ids.ActorId.{ActorId}
use Rattle.vm_types.specs.declared.op.Op.{Op}
use Rattle.vm_types.specs.Histories.{last_stamp}
use Rattle.vm_types.specs.Ids.{of_actor}
use Rattle.guest_pages.specs.Made.{made_of}
use Rattle.hart_trace.specs.Traces.{is_full}
use Rattle.pause_gate.specs.Tally.{Tally}
use Rattle.stamp_merge.specs.declared.layout.Layout.{Layout}
use Rattle.vm_world.specs.Worlds.{WorldValue, want_in}
use Rattle.slice_runner.specs.declared.stop.Stop.{Stop}
use Rattle.slice_runner.specs.declared.stop.Stop.TheVariants.{Steps, Gate, Idle, Full, Stamp, Blanks, Unanswered}
use Rattle.slice_runner.specs.declared.stop.Stopped.{Stopped}
use Rattle.slice_runner.specs.Blanks.{pool_of, was_made}
use Rattle.slice_runner.specs.Values.{layout_in}

-- the last reply is that the console ring was full
abbrev pub is_last_full : Bool → List Entry → Bool
is_last_full full [] = full
is_last_full full (e ∷ es) = is_last_full (is_full e.reply) es

-- nothing was done behind a reply that the ring was full
abbrev pub IsUnfull : Bool → List Entry → Type 0
IsUnfull full [] = Unit {0}
IsUnfull full (e ∷ es) = (full ≡ false) × IsUnfull (is_full e.reply) es

-- how often the gate was found closed, and no step made: once by an actor that stops for it, and by no other
abbrev pub closings : Stop → ℕ
closings Gate = 1
closings stop = 0

-- an act that nothing may answer: on a port that there isn't among so many, or a call of a host object
abbrev pub may_lack : Layout → Op → Bool
may_lack layout (Op.Port port act) = nat_le layout.ports port
may_lack layout (Op.Out act) = true
may_lack layout op = false

-- after 1 to n - 1 steps the actor wants to wait
abbrev pub Waits : ℕ → List Entry → Op → Type 0
Waits n entries want = (1 ≤ length entries) × (length entries < n) × (want ≡ Op.Idle)

-- the cause of a stop, after these entries of at most n, with so many blanks at first, these pages made among so many, with this
-- want, and with the tally of its pass before and now: it asked once for each entry, and once where the gate was closed
pub record HasCause (n blanks : ℕ) (made : List Bool) (layout : Layout) (stop : Stop) (entries : List Entry) (want : Op) (before now : Tally) : Type 0 where
  pub most : length entries ≤ n
  pub steps : (stop ≡ Steps) ↔ (length entries ≡ n)
  pub asked : now.asks ≡ before.asks + (length entries + closings stop)
  pub gate : now.closed ≡ before.closed + closings stop
  pub idle : (stop ≡ Idle) ↔ Waits n entries want
  pub full : stop ≡ Full → is_last_full false entries ≡ true
  pub unfull : IsUnfull false entries
  pub stamp : stop ≡ Stamp → 2 ^ 63 ≤ last_stamp 0 entries
  pub lacks : stop ≡ Blanks → (blanks ≤ length entries) × (was_made made layout want ≡ false)
  pub unanswered : stop ≡ Unanswered → may_lack layout want ≡ true

-- the timer comes first, then so many harts by their numbers, and then the devices by theirs
abbrev pub actor_of : ℕ → ℕ → ActorId
actor_of harts zero = ActorId.Timer
actor_of harts (suc k) = if nat_lt k harts then ActorId.Hart k else ActorId.Device (k - harts)

-- How many steps of n an actor makes at most. The timer makes one round, a question and an advance: guest time goes on from
-- slice to slice.
abbrev pub timer_most : ℕ → ℕ
timer_most n = min n 2

abbrev pub most_of : ℕ → ℕ → ℕ
most_of zero n = timer_most n
most_of (suc k) n = n

-- one actor's stop, with the pass at its place before and after
pub record IsStopped {Q : Type 0} (tally : Q → Tally) (n : ℕ) (old : WorldValue) (events : List Entry) (now : WorldValue) (i : ℕ)
    (s : Stopped) (p q : Q) : Type 0 where
  pub actor_is : s.actor ≡ actor_of (length old.harts) i
  pub want : Op
  pub wants : want_in now s.actor ≡ Some want
  pub cause :
      HasCause (most_of i n) (pool_of n old.pages) (made_of old.pages) (layout_in old) s.stop (of_actor s.actor events) want (tally p) (tally q)

-- each actor has one stop, with its cause: the timer, the harts, and so many devices
pub record AreStopped {Q : Type 0} (tally : Q → Tally) (n devices : ℕ) (old : WorldValue) (events : List Entry) (now : WorldValue)
    (stops : List Stopped) (before after : List Q) : Type 0 where
  pub count : length stops ≡ suc (length now.harts + devices)
  pub each : (i : ℕ) (s : Stopped) (p q : Q) → slice_get stops i ≡ Some s → slice_get before i ≡ Some p
      → slice_get after i ≡ Some q → IsStopped tally n old events now i s p q
