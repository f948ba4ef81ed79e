-- What an actor does in a slice.
use Rattle.std.specs.Prelude.{ℕ, ◌≡◌, ◌+◌, ◌<◌, ◌≤◌, ◌^◌, ◌↔◌, true, false, max, List, [], ◌∷◌, ◌++◌, length}
use Rattle.std.specs.Prelude.{Bool, Option, Some, None, nat_lt, vec_capacity}
use Rattle.std.specs.List.{AllByRecursion}
use Rattle.vm_types.specs.declared.entry.Entry.{Entry}
use Rattle.vm_types.specs.declared.ids.ActorId.{ActorId}
use Rattle.vm_types.specs.declared.op.Op.{Op}
use Rattle.vm_types.specs.declared.op.OutOp.{OutOp}
use Rattle.vm_types.specs.declared.op.OutOp.TheVariants.{Clock}
use Rattle.vm_types.specs.declared.reply.Reply.{Reply}
use Rattle.vm_types.specs.Fits.{out_fits}
use Rattle.vm_types.specs.Histories.{last_stamp}
use Rattle.vm_types.specs.Ids.{is_out}
use Rattle.vm_types.specs.Serial.{Follows, IsPlaced, OutFits, Placed}
use Rattle.hart_trace.specs.States.{hart_next, hart_wants}
use Rattle.hart_trace.specs.Traces.{is_full}
use Rattle.timer_trace.specs.States.{timer_next, timer_wants}
use Rattle.guest_devices.specs.Devices.{device_next, device_wants}
use Rattle.guest_devices.specs.Kept.{device_left}
use Rattle.flat_guest.specs.Body.{out_reply}
use Rattle.flat_guest.specs.Given.{Given}
use Rattle.pause_gate.specs.Tally.{Tally}
use Rattle.stamp_merge.specs.declared.layout.Layout.{Layout}
use Rattle.stamp_merge.specs.Stamps.{OutIsZero, Stamped}
use Rattle.vm_host.specs.Telling.{AreNext, ClockKnown, Gives, Tells}
use Rattle.slice_runner.specs.declared.stop.Stop.{Stop}
use Rattle.slice_runner.specs.declared.worker.DeviceWorker.{DeviceWorker}
use Rattle.slice_runner.specs.declared.worker.HartWorker.{HartWorker}
use Rattle.slice_runner.specs.declared.worker.TimerWorker.{TimerWorker}
use Rattle.slice_runner.specs.declared.worker.Track.{Track}
use Rattle.slice_runner.specs.Blanks.{CanAct, was_made}
use Rattle.slice_runner.specs.Stops.{HasCause, IsUnfull, closings, is_last_full, may_lack}
use Rattle.slice_runner.specs.Values.{route_among}

-- the entry is of this actor and op, at the op's place among so many pages and ports, with the next stamp after the actor's
-- clock and the place's last; with no place the reply is what is given
pub record IsActOf (e : Entry) (actor : ActorId) (op : Op) (given : Given) (layout : Layout) (clock : ℕ) : Type 0 where
  pub actor_is : e.actor ≡ actor
  pub op_is : e.op ≡ op
  pub placed : IsPlaced (route_among layout) OutFits e
  pub stamp_is : e.stamp ≡ 1 + max clock e.before
  pub out : OutIsZero e
  pub given_is : is_out e.place ≡ true → e.reply ≡ out_reply op given

-- from the state s this journal of the actor leads to the state t, with this last stamp
pub record HasRun {S : Type 0} (want : S → Op) (next : S → Reply → S) (layout : Layout) (id : ActorId) (s : S)
    (journal : List Entry) (t : S) (clock : ℕ) : Type 0 where
  pub follows : Follows want next s journal t
  pub stamped : Stamped 0 journal
  pub last : clock ≡ last_stamp 0 journal
  pub own : AllByRecursion (λ (e : Entry). e.actor ≡ id) journal
  pub placed : Placed (route_among layout) OutFits journal
  pub out : AllByRecursion OutIsZero journal

-- nothing was done yet, and there is room for so many entries, and so many blanks
pub record Begins {Q : Type 0} (n blanks : ℕ) (track : Track Q) : Type 0 where
  pub empty : track.work.journal.items ≡ []
  pub clock : track.work.clock ≡ 0
  pub full : track.full ≡ false
  pub room : n ≤ vec_capacity track.work.journal
  pub pool : length track.pool.items ≡ blanks

-- the actor came from the state s to the state t; since it had the tally c, its pass asked once for each entry, and was
-- never answered "closed"; of its blanks it took one for an entry at most
pub record IsUnderWay {S Q : Type 0} (want : S → Op) (next : S → Reply → S) (tally : Q → Tally) (layout : Layout)
    (id : ActorId) (s : S) (c : Tally) (blanks : ℕ) (t : S) (track : Track Q) : Type 0 where
  pub same : track.work.actor ≡ id
  pub ran : HasRun want next layout id s track.work.journal.items t track.work.clock
  pub full_is : track.full ≡ is_last_full false track.work.journal.items
  pub unfull : IsUnfull false track.work.journal.items
  pub asked : (tally track.pass).asks ≡ c.asks + length track.work.journal.items
  pub unclosed : (tally track.pass).closed ≡ c.closed
  pub pool : blanks ≤ length track.pool.items + length track.work.journal.items

-- the actor came from the state s to the state t, and stopped for a cause
pub record HasEnded {S Q : Type 0} (want : S → Op) (next : S → Reply → S) (tally : Q → Tally) (layout : Layout) (made : List Bool) (id : ActorId)
    (s : S) (c : Tally) (n blanks : ℕ) (t : S) (track : Track Q) (stop : Stop) : Type 0 where
  pub same : track.work.actor ≡ id
  pub ran : HasRun want next layout id s track.work.journal.items t track.work.clock
  pub cause : HasCause n blanks made layout stop track.work.journal.items (want t) c (tally track.pass)

abbrev pub HasWorked : {S Q : Type 0} → (S → Op) → (S → Reply → S) → (Q → Tally) → Layout → List Bool → ℕ → S → S → Track Q → Track Q
    → Type 0
HasWorked want next tally layout made n s t before after =
    HasEnded want next tally layout made before.work.actor s (tally before.pass) n (length before.pool.items) t after after.stop

abbrev pub HartWorked : {Q : Type 0} → (Q → Tally) → Layout → List Bool → ℕ → HartWorker Q → HartWorker Q → Type 0
HartWorked tally layout made n before after =
    HasWorked hart_wants hart_next tally layout made n before.hart after.hart before.track after.track

abbrev pub TimerWorked : {Q : Type 0} → (Q → Tally) → Layout → List Bool → ℕ → TimerWorker Q → TimerWorker Q → Type 0
TimerWorked tally layout made n before after =
    HasWorked timer_wants timer_next tally layout made n before.timer after.timer before.track after.track

abbrev pub DeviceWorked : {Q : Type 0} → (Q → Tally) → Layout → List Bool → ℕ → DeviceWorker Q → DeviceWorker Q → Type 0
DeviceWorked tally layout made n before after =
    HasWorked device_wants device_next tally layout made n (device_left before.device) (device_left after.device) before.track after.track

-- nothing but the pass may have changed
pub record IsSameBut {Q : Type 0} (old new : Track Q) : Type 0 where
  pub full : new.full ≡ old.full
  pub work : new.work ≡ old.work
  pub pool : new.pool ≡ old.pool

-- why it makes no further step, with this want
pub record StopsFor {Q : Type 0} (tally : Q → Tally) (layout : Layout) (made : List Bool) (want : Op) (old new : Track Q) (stop : Stop) : Type 0 where
  pub not_steps : stop ≡ Stop.Steps → ⊥
  pub asked : (tally new.pass).asks ≡ (tally old.pass).asks + closings stop
  pub gate : (tally new.pass).closed ≡ (tally old.pass).closed + closings stop
  pub idle : (stop ≡ Stop.Idle) ↔ ((1 ≤ length old.work.journal.items) × (want ≡ Op.Idle))
  pub full : stop ≡ Stop.Full → old.full ≡ true
  pub stamp : stop ≡ Stop.Stamp → 2 ^ 63 ≤ old.work.clock
  pub lacks : stop ≡ Stop.Blanks → (length old.pool.items ≡ 0) × (was_made made layout want ≡ false)
  pub unanswered : stop ≡ Stop.Unanswered → may_lack layout want ≡ true

-- or it makes one
pub record GoesOn {Q : Type 0} (tally : Q → Tally) (layout : Layout) (made : List Bool) (want : Op) (old new : Track Q) : Type 0 where
  pub asked : (tally new.pass).asks ≡ (tally old.pass).asks + 1
  pub unclosed : (tally new.pass).closed ≡ (tally old.pass).closed
  pub awake : 1 ≤ length old.work.journal.items → want ≡ Op.Idle → ⊥
  pub unfull : old.full ≡ false
  pub low : old.work.clock < 2 ^ 63
  pub fed : CanAct made layout want (length new.pool.items)

-- the entry is written down, and is the actor's last
pub record WritesDown {Q : Type 0} (e : Entry) (old new : Track Q) : Type 0 where
  pub actor : new.work.actor ≡ old.work.actor
  pub pass : new.pass ≡ old.pass
  pub clock : new.work.clock ≡ e.stamp
  pub full : new.full ≡ is_full e.reply
  pub items : new.work.journal.items ≡ old.work.journal.items ++ e ∷ []
  pub room : vec_capacity new.work.journal ≡ vec_capacity old.work.journal
  pub pool : length old.pool.items ≤ length new.pool.items + 1

-- a clock answered an op that asks it; nothing else asks it
abbrev pub IsAsked : Op → ClockKnown → Option Reply → ClockKnown → Type 0
IsAsked (Op.Out Clock) old given new = (answer : ℕ) × (given ≡ Some (Reply.Word answer)) × Gives old answer new
IsAsked op old given new = (given ≡ None) × (new ≡ old)

-- since it was so, a clock gave these answers
pub record HasAnswered (start : ClockKnown) (answers : List ℕ) (now : ClockKnown) : Type 0 where
  pub still : Tells start → Tells now
  pub are : Tells start → AreNext start.left answers now.left

-- an act that has an answer among so many ports, where these calls of host objects have one
abbrev pub can_be_done : (OutOp → Bool) → Layout → Op → Bool
can_be_done calls layout (Op.Port port act) = nat_lt port layout.ports
can_be_done calls layout (Op.Out act) = calls act
can_be_done calls layout op = true

-- an act on a port is on one of so many
abbrev pub has_port : Layout → Op → Bool
has_port layout (Op.Port port act) = nat_lt port layout.ports
has_port layout op = true

-- an object answered the device with this number that calls it; no other act asks one
abbrev pub IsGivenBy : {K : Type 0} → (ℕ → OutOp → Reply → K → K → Type 0) → ℕ → Op → K → Option Reply → K → Type 0
IsGivenBy {K} Answers device (Op.Out act) old given new =
    (reply : Reply) × (given ≡ Some reply) × (out_fits act reply ≡ true) × Answers device act reply old new
IsGivenBy {K} Answers device op old given new = (given ≡ None) × (new ≡ old)

-- what an act with this reply leaves of what is known of the objects
abbrev pub IsAnswered : {K : Type 0} → (ℕ → OutOp → Reply → K → K → Type 0) → ℕ → Op → Reply → K → K → Type 0
IsAnswered {K} Answers device (Op.Out act) reply old new = Answers device act reply old new
IsAnswered {K} Answers device op reply old new = new ≡ old

-- the objects answered this device what it asked in these entries, one after another
abbrev pub AreAnswered : {K : Type 0} → (ℕ → OutOp → Reply → K → K → Type 0) → ℕ → K → List Entry → K → Type 0
AreAnswered Answers device old [] new = new ≡ old
AreAnswered {K} Answers device old (e ∷ es) new =
    (mid : K) × IsAnswered Answers device e.op e.reply old mid × AreAnswered Answers device mid es new
