-- Trace fidelity: what a trace took is a run of the flat machine, which leaves the machine and shows what was taken.
use Rattle.std.specs.Prelude.{ℕ, ◌≡◌, Bool, true, false, All, List, [], ◌++◌}
use Rattle.vm_types.specs.declared.entry.Entry.{Entry}
use Rattle.script_text.specs.declared.item.Item.{Item}
use Rattle.script_text.specs.declared.item.Item.TheVariants as item
use Rattle.serve_host.specs.Tracing.{TraceKnown}
use Rattle.vm_outside.specs.Known.{Health, SinkKnown}
use Rattle.flat_machine.specs.Machine.{Machine, is_off}
use Rattle.flat_machine.specs.Run.{Act}
use Rattle.flat_trace.specs.Events.{event_acts}
use Rattle.flat_trace.specs.Showing.{Out, Run, items_of, said, shown}
use Rattle.monitor_running.specs.Asked.{AnsweredSince, HaveOwn, Healths, HostKnown, healths}

-- what is known of the trace, the sink, and the clock and the objects that devices ask
pub record Known : Type 0 where
  pub trace : TraceKnown
  pub sink : SinkKnown
  pub host : HostKnown

abbrev pub known : TraceKnown → SinkKnown → HostKnown → Known
known trace sink host = record { trace = trace; sink = sink; host = host }

-- the items that the trace took, the bytes that the sink took, and what is known of the clock and the objects that devices ask
pub record Seen : Type 0 where
  pub took : List Item
  pub taken : List ℕ
  pub host : HostKnown

abbrev pub seen : Known → Seen
seen k = record { took = k.trace.took; taken = k.sink.taken; host = k.host }

-- where everything was at some start, what was said on connections among it, and whether the objects of devices are attached as they
-- are configured
pub record Start : Type 0 where
  pub seen : Seen
  pub attached : Bool
  pub flat : Machine
  pub talk : List Out

-- the item gives the machine a lineage
abbrev pub gives_lineage : Item → Bool
gives_lineage (item.Lineage lineage) = true
gives_lineage it = false

-- none of the acts does
abbrev pub NoLineage : List Act → Type 0
NoLineage acts = All (λ (act : Act). gives_lineage act.item ≡ false) acts

-- The health of these objects at the start. Of those that are not attached so it counts as if they didn't tell their content.
abbrev pub silent : Health → Health
silent health = record { tells = false; faults = health.faults }

abbrev pub told_by : Bool → Healths → Healths
told_by true health = health
told_by false health = record { disk = silent health.disk; link = silent health.link; vsock = silent health.vsock }

abbrev pub told_at : Start → Healths
told_at s = told_by s.attached (healths s.seen.host.devices)

-- since then the trace took all that happened, and all that this shows was taken; the timer was given the clock's answers,
-- and each device those of its own objects
pub record Reached (s : Start) (now : Seen) (m : Machine) (talk : List Out) : Type 0 where
  pub acts : List Act
  pub outs : List Out
  pub added : now.took ≡ s.seen.took ++ items_of acts
  pub no_lineage : NoLineage acts
  pub run : Run acts s.flat outs m
  pub sink : now.taken ≡ s.seen.taken ++ shown outs
  pub talks : talk ≡ s.talk ++ said outs
  pub asked : AnsweredSince (told_at s) acts s.flat outs m run s.seen.host now.host

-- the objects of its devices are those that are configured, if they are attached so and told their content at the start
abbrev pub AreOwn : Start → Machine → Seen → Type 0
AreOwn s m now = HaveOwn (told_at s) m now.host.devices

-- What has happened leads to a machine that b is. It differs from m in its guest alone, and its devices' objects are those that are
-- configured.
pub record Kept {B : Type 0} (Is : B → Machine → Type 0) (s : Start) (m : Machine) (now : Seen) (b : B) (talk : List Out) :
    Type 0 where
  pub flat : Machine
  pub is : Is b flat
  pub beside : flat ≡ record m { guest = flat.guest }
  pub own : AreOwn s flat now
  pub reached : Reached s now flat talk

-- Events that a trace lacks lead on from one machine to the other, and show nothing. In them the timer was given the clock's answers,
-- and each device those of its own objects.
pub record LeadsAhead (start : Healths) (told : Machine) (asked : HostKnown) (flat : Machine) (now : HostKnown) : Type 0 where
  pub events : List Entry
  pub outs : List Out
  pub run : Run (event_acts events) told outs flat
  pub unshown : shown outs ≡ []
  pub unsaid : said outs ≡ []
  pub answered : AnsweredSince start (event_acts events) told outs flat run asked now

-- The trace lacks the last events: they lead from where it leads to the body.
pub record Ahead {B : Type 0} (Is : B → Machine → Type 0) (s : Start) (m : Machine) (now : Seen) (b : B) (talk : List Out) :
    Type 0 where
  pub told : Machine
  pub host : HostKnown
  pub reached : Reached s (record now { host = host }) told talk
  pub flat : Machine
  pub ahead : LeadsAhead (told_at s) told host flat now.host
  pub is : Is b flat
  pub beside : flat ≡ record m { guest = flat.guest }

-- However the machine got here, and whatever was said on connections: the trace has all of it
abbrev pub Keeps : {B : Type 0} → (B → Machine → Type 0) → Seen → B → Seen → B → Type 0
Keeps Is old b now c =
    (s : Start) (m : Machine) (talk : List Out) → Is b m → AreOwn s m old → Reached s old m talk → Kept Is s m now c talk

-- and then the guest is on, or off
abbrev pub KeepsAs : {B : Type 0} → Bool → (B → Machine → Type 0) → Seen → B → Seen → B → Type 0
KeepsAs off Is old b now c =
    (s : Start) (m : Machine) (talk : List Out) → Is b m → AreOwn s m old → Reached s old m talk
    → (kept : Kept Is s m now c talk) × (is_off kept.flat ≡ off)

-- the trace failed, and lacks the last events
abbrev pub GetsAhead : {B : Type 0} → (B → Machine → Type 0) → Seen → B → Seen → B → Type 0
GetsAhead Is old b now c =
    (s : Start) (m : Machine) (talk : List Out) → Is b m → AreOwn s m old → Reached s old m talk → Ahead Is s m now c talk

-- the sink failed: the trace has all that happened, and the sink took a front of what that shows
abbrev pub IsCut : {B : Type 0} → (B → Machine → Type 0) → Seen → B → Seen → B → Type 0
IsCut Is old b now c =
    (s : Start) (m : Machine) (talk : List Out) → Is b m → AreOwn s m old → Reached s old m talk
    → (rest : List ℕ) × Kept Is s m (record now { taken = now.taken ++ rest }) c talk
