-- Devices that act in a slice.
use Rattle.std.proofs.Common.{◌≡◌, ◌≤◌, ◌+◌, ℕ, zero, suc, Bool, true, false, ◌&&◌, cond, inl, refl, sym, ap, ◌∙◌, subst, arith, List, [], ◌∷◌, All, length}
use Rattle.std.specs.Prelude.{nat_le, nat_lt, if◌then◌else◌}
use Rattle.std.specs.List.{AllByRecursion}
use Rattle.std.proofs.lemmas.Bool.{leb-true}
use Rattle.std.proofs.lemmas.List.Elements.{All-from_recursion, recursion_from_All}
use Rattle.vm_types.specs.Ids.{of_actor, same_actor}
use Rattle.vm_types.specs.declared.entry.Entry.{Entry}
use Rattle.vm_types.specs.declared.ids.ActorId.{ActorId}
use Rattle.vm_types.specs.declared.op.Op.{Op}
use Rattle.vm_types.specs.declared.reply.Reply.{Reply}
use Rattle.vm_world.specs.Worlds.{WorldValue}
use Rattle.slice_runner.specs.Runs.{AreAnswered, IsAnswered}
use Rattle.slice_runner.specs.Slices.{DevicesAnswered, IsThere}
use Rattle.slice_runner.specs.Stops.{AreStopped}
use Rattle.slice_runner.specs.declared.stop.Stopped.{Stopped}
use Rattle.pause_gate.specs.Tally.{Tally}
use Rattle.monitor_machine.specs.Kinds.{DevicesKnown}
use Rattle.monitor_running.specs.Devices.{AnswersDevice, AsksDevices, IsDevices, IsHeard, IsShort, WereAsked}
use Rattle.monitor_running.specs.Happened.{HasPort, HavePorts}
use Rattle.monitor_running.specs.Paced.{HasActed, acting_in, slice_steps, steps_in}
use Rattle.monitor_running.proofs.Attached.{ports_there}
use Rattle.monitor_running.proofs.Events.{asks_none, asks_nothing, rests_of, unasked_there}
use Rattle.monitor_running.proofs.OneKind.{IsOther}

-- ---- how many act

few_by : (n : ℕ) (few more : Bool) → nat_le n 1 ≡ few → (if few && more then n else 0) ≤ 1
few_by n true true is = leb-true n 1 is
few_by n true false is = omega arith
few_by n false more is = omega arith

few_act : (there : ℕ) (w : WorldValue) → acting_in there w ≤ 1
few_act there w = few_by (length w.devices) (nat_le (length w.devices) 1) (nat_lt (length w.harts + length w.devices) there) refl

pub few_one : (there : ℕ) (w : WorldValue) (acting : ℕ) → acting ≡ acting_in there w → acting ≤ 1
few_one there w acting is = subst (λ (n : ℕ). n ≤ 1) (sym is) (few_act there w)

-- what a slice says of stops, where the actors act that are to
pub slice_stopped : {Q : Type 0} (tally : Q → Tally) (steps each passes acting : ℕ) (w v : WorldValue) (events : List Entry)
    (stops : List Stopped) (before after : List Q) → each ≡ slice_steps steps acting w → acting ≡ acting_in passes w
    → passes ≡ length before → AreStopped tally each acting w events v stops before after
    → AreStopped tally (steps_in steps (length before) w) (acting_in (length before) w) w events v stops before after
slice_stopped tally steps each passes acting w v events stops before after many how there stopped =
    let same : acting ≡ acting_in (length before) w = how ∙ ap (λ (k : ℕ). acting_in k w) there in
    subst (λ (d : ℕ). AreStopped tally (slice_steps steps d w) d w events v stops before after) same
    (subst (λ (n : ℕ). AreStopped tally n acting w events v stops before after) many stopped)

-- and none acts before the slice
pub none_acted : (w : WorldValue) → HasActed w w
none_acted w = record {
  events = [];
  mid = w;
  serial = λ g is. (g, refl, is);
  made = λ g is. All-from_recursion IsDevices [] tt;
  drained = inl refl;
}

-- ---- what an event of one asks

answered : (op : Op) (reply : Reply) (old new : DevicesKnown) → IsAnswered AnswersDevice 0 op reply old new
    → AsksDevices op (ActorId.Device 0) reply old new × IsShort op reply
answered (Op.Out act) reply old new it = (it.1, it.0)
answered op reply old new it = (asks_nothing op (ActorId.Device 0) reply old new refl it, tt)

-- what one event left, and the answers behind it
pub record Asked (e : Entry) (rest : List Entry) (old new : DevicesKnown) : Type 0 where
  pub mid : DevicesKnown
  pub asks : AsksDevices e.op e.actor e.reply old mid
  pub behind : AreAnswered AnswersDevice 0 mid rest new
  pub port : HasPort e.actor
  pub heard : IsHeard e.actor e.op e.reply

other_asked : (e : Entry) (rest : List Entry) (old new : DevicesKnown) (actor : ActorId) → e.actor ≡ actor → IsOther actor → HasPort actor
    → IsHeard actor e.op e.reply → AreAnswered AnswersDevice 0 old rest new → Asked e rest old new
other_asked e rest old new actor is other port heard was = record {
  mid = old;
  asks = asks_none e.op e.actor e.reply old (subst IsOther (sym is) other);
  behind = was;
  port = subst HasPort (sym is) port;
  heard = subst (λ (a : ActorId). IsHeard a e.op e.reply) (sym is) heard;
}

one_asked : (harts : ℕ) (e : Entry) (rest : List Entry) (old new : DevicesKnown) (actor : ActorId) → e.actor ≡ actor → IsThere harts 1 actor
    → AreAnswered AnswersDevice 0 old (cond (same_actor actor (ActorId.Device 0)) (e ∷ rest) rest) new → Asked e rest old new
one_asked harts e rest old new ActorId.Timer is there was = other_asked e rest old new ActorId.Timer is tt tt tt was
one_asked harts e rest old new (ActorId.Hart k) is there was = other_asked e rest old new (ActorId.Hart k) is tt tt tt was
one_asked harts e rest old new (ActorId.Device zero) is there was =
    let one = answered e.op e.reply old was.0 was.1 in record {
      mid = was.0;
      asks = subst (λ (a : ActorId). AsksDevices e.op a e.reply old was.0) (sym is) one.0;
      behind = was.2;
      port = subst HasPort (sym is) (omega arith);
      heard = subst (λ (a : ActorId). IsHeard a e.op e.reply) (sym is) one.1;
    }
one_asked harts e rest old new (ActorId.Device (suc k)) is there was = absurd (omega (arith, there))

-- ---- and all events of a slice

alone_asked : (harts : ℕ) (es : List Entry) (old new : DevicesKnown) → AllByRecursion (λ (e : Entry). IsThere harts 1 e.actor) es
    → AreAnswered AnswersDevice 0 old (of_actor (ActorId.Device 0) es) new → WereAsked old es new × HavePorts es
alone_asked harts [] old new there was = (rests_of old new was, tt)
alone_asked harts (e ∷ es) old new there was =
    let one = one_asked harts e (of_actor (ActorId.Device 0) es) old new e.actor refl there.0 was in
    let rest = alone_asked harts es one.mid new there.1 one.behind in
    ((one.mid, one.asks, rest.0), ((one.port, one.heard), rest.1))

-- the objects answered in the order of the events
pub slice_asked : (harts devices : ℕ) (es : List Entry) (old new : DevicesKnown) → devices ≤ 1
    → All (λ (e : Entry). IsThere harts devices e.actor) es → DevicesAnswered AnswersDevice es 0 devices old new
    → WereAsked old es new × HavePorts es
slice_asked harts zero es old new few there was =
    (subst (λ (now : DevicesKnown). WereAsked old es now) (sym was) (unasked_there harts es old there), ports_there harts es there)
slice_asked harts (suc zero) es old new few there was =
    alone_asked harts es old new (recursion_from_All (λ (e : Entry). IsThere harts 1 e.actor) es there)
    (subst (λ (now : DevicesKnown). AreAnswered AnswersDevice 0 old (of_actor (ActorId.Device 0) es) now) (sym was.2) was.1)
slice_asked harts (suc (suc n)) es old new few there was = absurd (omega (arith, few))
