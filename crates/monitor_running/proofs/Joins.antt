-- Runs one behind another, what they show, and what they ask.
use Rattle.std.proofs.Common.{◌≡◌, ℕ, Bool, true, false, List, [], ◌∷◌, ◌++◌, refl, sym, ap, ◌∙◌, subst, append_assoc, append-nil, Option, Some, None}
use Rattle.std.proofs.lemmas.List.Elements.{All-append, All-from_recursion}
use Rattle.vm_types.specs.declared.ids.ActorId.{ActorId}
use Rattle.script_text.specs.declared.item.HostReply.TheVariants as given
use Rattle.script_text.specs.declared.item.Item.{Item}
use Rattle.script_text.specs.declared.item.Item.TheVariants as item
use Rattle.vm_host.specs.Telling.{AreNext, ClockKnown, later}
use Rattle.vm_host.specs.Telling as telling
use Rattle.vm_config.specs.declared.config.Config.{Config}
use Rattle.flat_guest.specs.Guest.{Guest}
use Rattle.slice_runner.specs.Runs.{HasAnswered}
use Rattle.flat_machine.specs.Machine.{Machine, running}
use Rattle.flat_machine.specs.Run.{Act}
use Rattle.flat_trace.specs.Events.{answer_by, answers_in}
use Rattle.monitor_machine.specs.Kinds.{DevicesKnown, disks, links, vsocks, words}
use Rattle.monitor_running.specs.Asked.{AnsweredSince, DevicesAnswered, DevicesUncalled, Healths, HostKnown, ItemAsks, healths}
use Rattle.monitor_running.specs.Devices.{DevicesRest}
use Rattle.monitor_running.specs.Reached.{AreOwn, LeadsAhead, NoLineage, Reached, Seen, Start, gives_lineage, told_at, told_by}
use Rattle.monitor_machine.proofs.Attaching as attaching
use Rattle.monitor_running.proofs.Attached.{SameOwn, StillTell, own_asked, own_before, own_rest, tell_on}
use Rattle.monitor_running.proofs.Events.{asks_later, rests_more, rests_same, rests_uncalled}
use Rattle.monitor_running.proofs.OneKind.{named_by_kept}
use Rattle.flat_trace.specs.Showing.{Out, Run, items_of, said, said_by, shown, shown_by}

-- ---- objects of devices that rest before they are asked

pub uncalled_none : (known : DevicesKnown) → DevicesUncalled known known
uncalled_none known = record {
  disk = attaching.uncalled_none disks attaching.disks_beside known.disk;
  link = attaching.uncalled_none links attaching.links_beside known.link;
  vsock = attaching.uncalled_none vsocks attaching.vsocks_beside known.vsock;
  words = attaching.uncalled_none words attaching.words_beside known.words;
}

pub uncalled_more : (a b c : DevicesKnown) → DevicesUncalled a b → DevicesUncalled b c → DevicesUncalled a c
uncalled_more a b c first behind = record {
  disk = attaching.uncalled_more disks attaching.disks_beside a.disk b.disk c.disk first.disk behind.disk;
  link = attaching.uncalled_more links attaching.links_beside a.link b.link c.link first.link behind.link;
  vsock = attaching.uncalled_more vsocks attaching.vsocks_beside a.vsock b.vsock c.vsock first.vsock behind.vsock;
  words = attaching.uncalled_more words attaching.words_beside a.words b.words c.words first.words behind.words;
}

module _ (start : Healths) where
  item_later : (it : Item) (config : Config) (guest : Option Guest) (a b c : DevicesKnown) → StillTell start a → DevicesRest a b
      → ItemAsks start it config guest b c → ItemAsks start it config guest a c
  item_later (item.Reply actor reply) config (Some g) a b c still rests then = (
    own_before start config actor a b still (own_rest a b rests) then.0,
    then.1,
    then.2,
    then.3,
    then.4,
    asks_later then.1 actor then.2 a b c rests then.5,
  )
  item_later (item.Reply actor reply) config None a b c still rests then = uncalled_more a b c (rests_uncalled a b rests) then
  item_later it config guest a b c still rests then = uncalled_more a b c (rests_uncalled a b rests) then

  devices_later : (acts : List Act) (m : Machine) (outs : List Out) (n : Machine) (run : Run acts m outs n) (a b c : DevicesKnown)
      → StillTell start a → DevicesRest a b → DevicesAnswered start acts m outs n run b c
      → DevicesAnswered start acts m outs n run a c
  devices_later [] m outs n run a b c still rests then = rests_more a b c rests then
  devices_later (act ∷ acts) m outs n run a b c still rests then =
      (then.0, item_later act.item m.config (running m) a b then.0 still rests then.1, then.2)

  -- which told their content still do

  rest_tells : (a b : DevicesKnown) → DevicesRest a b → StillTell start a → StillTell start b
  rest_tells a b rests still = tell_on start a b still (own_rest a b rests)

  uncalled_tells : (a b : DevicesKnown) → DevicesUncalled a b → StillTell start a → StillTell start b
  uncalled_tells a b uncalled still = record {
    disk = λ tells. uncalled.disk.lasts.still (still.disk tells);
    link = λ tells. uncalled.link.lasts.still (still.link tells);
    vsock = λ tells. uncalled.vsock.lasts.still (still.vsock tells);
  }

  item_tells : (it : Item) (config : Config) (guest : Option Guest) (a b : DevicesKnown) → ItemAsks start it config guest a b
      → StillTell start a → StillTell start b
  item_tells (item.Reply actor reply) config (Some g) a b asks still =
      tell_on start a b still (own_asked asks.1 actor asks.2 a b asks.5)
  item_tells (item.Reply actor reply) config None a b asks still = uncalled_tells a b asks still
  item_tells it config guest a b asks still = uncalled_tells a b asks still

  devices_still : (acts : List Act) (m : Machine) (outs : List Out) (n : Machine) (run : Run acts m outs n) (a b : DevicesKnown)
      → DevicesAnswered start acts m outs n run a b → StillTell start a → StillTell start b
  devices_still [] m outs n run a b asked still = rest_tells a b asked still
  devices_still (act ∷ acts) m outs n run a b asked still =
      devices_still acts run.1 run.2 n run.5 asked.0 b asked.2
      (item_tells act.item m.config (running m) a asked.0 asked.1 still)

  -- a run in which objects of devices were asked
  abbrev Joint : List Act → Machine → List Out → Machine → DevicesKnown → DevicesKnown → Type 0
  Joint acts m outs n old now = (run : Run acts m outs n) × DevicesAnswered start acts m outs n run old now

  run_append : (acts more : List Act) (m n k : Machine) (outs next : List Out) (old mid now : DevicesKnown)
      → StillTell start old → Joint acts m outs n old mid → Joint more n next k mid now
      → Joint (acts ++ more) m (outs ++ next) k old now
  run_append [] more m n k outs next old mid now still first behind =
      subst (λ (x : Machine). Joint more x (outs ++ next) k old now) (sym first.0.1)
      (subst (λ (l : List Out). Joint more n (l ++ next) k old now) (sym first.0.0)
      (behind.0, devices_later more n next k behind.0 old mid now still first.1 behind.1))
  run_append (act ∷ acts) more m n k outs next old mid now still first behind =
      let run = first.0 in
      let rest = run_append acts more run.1 n k run.2 next first.1.0 mid now
      (item_tells act.item m.config (running m) old first.1.0 first.1.1 still)
      (run.5, first.1.2) behind in (
        (run.0, run.1, run.2 ++ next, ap (λ (l : List Out). l ++ next) run.3, run.4, rest.0),
        (first.1.0, first.1.1, rest.1),
      )

shown_append : (a b : List Out) → shown (a ++ b) ≡ shown a ++ shown b
shown_append [] b = refl
shown_append (o ∷ a) b =
    ap (λ (l : List ℕ). shown_by o ++ l) (shown_append a b) ∙ sym (append_assoc (shown_by o) (shown a) (shown b))

said_append : (a b : List Out) → said (a ++ b) ≡ said a ++ said b
said_append [] b = refl
said_append (o ∷ a) b =
    ap (λ (l : List Out). said_by o ++ l) (said_append a b) ∙ sym (append_assoc (said_by o) (said a) (said b))

items_append : (a b : List Act) → items_of (a ++ b) ≡ items_of a ++ items_of b
items_append [] b = refl
items_append (act ∷ a) b = ap (λ (l : List Item). act.item ∷ l) (items_append a b)

-- the clock's answers

answer_more : (it : Item) (xs ys : List ℕ) → answer_by it (xs ++ ys) ≡ answer_by it xs ++ ys
answer_more (item.Reply ActorId.Timer (given.Now n)) xs ys = refl
answer_more (item.Reply actor reply) xs ys = refl
answer_more it xs ys = refl

pub answers_append : (a b : List Item) → answers_in (a ++ b) ≡ answers_in a ++ answers_in b
answers_append [] b = refl
answers_append (it ∷ a) b =
    ap (answer_by it) (answers_append a b) ∙ answer_more it (answers_in a) (answers_in b)

next_append : (left mid now : ℕ → ℕ) (xs ys : List ℕ) → AreNext left xs mid → AreNext mid ys now → AreNext left (xs ++ ys) now
next_append left mid now [] ys first behind = subst (λ (l : ℕ → ℕ). AreNext l ys now) first behind
next_append left mid now (x ∷ xs) ys first behind = (first.0, next_append (later left) mid now xs ys first.1 behind)

-- what is left after some answers
abbrev left_after : List ℕ → (ℕ → ℕ) → ℕ → ℕ
left_after [] left = left
left_after (x ∷ xs) left = left_after xs (later left)

next_first : (left now : ℕ → ℕ) (xs ys : List ℕ) → AreNext left (xs ++ ys) now → AreNext left xs (left_after xs left)
next_first left now [] ys are = refl
next_first left now (x ∷ xs) ys are = (are.0, next_first (later left) now xs ys are.1)

next_behind : (left now : ℕ → ℕ) (xs ys : List ℕ) → AreNext left (xs ++ ys) now → AreNext (left_after xs left) ys now
next_behind left now [] ys are = are
next_behind left now (x ∷ xs) ys are = next_behind (later left) now xs ys are.1

pub answered_append : (start mid now : ClockKnown) (xs ys : List ℕ) → HasAnswered start xs mid → HasAnswered mid ys now
    → HasAnswered start (xs ++ ys) now
answered_append start mid now xs ys first behind = record {
  still = λ tells. behind.still (first.still tells);
  are = λ tells. next_append start.left mid.left now.left xs ys (first.are tells) (behind.are (first.still tells));
}

-- a clock between the first of its answers and the others
abbrev clock_after : List ℕ → ClockKnown → ClockKnown
clock_after xs start = record { tells = start.tells; left = left_after xs start.left }

pub answered_first : (start now : ClockKnown) (xs ys : List ℕ) → HasAnswered start (xs ++ ys) now
    → (mid : ClockKnown) × HasAnswered start xs mid × HasAnswered mid ys now
answered_first start now xs ys all = (
  clock_after xs start,
  record {
    still = λ tells. tells;
    are = λ tells. next_first start.left now.left xs ys (all.are tells);
  },
  record {
    still = λ tells. all.still tells;
    are = λ tells. next_behind start.left now.left xs ys (all.are tells);
  },
)

-- acts that give no lineage, one behind another
abbrev Unlineaged : Act → Type 0
Unlineaged act = gives_lineage act.item ≡ false

pub none_given : NoLineage []
none_given = All-from_recursion Unlineaged [] tt

pub one_given : (act : Act) → gives_lineage act.item ≡ false → NoLineage (act ∷ [])
one_given act none = All-from_recursion Unlineaged (act ∷ []) (none, tt)

-- objects that count as telling at the start did tell
told_before : (attached : Bool) (known : DevicesKnown) → StillTell (told_by attached (healths known)) known
told_before true known = record { disk = λ tells. tells; link = λ tells. tells; vsock = λ tells. tells }
told_before false known = record { disk = λ tells. cc; link = λ tells. cc; vsock = λ tells. cc }

-- more acts, which were told, shown, said and asked for, and give no lineage
pub goes_with : (s : Start) (old now : Seen) (m n : Machine) (talk : List Out) (acts : List Act) (outs : List Out)
    → Reached s old m talk → (run : Run acts m outs n) → now.took ≡ old.took ++ items_of acts → now.taken ≡ old.taken ++ shown outs
    → AnsweredSince (told_at s) acts m outs n run old.host now.host → NoLineage acts
    → Reached s now n (talk ++ said outs)
goes_with s old now m n talk acts outs r run told sunk asked none = record {
  acts = r.acts ++ acts;
  outs = r.outs ++ outs;
  added =
      told ∙ ap (λ (l : List Item). l ++ items_of acts) r.added ∙ append_assoc s.seen.took (items_of r.acts) (items_of acts)
      ∙ ap (λ (l : List Item). s.seen.took ++ l) (sym (items_append r.acts acts));
  no_lineage = All-append Unlineaged r.acts acts r.no_lineage none;
  run = joint.0;
  sink =
      sunk ∙ ap (λ (l : List ℕ). l ++ shown outs) r.sink ∙ append_assoc s.seen.taken (shown r.outs) (shown outs)
      ∙ ap (λ (l : List ℕ). s.seen.taken ++ l) (sym (shown_append r.outs outs));
  talks =
      ap (λ (l : List Out). l ++ said outs) r.talks ∙ append_assoc s.talk (said r.outs) (said outs)
      ∙ ap (λ (l : List Out). s.talk ++ l) (sym (said_append r.outs outs));
  asked = record {
    clock = subst (λ (l : List ℕ). HasAnswered s.seen.host.clock l now.host.clock)
        (sym (ap answers_in (items_append r.acts acts) ∙ answers_append (items_of r.acts) (items_of acts)))
        (answered_append s.seen.host.clock old.host.clock now.host.clock (answers_in (items_of r.acts)) (answers_in (items_of acts))
        r.asked.clock asked.clock);
    devices = joint.1;
  };
}
  where
    joint : Joint (told_at s) (r.acts ++ acts) s.flat (r.outs ++ outs) n s.seen.host.devices now.host.devices
    joint =
        run_append (told_at s) r.acts acts s.flat m n r.outs outs s.seen.host.devices old.host.devices now.host.devices
        (told_before s.attached s.seen.host.devices) (r.run, r.asked.devices) (run, asked.devices)

-- which are said on no connection
pub goes_by : (s : Start) (old now : Seen) (m n : Machine) (talk : List Out) (acts : List Act) (outs : List Out)
    → Reached s old m talk → (run : Run acts m outs n) → now.took ≡ old.took ++ items_of acts → now.taken ≡ old.taken ++ shown outs
    → said outs ≡ [] → AnsweredSince (told_at s) acts m outs n run old.host now.host → NoLineage acts
    → Reached s now n talk
goes_by s old now m n talk acts outs r run told sunk unsaid asked none =
    subst (λ (t : List Out). Reached s now n t) (ap (λ (l : List Out). talk ++ l) unsaid ∙ append-nil talk)
    (goes_with s old now m n talk acts outs r run told sunk asked none)

-- objects that told their content at the start still do
pub reached_still : (s : Start) (now : Seen) (m : Machine) (talk : List Out) → Reached s now m talk → StillTell (told_at s) now.host.devices
reached_still s now m talk r =
    devices_still (told_at s) r.acts s.flat r.outs m r.run s.seen.host.devices now.host.devices r.asked.devices
    (told_before s.attached s.seen.host.devices)

-- and each device still has its own, asked or not
pub still_own : (s : Start) (old now : Seen) (m : Machine) (talk : List Out) → Reached s old m talk
    → SameOwn old.host.devices now.host.devices → AreOwn s m old → AreOwn s m now
still_own s old now m talk r same own =
    let still = reached_still s old m talk r in record {
      disk = named_by_kept disks (told_at s).disk m.guest m.config old.host.devices.disk now.host.devices.disk still.disk same.disk own.disk;
      link = named_by_kept links (told_at s).link m.guest m.config old.host.devices.link now.host.devices.link still.link same.link own.link;
      vsock = named_by_kept vsocks (told_at s).vsock m.guest m.config old.host.devices.vsock now.host.devices.vsock still.vsock same.vsock own.vsock;
    }

-- a clock and objects of devices that are asked nothing
pub record HostRests (old new : HostKnown) : Type 0 where
  pub clock : telling.Lasts old.clock new.clock
  pub devices : DevicesRest old.devices new.devices

pub host_same : (host : HostKnown) → HostRests host host
host_same host = record { clock = record { still = λ tells. tells; same = λ tells. refl }; devices = rests_same host.devices }

-- a run of no acts, in which nothing is asked
pub none_asked : (start : Healths) (m : Machine) (host : HostKnown) → AnsweredSince start [] m [] m (refl, refl) host host
none_asked start m host = record { clock = record { still = λ tells. tells; are = λ tells. refl }; devices = rests_same host.devices }

-- a trace that lacks nothing
pub none_ahead : (start : Healths) (m : Machine) (host : HostKnown) → LeadsAhead start m host m host
none_ahead start m host = record {
  events = [];
  outs = [];
  run = (refl, refl);
  unshown = refl;
  unsaid = refl;
  answered = none_asked start m host;
}

pub rests : (s : Start) (old now : Seen) (m : Machine) (talk : List Out) → Reached s old m talk → now.took ≡ old.took
    → now.taken ≡ old.taken → HostRests old.host now.host → Reached s now m talk
rests s old now m talk r told sunk rest =
    goes_by s old now m m talk [] [] r (refl, refl) (told ∙ sym (append-nil old.took)) (sunk ∙ sym (append-nil old.taken)) refl
    (record {
      clock = record { still = λ tells. rest.clock.still tells; are = λ tells. rest.clock.same tells };
      devices = rest.devices;
    })
    none_given
