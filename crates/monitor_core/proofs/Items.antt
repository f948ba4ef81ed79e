-- What an item makes of the monitor is what it makes of each machine that it is.
use Rattle.std.proofs.Common.{◌≡◌, ℕ, ◌+◌, arith, refl, sym, ap, subst, ◌∙◌, List, [], ◌++◌, Result, Ok, Err, inl, inr}
use Rattle.std.proofs.lemmas.Result.{err_from_is_err_and}
use Rattle.std.specs.Prelude.{IfErr, OnErr}
use Rattle.std.specs.Result.{IsErrAnd}
use Rattle.std.specs.FinMap.{insert}
use Rattle.vm_types.specs.Causes.{Rose, RoseBy}
use Rattle.vm_types.specs.Saved.{Saved, SameOthers}
use Rattle.vm_types.specs.declared.ids.ActorId.{ActorId}
use Rattle.vm_outside.specs.Calls.{FileCall, MakesFront}
use Rattle.vm_outside.specs.Filing.{SameFiles}
use Rattle.vm_outside.specs.Known.{FilesKnown, Tells}
use Rattle.gate_file.specs.Runs.{RunsAll, RunsPart, save_calls}
use Rattle.http_stream.specs.Stream.{Connection}
use Rattle.http_stream.specs.Sent.{sent}
use Rattle.http_stream.specs.Conversation.{arrived, new_connection, Conversation, ConversationFront}
use Rattle.script_text.specs.declared.item.HostReply.{HostReply}
use Rattle.script_text.specs.declared.item.Item.{Item}
use Rattle.responses.specs.Output.{console_line}
use Rattle.flat_machine.specs.Outcome as flat
use Rattle.flat_machine.specs.Machine.{AreFilesOf, Machine, console_of, drained, running}
use Rattle.flat_machine.specs.Given.{reply_given}
use Rattle.flat_machine.specs.Items.{FrontLines, ItemStep, RepliesLine, StepsLine, TalkLines, Talks, TalksFront, bytes_of}
use Rattle.responses.specs.declared.form.ResponseForm.{ResponseForm}
use Rattle.responses.specs.declared.form.ResponseForm.TheVariants.{Line}
use Rattle.flat_machine.specs.Requests.{RequestStep}
use Rattle.monitor_machine.specs.declared.machine.LiveMachine.{LiveMachine}
use Rattle.monitor_machine.specs.State.{IsMachine}
use Rattle.monitor_core.specs.declared.item_error.ItemError.{ItemError}
use Rattle.monitor_core.specs.declared.monitor.Monitor.{Monitor}
use Rattle.monitor_core.specs.Going.{CallsFiles, CountsFaults, Gave, GaveFront, GivesFiling, IsFile, ItemCause, ItemGoes, ItemStops, Leads, LeavesFiles, error_failures}
use Rattle.monitor_core.specs.State.{IsBeside, IsMonitor}
use Rattle.monitor_core.specs.Talking.{HasHalted, HasStopped, HasTalked}
use Rattle.monitor_core.proofs.Talks.{begins_due, begins_quiet}

-- no request wants no fault
none_counted : (before now : ℕ) → now ≡ before → CountsFaults [] before now
none_counted before now same = record { rose = omega (arith, same); kept = λ good. same }

-- without the connection
pub beside : {monitor : Monitor} {known : FilesKnown} {m : Machine} → IsMonitor monitor known m → IsBeside monitor known m
beside is = record { own = is.own.live; files = is.files }

-- and with it
pub with_front : (machine : LiveMachine) (monitor : Monitor) (known : FilesKnown) (n : Machine) → IsMachine machine known n
    → monitor.front ≡ n.connection → IsMonitor (record monitor { machine = machine }) known n
with_front machine monitor known n is front = record { own = record { live = is.own; connection_is = front }; files = is.files }

-- ---- an item that brings no request

quiet_goes : (item it : Item) (monitor after : Monitor) (known : FilesKnown) (text : List ℕ) → item ≡ it
    → Leads it [] monitor.front after.front
    → ((m : Machine) → IsMonitor monitor known m → (n : Machine) × ItemStep it [] m text n × IsMonitor after known n)
    → ItemGoes item text monitor after known known
quiet_goes item it monitor after known text is given went =
    subst (λ (i : Item). ItemGoes i text monitor after known known) (sym is) (record {
      outcomes = [];
      given = given;
      counted = none_counted known.health.faults known.health.faults refl;
      uncalled = λ never. refl;
      went = λ told m here. went m here;
    })

pub file_goes : (item : Item) (monitor : Monitor) (known left : FilesKnown) (name content text : List ℕ) → item ≡ Item.File name content
    → text ≡ [] → left.health.faults ≡ known.health.faults → (Tells known.health → RunsAll name (save_calls name content) content known left)
    → ItemGoes item text monitor monitor known left
file_goes item monitor known left name content text is quiet kept saves =
    subst (λ (i : Item). ItemGoes i text monitor monitor known left) (sym is) (record {
      outcomes = [];
      given = (refl, refl);
      counted = none_counted known.health.faults left.health.faults kept;
      uncalled = λ never. kept;
      went = λ told m here.
          let n : Machine = record m { saved = insert m.saved name content; calls = m.calls ++ save_calls name content } in
          let live = here.own.live in (
            n,
            (refl, (quiet, refl)),
            record {
              own = record {
                live = record {
                  id_is = live.id_is;
                  ids_is = live.ids_is;
                  config_is = live.config_is;
                  metadata_is = live.metadata_is;
                  guest_is = live.guest_is;
                  paused_is = live.paused_is;
                };
                connection_is = here.own.connection_is;
              };
              files = record {
                saved_is = (saves told).saved ∙ ap (λ (s : Saved). insert s name content) here.files.saved_is;
                calls_is = (saves told).calls ∙ ap (λ (l : List FileCall). l ++ save_calls name content) here.files.calls_is;
              };
            },
          );
    })

-- a line that shows something of the machine and leaves it
pub shown_goes : (item it : Item) (monitor : Monitor) (known : FilesKnown) (text : List ℕ) → item ≡ it
    → Leads it [] monitor.front monitor.front → ((m : Machine) → IsMachine monitor.machine known m → ItemStep it [] m text m)
    → ItemGoes item text monitor monitor known known
shown_goes item it monitor known text is given shows =
    quiet_goes item it monitor monitor known text is given (λ m here. (m, shows m (beside here), here))

pub nothing_goes : (item : Item) (monitor : Monitor) (known : FilesKnown) (text : List ℕ) → item ≡ Item.Nothing → text ≡ [] → ItemGoes item text monitor monitor known known
nothing_goes item monitor known text is quiet =
    shown_goes item Item.Nothing monitor known text is (refl, refl) (λ m here. (refl, (quiet, refl)))

pub lineage_goes : (item : Item) (monitor after : Monitor) (known : FilesKnown) (lineage : ℕ) (text : List ℕ)
    → item ≡ Item.Lineage lineage → text ≡ [] → after.front ≡ monitor.front
    → ((m : Machine) → IsMonitor monitor known m → IsMonitor after known (record m { ids = record m.ids { lineage = lineage } }))
    → ItemGoes item text monitor after known known
lineage_goes item monitor after known lineage text is quiet front set =
    quiet_goes item (Item.Lineage lineage) monitor after known text is (refl, front)
    (λ m here. (record m { ids = record m.ids { lineage = lineage } }, (refl, (quiet, refl)), set m here))

pub connect_goes : (item : Item) (monitor after : Monitor) (known : FilesKnown) (text : List ℕ) → item ≡ Item.Connect
    → text ≡ [] → after.front ≡ new_connection
    → ((m : Machine) → IsMonitor monitor known m → IsMonitor after known (record m { connection = new_connection }))
    → ItemGoes item text monitor after known known
connect_goes item monitor after known text is quiet front connected =
    quiet_goes item Item.Connect monitor after known text is (refl, front)
    (λ m here. (record m { connection = new_connection }, (refl, (quiet, refl)), connected m here))

pub step_goes : (item : Item) (monitor : Monitor) (machine : LiveMachine) (known : FilesKnown) (actor : ActorId) (count : ℕ) (text : List ℕ)
    → item ≡ Item.Step actor count
    → ((m : Machine) → IsMachine monitor.machine known m
    → (n : Machine) × StepsLine (running m) actor count m text n × IsMachine machine known n × (n.connection ≡ m.connection))
    → ItemGoes item text monitor (record monitor { machine = machine }) known known
step_goes item monitor machine known actor count text is went =
    quiet_goes item (Item.Step actor count) monitor (record monitor { machine = machine }) known text is (refl, refl) (λ m here.
    let p = went m (beside here) in
    (p.0, (refl, p.1), with_front machine monitor known p.0 p.2 (here.own.connection_is ∙ sym p.3)))

pub reply_goes : (item : Item) (monitor : Monitor) (machine : LiveMachine) (known : FilesKnown) (actor : ActorId) (given : HostReply) (text : List ℕ)
    → item ≡ Item.Reply actor given
    → ((m : Machine) → IsMachine monitor.machine known m
    → (n : Machine) × RepliesLine (running m) actor (reply_given given) m text n × IsMachine machine known n × (n.connection ≡ m.connection))
    → ItemGoes item text monitor (record monitor { machine = machine }) known known
reply_goes item monitor machine known actor given text is went =
    quiet_goes item (Item.Reply actor given) monitor (record monitor { machine = machine }) known text is (refl, refl) (λ m here.
    let p = went m (beside here) in
    (p.0, (refl, p.1), with_front machine monitor known p.0 p.2 (here.own.connection_is ∙ sym p.3)))

pub console_goes : (item : Item) (monitor : Monitor) (machine : LiveMachine) (known : FilesKnown) (text : List ℕ) → item ≡ Item.Console
    → ((m : Machine) → IsMachine monitor.machine known m → (text ≡ console_line (console_of m)) × IsMachine machine known (drained m))
    → ItemGoes item text monitor (record monitor { machine = machine }) known known
console_goes item monitor machine known text is went =
    quiet_goes item Item.Console monitor (record monitor { machine = machine }) known text is (refl, refl) (λ m here.
    let p = went m (beside here) in
    (drained m, (refl, (p.0, refl)), with_front machine monitor known (drained m) p.1 here.own.connection_is))

-- ---- an item that brings bytes

abbrev pub on : Monitor → List ℕ → Monitor
on monitor bytes = record monitor { front = arrived monitor.front bytes }

-- a machine that took what came on the connection
taken : (after : Monitor) (known : FilesKnown) (n : Machine) → IsBeside after known n → IsMonitor after known (record n { connection = after.front })
taken after known n is = record {
  own = record {
    live = record {
      id_is = is.own.id_is;
      ids_is = is.own.ids_is;
      config_is = is.own.config_is;
      metadata_is = is.own.metadata_is;
      guest_is = is.own.guest_is;
      paused_is = is.own.paused_is;
    };
    connection_is = refl;
  };
  files = record { saved_is = is.files.saved_is; calls_is = is.files.calls_is };
}

pub bytes_went : (form : ResponseForm) (monitor after : Monitor) (known left : FilesKnown) (bytes text : List ℕ) (m : Machine) → (talked : HasTalked form (on monitor bytes) after text known left)
    → Tells known.health → IsMonitor monitor known m
    → (n : Machine) × Talks bytes talked.answered.outcomes m talked.answered.responses n × IsMonitor after left n
bytes_went form monitor after known left bytes text m talked told is =
    let p = talked.answered.went told m (beside is) in (
      record p.0 { connection = after.front },
      (
        after.front,
        p.0,
        subst (λ (c : Connection). Conversation RequestStep talked.answered.outcomes (arrived c bytes) m talked.answered.responses after.front p.0) is.own.connection_is
            (begins_quiet RequestStep talked.answered.outcomes (arrived monitor.front bytes) after.front m p.0 talked.answered.responses p.1 talked.quiet),
        refl,
      ),
      taken after left p.0 p.2,
    )

-- and the lines of what was answered
lines_went : (monitor after : Monitor) (known left : FilesKnown) (bytes text : List ℕ) (m : Machine) → (talked : HasTalked Line (on monitor bytes) after text known left)
    → Tells known.health → IsMonitor monitor known m
    → (n : Machine) × TalkLines bytes talked.answered.outcomes m text n × IsMonitor after left n
lines_went monitor after known left bytes text m talked told is =
    let went = bytes_went Line monitor after known left bytes text m talked told is in
    (went.0, (talked.answered.responses, went.1, talked.answered.writes), went.2)

pub gave : (form : ResponseForm) (monitor after : Monitor) (known left : FilesKnown) (bytes text : List ℕ) (talked : HasTalked form (on monitor bytes) after text known left)
    → Gave talked.answered.outcomes (arrived monitor.front bytes) after.front
gave form monitor after known left bytes text talked =
    begins_quiet {W = flat.Outcome} {M = Unit {0}} {A = Unit {0}} (λ how given m said n. Unit {0}) talked.answered.outcomes (arrived monitor.front bytes) after.front tt tt [] talked.answered.given talked.quiet

pub bytes_goes : (item : Item) (monitor after : Monitor) (known left : FilesKnown) (bytes text : List ℕ) → item ≡ Item.Bytes bytes
    → HasTalked Line (on monitor bytes) after text known left → ItemGoes item text monitor after known left
bytes_goes item monitor after known left bytes text is talked =
    subst (λ (i : Item). ItemGoes i text monitor after known left) (sym is) (record {
      outcomes = talked.answered.outcomes;
      given = gave Line monitor after known left bytes text talked;
      counted = talked.answered.counted;
      uncalled = talked.answered.uncalled;
      went = λ told m here. lines_went monitor after known left bytes text m talked told here;
    })

pub api_goes : (item : Item) (monitor after : Monitor) (known left : FilesKnown) (method path body text : List ℕ) → item ≡ Item.Api method path body
    → HasTalked Line (on monitor (sent method path body)) after text known left → ItemGoes item text monitor after known left
api_goes item monitor after known left method path body text is talked =
    subst (λ (i : Item). ItemGoes i text monitor after known left) (sym is) (record {
      outcomes = talked.answered.outcomes;
      given = gave Line monitor after known left (sent method path body) text talked;
      counted = talked.answered.counted;
      uncalled = talked.answered.uncalled;
      went = λ told m here. lines_went monitor after known left (sent method path body) text m talked told here;
    })

-- ---- an item that is not done to its end

-- nothing of it was done
stops_at_once : (why : ItemError) (item : Item) (monitor : Monitor) (known left : FilesKnown) → ItemCause item why
    → RoseBy (0 + error_failures why) known.health.faults left.health.faults
    → ((CallsFiles monitor item → ⊥) → left.health.faults ≡ known.health.faults)
    → (Tells known.health → (m : Machine) → AreFilesOf known m → LeavesFiles item m left) → ItemStops why item monitor monitor known left
stops_at_once why item monitor known left cause rose uncalled files = record {
  part = [];
  unwritten = [];
  given = inl (refl, refl);
  cause = cause;
  rose = rose;
  uncalled = uncalled;
  same = λ none. refl;
  went = λ told m is. (m, inl (refl, refl, refl), is.own, files told m is.files);
}

pub file_stops : (item : Item) (monitor : Monitor) (known left : FilesKnown) (name content : List ℕ) → item ≡ Item.File name content → Rose known.health.faults left.health.faults
    → (Tells known.health → RunsPart name (save_calls name content) known left) → ItemStops ItemError.FilesFailed item monitor monitor known left
file_stops item monitor known left name content file rose part =
    subst (λ (i : Item). ItemStops ItemError.FilesFailed i monitor monitor known left) (sym file)
    (stops_at_once ItemError.FilesFailed (Item.File name content) monitor known left tt rose (λ never. absurd (never tt)) (λ told m is. (
      subst (λ (s : Saved). SameOthers s name left.saved) is.saved_is (part told).others,
      subst (λ (l : List FileCall). MakesFront (save_calls name content) l left.calls) is.calls_is (part told).calls,
    )))

-- for want of memory
pub quiet_stops : (why : ItemError) (item it : Item) (monitor after : Monitor) (known : FilesKnown) → item ≡ it → why ≡ ItemError.OutOfMemory → (IsFile it → ⊥) → after ≡ monitor
    → ((m : Machine) → AreFilesOf known m → LeavesFiles it m known) → ItemStops why item monitor after known known
quiet_stops why item it monitor after known is memory no_file same files =
    subst (λ (i : Item). ItemStops why i monitor after known known) (sym is)
    (subst (λ (w : ItemError). ItemStops w it monitor after known known) (sym memory)
    (subst (λ (q : Monitor). ItemStops ItemError.OutOfMemory it monitor q known known) (sym same)
    (stops_at_once ItemError.OutOfMemory it monitor known known no_file (omega arith) (λ never. refl) (λ told m. files m))))

part_went : (monitor after : Monitor) (known left : FilesKnown) (bytes : List ℕ) (m : Machine) → (stopped : HasStopped Line (on monitor bytes) after known left)
    → Tells known.health → IsMonitor monitor known m
    → (n : Machine) × TalksFront bytes stopped.answered.outcomes m stopped.answered.responses n × IsMonitor after stopped.before n
part_went monitor after known left bytes m stopped told is =
    let p = stopped.answered.went told m (beside is) in (
      record p.0 { connection = after.front },
      (
        after.front,
        p.0,
        subst (λ (c : Connection). ConversationFront RequestStep stopped.answered.outcomes (arrived c bytes) m stopped.answered.responses after.front p.0) is.own.connection_is
            (begins_due RequestStep stopped.answered.outcomes (arrived monitor.front bytes) after.front m p.0 stopped.answered.responses p.1 stopped.due),
        refl,
      ),
      taken after stopped.before p.0 p.2,
    )

still_files : (before left : FilesKnown) (m : Machine) → SameFiles before left → AreFilesOf before m → AreFilesOf left m
still_files before left m same is = record { saved_is = same.saved ∙ is.saved_is; calls_is = same.calls ∙ is.calls_is }

-- some bytes of an item came, and the first of what is due was answered
stops_within : (item : Item) (monitor after : Monitor) (known left : FilesKnown) (bytes : List ℕ) → bytes_of item ≡ bytes → (IsFile item → ⊥)
    → ((CallsFiles monitor item → ⊥) → GivesFiling (arrived monitor.front bytes) → ⊥)
    → ((m : Machine) (now : FilesKnown) → AreFilesOf now m → LeavesFiles item m now)
    → HasStopped Line (on monitor bytes) after known left → ItemStops ItemError.OutOfMemory item monitor after known left
stops_within item monitor after known left bytes of no_file never files stopped = record {
  part = stopped.answered.outcomes;
  unwritten = stopped.text;
  given = inr (subst (λ (b : List ℕ). GaveFront stopped.answered.outcomes (arrived monitor.front b) after.front) (sym of)
      (begins_due {W = flat.Outcome} {M = Unit {0}} {A = Unit {0}} (λ how given m said n. Unit {0}) stopped.answered.outcomes (arrived monitor.front bytes) after.front tt tt [] stopped.answered.given stopped.due));
  cause = no_file;
  rose = let k = stopped.answered.counted.rose in let l = stopped.later in omega (arith, k, l);
  uncalled = λ none. stopped.uncalled (never none);
  same = λ none. stopped.answered.same none;
  went = λ told m is.
      let p = part_went monitor after known left bytes m stopped told is in (
        p.0,
        inr (subst (λ (b : List ℕ). FrontLines b stopped.answered.outcomes m stopped.text p.0) (sym of)
            (stopped.answered.responses, p.1, stopped.answered.writes)),
        p.2.own,
        files p.0 left (still_files stopped.before left p.0 (stopped.files (stopped.answered.lasts.still told)) p.2.files),
      );
}

halts : (item : Item) (monitor after : Monitor) (known left : FilesKnown) (bytes : List ℕ) → bytes_of item ≡ bytes → (IsFile item → ⊥)
    → ((CallsFiles monitor item → ⊥) → GivesFiling (arrived monitor.front bytes) → ⊥)
    → ((m : Machine) (now : FilesKnown) → AreFilesOf now m → LeavesFiles item m now)
    → HasHalted Line bytes monitor after known left → ItemStops ItemError.OutOfMemory item monitor after known left
halts item monitor after known left bytes of no_file never files (inl (same, kept)) =
    subst (λ (k : FilesKnown). ItemStops ItemError.OutOfMemory item monitor after known k) (sym kept)
    (subst (λ (q : Monitor). ItemStops ItemError.OutOfMemory item monitor q known known) (sym same)
    (stops_at_once ItemError.OutOfMemory item monitor known known no_file (omega arith) (λ none. refl) (λ told m. files m known)))
halts item monitor after known left bytes of no_file never files (inr stopped) =
    stops_within item monitor after known left bytes of no_file never files stopped

pub bytes_stops : (why : ItemError) (item : Item) (monitor after : Monitor) (known left : FilesKnown) (bytes : List ℕ) → item ≡ Item.Bytes bytes → why ≡ ItemError.OutOfMemory
    → HasHalted Line bytes monitor after known left → ItemStops why item monitor after known left
bytes_stops why item monitor after known left bytes is memory halted =
    subst (λ (i : Item). ItemStops why i monitor after known left) (sym is)
    (subst (λ (w : ItemError). ItemStops w (Item.Bytes bytes) monitor after known left) (sym memory)
    (halts (Item.Bytes bytes) monitor after known left bytes refl (λ file. file) (λ none. none) (λ m now files. files) halted))

pub api_stops : (why : ItemError) (item : Item) (monitor after : Monitor) (known left : FilesKnown) (method path body : List ℕ) → item ≡ Item.Api method path body → why ≡ ItemError.OutOfMemory
    → HasHalted Line (sent method path body) monitor after known left → ItemStops why item monitor after known left
api_stops why item monitor after known left method path body is memory halted =
    subst (λ (i : Item). ItemStops why i monitor after known left) (sym is)
    (subst (λ (w : ItemError). ItemStops w (Item.Api method path body) monitor after known left) (sym memory)
    (halts (Item.Api method path body) monitor after known left (sent method path body) refl (λ file. file) (λ none. none) (λ m now files. files) halted))

-- ---- results

-- want of memory, as `?` hands it on
pub on_memory : {T : Type 0} (r : Result T ItemError) (P : ItemError → Type 0) → IsErrAnd r (λ e. e ≡ ItemError.OutOfMemory) → P ItemError.OutOfMemory → IfErr r P
on_memory {T} r P is holds =
    let e = err_from_is_err_and r is in
    subst (λ (x : Result T ItemError). IfErr x P) (sym e.1) (subst P (sym e.2) holds)

-- what holds anyhow holds of an `Err`
pub on_err : {T E : Type 0} (r : Result T E) (P : Type 0) → P → OnErr r P
on_err (Ok value) P holds = tt
on_err (Err why) P holds = holds
