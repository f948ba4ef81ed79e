-- What comes of bytes that a connection gave.
use Rattle.std.proofs.Common.{◌≡◌, ℕ, Bool, true, false, inl, refl, sym, ap, ◌∙◌, subst, List, [], ◌∷◌, ◌++◌, append-nil}
use Rattle.vm_types.specs.declared.exit.Object.TheVariants as object
use Rattle.vm_outside.specs.Known.{FilesKnown, SinkKnown, Tells}
use Rattle.vm_host.specs.Telling.{ClockKnown}
use Rattle.serve_host.specs.Passing.{ConnKnown, Gives, Waits}
use Rattle.serve_host.specs.Tracing.{TraceKnown}
use Rattle.script_text.specs.declared.item.Item.TheVariants as item
use Rattle.responses.specs.declared.form.ResponseForm.TheVariants.{Http}
use Rattle.responses.specs.Responses.{Response, all_written}
use Rattle.flat_machine.specs.Items.{Talks}
use Rattle.flat_machine.specs.Machine.{AreFilesOf, Machine, is_off, running}
use Rattle.flat_machine.specs.Outcome.{Outcome}
use Rattle.flat_machine.specs.Run.{Act}
use Rattle.flat_trace.specs.Events.{answers_in}
use Rattle.flat_trace.specs.Showing.{Hears, Out, Run, TraceStep}
use Rattle.flat_trace.specs.Showing.Out.{Heard}
use Rattle.monitor_core.specs.declared.monitor.Monitor.{Monitor}
use Rattle.monitor_core.specs.State.{IsMonitor}
use Rattle.monitor_core.specs.Talking.{HasHalted}
use Rattle.slice_runner.specs.Runs.{HasAnswered}
use Rattle.monitor_machine.specs.Kinds.{DevicesKnown}
use Rattle.monitor_running.specs.Asked.{AnsweredSince, DevicesUncalled, HaveOwn, Healths, HostKnown, ItemAsks, healths}
use Rattle.monitor_running.specs.Reached.{AreOwn, Reached, Seen, Start, known, seen, told_at}
use Rattle.monitor_running.proofs.Attached.{own_since}
use Rattle.monitor_running.proofs.Events.{rests_same}
use Rattle.monitor_running.proofs.Joins.{goes_with, none_ahead, one_given, reached_still, uncalled_none}
use Rattle.monitor_serving.specs.declared.served.Served.TheVariants as served
use Rattle.monitor_serving.specs.Turns.{Broke, Continues}
use Rattle.monitor_serving.specs.Views.{Talked, View, host_with, hosts, view}
use Rattle.monitor_serving.proofs.Bringing.{gives_bring, waits_bring}
use Rattle.monitor_serving.proofs.Closing.{heard_closes}
use Rattle.monitor_serving.proofs.Halting.{halted_talk}

-- a clock that is asked nothing by an item, and objects of devices that are not called in it
pub unasked : (start : Healths) (act : Act) (m : Machine) (outs : List Out) (n : Machine) (run : Run (act ∷ []) m outs n)
    (old new : HostKnown) → new.clock ≡ old.clock → answers_in (act.item ∷ []) ≡ []
    → ItemAsks start act.item m.config (running m) old.devices new.devices → AnsweredSince start (act ∷ []) m outs n run old new
unasked start act m outs n run old new same none asks = record {
  clock = subst (λ (c : ClockKnown). HasAnswered old.clock (answers_in (act.item ∷ [])) c) (sym same)
      (subst (λ (l : List ℕ). HasAnswered old.clock l old.clock) (sym none) (record { still = λ tells. tells; are = λ tells. refl }));
  devices = (new.devices, asks, rests_same new.devices);
}

module _ (s : Start) (m : Machine) (talk : List Out) (bytes : List ℕ) (trace told : TraceKnown) (sink : SinkKnown) (clock : ClockKnown)
    (old new : DevicesKnown) (uncalled : DevicesUncalled old new) (is_told : told.took ≡ trace.took ++ item.Bytes bytes ∷ [])
    (reached : Reached s (seen (known trace sink (host_with clock old))) m talk) where
  abbrev after_bytes : Seen
  after_bytes = seen (known told sink (host_with clock new))

  -- the item of the bytes is in the trace
  heard_step : (outcomes : List Outcome) (responses : List Response) (n : Machine)
      → TraceStep (item.Bytes bytes) outcomes m (Heard bytes responses) n
      → Reached s after_bytes n (talk ++ Heard bytes responses ∷ [])
  heard_step outcomes responses n step =
      let act : Act = record { item = item.Bytes bytes; outcomes = outcomes } in
      let run : Run (act ∷ []) m (Heard bytes responses ∷ []) n = (Heard bytes responses, n, [], refl, step, (refl, refl)) in
      goes_with s (seen (known trace sink (host_with clock old))) after_bytes m n talk
      (act ∷ []) (Heard bytes responses ∷ []) reached run is_told (sym (append-nil sink.taken))
      (unasked (told_at s) act m (Heard bytes responses ∷ []) n run (host_with clock old) (host_with clock new) refl refl uncalled) (one_given act refl)

  on_step : (outcomes : List Outcome) (responses : List Response) (n : Machine) (off : Bool) → off ≡ false
      → Talks bytes outcomes m responses n → Hears off bytes outcomes m (Heard bytes responses) n
  on_step outcomes responses n true on talks = cc
  on_step outcomes responses n false on talks = (responses, refl, talks)

  off_step : (off : Bool) → off ≡ true → Hears off bytes [] m (Heard bytes []) m
  off_step true is = (refl, refl, refl)
  off_step false is = cc

  pub was_heard : (outcomes : List Outcome) (responses : List Response) (n : Machine) → is_off m ≡ false
      → Talks bytes outcomes m responses n → Reached s after_bytes n (talk ++ Heard bytes responses ∷ [])
  was_heard outcomes responses n on talks =
      heard_step outcomes responses n (on_step outcomes responses n (is_off m) on talks)

  pub was_dropped : is_off m ≡ true → Reached s after_bytes m (talk ++ Heard bytes [] ∷ [])
  was_dropped off = heard_step [] [] m (off_step (is_off m) off)

-- ---- what the connection gave and took

pub said_on : (before now : ConnKnown) (bytes text unsent : List ℕ) (responses : List Response) → now.gave ≡ before.gave ++ bytes
    → now.took ++ unsent ≡ before.took ++ text → text ≡ all_written Http responses → now.gave ++ now.left ≡ before.gave ++ before.left
    → Talked before now (Heard bytes responses ∷ []) unsent []
said_on before now bytes text unsent responses gave took is brought = record {
  only = tt;
  gave = gave ∙ ap (λ (l : List ℕ). before.gave ++ l) (sym (append-nil bytes) ∙ sym (append-nil (bytes ++ [])));
  took = took ∙ ap (λ (l : List ℕ). before.took ++ l) (is ∙ sym (append-nil (all_written Http responses)));
  brought = brought;
}

module _ (s : Start) (m : Machine) (talk : List Out) (bytes : List ℕ) (trace told : TraceKnown) (sink : SinkKnown) (clock : ClockKnown)
    (old : DevicesKnown) (files left : FilesKnown) (monitor after : Monitor) (before conn now : ConnKnown)
    (is_told : told.took ≡ trace.took ++ item.Bytes bytes ∷ [])
    (reached : Reached s (seen (known trace sink (host_with clock old))) m talk)
    (came : Gives before conn bytes) (untaken : conn.took ≡ before.took) (waits : Waits conn now)
    (was : IsMonitor monitor files m) where
  abbrev pub from : View
  from = view monitor (hosts (known trace sink (host_with clock old)) files) before

  abbrev pub to : DevicesKnown → View
  to devices = view after (hosts (known told sink (host_with clock devices)) left) now

  pub gave : now.gave ≡ before.gave ++ bytes
  gave = waits.gave ∙ came.gave

  pub brought : now.gave ++ now.left ≡ before.gave ++ before.left
  brought = waits_bring conn now waits ∙ gives_bring before conn bytes came

  -- the replies were taken, but for these bytes, once the objects of devices were those that are configured
  abbrev pub was_answered : (devices : DevicesKnown) → DevicesUncalled old devices → (outcomes : List Outcome) (responses : List Response) (n : Machine)
      (text unsent : List ℕ) → is_off m ≡ false → Talks bytes outcomes m responses n → IsMonitor after left n
      → HaveOwn (healths old) n devices → text ≡ all_written Http responses → now.took ++ unsent ≡ conn.took ++ text
      → Continues s from (to devices) talk unsent
  was_answered devices uncalled outcomes responses n text unsent on talks is attached written took = record {
    flat = n;
    heard = Heard bytes responses ∷ [];
    talked = said_on before now bytes text unsent responses gave (took ∙ ap (λ (l : List ℕ). l ++ text) untaken) written brought;
    closed = heard_closes monitor after files left m n bytes outcomes responses was is talks;
    stands = record {
      is = is;
      own = own_since (told_at s) old n devices
          (reached_still s (seen (known trace sink (host_with clock old))) m talk reached) attached;
      reached = was_heard s m talk bytes trace told sink clock old devices uncalled is_told reached outcomes responses n on talks;
    };
  }

  -- the guest is off, and nothing is answered
  abbrev pub was_ignored : is_off m ≡ true → AreOwn s m (seen (known trace sink (host_with clock old))) → IsMonitor after left m
      → after ≡ monitor → now.took ≡ conn.took → Continues s from (to old) talk []
  was_ignored off own is same took = record {
    flat = m;
    heard = Heard bytes [] ∷ [];
    talked = said_on before now bytes [] [] [] gave
        (append-nil now.took ∙ took ∙ untaken ∙ sym (append-nil before.took)) refl brought;
    closed = λ failed. inl (subst (λ (x : Monitor). x.front.failed ≡ true) same failed);
    stands = record {
      is = is;
      own = own;
      reached = was_dropped s m talk bytes trace told sink clock old old (uncalled_none old) is_told reached off;
    };
  }

  -- there was no memory to answer: some of it was answered, and the rest could be by 503
  pub was_cut : is_off m ≡ false → now.took ≡ conn.took → Tells files.health → HasHalted Http bytes monitor after files left
      → Broke served.OutOfMemory s from (to old) talk
  was_cut on took tells halts =
      let t = halted_talk bytes monitor after files left m tells was halts in
      let said = said_on before now bytes (all_written Http t.1) (all_written Http t.1) t.1 gave
      (ap (λ (l : List ℕ). l ++ all_written Http t.1) (took ∙ untaken)) refl brought in record {
        at = t.2;
        host = host_with clock old;
        unshown = [];
        heard = Heard bytes t.1 ∷ [];
        unsent = all_written Http t.1;
        unsaid = [];
        talked = said;
        shown = refl;
        files = t.4;
        behind = refl;
        reached = subst (λ (l : List ℕ). Reached s (record { took = told.took; taken = l; host = host_with clock old }) t.2 (talk ++ Heard bytes t.1 ∷ []))
            (sym (append-nil sink.taken))
            (was_heard s m talk bytes trace told sink clock old old (uncalled_none old) is_told reached t.0 t.1 t.2 on t.3);
      }

-- the trace failed, and has nothing of the bytes
pub was_untold : (s : Start) (m : Machine) (talk : List Out) (bytes : List ℕ) (trace now : TraceKnown) (sink : SinkKnown) (host : HostKnown)
    (files left : FilesKnown) (monitor after : Monitor) (before conn : ConnKnown) → now.took ≡ trace.took
    → Reached s (seen (known trace sink host)) m talk → Gives before conn bytes → conn.took ≡ before.took → AreFilesOf left m
    → Broke (served.Fault object.Trace) s (view monitor (hosts (known trace sink host) files) before)
    (view after (hosts (known now sink host) left) conn) talk
was_untold s m talk bytes trace now sink host files left monitor after before conn same reached came untaken filed = record {
  at = m;
  host = host;
  unshown = [];
  heard = [];
  unsent = [];
  unsaid = bytes;
  talked = record {
    only = tt;
    gave = came.gave;
    took = append-nil conn.took ∙ untaken ∙ sym (append-nil before.took);
    brought = gives_bring before conn bytes came;
  };
  shown = refl;
  files = filed;
  behind = (m, none_ahead (told_at s) m host);
  reached = subst (λ (l : List ℕ). Reached s (record { took = now.took; taken = l; host = host }) m (talk ++ []))
      (sym (append-nil sink.taken))
      (subst (λ (t : List Out). Reached s (seen (known now sink host)) m t) (sym (append-nil talk))
      (rw same reached));
}
