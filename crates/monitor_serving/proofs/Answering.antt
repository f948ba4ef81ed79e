-- What comes of bytes that a connection gave, by how they are answered.
use Rattle.std.proofs.Common.{◌≡◌, ℕ, inl, inr, true, false, refl, sym, ap, ◌∙◌, subst, List, [], ◌∷◌, ◌++◌, take, drop, append-nil, append_assoc, Result, Ok, Err, arith}
use Rattle.std.proofs.lemmas.List.{take-append-drop}
use Rattle.monitor_running.specs.Asked.{DevicesUncalled, HaveOwn, HostKnown, healths}
use Rattle.vm_outside.specs.Known.{Called, FilesKnown, Lasts, SinkKnown, Tells}
use Rattle.vm_outside.specs.Passing.{TakesAll}
use Rattle.vm_host.specs.Telling.{ClockKnown}
use Rattle.monitor_machine.specs.Kinds.{DevicesKnown}
use Rattle.serve_host.specs.Passing.{ConnKnown, Gives, Waits}
use Rattle.serve_host.specs.Tracing.{TraceKnown}
use Rattle.script_text.specs.declared.item.Item.TheVariants as item
use Rattle.vm_types.specs.declared.exit.Object.TheVariants as object
use Rattle.responses.specs.declared.form.ResponseForm.TheVariants.{Http}
use Rattle.flat_machine.specs.Machine.{AreFilesOf, Machine, is_off}
use Rattle.monitor_core.specs.declared.monitor.Monitor.{Monitor}
use Rattle.monitor_core.specs.Hearing.{HearGoes}
use Rattle.monitor_core.specs.State.{IsMonitor}
use Rattle.monitor_core.specs.Talking.{HasHalted}
use Rattle.monitor_running.specs.Reached.{known}
use Rattle.monitor_serving.specs.declared.served.Served.TheVariants as served
use Rattle.monitor_serving.specs.Turns.{BreaksOff, EndsConnection, GoesOff, StaysOpen}
use Rattle.monitor_serving.specs.Views.{host_with, hosts, view}
use Rattle.snapshot_chain.proofs.On.{talks_on}
use Rattle.monitor_serving.proofs.Pieces.{was_answered, was_cut, was_ignored, was_untold}

-- the conn as it waited, which took nothing
still : (conn now : ConnKnown) → now ≡ conn → Waits conn now
still conn now same = record { gave = ap (λ (c : ConnKnown). c.gave) same; left = ap (λ (c : ConnKnown). c.left) same }

module _ (monitor after : Monitor) (trace told : TraceKnown) (sink : SinkKnown) (clock : ClockKnown) (old : DevicesKnown)
    (files left : FilesKnown) (before conn now : ConnKnown) (bytes : List ℕ) (came : Gives before conn bytes) (untaken : conn.took ≡ before.took) where
  abbrev host : HostKnown
  host = host_with clock old

  -- the trace failed
  pub untold : told.took ≡ trace.took → left ≡ files
      → BreaksOff (served.Fault object.Trace) (view monitor (hosts (known trace sink host) files) before)
      (view after (hosts (known told sink host) left) conn)
  untold same filed s m talk stands =
      was_untold s m talk bytes trace told sink host files left monitor after before conn same stands.reached came untaken
      (subst (λ f. AreFilesOf f m) (sym filed) stands.is.files)

  module _ (is_told : told.took ≡ trace.took ++ item.Bytes bytes ∷ []) where
    -- the guest is off
    pub ignored : (off : (m : Machine) → IsMonitor monitor files m → is_off m ≡ true)
        → GoesOff (view monitor (hosts (known trace sink host) files) before) (view monitor (hosts (known told sink host) files) conn)
    ignored off s m talk stands = (
      was_ignored s m talk bytes trace told sink clock old files files monitor monitor before conn conn is_told stands.reached came untaken
          (still conn conn refl) stands.is (off m stands.is) stands.own stands.is refl refl,
      off m stands.is,
    )

    module _ (on : (m : Machine) → IsMonitor monitor files m → is_off m ≡ false) where
      -- there was no memory
      pub short : Tells files.health → HasHalted Http bytes monitor after files left
          → BreaksOff served.OutOfMemory (view monitor (hosts (known trace sink host) files) before)
          (view after (hosts (known told sink host) left) conn)
      short tells halts s m talk stands =
          was_cut s m talk bytes trace told sink clock old files left monitor after before conn conn is_told stands.reached came untaken
          (still conn conn refl) stands.is (on m stands.is) refl tells halts

      module _ (text : List ℕ) (tells : Tells files.health) (hears : HearGoes bytes text monitor after files left) (waits : Waits conn now)
          (devices : DevicesKnown) (uncalled : DevicesUncalled old devices)
          (attached : (m : Machine) → IsMonitor after left m → HaveOwn (healths old) m devices) where
        -- all was sent
        pub sent : now.took ≡ conn.took ++ text
            → StaysOpen (view monitor (hosts (known trace sink host) files) before) (view after (hosts (known told sink (host_with clock devices)) left) now)
        sent took s m talk stands =
            let h = hears.went tells m stands.is in (
              was_answered s m talk bytes trace told sink clock old files left monitor after before conn now is_told stands.reached came untaken
                  waits stands.is devices uncalled hears.outcomes hears.responses h.0 text [] (on m stands.is) h.1 h.2 (attached h.0 h.2) hears.writes (append-nil now.took ∙ took),
              talks_on bytes hears.outcomes m hears.responses h.0 h.1 (on m stands.is),
            )

        -- and then the connection is over; where a write failed it lacks the rest
        pub over : {E : Type 0} (result : Result (Unit {0}) E) → TakesAll conn.took now.took result text
            → Called conn.health now.health result → Lasts before.health conn.health
            → EndsConnection (view monitor (hosts (known trace sink host) files) before) (view after (hosts (known told sink (host_with clock devices)) left) now)
        over (Ok done) took called lasts s m talk stands =
            let all = sent took s m talk stands in ([], all.0, inl refl, all.1)
        over (Err why) (n, less, took) called lasts s m talk stands =
            let h = hears.went tells m stands.is in (
              drop n text,
              was_answered s m talk bytes trace told sink clock old files left monitor after before conn now is_told stands.reached came untaken
                  waits stands.is devices uncalled hears.outcomes hears.responses h.0 text (drop n text) (on m stands.is) h.1 h.2 (attached h.0 h.2) hears.writes
                  (ap (λ (l : List ℕ). l ++ drop n text) took ∙ append_assoc conn.took (take n text) (drop n text)
                  ∙ ap (λ (l : List ℕ). conn.took ++ l) (take-append-drop n text)),
              inr (let rose = called.failed in let later = lasts.later in omega (arith, rose, later)),
              talks_on bytes hears.outcomes m hears.responses h.0 h.1 (on m stands.is),
            )
