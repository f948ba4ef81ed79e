-- The last line.
use Rattle.std.proofs.Common.{◌≡◌, ℕ, ◌≤◌, ◌⊎◌, inl, inr, refl, sym, ap, ◌∙◌, subst, List, [], ◌++◌, length, take, drop, append-nil, append_assoc, length-drop, take-append-drop, Result, Ok, Err, arith}
use Rattle.std.specs.Prelude.{OnErr}
use Rattle.vm_types.specs.Causes.{Rose}
use Rattle.vm_types.specs.declared.exit.Exit.{Exit}
use Rattle.vm_types.specs.declared.exit.Object.TheVariants as object
use Rattle.vm_outside.specs.Known.{Called, SinkKnown}
use Rattle.vm_outside.specs.Passing.{TakesAll}
use Rattle.vm_outside.proofs.Passing.{later_rose}
use Rattle.command_line.specs.Commands.{ServeWords}
use Rattle.serve_host.specs.Drawing.{WordsKnown}
use Rattle.serve_host.specs.Listening.{ListenerKnown}
use Rattle.responses.specs.Output.{last_line}
use Rattle.flat_machine.specs.Machine.{Machine}
use Rattle.flat_machine.specs.Run.{Act}
use Rattle.flat_trace.specs.Showing.{shown}
use Rattle.monitor_cli.specs.Taking.{IsQuiet}
use Rattle.monitor_running.specs.Reached.{known}
use Rattle.monitor_serving.specs.Views.{Hosts, hosts}
use Rattle.firecracker_cli.specs.Serving.{HasBegun, HasNotBegun, ServeKnown, ServedAll, ServedBy, ServedPart, SinkLacks, last_text, serve_known}
use Rattle.firecracker_cli.specs.SoFar.{Cut, ServedSoFar}

dropped_less : (n : ℕ) (text : List ℕ) → length (drop n text) ≤ length text
dropped_less n text = omega (arith, length-drop n text)

-- what the sink lacks of a text
line_taken : {E : Type 0} (text old new : List ℕ) (i mid j : ℕ) (result : Result (Unit {0}) E) → TakesAll old new result text
    → OnErr result (Rose mid j) → i ≤ mid
    → (rest : List ℕ) × (new ++ rest ≡ old ++ text) × ((rest ≡ []) ⊎ ((length rest ≤ length text) × Rose i j))
line_taken text old new i mid j (Ok done) took rose later = ([], append-nil new ∙ took, inl refl)
line_taken text old new i mid j (Err why) (n, less, took) rose later = (
  drop n text,
  ap (λ (l : List ℕ). l ++ drop n text) took ∙ append_assoc old (take n text) (drop n text)
      ∙ ap (λ (l : List ℕ). old ++ l) (take-append-drop n text),
  inr (dropped_less n text, later_rose i mid j later rose),
)

module _ (given : ServeWords) (before : ServeKnown) (mid : Hosts) (words : WordsKnown) (listener : ListenerKnown) (sink : SinkKnown)
    (later : before.hosts.slices.sink.health.faults ≤ mid.slices.sink.health.faults) where
  abbrev now : ServeKnown
  now = serve_known (hosts (known mid.slices.trace sink mid.slices.host) mid.files) words listener

  begun_by : (all : List Act) → HasNotBegun given before (serve_known mid words listener) all ⊎ HasBegun given before (serve_known mid words listener) all
      → HasNotBegun given before now all ⊎ HasBegun given before now all
  begun_by all (inl it) = inl (record { none = it.none; opened = it.opened })
  begun_by all (inr it) = inr (record {
    opened = record { listening = it.opened.listening; traced = it.opened.traced; took = it.opened.took };
    lineage = it.lineage;
    kept = it.kept;
  })

  with_line : {E : Type 0} (exit : Exit) (result : Result (Unit {0}) E) → ((at : Machine) → last_text exit at ≡ last_line exit)
      → ((rest : List ℕ) → (rest ≡ []) ⊎ ((length rest ≤ length (last_line exit)) × Rose before.hosts.slices.sink.health.faults sink.health.faults)
      → SinkLacks exit rest before.hosts.slices.sink.health sink.health)
      → Cut exit given before (serve_known mid words listener) → TakesAll mid.slices.sink.taken sink.taken result (last_line exit)
      → Called mid.slices.sink.health sink.health result → ServedPart exit given before now
  with_line exit result text lacks cut took called =
      let l = line_taken (last_line exit) mid.slices.sink.taken sink.taken before.hosts.slices.sink.health.faults
      mid.slices.sink.health.faults sink.health.faults result took called.failed later in record {
        acts = cut.acts;
        outs = cut.outs;
        at = cut.at;
        host = cut.host;
        since = cut.since;
        ran = cut.ran;
        behind = cut.behind;
        begun = begun_by cut.acts cut.begun;
        came = cut.came;
        rest = l.0;
        sink =
            l.1 ∙ ap (λ (t : List ℕ). t ++ last_line exit) cut.sink
            ∙ append_assoc before.hosts.slices.sink.taken (shown cut.outs) (last_line exit)
            ∙ ap (λ (t : List ℕ). before.hosts.slices.sink.taken ++ (shown cut.outs ++ t)) (sym (text cut.at));
        lacks = lacks l.0 l.2;
        told = cut.told;
        files = cut.files;
      }

  pub ended_by : {E : Type 0} (exit : Exit) (result : Result (Unit {0}) E)
      → ServedSoFar exit given before (serve_known mid words listener) → (IsQuiet exit → sink ≡ mid.slices.sink)
      → TakesAll mid.slices.sink.taken sink.taken result (last_line exit) → Called mid.slices.sink.health sink.health result
      → ServedBy exit given before now
  ended_by Exit.Done result so_far quiet took called =
      subst (λ (k : SinkKnown). ServedAll given before (serve_known (hosts (known mid.slices.trace k mid.slices.host) mid.files) words listener))
      (sym (quiet tt)) so_far
  ended_by (Exit.Fault object.Sink) result so_far quiet took called =
      subst (λ (k : SinkKnown). ServedPart (Exit.Fault object.Sink) given before
      (serve_known (hosts (known mid.slices.trace k mid.slices.host) mid.files) words listener)) (sym (quiet tt)) so_far
  ended_by (Exit.Fault object.Trace) result so_far quiet took called =
      with_line (Exit.Fault object.Trace) result (λ at. refl) (λ rest lacks. lacks) so_far took called
  ended_by (Exit.Fault object.Listener) result so_far quiet took called =
      with_line (Exit.Fault object.Listener) result (λ at. refl) (λ rest lacks. lacks) so_far took called
  ended_by (Exit.Fault object.Words) result so_far quiet took called =
      with_line (Exit.Fault object.Words) result (λ at. refl) (λ rest lacks. lacks) so_far took called
  ended_by Exit.OutOfMemory result so_far quiet took called =
      with_line Exit.OutOfMemory result (λ at. refl) (λ rest lacks. lacks) so_far took called
  ended_by Exit.Usage result so_far quiet took called = absurd so_far
  ended_by (Exit.Script line) result so_far quiet took called = absurd so_far
  ended_by (Exit.Fault object.Source) result so_far quiet took called = absurd so_far
  ended_by (Exit.Fault object.Files) result so_far quiet took called = absurd so_far
