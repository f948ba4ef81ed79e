-- There was no memory to read the words of `serve`: the last line is all that was done.
use Rattle.std.proofs.Common.{◌≡◌, ◌⊎◌, ℕ, inl, inr, refl, sym, ap, subst, ◌∙◌, List, ◌++◌, append_assoc, Option, Some, None}
use Rattle.vm_types.specs.declared.exit.Exit.{Exit}
use Rattle.vm_outside.specs.Known.{Lasts, SinkKnown, Tells}
use Rattle.vm_outside.proofs.Passing.{lasts_same}
use Rattle.responses.specs.Output.{last_line}
use Rattle.flat_machine.specs.Run.{Act}
use Rattle.flat_trace.specs.Showing.{shown}
use Rattle.std.specs.Prelude.{option_and_then}
use Rattle.command_line.specs.Commands.{Command, ServeWords, command_of, serve_words, words_of_serve}
use Rattle.command_line.specs.declared.parsing.NoCommand.{NoCommand}
use Rattle.monitor_cli.specs.Command.{refusal_of}
use Rattle.monitor_cli.specs.Taking.{TookText}
use Rattle.monitor_running.specs.Reached.{known}
use Rattle.monitor_serving.specs.Views.{hosts}
use Rattle.firecracker_cli.specs.Serving.{HasBegun, HasNotBegun, ServeKnown, ServedPart, Serves, serve_known}
use Rattle.firecracker_cli.proofs.Beginnings.{nothing_served}

module _ (given : ServeWords) (before : ServeKnown) (sink : SinkKnown) where
  abbrev now : ServeKnown
  now = serve_known (hosts (known before.hosts.slices.trace sink before.hosts.slices.host) before.hosts.files) before.words before.listener

  begun_still : (all : List Act) → HasNotBegun given before before all ⊎ HasBegun given before before all
      → HasNotBegun given before now all ⊎ HasBegun given before now all
  begun_still all (inl it) = inl (record { none = it.none; opened = it.opened })
  begun_still all (inr it) = inr (record {
    opened = record { listening = it.opened.listening; traced = it.opened.traced; took = it.opened.took };
    lineage = it.lineage;
    kept = it.kept;
  })

  served_none : TookText Exit.OutOfMemory (last_line Exit.OutOfMemory) before.hosts.slices.sink sink → ServedPart Exit.OutOfMemory given before now
  served_none text =
      let cut = nothing_served given before Exit.OutOfMemory before (inl (refl, record { path = refl; took = refl })) refl refl refl refl refl in
      let had = before.hosts.slices.sink.taken in
      let line = last_line Exit.OutOfMemory in record {
        acts = cut.acts;
        outs = cut.outs;
        at = cut.at;
        host = cut.host;
        since = cut.since;
        ran = cut.ran;
        behind = cut.behind;
        begun = begun_still cut.acts cut.begun;
        came = cut.came;
        rest = text.rest;
        sink =
            ap (λ (l : List ℕ). l ++ text.rest) text.took ∙ append_assoc had text.part text.rest ∙ ap (λ (l : List ℕ). had ++ l) text.parts
            ∙ ap (λ (l : List ℕ). l ++ line) cut.sink ∙ append_assoc had (shown cut.outs) line;
        lacks = elim text.cause [ inl all ↦ inl all.0 | inr part ↦ inr (text.short, part.1) ];
        told = cut.told;
        files = cut.files;
      }

  pub serves_none : (Tells before.hosts.slices.sink.health → TookText Exit.OutOfMemory (last_line Exit.OutOfMemory) before.hosts.slices.sink sink)
      → Lasts before.hosts.slices.sink.health sink.health → Serves Exit.OutOfMemory given before now
  serves_none writes lasts = record {
    served = λ tells. served_none (writes tells.hosts.sink);
    told = tt;
    complete = λ none. tt;
    lasts = record {
      hosts = record { trace = lasts_same before.hosts.slices.trace.health; sink = lasts; files = lasts_same before.hosts.files.health };
      words = lasts_same before.words.health;
      listener = lasts_same before.listener.health;
    };
  }

no_words : (it : ServeWords) → None ≡ Some it → ⊥
no_words it is = cc

module _ (words : List (List ℕ)) (before : ServeKnown) (sink : SinkKnown) (it : ServeWords) (is : serve_words words ≡ Some it) where
  by_why : (why : NoCommand) → (why ≡ NoCommand.Usage → command_of words ≡ None)
      → (Tells before.hosts.slices.sink.health → TookText (refusal_of why) (last_line (refusal_of why)) before.hosts.slices.sink sink)
      → Lasts before.hosts.slices.sink.health sink.health → Serves (refusal_of why) it before (now it before sink)
  by_why NoCommand.Usage none writes lasts =
      absurd (no_words it (sym (ap (λ (o : Option Command). option_and_then words_of_serve o) (none refl)) ∙ is))
  by_why NoCommand.OutOfMemory none writes lasts = serves_none it before sink writes lasts

  pub refused_serve : (why : NoCommand) (exit : Exit) → exit ≡ refusal_of why → (why ≡ NoCommand.Usage → command_of words ≡ None)
      → (Tells before.hosts.slices.sink.health → TookText exit (last_line exit) before.hosts.slices.sink sink)
      → Lasts before.hosts.slices.sink.health sink.health → Serves exit it before (now it before sink)
  refused_serve why exit same none writes lasts = subst (λ (e : Exit). Serves e it before (now it before sink)) (sym same)
      (by_why why none (subst (λ (e : Exit). Tells before.hosts.slices.sink.health → TookText e (last_line e) before.hosts.slices.sink sink) same writes) lasts)
