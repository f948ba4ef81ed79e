-- From words that are refused, and a script that was written or cut off, to what the command owes.
use Rattle.std.proofs.Common.{◌≡◌, ◌∙◌, ◌⊎◌, inl, inr, ℕ, List, ◌++◌, [], ◌∷◌, map, slice_get, string_bytes, String, Global, Option, Some, None, ap, refl, sym, subst, unwrap_or}
use Rattle.vm_types.specs.Causes.{Rose}
use Rattle.vm_types.specs.declared.exit.Exit.{Exit}
use Rattle.vm_types.specs.declared.exit.Object.TheVariants as object
use Rattle.vm_outside.specs.Known.{Lasts, SinkKnown, Tells}
use Rattle.vm_outside.specs.Passing.{TakesPart}
use Rattle.load_gen.specs.Load.{load_script}
use Rattle.command_line.specs.Commands.{command_of, generate_number}
use Rattle.command_line.specs.declared.parsing.NoCommand.{NoCommand}
use Rattle.monitor_cli.specs.Command.{IsRefusal, Unbegun, refusal_of}
use Rattle.monitor_cli.specs.Known.{AllLast, Known}
use Rattle.load_cli.specs.Generating.{Generated}

no_number : (number : ℕ) → None ≡ Some number → ⊥
no_number number is = cc

no_usage : Exit.OutOfMemory ≡ Exit.Usage → ⊥
no_usage is = cc

by_why : (words : List (List ℕ)) (why : NoCommand) (before now : Known) → (why ≡ NoCommand.Usage → generate_number words ≡ None)
    → Unbegun (refusal_of why) before now → AllLast before now → Generated words (refusal_of why) before.sink now.sink
by_why words NoCommand.Usage before now none unbegun lasts = record {
  usage = λ is. none (λ i. NoCommand.Usage);
  unread = λ is. tt;
  refused = λ is. unbegun.writes;
  wrote = λ tells number is. absurd (no_number number (sym (none (λ i. NoCommand.Usage)) ∙ is));
  ends = tt;
  cause = tt;
  complete = λ number is none_rose. absurd (no_number number (sym (none (λ i. NoCommand.Usage)) ∙ is));
  lasts = lasts.sink;
}
by_why words NoCommand.OutOfMemory before now none unbegun lasts = record {
  usage = λ is. absurd (no_usage is);
  unread = λ is. tt;
  refused = λ is. unbegun.writes;
  wrote = λ tells number is. tt;
  ends = tt;
  cause = tt;
  complete = λ number is none_rose. inr (λ i. Exit.OutOfMemory);
  lasts = lasts.sink;
}

pub refused_load : (words : List (List ℕ)) (why : NoCommand) (exit : Exit) (before now : Known) → exit ≡ refusal_of why
    → (why ≡ NoCommand.Usage → generate_number words ≡ None) → Unbegun exit before now → AllLast before now → Generated words exit before.sink now.sink
refused_load words why exit before now is none unbegun lasts = subst (λ (e : Exit). Generated words e before.sink now.sink) (sym is)
    (by_why words why before now none (subst (λ (e : Exit). Unbegun e before now) is unbegun) lasts)

-- the words give this number
done_no_usage : Exit.Done ≡ Exit.Usage → ⊥
done_no_usage is = cc

fault_no_usage : Exit.Fault object.Sink ≡ Exit.Usage → ⊥
fault_no_usage is = cc

module _ (words : List (List ℕ)) (number : ℕ) (is : generate_number words ≡ Some number) (before now : SinkKnown) (lasts : Lasts before.health now.health) where
  same : (other : ℕ) → generate_number words ≡ Some other → number ≡ other
  same other named = ap (λ (o : Option ℕ). unwrap_or o number) (sym is ∙ named)

  pub wrote_all : (Tells before.health → now.taken ≡ before.taken ++ load_script number) → now.health.faults ≡ before.health.faults → Generated words Exit.Done before now
  wrote_all takes kept = record {
    usage = λ e. absurd (done_no_usage e);
    unread = λ none. absurd (no_number number (sym none ∙ is));
    refused = λ refusal. absurd refusal;
    wrote = λ tells other named. subst (λ (n : ℕ). now.taken ≡ before.taken ++ load_script n) (same other named) (takes tells);
    ends = tt;
    cause = kept;
    complete = λ other named never. inl refl;
    lasts = lasts;
  }

  pub wrote_part : (Tells before.health → TakesPart before.taken now.taken (load_script number)) → Rose before.health.faults now.health.faults
      → Generated words (Exit.Fault object.Sink) before now
  wrote_part takes rose = record {
    usage = λ e. absurd (fault_no_usage e);
    unread = λ none. absurd (no_number number (sym none ∙ is));
    refused = λ refusal. absurd refusal;
    wrote = λ tells other named. subst (λ (n : ℕ). TakesPart before.taken now.taken (load_script n)) (same other named) (takes tells);
    ends = tt;
    cause = rose;
    complete = λ other named never. absurd (never rose);
    lasts = lasts;
  }

some_word : (w : String Global) → Some w ≡ None → ⊥
some_word w is = cc

pub none_first : (words : List (String Global)) → slice_get words 0 ≡ None → generate_number (map string_bytes words) ≡ None
unfolding command_of
none_first [] none = refl
none_first (w ∷ words) none = absurd (some_word w none)
