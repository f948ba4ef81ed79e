-- From a replay before its last line to what a command owes.
use Rattle.std.specs.Prelude.{IfErr, OnOk}
use Rattle.std.proofs.Common.{◌≡◌, ◌≢◌, is_some, zero, suc, ◌+◌, inl, inr, ◌⊎◌, Result, Ok, Err, ℕ, true≢false, unwrap_or, refl, sym, ap, subst, ◌∙◌, List, [], ◌∷◌, ◌++◌, map, Option, Some, None, arith}
use Rattle.std.proofs.lemmas.List.{append-nil}
use Rattle.vm_types.specs.Causes.{Rose, RoseBy}
use Rattle.vm_types.specs.declared.exit.Exit.{Exit}
use Rattle.vm_types.specs.declared.exit.Object.TheVariants as object
use Rattle.script_text.specs.declared.item.Item.{Item}
use Rattle.vm_outside.specs.Known.{Called, FilesKnown, SinkKnown, SourceKnown, Tells}
use Rattle.vm_outside.specs.Passing.{TakesAll}
use Rattle.vm_outside.proofs.Passing.{lasts_more}
use Rattle.responses.specs.Output.{last_line}
use Rattle.command_line.specs.Commands.{replay_id}
use Rattle.command_line.specs.declared.parsing.NoCommand.{NoCommand}
use Rattle.flat_machine.specs.Machine.{AreFilesOf, Machine, new_machine}
use Rattle.flat_machine.specs.Outcome.{AreAnswered, Outcome, failed_in, short_in}
use Rattle.flat_machine.specs.Outcome.Outcome.{Answered, Failed, NoMemory}
use Rattle.flat_machine.specs.Replay.{judged_script}
use Rattle.flat_machine.specs.Run.{Act, AllAnswered, failures, lines_done, shortages}
use Rattle.flat_machine.specs.Stops.{stop_failures}
use Rattle.monitor_cli.specs.Answering.{IsClosing}
use Rattle.monitor_cli.specs.Command.{Commanded, IsRefusal, IsWellFormed, Unbegun, Wordless, exit_of, refusal_of}
use Rattle.monitor_cli.specs.Counting.{Counted}
use Rattle.monitor_cli.specs.Known.{AllLast, AllTell, Caused, CausedSoFar, Known, NoneRose, SinkCause}
use Rattle.monitor_cli.specs.Lines.{BeforeLast, IsRunsEnd}
use Rattle.monitor_cli.specs.Replay.{Replayed, Went}
use Rattle.monitor_cli.specs.Taking.{IsQuiet}
use Rattle.monitor_cli.specs.declared.no_words.NoWords.{NoWords}
use Rattle.monitor_cli.proofs.Counts.{sink_told}
use Rattle.monitor_cli.proofs.Halting.{not_inside}
use Rattle.monitor_cli.proofs.Parts.{told_text}

-- there was no memory for anything
nothing_went : (start : Machine) (before : Known) → AreFilesOf before.files start
    → Went Exit.OutOfMemory before.source.left before.source.left start [] [] (last_line Exit.OutOfMemory) before.files
nothing_went start before files = record {
  end = start;
  stop = record {
    answers = [];
    last = start;
    left = judged_script before.source.left;
    plays = record { lines = refl; on = tt; ran = (refl, refl) };
    stops = tt;
    unwritten = [];
    inside = not_inside (judged_script before.source.left) start;
    on = inl refl;
    writes = refl;
  };
  files = files;
  read = record { came = []; parts = refl; undone = []; lines = refl };
  reads = tt;
}

pub nothing_begun : (start : Machine) (before : Known) → AreFilesOf before.files start → BeforeLast Exit.OutOfMemory start before before.source.left before.sink before.files
nothing_begun start before files = record {
  acts = [];
  part = [];
  written = [];
  went = nothing_went start before files;
  took = sym (append-nil before.sink.taken);
  counted = record { rose = omega arith; kept = tt };
}

-- requests that were neither answered 500 nor 503 were answered by the machine
are_answered : (outcomes : List Outcome) → failed_in outcomes ≡ 0 → short_in outcomes ≡ 0 → AreAnswered outcomes
are_answered [] f s = tt
are_answered (Answered kept ∷ outcomes) f s = are_answered outcomes f s
are_answered (Failed left ∷ outcomes) f s = absurd (omega (arith, f))
are_answered (NoMemory ∷ outcomes) f s = absurd (omega (arith, s))

all_answered : (acts : List Act) → failures acts ≡ 0 → shortages acts ≡ 0 → AllAnswered acts
all_answered [] f s = tt
all_answered (act ∷ acts) f s =
    (are_answered act.outcomes (omega (arith, f)) (omega (arith, s)), all_answered acts (omega (arith, f)) (omega (arith, s)))

none_failed : (n k l i j : ℕ) → RoseBy (n + k + l) i j → (Rose i j → ⊥) → n ≡ 0
none_failed zero k l i j rose none = refl
none_failed (suc n) k l i j rose none = absurd (none (omega (arith, rose)))

-- a line that is none stands in no script of items
abbrev behind : List (Option Item) → List (Option Item)
behind [] = []
behind (line ∷ lines) = lines

pub no_none : (acts : List Act) (items : List Item) (more : List (Option Item)) → map Some items ≡ lines_done acts ++ None ∷ more → ⊥
no_none [] [] more is = cc is
no_none [] (item ∷ items) more is = cc is
no_none (act ∷ acts) [] more is = cc is
no_none (act ∷ acts) (item ∷ items) more is = no_none acts items more (ap behind is)

-- a script of items with no failure comes to its end, or to want of memory
complete : (exit : Exit) (start : Machine) (before now : Known) (rest : List ℕ) (sink : SinkKnown) (files : FilesKnown) → exit ≢ Exit.Usage → BeforeLast exit start before rest sink files → Caused exit before now → IsWellFormed before.source.left → NoneRose before now
    → (exit ≡ Exit.Done) ⊎ (exit ≡ Exit.OutOfMemory)
complete Exit.Done start before now rest sink files command so_far told good none = inl refl
complete Exit.OutOfMemory start before now rest sink files command so_far told good none = inr refl
complete Exit.Usage start before now rest sink files command so_far told good none = absurd (command refl)
complete (Exit.Fault object.Source) start before now rest sink files command so_far told good none = absurd (none.source told.source)
complete (Exit.Fault object.Sink) start before now rest sink files command so_far told good none = absurd (none.sink told.sink)
complete (Exit.Fault object.Files) start before now rest sink files command so_far told good none = absurd (none.files told.files)
complete (Exit.Fault object.Trace) start before now rest sink files command so_far told good none = absurd told.named
complete (Exit.Fault object.Listener) start before now rest sink files command so_far told good none = absurd told.named
complete (Exit.Fault object.Words) start before now rest sink files command so_far told good none = absurd told.named
complete (Exit.Script line) start before now rest sink files command so_far told good none =
    let replay = so_far.went.replay in
    absurd (no_none so_far.acts good.0 replay.ends.2 (sym good.1 ∙ replay.plays.lines ∙ ap (λ (l : List (Option Item)). lines_done so_far.acts ++ l) replay.ends.3))

-- a last line alone
sink_still : (exit : Exit) (n : ℕ) → (IsQuiet exit → ⊥) → SinkCause exit n n
sink_still (Exit.Fault object.Sink) n never = absurd (never tt)
sink_still (Exit.Fault object.Source) n never = refl
sink_still (Exit.Fault object.Files) n never = refl
sink_still (Exit.Fault object.Trace) n never = refl
sink_still (Exit.Fault object.Listener) n never = refl
sink_still (Exit.Fault object.Words) n never = refl
sink_still Exit.Done n never = refl
sink_still Exit.Usage n never = refl
sink_still (Exit.Script line) n never = refl
sink_still Exit.OutOfMemory n never = refl

pub line_alone : (exit : Exit) (before : Known) (sink : SinkKnown) {E : Type 0} (result : Result (Unit {0}) E) → (IsQuiet exit → ⊥)
    → (Tells before.sink.health → TakesAll before.sink.taken sink.taken result (last_line exit)) → Called before.sink.health sink.health result → Unbegun exit before (record { source = before.source; sink = sink; files = before.files })
line_alone exit before sink result never takes called = record {
  writes = λ tells. told_text before.sink before.sink sink [] result (sym (append-nil before.sink.taken)) exit (sink_still exit before.sink.health.faults never) (λ quiet. absurd (never quiet)) (takes tells) called;
  source = refl;
  files = refl;
}

never_quiet : (why : NoWords) → IsQuiet (exit_of why) → ⊥
never_quiet NoWords.NotText quiet = quiet
never_quiet NoWords.OutOfMemory quiet = quiet

pub wordless : (why : NoWords) (exit result : Exit) (before now : Known) → exit ≡ exit_of why → result ≡ exit → ((IsQuiet exit → ⊥) → Unbegun exit before now) → AllLast before now → Wordless why result before now
wordless why exit result before now is same unbegun lasts = record {
  ends = same ∙ is;
  unbegun = subst (λ (e : Exit). Unbegun e before now) is (unbegun (subst (λ (e : Exit). IsQuiet e → ⊥) (sym is) (never_quiet why)));
  lasts = lasts;
}

pub if_err : {T : Type 0} (words : Result T NoWords) (why : NoWords) (P : NoWords → Type 0) → words ≡ Err why → P why → IfErr words P
if_err {T} words why P is holds = subst (λ (w : Result T NoWords). IfErr w P) (sym is) holds

-- there was no memory to read the words
nothing_replayed : (start : Machine) (before now : Known) → AreFilesOf before.files start → Unbegun Exit.OutOfMemory before now → Tells before.sink.health
    → Replayed Exit.OutOfMemory start before now
nothing_replayed start before now files unbegun tells = record {
  acts = [];
  part = [];
  text = last_line Exit.OutOfMemory;
  went = subst (λ (f : FilesKnown). Went Exit.OutOfMemory before.source.left now.source.left start [] [] (last_line Exit.OutOfMemory) f) (sym unbegun.files)
      (subst (λ (k : SourceKnown). Went Exit.OutOfMemory before.source.left k.left start [] [] (last_line Exit.OutOfMemory) before.files) (sym unbegun.source)
      (nothing_went start before files));
  took = unbegun.writes tells;
  counted = subst (λ (f : FilesKnown). Counted Exit.OutOfMemory [] [] before.files.health.faults f.health.faults) (sym unbegun.files)
      (record { rose = omega arith; kept = tt });
  plain = λ none enough. tt;
}

no_id : (id : List ℕ) → None ≡ Some id → ⊥
no_id id is = cc

no_usage : Exit.OutOfMemory ≡ Exit.Usage → ⊥
no_usage is = cc

pub refused_command : (words : List (List ℕ)) (exit : Exit) (before now : Known) → IsRefusal exit → (exit ≡ Exit.Usage → replay_id words ≡ None)
    → Unbegun exit before now → AllLast before now → Commanded words exit before now
refused_command words Exit.Usage before now refusal none unbegun lasts = record {
  usage = λ is. ap (λ (o : Option (List ℕ)). is_some o) (none refl);
  refused = λ is. (tt, unbegun);
  replayed = λ tells id is. absurd (no_id id (sym (none refl) ∙ is));
  told = record { named = tt; source = ap (λ (k : SourceKnown). k.health.faults) unbegun.source; sink = tt; files = tt };
  complete = λ tells command good never. absurd (true≢false (sym command ∙ ap (λ (o : Option (List ℕ)). is_some o) (none refl)));
  lasts = lasts;
}
refused_command words Exit.OutOfMemory before now refusal none unbegun lasts = record {
  usage = λ is. absurd (no_usage is);
  refused = λ is. (tt, unbegun);
  replayed = λ tells id is.
      nothing_replayed (new_machine id before.files.saved before.files.calls) before now (record { saved_is = refl; calls_is = refl }) unbegun tells.sink;
  told = record { named = tt; source = ap (λ (k : SourceKnown). k.health.faults) unbegun.source; sink = tt; files = tt };
  complete = λ tells command good never. inr refl;
  lasts = lasts;
}
refused_command words exit before now refusal none unbegun lasts = absurd refusal

is_refusal : (why : NoCommand) → IsRefusal (refusal_of why)
is_refusal NoCommand.Usage = tt
is_refusal NoCommand.OutOfMemory = tt

usage_alone : (why : NoCommand) → refusal_of why ≡ Exit.Usage → why ≡ NoCommand.Usage
usage_alone NoCommand.Usage is = refl
usage_alone NoCommand.OutOfMemory is = absurd (no_usage is)

not_quiet : (why : NoCommand) → IsQuiet (refusal_of why) → ⊥
not_quiet NoCommand.Usage quiet = quiet
not_quiet NoCommand.OutOfMemory quiet = quiet

pub unbegun_by : (why : NoCommand) (exit result : Exit) (before now : Known) → exit ≡ refusal_of why → result ≡ exit
    → ((IsQuiet exit → ⊥) → Unbegun exit before now) → Unbegun result before now
unbegun_by why exit result before now is same unbegun =
    subst (λ (e : Exit). Unbegun e before now) (sym same) (unbegun (λ quiet. not_quiet why (subst IsQuiet is quiet)))

pub refused_by : (words : List (List ℕ)) (why : NoCommand) (result : Exit) (before now : Known) → result ≡ refusal_of why
    → (why ≡ NoCommand.Usage → replay_id words ≡ None) → Unbegun result before now → AllLast before now → Commanded words result before now
refused_by words why result before now is none unbegun lasts =
    refused_command words result before now (subst IsRefusal (sym is) (is_refusal why)) (λ usage. none (usage_alone why (sym is ∙ usage))) unbegun lasts

-- the last line is written behind the answers, or a front of it
module _ (words : List (List ℕ)) (exit : Exit) (before mid : Known) (sink : SinkKnown) {E : Type 0} (result : Result (Unit {0}) E)
    (id : List ℕ) (command : replay_id words ≡ Some id) (never : exit ≢ Exit.Usage)
    (so_far : AllTell before → BeforeLast exit (new_machine id before.files.saved before.files.calls) before mid.source.left mid.sink mid.files)
    (caused : CausedSoFar exit before mid) (lasts : AllLast before mid) (takes : Tells mid.sink.health → TakesAll mid.sink.taken sink.taken result (last_line exit))
    (quiet : IsQuiet exit → sink ≡ mid.sink) (called : Called mid.sink.health sink.health result) where
  abbrev now : Known
  now = record { source = mid.source; sink = sink; files = mid.files }

  told : Caused exit before now
  told = record {
    named = caused.named;
    source = caused.source;
    sink = sink_told exit before.sink.health.faults mid.sink.health.faults sink.health.faults caused.sink called.lasts.later
        (λ is. ap (λ (s : SinkKnown). s.health.faults) (quiet is));
    files = caused.files;
  }

  replayed : AllTell before → Replayed exit (new_machine id before.files.saved before.files.calls) before now
  replayed tells =
      let ran = so_far tells in
      record {
        acts = ran.acts;
        part = ran.part;
        text = ran.written ++ last_line exit;
        went = ran.went;
        took = told_text before.sink mid.sink sink ran.written result ran.took exit caused.sink quiet (takes (lasts.sink.still tells.sink)) called;
        counted = ran.counted;
        plain = λ none enough. all_answered ran.acts
            (none_failed (failures ran.acts) (failed_in ran.part) (stop_failures exit) before.files.health.faults mid.files.health.faults ran.counted.rose none) enough;
      }

  pub commanded : Commanded words exit before now
  commanded = record {
    usage = λ is. absurd (never is);
    refused = λ is. absurd (true≢false (sym (ap (λ (o : Option (List ℕ)). is_some o) command) ∙ is));
    replayed = λ tells other named. subst (λ (i : List ℕ). Replayed exit (new_machine i before.files.saved before.files.calls) before now)
        (ap (λ (o : Option (List ℕ)). unwrap_or o id) (sym command ∙ named)) (replayed tells);
    told = told;
    complete = λ tells is good none.
        complete exit (new_machine id before.files.saved before.files.calls) before now mid.source.left mid.sink mid.files never (so_far tells) told good none;
    lasts = record {
      source = lasts.source;
      sink = lasts_more before.sink.health mid.sink.health sink.health lasts.sink called.lasts;
      files = lasts.files;
    };
  }

-- a run of a script is no usage
pub not_usage : (exit : Exit) → IsRunsEnd exit → exit ≢ Exit.Usage
not_usage exit end is = subst IsRunsEnd is end

pub closing_not_usage : (exit : Exit) → IsClosing exit → exit ≢ Exit.Usage
closing_not_usage exit end is = subst IsClosing is end

-- behind the longest script
pub past_end : (r : Result (Unit {0}) Exit) {A B : Type 0} → OnOk r A → (A → B) → OnOk r B
past_end (Ok u) there goes = goes there
past_end (Err e) there goes = tt

pub past_early : (r : Result (Unit {0}) Exit) {P Q : Exit → Type 0} → IfErr r P → ((exit : Exit) → P exit → Q exit) → IfErr r Q
past_early (Ok u) there goes = tt
past_early (Err e) there goes = goes e there
