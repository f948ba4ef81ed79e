-- A replay that ends inside its script: at a line that is none, at a host object's failure, or for want of memory.
use Rattle.std.proofs.Common.{◌≡◌, ℕ, ◌+◌, ◌<◌, nat_le, Bool, false, cond, List, [], ◌∷◌, ◌++◌, length, take, Option, Some, None, refl, sym, ap, subst, ◌∙◌, inl, inr, append_assoc, arith, length-append}
use Rattle.std.proofs.Math.Seq.{take-append_seam}
use Rattle.std.proofs.lemmas.Bool.Decides.{nat_tests}
use Rattle.std.proofs.lemmas.List.{append-nil}
use Rattle.vm_types.specs.Causes.{RoseBy}
use Rattle.vm_types.specs.declared.exit.Exit.{Exit}
use Rattle.vm_types.specs.declared.exit.Object.TheVariants as object
use Rattle.script_text.specs.declared.item.Item.{Item}
use Rattle.vm_outside.specs.Known.{FilesKnown, SinkKnown, SourceKnown, Tells}
use Rattle.script_text.specs.Lines.{judged}
use Rattle.flat_machine.specs.Machine.{AreFilesOf, Machine, is_off}
use Rattle.flat_machine.specs.Outcome.{failed_in}
use Rattle.flat_machine.specs.Replay.{judged_script, longest_script}
use Rattle.flat_machine.specs.Run.{Act, failures, lines_done}
use Rattle.flat_machine.specs.Stops.{IsAtFile, StopsInside}
use Rattle.flat_machine.proofs.Pushed.{answered_push, failures_push, lines_push, on_push, run_push}
use Rattle.monitor_core.specs.declared.item_error.ItemError.{ItemError}
use Rattle.monitor_core.specs.declared.monitor.Monitor.{Monitor}
use Rattle.monitor_core.specs.Going.{IsFile, ItemStops, LeavesFiles}
use Rattle.monitor_cli.specs.Answering.{ItemCut, ItemEnds}
use Rattle.monitor_cli.specs.Known.{Known}
use Rattle.monitor_cli.specs.Lines.{BeforeLast, PastBy, Reached}
use Rattle.monitor_cli.specs.Reading.{HasRead}
use Rattle.monitor_cli.specs.Replay.{FilesBy}
use Rattle.monitor_cli.specs.declared.lines.ScriptRun.{ScriptRun}
use Rattle.monitor_cli.proofs.Arriving.{Spread, lines_next, spread}
use Rattle.monitor_cli.proofs.Counts.{none_more, rose_more}

-- nothing of the next line is done
pub not_inside : (left : List (Option Item)) (m : Machine) → StopsInside left [] m [] m
not_inside [] m = (refl, refl, refl)
not_inside (None ∷ left) m = (refl, refl, refl)
not_inside (Some item ∷ left) m = inl (refl, refl, refl)

not_short : (n most : ℕ) → most < n → nat_le n most ≡ false
not_short n most more = grind (arith, nat_tests)

long_judged : (script came left : List ℕ) → came ++ left ≡ script → length came ≡ longest_script → 0 < length left → judged_script script ≡ judged came ++ None ∷ []
long_judged script came left is full more =
    let longer : longest_script < length script = omega (arith, full, more, ap length is, length-append came left) in
    ap (λ (b : Bool). cond b (judged script) (judged (take longest_script script) ++ None ∷ [])) (not_short (length script) longest_script longer)
    ∙ ap (λ (l : List ℕ). judged l ++ None ∷ []) (ap (λ (n : ℕ). take n script) (sym full) ∙ ap (take (length came)) (sym is) ∙ take-append_seam came left)

at_file : (item : Item) (lines : List (Option Item)) → IsFile item → IsAtFile (Some item ∷ lines)
at_file (Item.File name content) lines is = (name, content, lines, refl)
at_file item lines is = absurd is

file_left : (item : Item) (lines : List (Option Item)) (m : Machine) (left : FilesKnown) → IsFile item → LeavesFiles item m left → FilesBy (Exit.Fault object.Files) (Some item ∷ lines) m left
file_left (Item.File name content) lines m left is leaves = leaves
file_left item lines m left is leaves = absurd is

other_left : (item : Item) (m : Machine) (left : FilesKnown) → (IsFile item → ⊥) → LeavesFiles item m left → AreFilesOf left m
other_left (Item.File name content) m left never leaves = absurd (never tt)
other_left item m left never leaves = leaves

module _ (start : Machine) (before : Known) (came rest : List ℕ) (run : ScriptRun) (sink : SinkKnown) (files : FilesKnown) (r : Reached start before came rest run sink files) where
  abbrev script : List ℕ
  script = before.source.left

  abbrev faults : ℕ
  faults = before.files.health.faults

  abbrev held : List ℕ → List (Option Item)
  held more = judged (run.reader ++ more)

  here : Spread script came rest start r.acts r.answers r.last held
  here = spread script came rest start r.acts r.answers r.last held r.parts r.short r.lines r.on r.ran

  -- the lines that came whole are the acts
  all_done : judged run.reader ≡ [] → judged came ≡ lines_done r.acts
  all_done empty =
      ap judged (sym (append-nil came)) ∙ r.lines [] ∙ ap (λ (l : List ℕ). lines_done r.acts ++ judged l) (append-nil run.reader)
      ∙ ap (λ (l : List (Option Item)). lines_done r.acts ++ l) empty ∙ append-nil (lines_done r.acts)

  -- bytes that were read and are not with the reader came too
  read_more : (piece left : List ℕ) → rest ≡ piece ++ left → HasRead script left r.acts
  read_more piece left is = record {
    came = came ++ piece;
    parts = append_assoc came piece left ∙ ap (λ (l : List ℕ). came ++ l) (sym is) ∙ r.parts;
    undone = held piece;
    lines = r.lines piece;
  }

  pub source_failed : judged run.reader ≡ [] → is_off r.last ≡ false → BeforeLast (Exit.Fault object.Source) start before rest sink files
  source_failed empty on = record {
    acts = r.acts;
    part = [];
    written = r.answers;
    went = record {
      end = r.last;
      stop = record {
        answers = r.answers;
        last = r.last;
        left = held here.more ++ here.behind;
        plays = here.plays;
        stops = (on, refl);
        unwritten = [];
        inside = not_inside (held here.more ++ here.behind) r.last;
        on = inl refl;
        writes = refl;
      };
      files = r.is.files;
      read = record { came = came; parts = r.parts; undone = []; lines = all_done empty ∙ sym (append-nil (lines_done r.acts)) };
      reads = refl;
    };
    took = r.takes;
    counted = record { rose = none_more (failures r.acts) faults files.health.faults r.rose; kept = r.kept };
  }

  -- there is no memory for the next line, or for a piece that was read
  pub no_memory : (piece left : List ℕ) → rest ≡ piece ++ left → BeforeLast Exit.OutOfMemory start before left sink files
  no_memory piece left is = record {
    acts = r.acts;
    part = [];
    written = r.answers;
    went = record {
      end = r.last;
      stop = record {
        answers = r.answers;
        last = r.last;
        left = held here.more ++ here.behind;
        plays = here.plays;
        stops = tt;
        unwritten = [];
        inside = not_inside (held here.more ++ here.behind) r.last;
        on = inl refl;
        writes = refl;
      };
      files = r.is.files;
      read = read_more piece left is;
      reads = tt;
    };
    took = r.takes;
    counted = record { rose = none_more (failures r.acts) faults files.health.faults r.rose; kept = tt };
  }

  -- the next line is none
  none_next : (lines more : List (Option Item)) (left : List ℕ) → lines ≡ None ∷ more → judged_script script ≡ lines_done r.acts ++ lines → is_off r.last ≡ false → HasRead script left r.acts → BeforeLast (Exit.Script run.line) start before left sink files
  none_next lines more left none all on read = record {
    acts = r.acts;
    part = [];
    written = r.answers;
    went = record {
      end = r.last;
      replay = record {
        answers = r.answers;
        last = r.last;
        left = lines;
        plays = record { lines = all; on = r.on; ran = r.ran };
        ends = (r.number, on, more, none);
        writes = refl;
        leaves = refl;
      };
      unbegun = refl;
      files = r.is.files;
      read = read;
      reads = tt;
    };
    took = r.takes;
    counted = record { rose = none_more (failures r.acts) faults files.health.faults r.rose; kept = r.kept };
  }

  pub bad_line : (behind : List ℕ) → ((more : List ℕ) → held more ≡ None ∷ judged (behind ++ more)) → is_off r.last ≡ false → BeforeLast (Exit.Script run.line) start before rest sink files
  bad_line behind bad on =
      none_next (held here.more ++ here.behind) (judged (behind ++ here.more) ++ here.behind) rest
      (ap (λ (l : List (Option Item)). l ++ here.behind) (bad here.more)) here.plays.lines on here.read

  -- behind the longest script a byte came, or the source failed
  module _ (empty : judged run.reader ≡ []) (on : is_off r.last ≡ false) (full : length came ≡ longest_script) (source left : SourceKnown) (is : rest ≡ source.left) (told : Tells source.health) where
    too_long : (byte : ℕ) → source.left ≡ byte ∷ left.left → BeforeLast (Exit.Script run.line) start before left.left sink files
    too_long byte one =
        let some : 0 < length rest = omega (arith, ap length (is ∙ one)) in
        none_next (None ∷ []) [] left.left refl
        (long_judged script came rest r.parts full some ∙ ap (λ (l : List (Option Item)). l ++ None ∷ []) (all_done empty)) on
        (read_more (byte ∷ []) left.left (is ∙ one))

    pub past : (exit : Exit) → PastBy exit run.line source left → BeforeLast exit start before left.left sink files
    past (Exit.Script line) by =
        let more = by.1 told in
        subst (λ (n : ℕ). BeforeLast (Exit.Script n) start before left.left sink files) (sym by.0) (too_long more.0 more.1)
    past (Exit.Fault object.Source) by =
        subst (λ (l : List ℕ). BeforeLast (Exit.Fault object.Source) start before l sink files) (is ∙ sym (by told)) (source_failed empty on)
    past (Exit.Fault object.Files) by = absurd by
    past (Exit.Fault object.Sink) by = absurd by
    past (Exit.Fault object.Trace) by = absurd by
    past (Exit.Fault object.Listener) by = absurd by
    past (Exit.Fault object.Words) by = absurd by
    past Exit.OutOfMemory by = absurd by
    past Exit.Done by = absurd by
    past Exit.Usage by = absurd by

  module _ (behind : List ℕ) (item : Item) (next : (more : List ℕ) → held more ≡ Some item ∷ judged (behind ++ more)) (on : is_off r.last ≡ false) (files_told : Tells files.health) (sink_told : Tells sink.health) (after : Monitor) (left : FilesKnown) (now : SinkKnown) where
    abbrev after_it : List ℕ → List (Option Item)
    after_it more = Some item ∷ judged (behind ++ more)

    at_it : Spread script came rest start r.acts r.answers r.last after_it
    at_it = spread script came rest start r.acts r.answers r.last after_it r.parts r.short (lines_next start before came rest run sink files r behind item next) r.on r.ran

    files_failed : ItemStops ItemError.FilesFailed item run.monitor after files left → now ≡ sink → BeforeLast (Exit.Fault object.Files) start before rest now left
    files_failed stops same =
        let went = stops.went files_told r.last r.is in
        record {
          acts = r.acts;
          part = stops.part;
          written = r.answers;
          went = record {
            end = went.0;
            stop = record {
              answers = r.answers;
              last = r.last;
              left = after_it at_it.more ++ at_it.behind;
              plays = at_it.plays;
              stops = (on, at_file item (judged (behind ++ at_it.more) ++ at_it.behind) stops.cause);
              unwritten = stops.unwritten;
              inside = went.1;
              on = inr on;
              writes = refl;
            };
            files = file_left item (judged (behind ++ at_it.more) ++ at_it.behind) went.0 left stops.cause went.3;
            read = at_it.read;
            reads = tt;
          };
          took = ap (λ (s : SinkKnown). s.taken) same ∙ r.takes;
          counted = record {
            rose = subst (λ (n : ℕ). RoseBy n faults left.health.faults) (sums (failures r.acts) (failed_in stops.part) 1)
                (rose_more (failures r.acts) (failed_in stops.part + 1) faults files.health.faults left.health.faults r.rose stops.rose);
            kept = tt;
          };
        }
      where
        sums : (a b c : ℕ) → a + (b + c) ≡ a + b + c
        sums a b c = omega arith

    memory_wanted : ItemStops ItemError.OutOfMemory item run.monitor after files left → now ≡ sink → BeforeLast Exit.OutOfMemory start before rest now left
    memory_wanted stops same =
        let went = stops.went files_told r.last r.is in
        record {
          acts = r.acts;
          part = stops.part;
          written = r.answers;
          went = record {
            end = went.0;
            stop = record {
              answers = r.answers;
              last = r.last;
              left = after_it at_it.more ++ at_it.behind;
              plays = at_it.plays;
              stops = tt;
              unwritten = stops.unwritten;
              inside = went.1;
              on = inr on;
              writes = refl;
            };
            files = other_left item went.0 left stops.cause went.3;
            read = at_it.read;
            reads = tt;
          };
          took = ap (λ (s : SinkKnown). s.taken) same ∙ r.takes;
          counted = record {
            rose = subst (λ (n : ℕ). RoseBy n faults left.health.faults) (sums (failures r.acts) (failed_in stops.part) 0)
                (rose_more (failures r.acts) (failed_in stops.part + 0) faults files.health.faults left.health.faults r.rose stops.rose);
            kept = tt;
          };
        }
      where
        sums : (a b c : ℕ) → a + (b + c) ≡ a + b + c
        sums a b c = omega arith

    sink_failed : ItemCut item run.monitor after files left sink now → BeforeLast (Exit.Fault object.Sink) start before rest now left
    sink_failed cut =
        let act : Act = record { item = item; outcomes = cut.goes.outcomes } in
        let acts : List Act = r.acts ++ act ∷ [] in
        let went = cut.goes.went files_told r.last r.is in
        let took = cut.takes sink_told in
        let spreads = spread script came rest start acts (r.answers ++ cut.text) went.0 (λ more. judged (behind ++ more)) r.parts r.short
        (λ more. lines_next start before came rest run sink files r behind item next more ∙ lines_push r.acts act (judged (behind ++ more)))
        (on_push r.acts act start r.last r.answers r.on r.ran on) (run_push r.acts act start r.last went.0 r.answers cut.text r.ran went.1) in
        record {
          acts = acts;
          part = [];
          written = r.answers ++ took.front;
          went = record {
            end = went.0;
            cut = record {
              answers = r.answers ++ cut.text;
              left = judged (behind ++ spreads.more) ++ spreads.behind;
              plays = spreads.plays;
              whole = r.answers;
              cut = cut.text;
              writing = inl (r.acts, act, r.last, refl, r.ran, went.1);
              front = took.front;
              rest = took.rest;
              writes = append-nil (r.answers ++ took.front);
              parts = took.parts;
              lacks = took.lacks;
            };
            unbegun = refl;
            files = went.2.files;
            read = spreads.read;
          };
          took = took.took ∙ ap (λ (l : List ℕ). l ++ took.front) r.takes ∙ append_assoc before.sink.taken r.answers took.front;
          counted = record {
            rose = none_more (failures acts) faults left.health.faults
                (subst (λ (n : ℕ). RoseBy n faults left.health.faults) (sym (failures_push r.acts act))
                (rose_more (failures r.acts) (failed_in act.outcomes) faults files.health.faults left.health.faults r.rose cut.goes.counted.rose));
            kept = λ good. let both = answered_push r.acts act good in cut.goes.counted.kept both.1 ∙ r.kept both.0;
          };
        }

    pub item_ends : (exit : Exit) → ItemEnds exit item run.monitor after files left sink now → BeforeLast exit start before rest now left
    item_ends (Exit.Fault object.Files) ends = files_failed ends.0 ends.1
    item_ends (Exit.Fault object.Sink) ends = sink_failed ends
    item_ends (Exit.Fault object.Source) ends = absurd ends
    item_ends (Exit.Fault object.Trace) ends = absurd ends
    item_ends (Exit.Fault object.Listener) ends = absurd ends
    item_ends (Exit.Fault object.Words) ends = absurd ends
    item_ends Exit.OutOfMemory ends = memory_wanted ends.0 ends.1
    item_ends Exit.Done ends = absurd ends
    item_ends Exit.Usage ends = absurd ends
    item_ends (Exit.Script line) ends = absurd ends
