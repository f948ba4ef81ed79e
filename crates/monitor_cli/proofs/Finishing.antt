-- A script that is done, and its closing text.
use Rattle.std.proofs.Common.{◌≡◌, ℕ, ◌+◌, ◌≤◌, ◌⊎◌, Bool, true, cond, List, [], ◌∷◌, ◌++◌, length, take, Option, Some, None, refl, sym, ap, subst, ◌∙◌, inl, inr, append_assoc}
use Rattle.std.proofs.lemmas.Bool.{le-leb}
use Rattle.std.proofs.lemmas.List.{append-nil}
use Rattle.vm_types.specs.declared.exit.Exit.{Exit}
use Rattle.vm_types.specs.declared.exit.Object.TheVariants as object
use Rattle.script_text.specs.declared.item.Item.{Item}
use Rattle.vm_outside.specs.Known.{FilesKnown, SinkKnown}
use Rattle.script_text.specs.Lines.{judged}
use Rattle.flat_guest.specs.Guest.{Guest}
use Rattle.flat_machine.specs.Machine.{Machine, drained, drained_guest, is_off, off_by}
use Rattle.flat_machine.specs.Replay.{IsEnd, Plays, closing, judged_script, longest_script}
use Rattle.flat_machine.specs.Run.{lines_done}
use Rattle.monitor_cli.specs.Answering.{ClosesBy}
use Rattle.monitor_cli.specs.Known.{Known}
use Rattle.monitor_cli.specs.Lines.{BeforeLast, Finished, Reached}
use Rattle.monitor_cli.specs.Reading.{HasRead}
use Rattle.monitor_cli.specs.declared.lines.ScriptRun.{ScriptRun}
use Rattle.monitor_cli.proofs.Arriving.{spread}
use Rattle.monitor_cli.proofs.Counts.{none_more}
use Rattle.monitor_cli.proofs.Halting.{not_inside}

pub short_judged : (script : List ℕ) → length script ≤ longest_script → judged_script script ≡ judged script
short_judged script short =
    ap (λ (b : Bool). cond b (judged script) (judged (take longest_script script) ++ None ∷ [])) (le-leb (length script) longest_script short)

-- the console is drained, and the guest as on or off as before
drained_by : (guest : Option Guest) → off_by guest ≡ true → off_by (drained_guest guest) ≡ true
drained_by None off = off
drained_by (Some g) off = off

module _ (start : Machine) (before : Known) (rest : List ℕ) (run : ScriptRun) (sink : SinkKnown) (files : FilesKnown) (done : Finished start before rest run sink files) where
  abbrev pub r : Reached start before done.came rest run sink files
  r = done.reached

  -- the script's lines are the acts and those that are left, of which there are none but where the guest is off
  pub record Whole : Type 0 where
    pub left : List (Option Item)
    pub plays : Plays before.source.left start r.acts r.answers r.last left
    pub ends : IsEnd Exit.Done left (length r.acts + 1) r.last
    pub read : HasRead before.source.left rest r.acts
    pub reads : (rest ≡ []) ⊎ (is_off r.last ≡ true)

  whole_by : ((judged run.reader ≡ []) × (rest ≡ [])) ⊎ (is_off r.last ≡ true) → Whole
  whole_by (inl none) =
      let whole : done.came ≡ before.source.left = sym (append-nil done.came) ∙ ap (λ (l : List ℕ). done.came ++ l) (sym none.1) ∙ r.parts in
      let lines : judged done.came ≡ lines_done r.acts ++ [] = ap judged (sym (append-nil done.came)) ∙ r.lines []
      ∙ ap (λ (l : List ℕ). lines_done r.acts ++ judged l) (append-nil run.reader)
      ∙ ap (λ (l : List (Option Item)). lines_done r.acts ++ l) none.0 in
      record {
        left = [];
        plays = record {
          lines = short_judged before.source.left (subst (λ (l : List ℕ). length l ≤ longest_script) whole r.short) ∙ ap judged (sym whole) ∙ lines;
          on = r.on;
          ran = r.ran;
        };
        ends = inl refl;
        read = record { came = done.came; parts = r.parts; undone = []; lines = lines };
        reads = inl none.1;
      }
  whole_by (inr off) =
      let spreads = spread before.source.left done.came rest start r.acts r.answers r.last (λ more. judged (run.reader ++ more)) r.parts r.short r.lines r.on r.ran in
      record {
        left = judged (run.reader ++ spreads.more) ++ spreads.behind;
        plays = spreads.plays;
        ends = inr off;
        read = spreads.read;
        reads = inr off;
      }

  pub all : Whole
  all = whole_by done.done

  reads_by : (rest ≡ []) ⊎ (is_off r.last ≡ true) → (rest ≡ []) ⊎ (is_off (drained r.last) ≡ true)
  reads_by (inl none) = inl none
  reads_by (inr off) = inr (drained_by r.last.guest off)

  pub closes : (exit : Exit) (now : SinkKnown) → ClosesBy exit (closing Exit.Done r.last) sink.taken now.taken → BeforeLast exit start before rest now files
  closes Exit.Done now wrote = record {
    acts = r.acts;
    part = [];
    written = r.answers ++ closing Exit.Done r.last;
    went = record {
      end = drained r.last;
      replay = record {
        answers = r.answers;
        last = r.last;
        left = all.left;
        plays = all.plays;
        ends = all.ends;
        writes = append-nil (r.answers ++ closing Exit.Done r.last);
        leaves = refl;
      };
      unbegun = refl;
      files = record { saved_is = r.is.files.saved_is; calls_is = r.is.files.calls_is };
      read = all.read;
      reads = reads_by all.reads;
    };
    took = wrote ∙ ap (λ (l : List ℕ). l ++ closing Exit.Done r.last) r.takes ∙ append_assoc before.sink.taken r.answers (closing Exit.Done r.last);
    counted = record { rose = none_more _ _ _ r.rose; kept = r.kept };
  }
  closes (Exit.Fault object.Sink) now wrote = record {
    acts = r.acts;
    part = [];
    written = r.answers ++ wrote.front;
    went = record {
      end = r.last;
      cut = record {
        answers = r.answers;
        left = all.left;
        plays = all.plays;
        whole = r.answers;
        cut = closing Exit.Done r.last;
        writing = inr (r.ran, all.ends, refl);
        front = wrote.front;
        rest = wrote.rest;
        writes = append-nil (r.answers ++ wrote.front);
        parts = wrote.parts;
        lacks = wrote.lacks;
      };
      unbegun = refl;
      files = r.is.files;
      read = all.read;
    };
    took = wrote.took ∙ ap (λ (l : List ℕ). l ++ wrote.front) r.takes ∙ append_assoc before.sink.taken r.answers wrote.front;
    counted = record { rose = none_more _ _ _ r.rose; kept = r.kept };
  }
  closes Exit.OutOfMemory now wrote = record {
    acts = r.acts;
    part = [];
    written = r.answers;
    went = record {
      end = r.last;
      stop = record {
        answers = r.answers;
        last = r.last;
        left = all.left;
        plays = all.plays;
        stops = tt;
        unwritten = [];
        inside = not_inside all.left r.last;
        on = inl refl;
        writes = refl;
      };
      files = r.is.files;
      read = all.read;
      reads = tt;
    };
    took = wrote ∙ r.takes;
    counted = record { rose = none_more _ _ _ r.rose; kept = tt };
  }
  closes (Exit.Fault object.Source) now wrote = absurd wrote
  closes (Exit.Fault object.Files) now wrote = absurd wrote
  closes (Exit.Fault object.Trace) now wrote = absurd wrote
  closes (Exit.Fault object.Listener) now wrote = absurd wrote
  closes (Exit.Fault object.Words) now wrote = absurd wrote
  closes (Exit.Script line) now wrote = absurd wrote
  closes Exit.Usage now wrote = absurd wrote
