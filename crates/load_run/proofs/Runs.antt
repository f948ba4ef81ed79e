-- The parts of a run.
use Rattle.std.proofs.Common.{◌≡◌, ℕ, refl, ap, subst, ◌∙◌, List, [], ◌∷◌}
use Rattle.vm_types.specs.Saved.{Saved, nothing_saved}
use Rattle.vm_outside.specs.Calls.{FileCall}
use Rattle.vm_outside.specs.Filing.{SameFiles}
use Rattle.vm_outside.specs.Known.{FilesKnown}
use Rattle.command_line.specs.MachineId.{default_id}
use Rattle.flat_machine.specs.Machine.{Machine, new_machine}
use Rattle.script_text.specs.Lines.{judged}
use Rattle.load_gen.specs.Load.{load_items, load_script, rounds_of}
use Rattle.restored_chain.proofs.Restored.{TraceReady}
use Rattle.run_chain.proofs.Acts.{lines_of}
use Rattle.load_run.specs.Line.{run_line}
use Rattle.load_run.specs.Merging.{merged, pages_in}
use Rattle.load_run.specs.Restoring.{IsDone, load_last, restore_script}
use Rattle.load_run.specs.Running.{HoldNothing, IsRun, ShowsAtEnd}
use Rattle.load_run.proofs.Alike.{IsOne}
use Rattle.load_run.proofs.SameWords.{IsRestoredAlike, same_shown}

-- the same script, over the same files
done_as : (script other : List ℕ) (saved held : Saved) (calls made : List FileCall) (m : Machine) → script ≡ other → saved ≡ held → calls ≡ made
    → IsDone script (new_machine default_id saved calls) m → IsDone other (new_machine default_id held made) m
done_as script other saved held calls made m one two three done =
    subst (λ (c : List FileCall). IsDone other (new_machine default_id held c) m) three
    (subst (λ (s : Saved). IsDone other (new_machine default_id s calls) m) two (subst (λ (t : List ℕ). IsDone t (new_machine default_id saved calls) m) one done))

pub run_is : (one : IsOne) (ready : TraceReady) (chain : IsRestoredAlike) (number rounds pages : ℕ) (start first counted last end : FilesKnown) (script load source restored first_shown last_shown line : List ℕ) → rounds ≡ rounds_of number → HoldNothing start
    → script ≡ load_script number → load ≡ restore_script rounds → ShowsAtEnd script start source first → SameFiles first counted → pages ≡ pages_in rounds first.saved
    → last.saved ≡ merged rounds counted.saved → ShowsAtEnd load last restored end → first_shown ≡ source → last_shown ≡ restored
    → line ≡ run_line number rounds pages first_shown last_shown → judged (load_script number) ≡ lines_of (load_items number)
    → judged (restore_script (rounds_of number)) ≡ lines_of (load_last (rounds_of number) ∷ []) → IsRun number line
run_is one ready chain number rounds pages start first counted last end script load source restored first_shown last_shown line same empty script_is load_is shows kept pages_are merges loads first_is last_is says reads loads_read =
    let held : last.saved ≡ merged (rounds_of number) shows.last.saved = merges ∙ ap (λ (s : Saved). merged rounds s) (kept.saved ∙ shows.saved)
    ∙ ap (λ (n : ℕ). merged n shows.last.saved) same in
    let count : pages ≡ pages_in (rounds_of number) shows.last.saved = pages_are ∙ ap (λ (s : Saved). pages_in rounds s) shows.saved
    ∙ ap (λ (n : ℕ). pages_in n shows.last.saved) same in
    let replayed : IsDone (load_script number) (new_machine default_id nothing_saved []) shows.last =
    done_as script (load_script number) start.saved nothing_saved start.calls [] shows.last script_is empty.saved empty.calls shows.done in
    let loaded : IsDone (restore_script (rounds_of number)) (new_machine default_id (merged (rounds_of number) shows.last.saved) last.calls) loads.last =
    done_as load (restore_script (rounds_of number)) last.saved (merged (rounds_of number) shows.last.saved) last.calls last.calls loads.last
    (load_is ∙ ap (λ (n : ℕ). restore_script n) same) held refl loads.done in
    record {
      source = shows.last;
      replayed = replayed;
      calls = last.calls;
      restored = loads.last;
      loaded = loaded;
      source_words = source;
      source_shows = shows.shows;
      restored_words = restored;
      restored_shows = loads.shows;
      same =
          same_shown one ready chain number shows.last loads.last last.calls source restored reads loads_read replayed loaded shows.shows loads.shows;
      says = says ∙ ap (λ (l : List ℕ). run_line number rounds pages l last_shown) first_is ∙ ap (λ (l : List ℕ). run_line number rounds pages source l) last_is
          ∙ ap (λ (n : ℕ). run_line number n pages source restored) same
          ∙ ap (λ (n : ℕ). run_line number (rounds_of number) n source restored) count;
    }
