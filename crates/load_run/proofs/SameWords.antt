-- Both sides of a run show the same words, where the guest of the source is on at its end: by the law of a chain that is loaded.
use Rattle.std.proofs.Common.{◌≡◌, ◌≢◌, ◌≤◌, ◌<◌, ◌^◌, ◌+◌, ◌∙◌, ◌⊎◌, ℕ, zero, suc, Bool, true, false, nat_le, if◌then◌else◌, refl, sym, ap, subst, List, [], ◌∷◌, ◌++◌, append-nil, length, map, take, codes, Option, Some, None, Result, inl, inr, arith}
use Rattle.std.specs.Fmt.{decimal, digits}
use Rattle.std.specs.FinMap.{get}
use Rattle.vm_types.specs.Saved.{Saved, nothing_saved}
use Rattle.vm_types.specs.declared.exit.Exit.{Exit}
use Rattle.vm_outside.specs.Calls.{FileCall}
use Rattle.script_text.specs.declared.item.Item.{Item}
use Rattle.script_text.specs.Lines.{judged}
use Rattle.http_stream.specs.Conversation.{new_connection}
use Rattle.http_stream.specs.Stream.{Connection}
use Rattle.http_stream.specs.declared.request.Next.TheVariants as next
use Rattle.api_calls.specs.declared.call.ApiCall.{ApiCall}
use Rattle.api_calls.specs.declared.call.ApiCall.TheVariants as call
use Rattle.api_calls.specs.declared.call.SnapshotLoad.{SnapshotLoad}
use Rattle.api_calls.specs.declared.call.SnapshotType.{SnapshotType}
use Rattle.api_calls.specs.declared.call.SnapshotType.TheVariants as snapshot
use Rattle.api_calls.specs.Call.{◌>>=◌}
use Rattle.refusals.specs.declared.refusal.Refusal.{Refusal}
use Rattle.responses.specs.Responses.{Response}
use Rattle.api_rules.specs.Table.{decision}
use Rattle.command_line.specs.MachineId.{default_id}
use Rattle.load_gen.specs.Load.{load_items, load_script, rounds_of}
use Rattle.flat_machine.specs.Machine.{Machine, is_off, new_machine, phase_of}
use Rattle.flat_machine.specs.Replay.{IsEnd, longest_script}
use Rattle.flat_machine.specs.Run.{Act, Run, lines_done}
use Rattle.snapshot_chain.specs.Chains.{DiffsLead, IsSaving, Saving, memory_text, state_text}
use Rattle.snapshot_chain.proofs.Created.{text_is}
use Rattle.snapshot_chain.proofs.Loaded.{some_merge}
use Rattle.snapshot_merge.specs.InOrder.{MergeAll}
use Rattle.alike_runs.specs.Alike.{Alike, as_loaded}
use Rattle.restored_chain.specs.Merged.{MergeCalls}
use Rattle.restored_chain.specs.Restored.{IsRestored}
use Rattle.restored_chain.proofs.Restored.{TraceReady, diffs_lead, saving_is}
use Rattle.run_chain.proofs.Acts.{Does, does_first, does_none, lines_of, ons_of}
use Rattle.run_chain.proofs.Heard.{Heard}
use Rattle.run_chain.proofs.Numbered.{all_upto, loads, one_of}
use Rattle.run_chain.proofs.Opening.{script_leaves}
use Rattle.run_chain.proofs.Rounds.{AfterRounds, heard_of, texts_in}
use Rattle.load_run.specs.Line.{Shows}
use Rattle.load_run.specs.Merging.{diffs_in, memory_name, merged}
use Rattle.load_run.specs.Restoring.{IsDone, load_last, restore_script}
use Rattle.load_run.proofs.Alike.{IsOne, same_words}
use Rattle.load_run.proofs.Called.{all_called}
use Rattle.load_run.proofs.Overlaid.{others_kept}

-- ---- a replay that is done has done its lines

abbrev behind : List (Option Item) → List (Option Item)
behind [] = []
behind (x ∷ xs) = xs

-- no act is done for what is no line
none_last : (acts : List Act) (front : List (Option Item)) → lines_done acts ≡ front ++ None ∷ [] → ⊥
none_last [] [] is = cc
none_last [] (x ∷ front) is = cc
none_last (act ∷ acts) [] is = cc
none_last (act ∷ acts) (x ∷ front) is = none_last acts front (ap behind is)

lines_are : (short : Bool) (script : List ℕ) (items : List Item) (acts : List Act) → judged script ≡ lines_of items
    → (if short then judged script else judged (take longest_script script) ++ None ∷ []) ≡ lines_done acts ++ []
    → lines_done acts ≡ lines_of items
lines_are true script items acts read is = sym (append-nil (lines_done acts)) ∙ sym is ∙ read
lines_are false script items acts read is =
    absurd (none_last acts (judged (take longest_script script)) (sym (append-nil (lines_done acts)) ∙ sym is))

-- a machine whose guest is on at the end has done all of them
pub done_does : (script : List ℕ) (start m : Machine) (items : List Item) → judged script ≡ lines_of items → IsDone script start m
    → is_off m ≡ false → Does items start m
done_does script start m items read done on = by_end done.replay.ends
  where
    by_end : IsEnd Exit.Done done.replay.left (length done.acts + 1) done.replay.last → Does items start m
    by_end (inl none) =
        subst (λ (q : Machine). Does items start q) (sym done.last)
        (record {
          acts = done.acts;
          text = done.replay.answers;
          lines =
              lines_are (nat_le (length script) longest_script) script items done.acts read
              (done.replay.plays.lines ∙ ap (λ (l : List (Option Item)). lines_done done.acts ++ l) none);
          ran = done.replay.plays.ran;
          answered = done.answered;
          on = ons_of done.acts start done.replay.last done.replay.answers done.replay.plays.ran done.replay.plays.on;
        })
    by_end (inr off) =
        let both : false ≡ true = sym on ∙ ap is_off done.last ∙ off in
        absurd cc

-- a script of one line, over a machine that has not started, is done whether or not the guest is on then
one_line : (acts : List Act) (left : List (Option Item)) (it : Item) (start last : Machine) (text : List ℕ)
    → lines_done acts ++ left ≡ Some it ∷ [] → Run acts start text last → (left ≡ []) ⊎ (is_off last ≡ true) → is_off start ≡ false
    → lines_done acts ≡ Some it ∷ []
one_line [] left it start last text lines ran (inl none) new = let e : [] ≡ Some it ∷ [] = sym none ∙ lines in absurd cc
one_line [] left it start last text lines ran (inr off) new =
    let e : false ≡ true = sym new ∙ ap is_off ran.1 ∙ off in
    absurd cc
one_line (act ∷ []) left it start last text lines ran ends new = ap (λ (l : List (Option Item)). first_of l ∷ []) lines
  where
    first_of : List (Option Item) → Option Item
    first_of [] = None
    first_of (x ∷ xs) = x
one_line (act ∷ other ∷ acts) left it start last text lines ran ends new =
    let e : lines_done (other ∷ acts) ++ left ≡ [] = ap behind lines in
    absurd cc

-- a script that loads is short
all_short : all_upto (λ (i : ℕ). nat_le (length (restore_script i)) longest_script) 64 ≡ true
unfolding digits
all_short = refl

-- ---- the files of the diffs are there

text_of : (type : SnapshotType) (s : Saving) → IsSaving type s → (text : List ℕ) × (memory_text s ≡ Some text)
text_of type s is = (_, text_is type s is _ refl)

files_there : (type : SnapshotType) (first last : Saving) (savings : List Saving) → DiffsLead first savings last
    → (files : List (List ℕ)) × (map (λ (s : Saving). memory_text s) savings ≡ map (λ (file : List ℕ). Some file) files)
files_there type first last [] led = ([], refl)
files_there type first last (s ∷ savings) (is, follows, rest) =
    let more = files_there type s last savings rest in
    let own = text_of snapshot.Diff s is in (
      own.0 ∷ more.0,
      ap (λ (o : Option (List ℕ)). o ∷ map (λ (x : Saving). memory_text x) savings) own.1
          ∙ ap (λ (l : List (Option (List ℕ))). Some own.0 ∷ l) more.1,
    )

-- these are those of the merges
texts_are : (count : ℕ) (saved : Saved) → diffs_in count saved ≡ texts_in count saved
texts_are zero saved = refl
texts_are (suc before) saved =
    ap (λ (l : List (Option (List ℕ))). l ++ get saved (codes "d" ++ decimal (before + 1)) ∷ []) (texts_are before saved)

other_name : (i : ℕ) → codes "s" ++ decimal i ≢ memory_name
other_name i same =
    let letters : 115 ≡ 109 = ap head_of same in
    absurd (omega (arith, letters))
  where
    head_of : List ℕ → ℕ
    head_of [] = 0
    head_of (c ∷ text) = c

-- ---- both sides

-- what the law of a chain says that is loaded
abbrev pub IsRestoredAlike : Type 0
IsRestoredAlike =
    (first : Saving) (savings : List Saving) (last : Saving) (k : Machine) (load : SnapshotLoad) (said : List Response) (p : Machine)
    (c : Connection) → IsRestored first savings last k load said p
    → Alike [] (record (as_loaded last.after k load) { connection = c }) (record p { connection = c })

module _ (one : IsOne) (ready : TraceReady) (chain : IsRestoredAlike) (number : ℕ) (source restored : Machine) (calls : List FileCall) (own other : List ℕ)
    (reads : judged (load_script number) ≡ lines_of (load_items number))
    (loads_read : judged (restore_script (rounds_of number)) ≡ lines_of (load_last (rounds_of number) ∷ []))
    (replayed : IsDone (load_script number) (new_machine default_id nothing_saved []) source)
    (loaded : IsDone (restore_script (rounds_of number)) (new_machine default_id (merged (rounds_of number) source.saved) calls) restored)
    (shows_own : Shows source own) (shows_other : Shows restored other) (on : is_off source ≡ false) where
  abbrev count : ℕ
  count = rounds_of number

  abbrev loader : Machine
  loader = new_machine default_id (merged count source.saved) calls

  after : AfterRounds count source
  after = script_leaves default_id number source
      (done_does (load_script number) (new_machine default_id nothing_saved []) source (load_items number) reads replayed on)

  abbrev last : Saving
  last = after.last

  full : IsSaving snapshot.Full after.first
  full = saving_is ready snapshot.Full after.first after.full

  leads : DiffsLead after.first after.savings last
  leads = diffs_lead ready after.first after.savings last after.leads

  base : (text : List ℕ) × (memory_text after.first ≡ Some text)
  base = text_of snapshot.Full after.first full

  files : (files : List (List ℕ)) × (map (λ (s : Saving). memory_text s) after.savings ≡ map (λ (file : List ℕ). Some file) files)
  files = files_there snapshot.Full after.first last after.savings leads

  few : length after.savings ≤ 100
  few = let many = after.many in omega (arith, many)

  merges : (text : List ℕ) × MergeAll base.0 files.0 text
  merges = some_merge after.first last after.savings base.0 files.0 full leads few base.1 files.1

  called : MergeCalls memory_name files.0 (Some base.0) (get loader.saved memory_name)
  called =
      all_called count source.saved base.0 files.0 merges.0 (after.base_there ∙ base.1)
      (texts_are count source.saved ∙ after.diffs_there ∙ files.1) merges.1

  state_there : get loader.saved (codes "s" ++ decimal count) ≡ state_text last
  state_there = others_kept count source.saved (codes "s" ++ decimal count) (other_name count) ∙ after.state_there

  abbrev load : SnapshotLoad
  load = record {
    files = record { snapshot_path = codes "s" ++ decimal count; mem_file_path = codes "m0" };
    track_dirty_pages = false;
    resume_vm = false;
  }

  -- the line that loads was heard
  heard : Heard (call.LoadSnapshot load) loader restored
  heard =
      let lines =
      one_line loaded.acts loaded.replay.left (load_last count) loader loaded.replay.last loaded.replay.answers
      (by_short (one_of (λ (i : ℕ). nat_le (length (restore_script i)) longest_script) 64 count all_short (omega arith) (omega arith)))
      loaded.replay.plays.ran loaded.replay.ends refl in
      let does : Does (load_last count ∷ []) loader loaded.replay.last = record {
        acts = loaded.acts;
        text = loaded.replay.answers;
        lines = lines;
        ran = loaded.replay.plays.ran;
        answered = loaded.answered;
        on =
            ons_of loaded.acts loader loaded.replay.last loaded.replay.answers loaded.replay.plays.ran loaded.replay.plays.on;
      } in
      let line = does_first (load_last count) [] loader loaded.replay.last does in
      let end = does_none line.0 loaded.replay.last line.2 in
      subst (λ (q : Machine). Heard (call.LoadSnapshot load) loader q) (end ∙ sym loaded.last)
      (heard_of (codes "PUT") (codes "/snapshot/load") _ (call.LoadSnapshot load) loader line.0 (loads count (omega arith) (omega arith)) refl line.1)
    where
      by_short : nat_le (length (restore_script (rounds_of number))) longest_script ≡ true
          → lines_done loaded.acts ++ loaded.replay.left ≡ Some (load_last (rounds_of number)) ∷ []
      by_short short =
          sym loaded.replay.plays.lines
          ∙ ap (λ (b : Bool). if b then judged (restore_script (rounds_of number)) else judged (take longest_script (restore_script (rounds_of number))) ++ None ∷ []) short
          ∙ loads_read

  -- so the chain was loaded
  restores : IsRestored after.first after.savings last loader load heard.said heard.mid
  restores = record {
    full = after.full;
    leads = after.leads;
    few = few;
    base = base.0;
    files = files.0;
    base_is = base.1;
    files_are = files.1;
    name = memory_name;
    left = get loader.saved memory_name;
    merges = called;
    lineage = (let small : 0 < 2 ^ 64 = omega arith in small);
    memory = refl;
    state = state_there;
    given = next.Request heard.request;
    kept = heard.kept;
    asks =
        ap (λ (r : Result ApiCall Refusal). r >>= λ a. decision (phase_of loader) loader.config loader.ids a) heard.asks;
    step = heard.step;
  }

  pub same_shown : own ≡ other
  same_shown =
      let alike = chain after.first after.savings last loader load heard.said heard.mid new_connection restores in
      same_words one alike.g alike.h source restored own other alike.guests.same (after.guest_is ∙ alike.first)
      (ap (λ (q : Machine). q.guest) heard.leaves ∙ alike.second) shows_own shows_other
