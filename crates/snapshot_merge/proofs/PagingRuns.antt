-- The pages of runs, of a diff that is there.
use Rattle.std.proofs.Common.{◌≡◌, ◌≢◌, ℕ, zero, suc, ◌+◌, ◌*◌, ◌<◌, ◌≤◌, Bool, true, false, cond, List, [], ◌∷◌, ◌++◌, length, drop, take, get_or, Option, Some, None, refl, sym, ap, subst, ◌∙◌, arith, append_assoc}
use Rattle.std.specs.Prelude.{IsTrue, ◌==◌, replicate, slice_get}
use Rattle.std.proofs.lemmas.Bool.{and_parts, eqb-true}
use Rattle.std.specs.FinMap.{get}
use Rattle.std.proofs.lemmas.List.{append-nil, drop-drop, drop_all, drop_at, drop_more, length-drop, length-replicate, length-take-le, take-append-drop, take_at}
use Rattle.vm_outside.specs.Calls.{FileCall}
use Rattle.vm_outside.specs.Calls.FileCall.{Synced}
use Rattle.vm_outside.specs.Filing.{SameFiles, Syncs}
use Rattle.vm_outside.specs.Known.{FilesKnown}
use Rattle.gate_file.specs.Gate.{write_calls}
use Rattle.gate_file.specs.Runs.{RunsAll, RunsPart}
use Rattle.gate_file.specs.Stages.{stage_calls, written_all}
use Rattle.gate_file.proofs.Inserts.{inserted_others}
use Rattle.gate_file.proofs.Steps.{part_then, runs_none, runs_then, same_part, same_runs, some_end, sync_part, sync_runs, there_after}
use Rattle.snap_diff.specs.declared.run.Run.{Run}
use Rattle.snap_diff.specs.Copies.{DiffCopy}
use Rattle.snap_diff.specs.Diffs.{is_table, size_behind, table_size}
use Rattle.snap_diff.specs.Runs.{are_runs, bytes_of, numbers_from, numbers_of, stored_in}
use Rattle.snap_diff.proofs.Files.{stored_is, stored_size}
use Rattle.snap_diff.proofs.Tables.{many_from}
use Rattle.snapshot_merge.specs.declared.finding.DiffStart.{DiffStart}
use Rattle.snapshot_merge.specs.Answering.{AreThere, IsPage, IsStartIn, IsStartOf, run_bytes, run_writes}
use Rattle.snapshot_merge.specs.Calls.{page_writes}
use Rattle.snapshot_merge.proofs.Paging.{calls_front, size_of_writes, text_front, write_of}

-- ---- a page of a run

number_from : (first count i : ℕ) → i < count → slice_get (numbers_from first count) i ≡ Some (first + i)
number_from first zero i lt = absurd (omega (arith, lt))
number_from first (suc count) zero lt = ap (λ (n : ℕ). Some n) (omega arith)
number_from first (suc count) (suc i) lt = number_from (suc first) count i (omega (arith, lt)) ∙ ap (λ (n : ℕ). Some n) (omega arith)

take_within : (n m k : ℕ) (bs : List ℕ) → k + n ≤ m → take n (drop k (take m bs)) ≡ take n (drop k bs)
take_within zero m k bs le = refl
take_within (suc n) zero k bs le = absurd (omega (arith, le))
take_within (suc n) (suc m) k [] le = refl
take_within (suc n) (suc m) zero (b ∷ bs) le = ap (λ (l : List ℕ). b ∷ l) (take_within n m zero bs (omega (arith, le)))
take_within (suc n) (suc m) (suc k) (b ∷ bs) le = take_within (suc n) m k bs (omega (arith, le))

zeros_within : (n m k : ℕ) → k + n ≤ m → take n (drop k (replicate {A = ℕ} m 0)) ≡ replicate {A = ℕ} n 0
zeros_within zero m k le = refl
zeros_within (suc n) zero k le = absurd (omega (arith, le))
zeros_within (suc n) (suc m) zero le = ap (λ (l : List ℕ). 0 ∷ l) (zeros_within n m zero (omega (arith, le)))
zeros_within (suc n) (suc m) (suc k) le = zeros_within (suc n) m k (omega (arith, le))

page_by : (content : Option (List ℕ)) (given page : List ℕ) (kind : Bool) (at place i count : ℕ) → content ≡ Some given → IsPage content kind place page
    → place ≡ at + 4096 * i → length page ≡ 4096 → i < count
    → page ≡ take 4096 (drop (4096 * i) (cond kind (take (4096 * count) (drop at given)) (replicate (4096 * count) 0)))
page_by None given page true at place i count is read here size lt = absurd cc
page_by (Some found) given page true at place i count is read here size lt =
    let same : found ≡ given = cc in
    read.1
    ∙ ap (λ (n : ℕ). take n (drop place found)) size
    ∙ ap (λ (l : List ℕ). take 4096 (drop place l)) same
    ∙ ap (λ (n : ℕ). take 4096 (drop n given)) (here ∙ omega arith)
    ∙ ap (take 4096) (sym (drop-drop (4096 * i) at given))
    ∙ sym (take_within 4096 (4096 * count) (4096 * i) (drop at given) (omega (arith, lt)))
page_by content given page false at place i count is zeros here size lt =
    zeros ∙ ap (λ (n : ℕ). replicate n 0) size ∙ sym (zeros_within 4096 (4096 * count) (4096 * i) (omega (arith, lt)))

-- the write of it
pub next_write : (r : Run) (content : Option (List ℕ)) (given page : List ℕ) (at place i target : ℕ) → content ≡ Some given → IsPage content r.stored place page
    → place ≡ at + 4096 * i → length page ≡ 4096 → i < r.length → target ≡ 4096 + 4096 * (r.first + i)
    → ◌≡◌ {A = Option (ℕ × List ℕ)} (slice_get (run_writes r (drop at given)) i) (Some (target, page))
next_write r content given page at place i target is read here size lt there =
    write_of (numbers_from r.first r.length) (run_bytes r (drop at given)) i (r.first + i) (number_from r.first r.length i lt)
    ∙ ap (λ (l : List ℕ). Some (4096 + 4096 * (r.first + i), l)) (sym (page_by content given page r.stored at place i r.length is read here size lt))
    ∙ ap (λ (k : ℕ). Some (k, page)) (sym there)

pub few_writes : (r : Run) (stored : List ℕ) (i : ℕ) → r.length ≤ i → length (run_writes r stored) ≤ i
few_writes r stored i le = omega (arith, le, size_of_writes (numbers_from r.first r.length) (run_bytes r stored), many_from r.first r.length)

-- ---- one run behind the other

writes_both : (ns ms xs ys : List ℕ) → length xs ≡ 4096 * length ns → page_writes (ns ++ ms) (xs ++ ys) ≡ page_writes ns xs ++ page_writes ms ys
writes_both [] ms [] ys size = refl
writes_both [] ms (x ∷ xs) ys size = absurd (omega (arith, size))
writes_both (n ∷ ns) ms xs ys size =
    let page : List ℕ = take 4096 xs in
    let more : List ℕ = drop 4096 xs in
    let one : length page ≡ 4096 = length-take-le 4096 xs (omega (arith, size)) in
    let whole : xs ++ ys ≡ page ++ (more ++ ys) = ap (λ (l : List ℕ). l ++ ys) (sym (take-append-drop 4096 xs)) ∙ append_assoc page more ys in
    ap (λ (l : List ℕ). (4096 + 4096 * n, take 4096 l) ∷ page_writes (ns ++ ms) (drop 4096 l)) whole
    ∙ ap (λ (l : List ℕ). (4096 + 4096 * n, l) ∷ page_writes (ns ++ ms) (drop 4096 (page ++ (more ++ ys)))) (take_at page (more ++ ys) 4096 one)
    ∙ ap (λ (l : List ℕ). (4096 + 4096 * n, page) ∷ page_writes (ns ++ ms) l) (drop_at page (more ++ ys) 4096 one)
    ∙ ap (λ (l : List (ℕ × List ℕ)). (4096 + 4096 * n, page) ∷ l) (writes_both ns ms more ys (omega (arith, size, length-drop 4096 xs)))

run_by : (first n : ℕ) (runs : List Run) (stored : List ℕ) (kind : Bool) → 4096 * (cond kind n 0 + stored_in runs) ≡ length stored
    → page_writes (numbers_from first n ++ numbers_of runs) (cond kind (take (4096 * n) stored ++ bytes_of runs (drop (4096 * n) stored)) (replicate (4096 * n) 0 ++ bytes_of runs stored))
    ≡ page_writes (numbers_from first n) (cond kind (take (4096 * n) stored) (replicate (4096 * n) 0)) ++ page_writes (numbers_of runs) (bytes_of runs (drop (4096 * cond kind n 0) stored))
run_by first n runs stored true size =
    writes_both (numbers_from first n) (numbers_of runs) (take (4096 * n) stored) (bytes_of runs (drop (4096 * n) stored))
    (length-take-le (4096 * n) stored (omega (arith, size)) ∙ ap (λ (k : ℕ). 4096 * k) (sym (many_from first n)))
run_by first n runs stored false size =
    let nothing : ℕ = 0 in
    writes_both (numbers_from first n) (numbers_of runs) (replicate (4096 * n) nothing) (bytes_of runs stored)
    (length-replicate (4096 * n) nothing ∙ ap (λ (k : ℕ). 4096 * k) (sym (many_from first n)))

-- ---- where the stored pages are in the file

pub place_first : (start : DiffStart) (at : ℕ) → IsTrue (is_table start.header start.runs) → at ≡ 64 + table_size start.header
    → at + 4096 * stored_in start.runs ≡ 64 + size_behind start.header
place_first start at table here =
    let many : stored_in start.runs ≡ start.header.stored =
    eqb-true (stored_in start.runs) start.header.stored
    (and_parts (are_runs start.header.version start.header.names.pages start.runs) (stored_in start.runs == start.header.stored) table).1 in
    omega (arith, many, here)

pub rest_is : (runs : List Run) (i : ℕ) (r : Run) → i < length runs → r ≡ get_or runs i r → drop i runs ≡ r ∷ drop (i + 1) runs
rest_is runs i r lt is = drop_more runs i r lt ∙ ap (λ (q : Run). q ∷ drop (i + 1) runs) (sym is)

pub place_next : (runs : List Run) (i : ℕ) (r : Run) (at next all : ℕ) → i < length runs → r ≡ get_or runs i r
    → at + 4096 * stored_in (drop i runs) ≡ all → next ≡ at + 4096 * cond r.stored r.length 0 → next + 4096 * stored_in (drop (i + 1) runs) ≡ all
place_next runs i r at next all lt is place here =
    let many : stored_in (drop i runs) ≡ cond r.stored r.length 0 + stored_in (drop (i + 1) runs) = ap stored_in (rest_is runs i r lt is) in
    omega (arith, place, here, many)

-- ---- the pages of a diff that is there

pub given_in : (o : Option (List ℕ)) (start : DiffStart) (d : DiffCopy) → IsStartIn o start d → (given : List ℕ) × (o ≡ Some given) × IsStartOf given start d
given_in None start d is = absurd is
given_in (Some given) start d is = (given, refl, is)

module _ (base diff : List ℕ) (start : DiffStart) (d : DiffCopy) (text : List ℕ) (old : FilesKnown)
    (there : get old.saved base ≡ Some text) (are : AreThere base diff start d old.saved) where
  abbrev given : List ℕ
  given = (given_in (get old.saved diff) start d are.there).0

  diff_there : get old.saved diff ≡ Some given
  diff_there = (given_in (get old.saved diff) start d are.there).1

  of : IsStartOf given start d
  of = (given_in (get old.saved diff) start d are.there).2

  abbrev writes : List (ℕ × List ℕ)
  writes = page_writes d.numbers d.bytes

  abbrev last : FileCall
  last = Synced base (Some (written_all (page_writes d.numbers d.bytes) text))

  -- all runs but these are written, whose stored pages are in the file from this offset on
  pub record Put (runs : List Run) (at : ℕ) (now : FilesKnown) : Type 0 where
    pub done : List (ℕ × List ℕ)
    pub parts : done ++ page_writes (numbers_of runs) (bytes_of runs (drop at given)) ≡ writes
    pub did : RunsAll base (write_calls base done) (written_all done text) old now
    pub size : 4096 * stored_in runs ≡ length (drop at given)

  pub put_none : (at : ℕ) → at ≡ 64 + table_size start.header → Put start.runs at old
  put_none at here =
      let place : drop at given ≡ of.file.parts_of.stored =
      ap (λ (n : ℕ). drop n given) (here ∙ ap (λ (n : ℕ). 64 + n) (ap table_size of.header))
      ∙ sym (drop-drop (table_size of.file.parts_of.header) 64 given) ∙ stored_is given d of.file in
      record {
        done = [];
        parts =
            ap (λ (runs : List Run). page_writes (numbers_of runs) (bytes_of runs (drop at given))) of.runs
            ∙ ap (λ (l : List ℕ). page_writes (numbers_of of.file.parts_of.runs) (bytes_of of.file.parts_of.runs l)) place
            ∙ ap (λ (c : DiffCopy). page_writes c.numbers c.bytes) (sym of.file.copy);
        did = runs_none base text old there;
        size = ap (λ (runs : List Run). 4096 * stored_in runs) of.runs ∙ stored_size given d of.file ∙ ap length (sym place);
      }

  module _ (r : Run) (runs : List Run) (at : ℕ) (now : FilesKnown) (put : Put (r ∷ runs) at now) where
    pub base_there : get now.saved base ≡ Some (written_all put.done text)
    base_there = there_after base _ (written_all put.done text) old now put.did

    pub still_diff : get now.saved diff ≡ Some given
    still_diff = inserted_others old.saved now.saved base (written_all put.done text) put.did.saved diff are.differ ∙ diff_there

    abbrev rest : List (ℕ × List ℕ)
    rest = page_writes (numbers_of runs) (bytes_of runs (drop (4096 * cond r.stored r.length 0) (drop at given)))

    abbrev of_run : List (ℕ × List ℕ)
    of_run = run_writes r (drop at given)

    run_parts : put.done ++ (of_run ++ rest) ≡ writes
    run_parts = ap (λ (ws : List (ℕ × List ℕ)). put.done ++ ws) (sym (run_by r.first r.length runs (drop at given) r.stored put.size)) ∙ put.parts

    script : write_calls base writes ++ last ∷ [] ≡ write_calls base put.done ++ (write_calls base of_run ++ (write_calls base rest ++ last ∷ []))
    script =
        ap (λ (ws : List (ℕ × List ℕ)). write_calls base ws ++ last ∷ []) (sym run_parts)
        ∙ ap (λ (l : List FileCall). l ++ last ∷ []) (calls_front base put.done (of_run ++ rest) ∙ ap (λ (l : List FileCall). write_calls base put.done ++ l) (calls_front base of_run rest))
        ∙ append_assoc (write_calls base put.done) (write_calls base of_run ++ write_calls base rest) (last ∷ [])
        ∙ ap (λ (l : List FileCall). write_calls base put.done ++ l) (append_assoc (write_calls base of_run) (write_calls base rest) (last ∷ []))

    pub run_fails : (new : FilesKnown) → ((more : List FileCall) → more ≢ [] → RunsPart base (write_calls base of_run ++ more) now new)
        → RunsPart base (stage_calls base writes text) old new
    run_fails new fails =
        same_part base _ _ old new (sym script)
        (part_then base (write_calls base put.done) _ _ old now new put.did (fails (write_calls base rest ++ last ∷ []) (some_end (write_calls base rest) last)))

    pub put_more : (new : FilesKnown) (next : ℕ) → next ≡ at + 4096 * cond r.stored r.length 0
        → RunsAll base (write_calls base of_run) (written_all of_run (written_all put.done text)) now new → Put runs next new
    put_more new next here did =
        let place : drop (4096 * cond r.stored r.length 0) (drop at given) ≡ drop next given =
        drop-drop (4096 * cond r.stored r.length 0) at given ∙ ap (λ (n : ℕ). drop n given) (sym here) in
        record {
          done = put.done ++ of_run;
          parts =
              append_assoc put.done of_run (page_writes (numbers_of runs) (bytes_of runs (drop next given)))
              ∙ ap (λ (l : List ℕ). put.done ++ (of_run ++ page_writes (numbers_of runs) (bytes_of runs l))) (sym place)
              ∙ run_parts;
          did =
              same_runs base _ _ _ _ old new
              (sym (calls_front base put.done of_run)) (sym (text_front put.done of_run text))
              (runs_then base (write_calls base put.done) (write_calls base of_run) (written_all put.done text) (written_all of_run (written_all put.done text)) old now new put.did did);
          size = omega (arith, put.size, ap length place, length-drop (4096 * cond r.stored r.length 0) (drop at given));
        }

  -- the runs from this one on
  pub next_run : (runs : List Run) (i : ℕ) (r : Run) (at : ℕ) (now : FilesKnown) → i < length runs → r ≡ get_or runs i r
      → Put (drop i runs) at now → Put (r ∷ drop (i + 1) runs) at now
  next_run runs i r at now lt is put = subst (λ (l : List Run). Put l at now) (rest_is runs i r lt is) put

  pub at_end : (runs : List Run) (i at : ℕ) (now : FilesKnown) → length runs ≤ i → Put (drop i runs) at now → Put [] at now
  at_end runs i at now all put = subst (λ (l : List Run). Put l at now) (drop_all i runs all) put

  -- all runs are written
  module _ (at : ℕ) (now : FilesKnown) (put : Put [] at now) where
    all_done : put.done ≡ writes
    all_done = sym (append-nil put.done) ∙ put.parts

    did_all : RunsAll base (write_calls base writes) (written_all writes text) old now
    did_all = subst (λ (ws : List (ℕ × List ℕ)). RunsAll base (write_calls base ws) (written_all ws text) old now) all_done put.did

    pub sync_fails : (new : FilesKnown) → SameFiles now new → RunsPart base (stage_calls base writes text) old new
    sync_fails new same = part_then base (write_calls base writes) _ (written_all writes text) old now new did_all (sync_part base last [] now new same)

    pub put_all : (new : FilesKnown) → Syncs now base new → RunsAll base (stage_calls base writes text) (written_all writes text) old new
    put_all new synced =
        runs_then base (write_calls base writes) _ (written_all writes text) (written_all writes text) old now new did_all
        (sync_runs base (written_all writes text) now new (there_after base _ (written_all writes text) old now did_all) synced)

  -- what is there still is after calls on the base
  pub still_there : (calls : List FileCall) (other : List ℕ) (now : FilesKnown) → RunsAll base calls other old now → AreThere base diff start d now.saved
  still_there calls other now runs = record {
    differ = are.differ;
    there = subst (λ (o : Option (List ℕ)). IsStartIn o start d) (sym (inserted_others old.saved now.saved base other runs.saved diff are.differ)) are.there;
  }
