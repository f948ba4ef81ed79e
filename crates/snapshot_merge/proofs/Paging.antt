-- Pages that are written one by one.
use Rattle.std.proofs.Common.{◌≡◌, ◌≢◌, ℕ, zero, suc, ◌+◌, ◌*◌, ◌≤◌, List, [], ◌∷◌, ◌++◌, length, drop, take, Option, Some, refl, sym, ap, subst, ◌∙◌, arith, append_assoc}
use Rattle.std.specs.Prelude.{slice_get}
use Rattle.std.specs.FinMap.{get}
use Rattle.std.proofs.lemmas.List.{drop-drop, take-append-drop, take_all}
use Rattle.vm_types.specs.Saved.{written}
use Rattle.vm_outside.specs.Calls.{FileCall}
use Rattle.vm_outside.specs.Calls.FileCall.{Writing}
use Rattle.vm_outside.specs.Filing.{MayChange, SameFiles, WritesAt}
use Rattle.vm_outside.specs.Known.{FilesKnown}
use Rattle.gate_file.specs.Gate.{write_calls}
use Rattle.gate_file.specs.Runs.{RunsAll, RunsPart}
use Rattle.gate_file.proofs.Inserts.{inserted_others}
use Rattle.gate_file.proofs.Steps.{call_part, part_then, runs_none, runs_then, same_part, same_runs, sync_part, there_after, write_runs}
use Rattle.gate_file.specs.Stages.{written_all}
use Rattle.snapshot_merge.specs.Calls.{page_writes}

-- ---- the write of a page

pub size_of_writes : (numbers pages : List ℕ) → length (page_writes numbers pages) ≡ length numbers
size_of_writes [] pages = refl
size_of_writes (n ∷ ns) pages = omega (arith, size_of_writes ns (drop 4096 pages))

pub write_of : (numbers pages : List ℕ) (i n : ℕ) → slice_get numbers i ≡ Some n
    → ◌≡◌ {A = Option (ℕ × List ℕ)} (slice_get (page_writes numbers pages) i) (Some (4096 + 4096 * n, take 4096 (drop (4096 * i) pages)))
write_of [] pages i n there = absurd cc
write_of (m ∷ ns) pages zero n there =
    let same : m ≡ n = cc in
    let none : 0 ≡ 4096 * 0 = omega arith in
    ap (λ (k : ℕ). Some (4096 + 4096 * k, take 4096 pages)) same
    ∙ ap (λ (k : ℕ). Some (4096 + 4096 * n, take 4096 (drop k pages))) none
write_of (m ∷ ns) pages (suc i) n there =
    let next : 4096 + 4096 * i ≡ 4096 * suc i = omega arith in
    write_of ns (drop 4096 pages) i n there
    ∙ ap (λ (l : List ℕ). Some (4096 + 4096 * n, take 4096 l)) (drop-drop (4096 * i) 4096 pages)
    ∙ ap (λ (k : ℕ). Some (4096 + 4096 * n, take 4096 (drop k pages))) next

-- ---- lists of writes

pub calls_front : (name : List ℕ) (ws vs : List (ℕ × List ℕ)) → write_calls name (ws ++ vs) ≡ write_calls name ws ++ write_calls name vs
calls_front name [] vs = refl
calls_front name (w ∷ ws) vs = ap (λ (l : List FileCall). Writing name w.0 w.1 ∷ l) (calls_front name ws vs)

pub text_front : (ws vs : List (ℕ × List ℕ)) (text : List ℕ) → written_all (ws ++ vs) text ≡ written_all vs (written_all ws text)
text_front [] vs text = refl
text_front (w ∷ ws) vs text = text_front ws vs (written text w.0 w.1)

take_next : (ws : List (ℕ × List ℕ)) (i : ℕ) (w : ℕ × List ℕ) → slice_get ws i ≡ Some w → take (i + 1) ws ≡ take i ws ++ w ∷ []
take_next [] i w there = absurd cc
take_next (v ∷ ws) zero w there = let same : v ≡ w = cc in ap (λ (u : ℕ × List ℕ). u ∷ []) same
take_next (v ∷ ws) (suc i) w there =
    let next : suc i + 1 ≡ suc (i + 1) = omega arith in
    ap (λ (k : ℕ). take k (v ∷ ws)) next ∙ ap (λ (l : List (ℕ × List ℕ)). v ∷ l) (take_next ws i w there)

drop_next : (ws : List (ℕ × List ℕ)) (i : ℕ) (w : ℕ × List ℕ) → slice_get ws i ≡ Some w → drop i ws ≡ w ∷ drop (i + 1) ws
drop_next [] i w there = absurd cc
drop_next (v ∷ ws) zero w there = let same : v ≡ w = cc in ap (λ (u : ℕ × List ℕ). u ∷ ws) same
drop_next (v ∷ ws) (suc i) w there =
    let next : suc i + 1 ≡ suc (i + 1) = omega arith in
    drop_next ws i w there ∙ ap (λ (k : ℕ). w ∷ drop k (v ∷ ws)) (sym next)

-- nothing was done of calls that are left
pub unread_part : (name : List ℕ) (calls : List FileCall) (now new : FilesKnown) → calls ≢ [] → SameFiles now new → RunsPart name calls now new
unread_part name [] now new some same = absurd (some refl)
unread_part name (call ∷ calls) now new some same = sync_part name call calls now new same

pub more_calls : (calls more : List FileCall) → more ≢ [] → calls ++ more ≢ []
more_calls [] more some = some
more_calls (call ∷ calls) more some = λ none. absurd cc

-- ---- so many of these writes are done

module _ (base text : List ℕ) (ws : List (ℕ × List ℕ)) (old : FilesKnown) (there : get old.saved base ≡ Some text) where
  pub record Wrote (i : ℕ) (now : FilesKnown) : Type 0 where
    pub runs : RunsAll base (write_calls base (take i ws)) (written_all (take i ws) text) old now

  pub wrote_none : Wrote 0 old
  wrote_none = record { runs = runs_none base text old there }

  -- other files are as they were
  pub kept : (diff : List ℕ) → diff ≢ base → (i : ℕ) (now : FilesKnown) → Wrote i now → get now.saved diff ≡ get old.saved diff
  kept diff differ i now wrote = inserted_others old.saved now.saved base (written_all (take i ws) text) wrote.runs.saved diff differ

  pub same_wrote : (i : ℕ) (now new : FilesKnown) → Wrote i now → SameFiles now new → Wrote i new
  same_wrote i now new wrote same =
      record { runs = record { saved = same.saved ∙ wrote.runs.saved; calls = same.calls ∙ wrote.runs.calls } }

  script_parts : (i : ℕ) (more : List FileCall) → write_calls base ws ++ more ≡ write_calls base (take i ws) ++ (write_calls base (drop i ws) ++ more)
  script_parts i more =
      ap (λ (l : List (ℕ × List ℕ)). write_calls base l ++ more) (sym (take-append-drop i ws))
      ∙ ap (λ (l : List FileCall). l ++ more) (calls_front base (take i ws) (drop i ws))
      ∙ append_assoc (write_calls base (take i ws)) (write_calls base (drop i ws)) more

  -- a read that failed, with calls left
  pub read_fails : (i : ℕ) (now new : FilesKnown) → Wrote i now → SameFiles now new → (more : List FileCall) → more ≢ []
      → RunsPart base (write_calls base ws ++ more) old new
  read_fails i now new wrote same more some =
      same_part base _ _ old new (sym (script_parts i more))
      (part_then base (write_calls base (take i ws)) _ _ old now new wrote.runs
      (unread_part base (write_calls base (drop i ws) ++ more) now new (more_calls (write_calls base (drop i ws)) more some) same))

  -- a write that failed
  pub write_fails : (i at : ℕ) (page : List ℕ) (now new : FilesKnown) → Wrote i now → slice_get ws i ≡ Some (at, page)
      → MayChange now base (Writing base at page) new → (more : List FileCall) → more ≢ [] → RunsPart base (write_calls base ws ++ more) old new
  write_fails i at page now new wrote next change more some =
      same_part base _ _ old new (sym (script_parts i more))
      (part_then base (write_calls base (take i ws)) _ _ old now new wrote.runs
      (same_part base _ _ now new (ap (λ (l : List (ℕ × List ℕ)). write_calls base l ++ more) (sym (drop_next ws i (at, page) next)))
      (call_part base (Writing base at page) (write_calls base (drop (i + 1) ws) ++ more) now new (more_calls (write_calls base (drop (i + 1) ws)) more some) change)))

  pub wrote_more : (i at : ℕ) (page : List ℕ) (now new : FilesKnown) → Wrote i now → slice_get ws i ≡ Some (at, page)
      → WritesAt now base at page new → Wrote (i + 1) new
  wrote_more i at page now new wrote next writes_at =
      let so_far : List ℕ = written_all (take i ws) text in
      let one = write_runs base so_far at page now new (there_after base _ so_far old now wrote.runs) writes_at in
      let more = take_next ws i (at, page) next in
      record {
        runs = same_runs base _ _ _ _ old new
            (sym (calls_front base (take i ws) ((at, page) ∷ [])) ∙ ap (write_calls base) (sym more))
            (sym (text_front (take i ws) ((at, page) ∷ []) text) ∙ ap (λ (l : List (ℕ × List ℕ)). written_all l text) (sym more))
            (runs_then base (write_calls base (take i ws)) (Writing base at page ∷ []) so_far (written so_far at page) old now new wrote.runs one);
      }

  pub wrote_all : (i : ℕ) (now : FilesKnown) → length ws ≤ i → Wrote i now → RunsAll base (write_calls base ws) (written_all ws text) old now
  wrote_all i now all wrote = subst (λ (l : List (ℕ × List ℕ)). RunsAll base (write_calls base l) (written_all l text) old now) (take_all i ws all) wrote.runs
