-- Stages, one after another.
use Rattle.std.proofs.Common.{◌≡◌, ℕ, List, [], ◌∷◌, ◌++◌, Some, refl, sym, ap, ◌∙◌, append_assoc}
use Rattle.std.specs.FinMap.{get}
use Rattle.vm_types.specs.Saved.{written}
use Rattle.vm_outside.specs.Calls.{FileCall}
use Rattle.vm_outside.specs.Calls.FileCall.{Writing, Synced}
use Rattle.vm_outside.specs.Filing.{SameFiles, Syncs, WritesAt}
use Rattle.vm_outside.specs.Known.{FilesKnown}
use Rattle.gate_file.specs.Runs.{RunsAll, RunsPart}
use Rattle.gate_file.proofs.Steps.{part_more, part_then, runs_none, runs_then, same_part, same_runs, sync_part, sync_runs, there_after, write_runs}
use Rattle.gate_file.specs.Stages.{calls_of, stage_calls, text_after, written_all}

module _ (name : List ℕ) where
  -- ---- one write, and a sync

  pub put_done : (text : List ℕ) (at : ℕ) (bytes : List ℕ) (old mid new : FilesKnown) → get old.saved name ≡ Some text → WritesAt old name at bytes mid → Syncs mid name new
      → RunsAll name (stage_calls name ((at, bytes) ∷ []) text) (written_all ((at, bytes) ∷ []) text) old new
  put_done text at bytes old mid new there wrote synced =
      let first = write_runs name text at bytes old mid there wrote in
      runs_then name _ _ _ _ old mid new first (sync_runs name (written text at bytes) mid new (there_after name _ (written text at bytes) old mid first) synced)

  pub put_unsynced : (text : List ℕ) (at : ℕ) (bytes : List ℕ) (old mid new : FilesKnown) → get old.saved name ≡ Some text → WritesAt old name at bytes mid → SameFiles mid new
      → RunsPart name (stage_calls name ((at, bytes) ∷ []) text) old new
  put_unsynced text at bytes old mid new there wrote same =
      part_then name (Writing name at bytes ∷ []) (Synced name (Some (written text at bytes)) ∷ []) (written text at bytes) old mid new (write_runs name text at bytes old mid there wrote)
      (sync_part name (Synced name (Some (written text at bytes))) [] mid new same)

  -- ---- stages

  pub stage_then : (w : List (ℕ × List ℕ)) (ws : List (List (ℕ × List ℕ))) (text : List ℕ) (old mid new : FilesKnown)
      → RunsAll name (stage_calls name w text) (written_all w text) old mid
      → RunsAll name (calls_of name ws (written_all w text)) (text_after ws (written_all w text)) mid new
      → RunsAll name (calls_of name (w ∷ ws) text) (text_after (w ∷ ws) text) old new
  stage_then w ws text old mid new first second = runs_then name _ _ _ _ old mid new first second

  pub stage_last : (w : List (ℕ × List ℕ)) (text : List ℕ) (old new : FilesKnown)
      → RunsAll name (stage_calls name w text) (written_all w text) old new
      → RunsAll name (calls_of name (w ∷ []) text) (text_after (w ∷ []) text) old new
  stage_last w text old new runs = stage_then w [] text old new new runs (runs_none name (written_all w text) new (there_after name _ (written_all w text) old new runs))

  pub stage_fails : (w : List (ℕ × List ℕ)) (ws : List (List (ℕ × List ℕ))) (text : List ℕ) (old new : FilesKnown)
      → RunsPart name (stage_calls name w text) old new → RunsPart name (calls_of name (w ∷ ws) text) old new
  stage_fails w ws text old new part = part_more name (stage_calls name w text) (calls_of name ws (written_all w text)) old new part

  pub later_fails : (w : List (ℕ × List ℕ)) (ws : List (List (ℕ × List ℕ))) (text : List ℕ) (old mid new : FilesKnown)
      → RunsAll name (stage_calls name w text) (written_all w text) old mid → RunsPart name (calls_of name ws (written_all w text)) mid new
      → RunsPart name (calls_of name (w ∷ ws) text) old new
  later_fails w ws text old mid new first part = part_then name (stage_calls name w text) (calls_of name ws (written_all w text)) (written_all w text) old mid new first part

  -- ---- several, and then others

  calls_joined : (ws vs : List (List (ℕ × List ℕ))) (text : List ℕ) → calls_of name (ws ++ vs) text ≡ calls_of name ws text ++ calls_of name vs (text_after ws text)
  calls_joined [] vs text = refl
  calls_joined (w ∷ ws) vs text =
      ap (λ (l : List FileCall). stage_calls name w text ++ l) (calls_joined ws vs (written_all w text))
      ∙ sym (append_assoc (stage_calls name w text) (calls_of name ws (written_all w text)) (calls_of name vs (text_after ws (written_all w text))))

  text_joined : (ws vs : List (List (ℕ × List ℕ))) (text : List ℕ) → text_after (ws ++ vs) text ≡ text_after vs (text_after ws text)
  text_joined [] vs text = refl
  text_joined (w ∷ ws) vs text = text_joined ws vs (written_all w text)

  pub stages_then : (ws vs : List (List (ℕ × List ℕ))) (text : List ℕ) (old mid new : FilesKnown)
      → RunsAll name (calls_of name ws text) (text_after ws text) old mid
      → RunsAll name (calls_of name vs (text_after ws text)) (text_after vs (text_after ws text)) mid new
      → RunsAll name (calls_of name (ws ++ vs) text) (text_after (ws ++ vs) text) old new
  stages_then ws vs text old mid new first second =
      same_runs name _ _ _ _ old new (sym (calls_joined ws vs text)) (sym (text_joined ws vs text)) (runs_then name _ _ _ _ old mid new first second)

  pub stages_fail : (ws vs : List (List (ℕ × List ℕ))) (text : List ℕ) (old new : FilesKnown)
      → RunsPart name (calls_of name ws text) old new → RunsPart name (calls_of name (ws ++ vs) text) old new
  stages_fail ws vs text old new part =
      same_part name _ _ old new (sym (calls_joined ws vs text)) (part_more name (calls_of name ws text) (calls_of name vs (text_after ws text)) old new part)

  pub others_fail : (ws vs : List (List (ℕ × List ℕ))) (text : List ℕ) (old mid new : FilesKnown)
      → RunsAll name (calls_of name ws text) (text_after ws text) old mid → RunsPart name (calls_of name vs (text_after ws text)) mid new
      → RunsPart name (calls_of name (ws ++ vs) text) old new
  others_fail ws vs text old mid new first part =
      same_part name _ _ old new (sym (calls_joined ws vs text)) (part_then name (calls_of name ws text) (calls_of name vs (text_after ws text)) (text_after ws text) old mid new first part)
