use Rattle.std.proofs.Common.{refl, ap, ◌∙◌, ℕ, List, [], ◌∷◌, ◌++◌, arith}
use Rattle.script_text.specs.Lines.{judged}
use Rattle.load_run.specs.Restoring.{load_last}
use Rattle.load_run.proofs.Readable.{all_writable, script_is}
use Rattle.load_run.proofs.scripts.restore_script.Goals as goal

pub returns-clause-lines : goal.returns-clause-lines
returns-clause-lines c = (
  load_last c.args.rounds ∷ [],
  ap judged (c.in_ok-append.ensures.ok ∙ ap (λ (l : List ℕ). l ++ _) c.in_ok-script.ensures ∙ script_is c.args.rounds _ _ refl refl)
      ∙ c.whole_text.ensures.script (load_last c.args.rounds ∷ []) (all_writable c.args.rounds (omega (arith, c.requires))),
)
