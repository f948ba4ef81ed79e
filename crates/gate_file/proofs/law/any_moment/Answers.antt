use Rattle.std.proofs.Common.{inl, inr, ⊎_elim, ◌++◌}
use Rattle.vm_outside.specs.Crashes.{Images, Left, NoFile}
use Rattle.gate_file.specs.Gate.{open_calls, fill_calls}
use Rattle.gate_file.proofs.Leaving.{of_front, split, left_then, fill_moments, filled, open_moments, opened}
use Rattle.gate_file.proofs.law.any_moment.Goals as goal

pub returns-clause-filling : goal.returns-clause-filling
returns-clause-filling c before name rest ws header disk most behind inside =
    fill_moments name (Images before) header ws rest most behind disk (of_front before (fill_calls name ws rest) disk inside)

pub returns-clause-opening : goal.returns-clause-opening
returns-clause-opening c before name rest ws header disk most behind inside =
    ⊎_elim
    (λ filling. ⊎_elim (λ old. inl old) (λ shut. inr (inl shut)) (fill_moments name (Images before) header ws rest most behind disk filling))
    (λ opening. inr (open_moments name (Left (Images before) (fill_calls name ws rest)) header rest (filled name (Images before) ws rest) disk opening))
    (split (Images before) (fill_calls name ws rest) (open_calls name rest) disk (of_front before (fill_calls name ws rest ++ open_calls name rest) disk inside))

pub returns-clause-after : goal.returns-clause-after
returns-clause-after c before name rest ws disk left =
    let whole = left_then NoFile before (fill_calls name ws rest ++ open_calls name rest) disk left in
    opened name (Left (Images before) (fill_calls name ws rest)) rest disk (left_then (Images before) (fill_calls name ws rest) (open_calls name rest) disk whole)
