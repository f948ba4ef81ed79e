use Rattle.snapshot_chain.proofs.Created.{diff_is_file, diff_text, full_file, full_text, state_is}
use Rattle.snapshot_chain.proofs.law.created_files.Goals as goal

pub returns-clause-full : goal.returns-clause-full
returns-clause-full c = λ s is. (_, full_text s is, (full_file s is).0)

pub returns-clause-diff : goal.returns-clause-diff
returns-clause-diff c = λ s parent is base fits numbered other.
    (_, diff_text s parent is base fits numbered other, diff_is_file s parent is base fits numbered other)

pub returns-clause-state : goal.returns-clause-state
returns-clause-state c = state_is
