use Rattle.token_bucket.proofs.Takes.{may_pass_is, keeps_on, waits_are, saved_is, loaded_is}
use Rattle.token_bucket.proofs.law.by_what_is_kept.Goals as goal

pub returns-clause-passes : goal.returns-clause-passes
returns-clause-passes c = may_pass_is

pub returns-clause-after : goal.returns-clause-after
returns-clause-after c = keeps_on

pub returns-clause-waits : goal.returns-clause-waits
returns-clause-waits c = waits_are

pub returns-clause-saved : goal.returns-clause-saved
returns-clause-saved c = saved_is

pub returns-clause-loaded : goal.returns-clause-loaded
returns-clause-loaded c = loaded_is
