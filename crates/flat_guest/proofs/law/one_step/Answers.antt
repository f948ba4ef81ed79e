use Rattle.flat_guest.proofs.Determined.{same_op, same_place, same_reply, same_after, several_made, several_one}
use Rattle.flat_guest.proofs.law.one_step.Goals as goal

pub returns-clause-op : goal.returns-clause-op
returns-clause-op c = same_op

pub returns-clause-place : goal.returns-clause-place
returns-clause-place c = same_place

pub returns-clause-reply : goal.returns-clause-reply
returns-clause-reply c = same_reply

pub returns-clause-after : goal.returns-clause-after
returns-clause-after c = same_after

pub returns-clause-several : goal.returns-clause-several
returns-clause-several c = several_one

pub returns-clause-made : goal.returns-clause-made
returns-clause-made c = several_made
