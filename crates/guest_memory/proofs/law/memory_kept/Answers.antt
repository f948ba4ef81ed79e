use Rattle.guest_memory.proofs.Keeping.{booted_kept, touch_kept, touch_small}
use Rattle.guest_memory.proofs.law.memory_kept.Goals as goal

pub returns-clause-boots : goal.returns-clause-boots
returns-clause-boots c = booted_kept

pub returns-clause-touched : goal.returns-clause-touched
returns-clause-touched c = touch_kept

pub returns-clause-replies : goal.returns-clause-replies
returns-clause-replies c = touch_small
