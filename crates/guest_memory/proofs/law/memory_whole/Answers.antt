use Rattle.guest_memory.proofs.Wholes.{booted_whole, touch_ram, touch_whole}
use Rattle.guest_memory.proofs.law.memory_whole.Goals as goal

pub returns-clause-boots : goal.returns-clause-boots
returns-clause-boots c = booted_whole

pub returns-clause-touched : goal.returns-clause-touched
returns-clause-touched c = touch_whole

pub returns-clause-replies : goal.returns-clause-replies
returns-clause-replies c = touch_ram
