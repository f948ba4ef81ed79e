use Rattle.flat_machine.proofs.OneReplay.{replay_after, replay_exit, replay_acts, replay_text}
use Rattle.flat_machine.proofs.law.one_replay.Goals as goal

pub returns-clause-acts : goal.returns-clause-acts
returns-clause-acts c = replay_acts

pub returns-clause-exit : goal.returns-clause-exit
returns-clause-exit c = replay_exit

pub returns-clause-text : goal.returns-clause-text
returns-clause-text c = replay_text

pub returns-clause-after : goal.returns-clause-after
returns-clause-after c = replay_after
