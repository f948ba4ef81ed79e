use Rattle.gate_file.proofs.Pairs.{at_end, moments}
use Rattle.gate_file.proofs.law.any_pair.Goals as goal

pub returns-clause-inside : goal.returns-clause-inside
returns-clause-inside c before memory state disk differ behind also moment = moments before memory state differ behind also disk moment

pub returns-clause-after : goal.returns-clause-after
returns-clause-after c before memory state disk differ image = at_end before memory state differ disk image
