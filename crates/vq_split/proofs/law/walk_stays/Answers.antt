-- Each is a lemma on the tree.
use Rattle.vq_split.proofs.Inside.{sound, walk_keeps}
use Rattle.vq_split.proofs.law.walk_stays.Goals as goal

pub returns-clause-sound : goal.returns-clause-sound
returns-clause-sound c = sound

pub returns-clause-walk : goal.returns-clause-walk
returns-clause-walk c = walk_keeps
