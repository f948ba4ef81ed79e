use Rattle.load_run.proofs.Alike.{same_words}
use Rattle.load_run.proofs.law.alike_show_alike.Goals as goal

pub returns : goal.returns
returns c = λ g h m n first second alike there here a b. same_words c.hart_follows.ensures.one g h m n first second alike there here a b
