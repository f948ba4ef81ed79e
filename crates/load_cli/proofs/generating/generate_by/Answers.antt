use Rattle.load_cli.proofs.Refusing.{wrote_all, wrote_part}
use Rattle.load_cli.proofs.generating.generate_by.Goals as goal

pub returns-in-Ok-clause-generated : goal.returns-in-Ok-clause-generated
returns-in-Ok-clause-generated g c = λ words is.
    wrote_all words c.args.number is _ _ c.generate.ensures.called.lasts c.in-Ok.ensures.takes c.in-Ok.ensures.called.kept

pub returns-in-Err-clause-generated : goal.returns-in-Err-clause-generated
returns-in-Err-clause-generated g c = λ words is.
    wrote_part words c.args.number is _ _ c.generate.ensures.called.lasts c.in-Err.ensures.takes c.in-Err.ensures.called.failed
