use Rattle.load_run.proofs.Written.{wrote_front, wrote_line}
use Rattle.load_run.proofs.top.run_by.Goals as goal

pub returns-in-Ok-write_all-clause-ran : goal.returns-in-Ok-write_all-clause-ran
returns-in-Ok-write_all-clause-ran g c = λ words is.
    wrote_line words c.args.number is _ _ c.as_slice.ensures c.in-Ok.ensures _ _ c.write_all.ensures.called.lasts c.in-Ok-write_all.ensures.takes
    c.in-Ok-write_all.ensures.called.kept

pub returns-clause-ran : goal.returns-clause-ran
returns-clause-ran g c = λ words is.
    wrote_front words c.args.number is _ _ c.as_slice.ensures c.in-Ok.ensures _ _ c.write_all.ensures.called.lasts c.in-Err.ensures.takes
    c.in-Err.ensures.called.failed
