use Rattle.diff_convert.proofs.Leaving.{crash_by}
use Rattle.diff_convert.proofs.converting.convert.Goals as goal

pub returns-clause-crash : goal.returns-clause-crash
returns-clause-crash g c = λ told disk left.
    crash_by c.args.from.now c.args.to.now c.convert_file.result _ _ disk (c.convert_file.ensures.leaves told) left
