use Rattle.std.proofs.Common.{arith}
use Rattle.outside_mem.proofs.Giving.{given}
use Rattle.outside_mem.proofs.passed.Passed.give.Goals as goal

pub returns-clause-comes : goal.returns-clause-comes
returns-clause-comes c before now =
    let came = given _ _ _ _ _ _ c.left-rest.ensures c.copy_from_slice.ensures.after (omega (arith, c.min.ensures, c.min-count.ensures)) in
    record { gave = came.0; left = came.1 }
