use Rattle.std.proofs.Common.{◌≡◌, ◌%◌, arith}
use Rattle.rv_rows.proofs.register.Register.from_number.Goals as goal

pub returns-in_default : goal.returns-in_default
returns-in_default c =
    let e : c.args.n % 32 ≡ 31 = omega arith in
    rw e
