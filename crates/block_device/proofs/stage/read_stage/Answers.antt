-- 2^26 units are as many as none.
use Rattle.std.proofs.Common.{arith}
use Rattle.block_device.proofs.Moves.{in_wrapped}
use Rattle.block_device.proofs.stage.read_stage.Goals as goal

pub returns-then-unit-eq67108864-clause-left : goal.returns-then-unit-eq67108864-clause-left
returns-then-unit-eq67108864-clause-left c =
    λ at. in_wrapped c.args.units c.args.unit c.args.sector c.args.to.now at
    (omega (arith, c.if-units-eq0.false)) c.if-unit-eq67108864.true
