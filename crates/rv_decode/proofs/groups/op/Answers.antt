use Rattle.std.proofs.Common.{rules}
use Rattle.rv_decode.proofs.groups.op.Goals as goal

pub returns-in_err-alu_op-in-0 : goal.returns-in_err-alu_op-in-0
returns-in_err-alu_op-in-0 c = search rules
