use Rattle.std.proofs.Common.{rules}
use Rattle.snap_diff.proofs.header.DiffHeader.write_behind_gate.Goals as goal

pub returns-in_err-write_fixed-clause-fits : goal.returns-in_err-write_fixed-clause-fits
returns-in_err-write_fixed-clause-fits c = search rules
