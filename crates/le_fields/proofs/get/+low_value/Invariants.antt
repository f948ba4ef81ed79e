use Rattle.std.proofs.Common.{length}
use Rattle.le_fields.proofs.get.+low_value.Given as goal

abbrev pub decreases-low_value : goal.decreases-low_value
decreases-low_value l = length l.bytes.now
