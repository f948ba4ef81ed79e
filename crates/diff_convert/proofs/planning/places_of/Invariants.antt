use Rattle.std.proofs.Common.{◌≡◌}
use Rattle.snap_diff.specs.Runs.{numbers_from}
use Rattle.diff_convert.proofs.planning.places_of.Given as goal

abbrev pub invariant-loop-place : goal.invariant-loop-place
invariant-loop-place l = l.places.items ≡ numbers_from 0 l.place
