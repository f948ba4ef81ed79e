use Rattle.std.proofs.Common.{◌≡◌, false, length}
use denote.Text.{Utf8}
use denote.Shadow.{shadow}
use Rattle.serde_json.specs.View.{view}
use Rattle.serde_json.specs.Written.{has_float}
use Rattle.metadata_service.specs.Paths.{keys_of, walk}
use Rattle.metadata_service.proofs.paths.walk.Given as goal

-- the keys that are left lead from the value so far to where all lead
abbrev pub invariant-loop-key : goal.invariant-loop-key
invariant-loop-key l =
    shadow (Utf8 l.rest)
    × (walk (keys_of l.keys) (view l.store) ≡ walk (keys_of l.rest) (view l.value))
    × (has_float (view l.value) ≡ false)

abbrev pub decreases-loop-key : goal.decreases-loop-key
decreases-loop-key l = length l.rest
