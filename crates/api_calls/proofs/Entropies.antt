-- The limits that a PUT of the entropy device gives.
use Rattle.std.proofs.Common.{◌≡◌, true, None}
use Rattle.std.specs.Prelude.{codes}
use Rattle.serde_json.specs.Data.{Data, object, Members}
use Rattle.api_calls.specs.declared.test.Test.TheVariants as test
use Rattle.api_calls.specs.Form.{holds, object_passes, refusal, row_passes}
use Rattle.api_calls.specs.Fields.{entropy}
use Rattle.api_calls.specs.Call.{limiter_at}
use Rattle.api_calls.specs.Limits.{is_limiter}
use Rattle.api_calls.proofs.Bodies.{form_parts, passed}
use Rattle.api_calls.proofs.Limits.{limiter_is}

abbrev pub IsEntropy : Data → Type 0
IsEntropy d = holds is_limiter (limiter_at (codes "rate_limiter") d) ≡ true

pub entropy_is : (ms : Members) → refusal entropy (object ms) ≡ None → IsEntropy (object ms)
unfolding object_passes row_passes
entropy_is ms none =
    let all = passed entropy (object ms) none in
    let theres = form_parts _ _ _ (object ms) test.There all.0 in
    let kinds = form_parts _ _ _ (object ms) test.Kind all.1 in
    let ranges = form_parts _ _ _ (object ms) test.Range all.2 in
    limiter_is (codes "rate_limiter") (object ms) (theres.1, kinds.1, ranges.1)
