-- By what holds of every gate.
use Rattle.std.proofs.Common.{subst, []}
use Rattle.device_trace.specs.Script.{Ends}
use Rattle.rate_gate.specs.Gate.{Buckets}
use Rattle.rate_gate.specs.Lives.{HasLife, bucket_of, needs_since}
use Rattle.token_bucket.specs.Window.{with_needs}
use Rattle.entropy_limits.specs.Limits.{gate_events}
use Rattle.entropy_limits.proofs.Limits.{new_came}
use Rattle.entropy_limits.proofs.law.entropy_is_limited.Goals as goal

pub returns-clause-life : goal.returns-clause-life
returns-clause-life c start items left leads = new_came start left items leads

pub returns-clause-bound : goal.returns-clause-bound
returns-clause-bound c which start items left first needs leads life =
    let came = new_came start left items leads in
    let events = gate_events (Ends start) items [] in
    let all = with_needs first needs (needs_since which events) in
    c.lives_are_bounded.ensures.bound _ first all
    (subst (λ (b : Buckets). HasLife (bucket_of which b) first all) came.1
    (c.lives_are_bounded.ensures.life which start.own.limits events first needs came.0 life))
