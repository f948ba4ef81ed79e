use Rattle.std.proofs.Common.{◌≡◌, arith, false, true, refl, None}
use Rattle.monitor_running.proofs.Turns.{rested_part, turn_by}
use Rattle.monitor_running.specs.Paced.IsPaced.{Other}
use Rattle.monitor_running.proofs.running.run_or_wait.Goals as goal

pub returns-then-not-has_passes-clause-turn : goal.returns-then-not-has_passes-clause-turn
returns-then-not-has_passes-clause-turn g c =
    let all = g.W.TurnObjects.known in
    let rested = c.rest_long.ensures in
    turn_by _ _ None _ _ _ _ _ c.requires
    (rested_part (all c.args.with.now) (all c.rest_long.new.with) _ _ rested.beside rested.rests)

pub returns-then-all_wait-clause-turn : goal.returns-then-all_wait-clause-turn
returns-then-all_wait-clause-turn g c = turn_by _ _ c.wait.result _ _ _ _ _ c.requires c.wait.ensures

pub returns-then-not-has_passes-clause-paced : goal.returns-then-not-has_passes-clause-paced
returns-then-not-has_passes-clause-paced g c =
    Other (λ several.
    let enough = several.passes in
    let k : false ≡ true = c.if-not-has_passes.ensures.1 (several.few, omega (arith, enough, c.len.ensures, c.args.steering.now.passes.ok.0)) in cc) refl

pub returns-then-all_wait-clause-paced : goal.returns-then-all_wait-clause-paced
returns-then-all_wait-clause-paced g c = Other (λ several. several.some (c.if-all_wait.ensures.0 refl)) refl

pub returns-in-Some-clause-paced : goal.returns-in-Some-clause-paced
returns-in-Some-clause-paced g c = Other (λ several. several.more c.in-Some.hart c.in-Some.ensures.alone) refl

pub returns-clause-paced : goal.returns-clause-paced
returns-clause-paced g c =
    let there = c.if-not-has_passes.ensures.0 refl in
    let enough = there.1 in
    c.run_several.ensures.paced (record {
      few = there.0;
      passes = omega (arith, enough, c.len.ensures, c.args.steering.now.passes.ok.0);
      some = λ idle. let k : false ≡ true = c.if-all_wait.ensures.1 idle in cc;
      more = λ k alone. c.in_default.ensures.none refl k alone;
    })
