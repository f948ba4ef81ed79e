use Rattle.std.proofs.Common.{◌≤◌, ◌<◌, ◌-◌, All, List, ℕ, subst, arith}
use Rattle.std.proofs.lemmas.List.{take_all}
use Rattle.monitor_running.proofs.Resting.{least_more, one_more}
use Rattle.monitor_running.proofs.waiting.left_of.Goals as goal

pub loop-moment-preserved : goal.loop-moment-preserved
loop-moment-preserved c =
    let before = c.loop-moment.invariant in
    let after = c.left_until-left.ensures in record {
      least = least_more c.args.now _ _ _ _ c.loop-moment-test.true after.less after.least before.least;
      one = one_more c.args.now _ _ _ _ _ c.loop-moment-test.true after.one before.one;
    }

pub returns : goal.returns
returns c =
    let is = c.loop-moment.invariant in record {
      least =
          subst (λ (ms : List ℕ). All (λ m. c.args.now < m → c.loop-moment.left ≤ m - c.args.now) ms)
          (take_all _ _ (let past = c.loop-moment-test.false in omega (arith, past))) is.least;
      one = is.one;
    }
