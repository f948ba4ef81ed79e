use Rattle.std.proofs.Common.{◌≡◌, ◌-◌, ◌*◌, ◌∙◌, ap, sym, arith}
use Rattle.token_bucket.specs.Kept.{Kept}
use Rattle.token_bucket.proofs.Lives.{need_is_bounded}
use Rattle.token_bucket.proofs.Takes.{kept_is, keeps_on}
use Rattle.token_bucket.proofs.bucket.Bucket.take.Goals as goal

pub returns-then-self-now-clause-took : goal.returns-then-self-now-clause-took
returns-then-self-now-clause-took c =
    let adds : c.saturating_sub-adds.result ≡ c.args.need - c.args.self.now.burst =
    c.saturating_sub-adds.ensures ∙ ap (λ (k : Kept). c.args.need - k.burst) c.self.view_is in
    let left : c.saturating_sub-self-inside.result ≡ c.args.self.now.burst - c.args.need =
    c.saturating_sub-self-inside.ensures ∙ ap (λ (k : Kept). k.burst - c.args.need) c.self.view_is in
    let moment = ap (λ (k : Kept). k.moment) c.self.view_is in
    let refill = ap (λ (k : Kept). k.rate.refill * (c.args.need - c.args.self.now.burst)) c.self.view_is in
    let owes = c.owed_at.ensures in
    λ is. kept_is _ _ (ap (λ (k : Kept). k.rate) c.self.view_is) left (rw adds (omega arith)) (omega arith)

pub returns-then-self-now-clause-passed : goal.returns-then-self-now-clause-passed
returns-then-self-now-clause-passed c =
    λ is start needs keeps. rw (returns-then-self-now-clause-took c is) (keeps_on c.args.self.now start needs c.args.need c.args.now keeps)

pub returns-then-self-now-clause-bound : goal.returns-then-self-now-clause-bound
returns-then-self-now-clause-bound c =
    λ is start needs lives. need_is_bounded c.args.self.now start needs c.args.need c.args.now lives (sym c.if-not-passes.ensures.takes)

pub returns-else-self-now-clause-took : goal.returns-else-self-now-clause-took
returns-else-self-now-clause-took c =
    let adds : c.saturating_sub-adds.result ≡ c.args.need - c.args.self.now.burst =
    c.saturating_sub-adds.ensures ∙ ap (λ (k : Kept). c.args.need - k.burst) c.self.view_is in
    let left : c.saturating_sub-self-inside.result ≡ c.args.self.now.burst - c.args.need =
    c.saturating_sub-self-inside.ensures ∙ ap (λ (k : Kept). k.burst - c.args.need) c.self.view_is in
    let moment = ap (λ (k : Kept). k.moment) c.self.view_is in
    let refill = ap (λ (k : Kept). k.rate.refill * (c.args.need - c.args.self.now.burst)) c.self.view_is in
    let owes = c.owed_at.ensures in
    λ is. kept_is _ _ (ap (λ (k : Kept). k.rate) c.self.view_is) left (rw adds (omega arith)) (omega arith)

pub returns-else-self-now-clause-passed : goal.returns-else-self-now-clause-passed
returns-else-self-now-clause-passed c =
    λ is start needs keeps. rw (returns-else-self-now-clause-took c is) (keeps_on c.args.self.now start needs c.args.need c.args.now keeps)

pub returns-else-self-now-clause-bound : goal.returns-else-self-now-clause-bound
returns-else-self-now-clause-bound c =
    λ is start needs lives. need_is_bounded c.args.self.now start needs c.args.need c.args.now lives (sym c.if-not-passes.ensures.takes)
