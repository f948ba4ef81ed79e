use Rattle.std.proofs.Common.{◌≡◌, ◌+◌, ◌-◌, ◌*◌, ◌/◌, ◌∙◌, ap, arith}
use Rattle.token_bucket.specs.Kept.{Kept}
use Rattle.token_bucket.proofs.Takes.{until_is, waits_are}
use Rattle.token_bucket.proofs.bucket.Bucket.wait_until.Goals as goal

pub returns-then-wait-clause-until : goal.returns-then-wait-clause-until
returns-then-wait-clause-until c =
    let adds : c.saturating_sub-adds.result ≡ c.args.need - c.args.self.now.burst =
    c.saturating_sub-adds.ensures ∙ ap (λ (k : Kept). c.args.need - k.burst) c.self.view_is in
    let most = c.allowed.ensures ∙ ap (λ n. c.args.self.now.rate.refill * (c.args.self.now.rate.size - n)) adds in
    let over = c.saturating_sub-over.ensures ∙ (ap (λ (k : Kept). k.owes - c.allowed.result) c.self.view_is ∙ ap (λ n. c.args.self.now.owes - n) most) in
    let size = ap (λ (k : Kept). k.rate.size) c.self.view_is in
    let moment = ap (λ (k : Kept). k.moment) c.self.view_is in
    let steps = (c.saturating_sub-over.result + (c.self.inside.size - 1)) / c.self.inside.size in
    let are = ap (λ n. (n + (c.self.inside.size - 1)) / c.self.inside.size) over
    ∙ ap (λ n. (c.args.self.now.owes - c.args.self.now.rate.refill * (c.args.self.now.rate.size - (c.args.need - c.args.self.now.burst)) + (n - 1)) / n) size in
    until_is c.args.self.now c.args.need _ steps (omega arith) are (omega arith)

pub returns-then-wait-clause-wait : goal.returns-then-wait-clause-wait
returns-then-wait-clause-wait c =
    let size = ap (λ (k : Kept). k.rate.size) c.self.view_is in
    let moment = ap (λ (k : Kept). k.moment) c.self.view_is in
    λ start needs keeps. rw (returns-then-wait-clause-until c) (waits_are c.args.self.now start needs c.args.need keeps (omega arith) (omega arith))

pub returns-else-wait-clause-until : goal.returns-else-wait-clause-until
returns-else-wait-clause-until c =
    let adds : c.saturating_sub-adds.result ≡ c.args.need - c.args.self.now.burst =
    c.saturating_sub-adds.ensures ∙ ap (λ (k : Kept). c.args.need - k.burst) c.self.view_is in
    let most = c.allowed.ensures ∙ ap (λ n. c.args.self.now.rate.refill * (c.args.self.now.rate.size - n)) adds in
    let over = c.saturating_sub-over.ensures ∙ (ap (λ (k : Kept). k.owes - c.allowed.result) c.self.view_is ∙ ap (λ n. c.args.self.now.owes - n) most) in
    let size = ap (λ (k : Kept). k.rate.size) c.self.view_is in
    let moment = ap (λ (k : Kept). k.moment) c.self.view_is in
    let steps = (c.saturating_sub-over.result + (c.self.inside.size - 1)) / c.self.inside.size in
    let are = ap (λ n. (n + (c.self.inside.size - 1)) / c.self.inside.size) over
    ∙ ap (λ n. (c.args.self.now.owes - c.args.self.now.rate.refill * (c.args.self.now.rate.size - (c.args.need - c.args.self.now.burst)) + (n - 1)) / n) size in
    until_is c.args.self.now c.args.need _ steps (omega arith) are (omega arith)

pub returns-else-wait-clause-wait : goal.returns-else-wait-clause-wait
returns-else-wait-clause-wait c =
    let size = ap (λ (k : Kept). k.rate.size) c.self.view_is in
    let moment = ap (λ (k : Kept). k.moment) c.self.view_is in
    λ start needs keeps. rw (returns-else-wait-clause-until c) (waits_are c.args.self.now start needs c.args.need keeps (omega arith) (omega arith))
