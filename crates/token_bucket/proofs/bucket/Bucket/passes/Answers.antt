use Rattle.std.proofs.Common.{◌≡◌, ◌-◌, ◌∙◌, sym, ap, arith}
use Rattle.token_bucket.specs.Kept.{Kept}
use Rattle.token_bucket.proofs.Moves.{may_pass_at}
use Rattle.token_bucket.proofs.Waits.{fits_owed}
use Rattle.token_bucket.proofs.bucket.Bucket.passes.Goals as goal

pub returns-else-adds-eq0-clause-takes : goal.returns-else-adds-eq0-clause-takes
returns-else-adds-eq0-clause-takes c =
    let adds : c.saturating_sub-adds.result ≡ c.args.need - c.args.self.now.burst =
    c.saturating_sub-adds.ensures ∙ ap (λ (k : Kept). c.args.need - k.burst) c.self.view_is in
    rw (c.owed_at.ensures, c.allowed.ensures)
    (fits_owed c.args.self.now.rate c.saturating_sub-adds.result _ (omega arith) ∙ rw adds)

pub returns-else-adds-eq0-clause-answer : goal.returns-else-adds-eq0-clause-answer
returns-else-adds-eq0-clause-answer c =
    λ start needs keeps. returns-else-adds-eq0-clause-takes c ∙ sym (may_pass_at c.args.self.now start needs c.args.need c.args.now keeps)
