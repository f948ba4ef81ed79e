use Rattle.std.proofs.Common.{refl}
use Rattle.http_front.proofs.Taking.{judged_next}
use Rattle.http_front.proofs.front.Front.next.Goals as goal

pub returns-clause-judged : goal.returns-clause-judged
returns-clause-judged c = λ lives.
    judged_next c.args.self.now c.args.self.now c.skip.new.self c.in_ok-next.next lives refl c.in_ok-next.ensures.quiet
    c.in_ok-next.ensures.due c.skip.ensures.taken c.skip.ensures.quiet
