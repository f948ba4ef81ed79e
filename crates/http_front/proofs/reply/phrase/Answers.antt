use Rattle.std.proofs.Common.{ap, refl, ◌∙◌}
use Rattle.http_front.proofs.Replies.{phrase_is}
use Rattle.http_front.proofs.reply.phrase.Goals as goal

pub returns-in-Ok : goal.returns-in-Ok
returns-in-Ok c = ap (λ s. s.now) c.unwrap_or.ensures
    ∙ phrase_is c.args.status c.in-Ok.code c.canonical_reason.result _ c.in-Ok.ensures.0.0 c.in-Ok.ensures.0.1 c.in-Ok.ensures.1
    c.canonical_reason.ensures.value refl
