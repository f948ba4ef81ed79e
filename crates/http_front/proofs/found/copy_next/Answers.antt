use Rattle.std.proofs.Common.{drop, subst}
use Rattle.http_front.specs.Told.{Tells, live, size}
use Rattle.http_front.proofs.Taking.{quiet_of, takes_whole}
use Rattle.http_front.proofs.found.copy_next.Goals as goal

pub returns-in-TooFew-clause-quiet : goal.returns-in-TooFew-clause-quiet
returns-in-TooFew-clause-quiet c = λ e. quiet_of c.args.stream.now c.args.spans.now c.in-TooFew.field-0
    (subst (λ f. Tells c.args.stream.now c.args.spans.now f) c.in-TooFew.is c.requires)

pub returns-in_ok-request-in-Whole-clause-due : goal.returns-in_ok-request-in-Whole-clause-due
returns-in_ok-request-in-Whole-clause-due c = λ due. (
  live (drop (size c.in-Whole.place) c.args.stream.now),
  takes_whole c.args.stream.now c.args.spans.now c.in-Whole.place c.in_ok-request-in-Whole.request
      (subst (λ f. Tells c.args.stream.now c.args.spans.now f) c.in-Whole.is c.requires) c.in_ok-request-in-Whole.ensures,
)
