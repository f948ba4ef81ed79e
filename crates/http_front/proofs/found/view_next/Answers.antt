use Rattle.std.proofs.Common.{drop, subst}
use Rattle.http_stream.specs.Asked.{request_in}
use Rattle.http_front.specs.Told.{Tells, live, size}
use Rattle.http_front.proofs.Taking.{quiet_of, takes_whole}
use Rattle.http_front.proofs.found.view_next.Goals as goal

pub returns-in-TooFew-clause-quiet : goal.returns-in-TooFew-clause-quiet
returns-in-TooFew-clause-quiet c = λ e. quiet_of c.args.stream.now c.args.spans.now c.in-TooFew.field-0
    (subst (λ f. Tells c.args.stream.now c.args.spans.now f) c.in-TooFew.is c.requires)

pub returns-in-Whole-clause-due : goal.returns-in-Whole-clause-due
returns-in-Whole-clause-due c = λ due. (
  live (drop (size c.in-Whole.place) c.args.stream.now),
  takes_whole c.args.stream.now c.args.spans.now c.in-Whole.place (request_in c.view_request.result)
      (subst (λ f. Tells c.args.stream.now c.args.spans.now f) c.in-Whole.is c.requires) c.view_request.ensures,
)
