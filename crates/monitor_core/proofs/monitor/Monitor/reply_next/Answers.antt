use Rattle.std.proofs.Common.{refl, sym, subst}
use Rattle.http_stream.specs.Asked.{next_in, request_in}
use Rattle.http_stream.specs.declared.request.Given.{Given}
use Rattle.http_stream.specs.declared.request.Next.TheVariants as next
use Rattle.http_stream.specs.Conversation.{IsDue, Takes}
use Rattle.monitor_core.specs.Talking.{IsStillDue}
use Rattle.monitor_core.proofs.Items.{on_err}
use Rattle.monitor_core.proofs.Talks.{filing_first}
use Rattle.monitor_core.proofs.Replies.{replied}
use Rattle.monitor_core.proofs.monitor.Monitor.reply_next.Goals as goal

pub returns-in-None-clause-ok : goal.returns-in-None-clause-ok
returns-in-None-clause-ok g c = record {
  quiet = c.peek.ensures.quiet c.in-None.is;
  same = refl;
  writes = refl;
  kept = refl;
}

pub returns-in_err-answer_request-in-Request-clause-uncalled : goal.returns-in_err-answer_request-in-Request-clause-uncalled
returns-in_err-answer_request-in-Request-clause-uncalled g c = λ never.
    let given = next.Request (request_in c.in-Request.request) in
    let d = c.peek.ensures.due (subst (λ (x : Given). IsDue (next_in x)) (sym c.in-Request.is) tt) in
    let takes : Takes c.args.self.now.front given d.0 = subst (λ (x : Given). Takes c.args.self.now.front (next_in x) d.0) c.in-Request.is d.1 in
    c.answer_request.ensures.uncalled (λ asks. never (filing_first c.args.self.now.front (request_in c.in-Request.request) d.0 takes asks))

pub returns-in_ok-answer_request-in-Request-clause-uncalled : goal.returns-in_ok-answer_request-in-Request-clause-uncalled
returns-in_ok-answer_request-in-Request-clause-uncalled g c = λ never.
    let given = next.Request (request_in c.in-Request.request) in
    let d = c.peek.ensures.due (subst (λ (x : Given). IsDue (next_in x)) (sym c.in-Request.is) tt) in
    let takes : Takes c.args.self.now.front given d.0 = subst (λ (x : Given). Takes c.args.self.now.front (next_in x) d.0) c.in-Request.is d.1 in
    c.answer_request.ensures.uncalled (λ asks. never (filing_first c.args.self.now.front (request_in c.in-Request.request) d.0 takes asks))

pub returns-in_ok-answer_request-in-Request-clause-ok : goal.returns-in_ok-answer_request-in-Request-clause-ok
returns-in_ok-answer_request-in-Request-clause-ok g c =
    let known = g.F.Files.known in
    let given = next.Request (request_in c.in-Request.request) in
    let d = c.peek.ensures.due (subst (λ (x : Given). IsDue (next_in x)) (sym c.in-Request.is) tt) in
    let takes : Takes c.args.self.now.front given d.0 = subst (λ (x : Given). Takes c.args.self.now.front (next_in x) d.0) c.in-Request.is d.1 in
    replied c.args.form c.args.self.now _ c.skip.new.self c.answer_request.new.self c.args.text.now c.answer_request.new.text (known c.args.files.now) (known c.answer_request.new.files) given d.0 takes c.skip.ensures.taken
    c.in_ok-answer_request-in-Request.ensures.ok
    (λ never. c.answer_request.ensures.uncalled (λ asks. never (filing_first c.args.self.now.front (request_in c.in-Request.request) d.0 takes asks)))

pub returns-in_ok-refuse-in-Bad-clause-ok : goal.returns-in_ok-refuse-in-Bad-clause-ok
returns-in_ok-refuse-in-Bad-clause-ok g c =
    let known = g.F.Files.known c.args.files.now in
    let given = next.Bad c.in-Bad.why in
    let d = c.peek.ensures.due (subst (λ (x : Given). IsDue (next_in x)) (sym c.in-Bad.is) tt) in
    let takes : Takes c.args.self.now.front given d.0 = subst (λ (x : Given). Takes c.args.self.now.front (next_in x) d.0) c.in-Bad.is d.1 in
    replied c.args.form c.args.self.now _ c.skip-in-Bad.new.self c.refuse.new.self c.args.text.now c.refuse.new.text known known given d.0 takes c.skip-in-Bad.ensures.taken
    (c.in_ok-refuse-in-Bad.ensures.ok known) (λ never. refl)

pub returns-in_err-answer_request-in-Request-clause-due : goal.returns-in_err-answer_request-in-Request-clause-due
returns-in_err-answer_request-in-Request-clause-due g c =
    let given = next.Request (request_in c.in-Request.request) in
    let d = c.peek.ensures.due (subst (λ (x : Given). IsDue (next_in x)) (sym c.in-Request.is) tt) in
    let due : IsStillDue c.args.self.now.front = (given, d.0, subst (λ (x : Given). Takes c.args.self.now.front (next_in x) d.0) c.in-Request.is d.1) in
    on_err _ _ due
