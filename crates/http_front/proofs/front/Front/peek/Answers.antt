use Rattle.std.proofs.Common.{◌≡◌, subst}
use Rattle.http_stream.specs.declared.request.Given.TheVariants as given
use Rattle.http_stream.specs.Asked.{next_in}
use Rattle.http_stream.specs.Conversation.{IsDue, IsQuiet, Takes}
use Rattle.http_stream.specs.Stream.{Connection}
use Rattle.http_front.proofs.Held.{live_is}
use Rattle.http_front.proofs.front.Front.peek.Goals as goal

pub returns-clause-quiet : goal.returns-clause-quiet
returns-clause-quiet c =
    subst (λ (x : Connection). c.view_next.result ≡ given.None → IsQuiet x)
    (live_is c.args.self.now c.self.inside.bytes.items c.deref.result.now c.self.inside.taken c.self.inside.failed c.self.view_is c.if-self.false
    c.deref.ensures.value) c.view_next.ensures.quiet

pub returns-clause-due : goal.returns-clause-due
returns-clause-due c =
    subst (λ (x : Connection). IsDue (next_in c.view_next.result) → (d : Connection) × Takes x (next_in c.view_next.result) d)
    (live_is c.args.self.now c.self.inside.bytes.items c.deref.result.now c.self.inside.taken c.self.inside.failed c.self.view_is c.if-self.false
    c.deref.ensures.value) c.view_next.ensures.due
