use Rattle.std.proofs.Common.{◌≡◌, subst}
use Rattle.std.specs.Prelude.{IfOk}
use Rattle.http_stream.specs.declared.request.Next.TheVariants as next
use Rattle.http_stream.specs.Conversation.{IsQuiet}
use Rattle.http_stream.specs.Stream.{Connection}
use Rattle.http_front.proofs.Held.{live_is}
use Rattle.http_front.proofs.front.Front.copied.Goals as goal

pub returns-clause-quiet : goal.returns-clause-quiet
returns-clause-quiet c =
    subst (λ (x : Connection). IfOk c.copy_next.result (λ n. n ≡ next.None → IsQuiet x))
    (live_is c.args.self.now c.self.inside.bytes.items c.deref.result.now c.self.inside.taken c.self.inside.failed c.self.view_is c.if-self.false
    c.deref.ensures.value) c.copy_next.ensures.quiet
