use Rattle.std.proofs.Common.{subst}
use Rattle.vm_outside.specs.Known.{FilesKnown, Tells}
use Rattle.http_stream.specs.Asked.{request_in}
use Rattle.http_stream.specs.declared.request.Next.TheVariants as next
use Rattle.monitor_machine.specs.Replying.{Replies}
use Rattle.monitor_machine.specs.State.{IsMachine}
use Rattle.monitor_machine.proofs.Plans.{replies}
use Rattle.monitor_machine.proofs.machine.LiveMachine.answer_request.Goals as goal

pub answer-requires : goal.answer-requires
answer-requires g c = c.in-Plan.ensures.keeps

pub returns-in_ok-how-in-Plan-clause-ok : goal.returns-in_ok-how-in-Plan-clause-ok
returns-in_ok-how-in-Plan-clause-ok g c =
    let e = c.in-Plan.ensures in
    let known = g.F.Files.known in
    replies c.args.form c.in-Plan.plan c.in_ok-how-in-Plan.how c.args.self.now c.answer.new.self c.args.text.now c.answer.new.text
    (known c.args.files.now) (known c.task.new.files) (next.Request (request_in c.args.request.now))
    c.in_ok-how-in-Plan.ensures.ok e.cause e.lasts e.same e.task.1

pub returns-in_ok-done-in-Create-clause-ok : goal.returns-in_ok-done-in-Create-clause-ok
returns-in_ok-done-in-Create-clause-ok g c =
    let live = c.args.self.now in
    let known = g.F.Files.known in
    let same = c.in-Create.ensures.later in
    let task = c.in-Create.ensures.task in
    subst (λ (k : FilesKnown). Replies c.args.form (next.Request (request_in c.args.request.now)) c.in_ok-done-in-Create.done live c.answer_create.new.self c.args.text.now c.answer_create.new.text k (known c.answer_create.new.files)) same
    (c.in_ok-done-in-Create.ensures.ok (request_in c.args.request.now) task.0 (λ told m is.
    task.1 (subst (λ (k : FilesKnown). Tells k.health) same told) m (subst (λ (k : FilesKnown). IsMachine live k m) same is)))
