use Rattle.std.proofs.Common.{◌≡◌, sym, subst, true}
use Rattle.queue_device.specs.declared.lanes.Which.{Which}
use Rattle.queue_device.specs.declared.phase.Work.TheVariants as work
use Rattle.queue_device.specs.Acting.{Works}
use Rattle.queue_device.specs.Kept.{work_after}
use Rattle.vsock_device.specs.declared.kind.Stage.{Stage}
use Rattle.vsock_device.specs.declared.kind.Stage.TheVariants as stages
use Rattle.vsock_device.specs.Work.{is_work, op_of, serving_of}
use Rattle.vsock_device.proofs.Staying.{fetch_next}
use Rattle.vsock_device.proofs.calls.VsockKindKind.serve_on.Goals as goal

pub returns-in-Deliver-clause-works : goal.returns-in-Deliver-clause-works
returns-in-Deliver-clause-works c =
    let own = c.args.self.now.own in
    let new = c.delivered.new.self in
    let was : stages.Deliver c.in-Deliver.spill c.in-Deliver.len ≡ c.args.self.now.stage = c.in-Deliver.ensures.value in
    subst (λ (s : Stage). Works (serving_of s own c.args.reply.now) c.delivered.result new.own (op_of new.stage) (serving_of new.stage))
    was (c.delivered.ensures.works c.args.reply.now)

pub returns-in-Fetch-clause-work : goal.returns-in-Fetch-clause-work
returns-in-Fetch-clause-work c = λ pages k few is.
    let from = c.in-Fetch.from in
    let len = c.in-Fetch.len in
    let was : stages.Fetch from len ≡ c.args.self.now.stage = c.in-Fetch.ensures.value in
    let here : is_work (work.Serve k) pages (stages.Fetch from len) ≡ true =
    subst (λ (s : Stage). is_work (work.Serve k) pages s ≡ true) (sym was) is in
    let next = fetch_next pages len k from c.give.result few here c.give.ensures.parts in
    subst (λ (w : Which). is_work (work_after c.fetch_on.result (work.Serve w)) pages c.fetch_on.new.self.stage ≡ true)
    (sym next.0) (c.fetch_on.ensures.work pages next.1)
