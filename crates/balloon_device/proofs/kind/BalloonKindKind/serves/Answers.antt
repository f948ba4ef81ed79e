use Rattle.std.proofs.Common.{◌∙◌, List, ap, sym}
use Rattle.vq_split.specs.declared.queue.Part.{Part}
use Rattle.dev_core.specs.Pieces.{readable}
use Rattle.queue_device.specs.declared.lanes.Which.{Which}
use Rattle.queue_device.specs.Left.{begin_of}
use Rattle.balloon_device.specs.Balloon.{served_by}
use Rattle.balloon_device.specs.Work.{first_of}
use Rattle.balloon_device.proofs.Working.{inflated_begins, told_begins}
use Rattle.balloon_device.proofs.kind.BalloonKindKind.serves.Goals as goal

pub returns-in-First : goal.returns-in-First
returns-in-First c =
    let chain = c.args.chain.now in
    let own = c.args.self.now.own in
    c.first_read.ensures ∙ ap (λ (parts : List Part). first_of (readable parts)) c.parts.ensures
    ∙ inflated_begins chain.queue.pages (readable chain.parts) own
    ∙ ap (λ (k : Which). begin_of (served_by k chain own)) (sym c.in-First.is)

pub returns-in-Third : goal.returns-in-Third
returns-in-Third c =
    let chain = c.args.chain.now in
    let own = c.args.self.now.own in
    c.first_read-in-Third.ensures ∙ ap (λ (parts : List Part). first_of (readable parts)) c.parts-in-Third.ensures
    ∙ told_begins (readable chain.parts) own
    ∙ ap (λ (k : Which). begin_of (served_by k chain own)) (sym c.in-Third.is)
