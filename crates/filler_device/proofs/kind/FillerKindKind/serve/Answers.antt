use Rattle.std.proofs.Common.{◌≡◌, ap, sym, subst, true, List, ◌∙◌}
use Rattle.vq_split.specs.declared.queue.Part.{Part}
use Rattle.vq_split.specs.Kept.{are_inside}
use Rattle.dev_core.specs.Pieces.{writable}
use Rattle.queue_device.specs.declared.spill.Spill.{Spill}
use Rattle.filler_device.proofs.Staying.{chain_writes}
use Rattle.filler_device.proofs.kind.FillerKindKind.serve.Goals as goal

pub returns-in-First-clause-work : goal.returns-in-First-clause-work
returns-in-First-clause-work c = λ pages few works chain.
    c.fill.ensures.work pages c.args.which works
    (subst (λ (l : List Part). are_inside pages l ≡ true)
    (sym (ap (λ (x : Spill). x.to) c.spilled-spill.ensures ∙ ap writable c.parts.ensures))
    (chain_writes pages c.args.which c.args.chain.now chain))
