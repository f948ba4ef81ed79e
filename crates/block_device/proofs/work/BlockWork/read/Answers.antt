-- What is kept of a header, or what is read of it further.
use Rattle.std.proofs.Common.{refl, sym, subst, ◌≡◌, ◌<◌, List, length, true, Some}
use Rattle.vq_split.specs.declared.queue.Part.{Part}
use Rattle.vq_split.specs.Inside.{AreInside}
use Rattle.queue_device.specs.Chains.{Taken}
use Rattle.queue_device.specs.Kept.{is_fit}
use Rattle.block_device.specs.Block.{block}
use Rattle.block_device.proofs.Works.{header_more, header_whole}
use Rattle.block_device.proofs.work.BlockWork.read.Goals as goal

pub returns-then-is_done-clause-work : goal.returns-then-is_done-clause-work
returns-then-is_done-clause-work c pages which rest reads writes = (
  rest,
  subst (λ (t : Taken). is_fit block pages which (Some t) ≡ true) (sym c.new.ensures)
      (header_whole pages which c.args.from c.args.to reads writes c.requires),
)

pub returns-clause-work : goal.returns-clause-work
returns-clause-work c pages which rest reads writes =
    let to = c.new-self-inside.result in (
      header_more pages which c.args.from to reads
          (subst (λ (parts : List Part). AreInside pages parts) (sym c.new-self-inside.ensures) writes)
          (subst (λ (parts : List Part). 0 < length parts) (sym c.new-self-inside.ensures) c.requires)
          (c.is_done.ensures.more c.if-is_done.false) c.are_few.ensures,
      refl,
    )
