-- A chain of which the header is read.
use Rattle.std.proofs.Common.{sym, ◌∙◌}
use Rattle.block_device.proofs.Working.{take_on}
use Rattle.block_device.proofs.Works.{reads_inside, writes_inside}
use Rattle.block_device.proofs.kind.BlockKindKind.take.Goals as goal

pub returns-clause-works : goal.returns-clause-works
returns-clause-works c =
    take_on c.args.parts c.new.result c.writable-writes.result c.new-2.result c.args.self.now.facts c.read.result
    c.read.new.self
    (sym (c.is_short.ensures.test c.args.parts c.readable-reads.ensures c.writable-writes.ensures) ∙ c.if-is_short.false)
    (c.new.ensures ∙ c.readable-reads.ensures) c.writable-writes.ensures c.new-2.ensures
    (c.read.ensures.works c.args.self.now.facts)

pub returns-clause-work : goal.returns-clause-work
returns-clause-work c pages small rest inside =
    c.read.ensures.work pages c.args.which rest
    (reads_inside pages c.args.parts c.new.result (c.new.ensures ∙ c.readable-reads.ensures) inside)
    (writes_inside pages c.args.parts c.writable-writes.result c.writable-writes.ensures inside)
