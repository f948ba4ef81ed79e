-- The bytes of the disk go into the parts.
use Rattle.std.proofs.Common.{◌∙◌, ◌+◌}
use Rattle.block_device.specs.Service.{units_in}
use Rattle.block_device.proofs.Steps.{read_next}
use Rattle.block_device.proofs.service.read.Goals as goal

pub returns-in-Bytes-clause-left : goal.returns-in-Bytes-clause-left
returns-in-Bytes-clause-left c =
    c.put_stage.ensures.left c.args.at
    ∙ read_next c.args.from.now c.append.new.self c.in-Bytes.piece c.args.to.now
    (λ left. units_in c.args.more (c.args.unit + 1) c.args.sector left c.args.at) _ c.args.reply.now c.requires.stage.1
    c.append.ensures c.in-Bytes.is
