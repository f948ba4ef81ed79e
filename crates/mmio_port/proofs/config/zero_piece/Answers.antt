use Rattle.std.proofs.Common.{◌∙◌}
use Rattle.std.proofs.lemmas.List.{take-replicate}
use Rattle.mmio_port.proofs.config.zero_piece.Goals as goal

pub returns : goal.returns
returns c = c.from_slice.ensures ∙ take-replicate c.args.len 64 0 c.requires
