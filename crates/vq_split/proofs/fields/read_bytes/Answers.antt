-- The first of 64 zeros.
use Rattle.std.proofs.lemmas.List.{take-replicate}
use Rattle.std.proofs.Common.{◌∙◌, sym}
use Rattle.vq_split.proofs.Steps.{no_bytes}
use Rattle.vq_split.proofs.fields.read_bytes.Goals as goal

pub returns-in_default : goal.returns-in_default
returns-in_default c =
    c.from_slice.ensures ∙ take-replicate c.args.len 64 0 c.requires
    ∙ sym (no_bytes c.args.len c.args.reply.now c.in_default.not-Bytes)
