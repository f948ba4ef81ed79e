use Rattle.std.proofs.Common.{arith}
use Rattle.std.proofs.lemmas.List.Elements.{All-from_get_or}
use Rattle.le_fields.specs.Fields.{IsByte}
use Rattle.rv_doing.proofs.Widths.{bytes_are}
use Rattle.rv_doing.proofs.hart_reply.word_of.Goals as goal

pub returns : goal.returns
returns c =
    bytes_are c.args.bytes.now c.low_value.result
    (All-from_get_or IsByte c.args.bytes.now 0 (λ i short. omega (arith, c.type_inv.bytes i))) c.requires c.low_value.ensures
