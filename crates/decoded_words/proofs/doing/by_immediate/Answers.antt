use Rattle.std.proofs.Common.{ℕ, ap, ◌∙◌}
use Rattle.rv_rows.specs.Alu.{alu}
use Rattle.decoded_words.proofs.Leading.{immediate_puts}
use Rattle.decoded_words.proofs.doing.by_immediate.Goals as goal

pub put-requires-clause-puts : goal.put-requires-clause-puts
put-requires-clause-puts c =
    immediate_puts c.args.it.now c.args.pc _ c.args.regs.now c.args.op c.requires.is
    (c.alu-value.ensures ∙ ap (λ (a : ℕ). alu c.args.op a c.args.it.now.value) c.value_of_rs1.ensures)
