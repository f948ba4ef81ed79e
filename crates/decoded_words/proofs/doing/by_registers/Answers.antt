use Rattle.std.proofs.Common.{ℕ, ap, ◌∙◌}
use Rattle.rv_rows.specs.Alu.{alu}
use Rattle.rv_supervisor.specs.Registers.{reg}
use Rattle.decoded_words.proofs.Leading.{registers_puts}
use Rattle.decoded_words.proofs.doing.by_registers.Goals as goal

pub put-requires-clause-puts : goal.put-requires-clause-puts
put-requires-clause-puts c =
    registers_puts c.args.it.now c.args.pc _ c.args.regs.now c.args.op c.requires.is
    (c.alu-value.ensures ∙ ap (λ (a : ℕ). alu c.args.op a c.get.result) c.value_of_rs1.ensures
    ∙ ap (λ (b : ℕ). alu c.args.op (reg c.args.regs.now c.args.it.now.rs1) b) c.get.ensures)
