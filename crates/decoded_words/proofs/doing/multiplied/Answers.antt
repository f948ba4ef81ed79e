use Rattle.std.proofs.Common.{ℕ, ◌*◌, ◌%◌, ◌^◌, ap, ◌∙◌}
use Rattle.rv_rows.specs.declared.alu.MulDivOp.TheVariants.{Mul}
use Rattle.rv_supervisor.specs.Registers.{reg}
use Rattle.decoded_words.proofs.Leading.{product_puts}
use Rattle.decoded_words.proofs.doing.multiplied.Goals as goal

pub put-requires-clause-puts : goal.put-requires-clause-puts
put-requires-clause-puts c =
    product_puts c.args.it.now c.args.pc _ c.args.regs.now Mul c.requires.is
    (ap (λ (a : ℕ). a * c.get.result % 2 ^ 64) c.value_of_rs1.ensures
    ∙ ap (λ (b : ℕ). reg c.args.regs.now c.args.it.now.rs1 * b % 2 ^ 64) c.get.ensures)
