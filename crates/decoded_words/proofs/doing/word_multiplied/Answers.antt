use Rattle.std.proofs.Common.{ℕ, ◌*◌, ap, ◌∙◌}
use Rattle.rv_rows.specs.Numbers.{low_word, sign_extended}
use Rattle.rv_rows.specs.declared.alu.MulDivOp.TheVariants.{Mulw}
use Rattle.rv_supervisor.specs.Registers.{reg}
use Rattle.decoded_words.proofs.Leading.{low_low, product_puts}
use Rattle.decoded_words.proofs.doing.word_multiplied.Goals as goal

pub put-requires-clause-puts : goal.put-requires-clause-puts
put-requires-clause-puts c =
    product_puts c.args.it.now c.args.pc _ c.args.regs.now Mulw c.requires.is
    (c.sign_extended_word.ensures
    ∙ ap (sign_extended 32) (c.low_word.ensures ∙ low_low (c.value_of_rs1.result * c.get.result))
    ∙ ap (λ (a : ℕ). sign_extended 32 (low_word (a * c.get.result))) c.value_of_rs1.ensures
    ∙ ap (λ (b : ℕ). sign_extended 32 (low_word (reg c.args.regs.now c.args.it.now.rs1 * b))) c.get.ensures)
