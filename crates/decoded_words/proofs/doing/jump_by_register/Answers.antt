use Rattle.std.proofs.Common.{ℕ, ◌*◌, ◌/◌, ap, ◌∙◌}
use Rattle.rv_rows.specs.Effects.{address_sum}
use Rattle.decoded_words.proofs.Leading.{jalr_goes}
use Rattle.decoded_words.proofs.doing.jump_by_register.Goals as goal

pub returns-clause-done : goal.returns-clause-done
returns-clause-done c =
    jalr_goes c.args.it.now c.args.pc _ c.jump_to.result c.args.regs.now _ c.requires.is
    (c.even.ensures ∙ ap (λ (a : ℕ). address_sum a c.args.it.now.value / 2 * 2) c.value_of_rs1.ensures) c.jump_to.ensures.done
