use Rattle.std.proofs.Common.{refl}
use Rattle.decoded_words.proofs.Leading.{jal_goes}
use Rattle.decoded_words.proofs.doing.jump_near.Goals as goal

pub returns-clause-done : goal.returns-clause-done
returns-clause-done c = jal_goes c.args.it.now c.args.pc _ c.jump_to.result c.args.regs.now _ c.requires refl c.jump_to.ensures.done
