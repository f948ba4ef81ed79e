use Rattle.decoded_words.proofs.Leading.{constant_puts}
use Rattle.decoded_words.proofs.doing.constant.Goals as goal

pub put-requires-clause-puts : goal.put-requires-clause-puts
put-requires-clause-puts c = constant_puts c.args.it.now c.args.pc _ c.args.regs.now c.requires.is c.alu.ensures
