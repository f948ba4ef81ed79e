use Rattle.std.proofs.Common.{refl}
use Rattle.decoded_words.proofs.Leading.{lui_puts}
use Rattle.decoded_words.proofs.doing.upper.Goals as goal

pub put-requires-clause-puts : goal.put-requires-clause-puts
put-requires-clause-puts c = lui_puts c.args.it.now c.args.pc _ c.args.regs.now c.requires.is refl
