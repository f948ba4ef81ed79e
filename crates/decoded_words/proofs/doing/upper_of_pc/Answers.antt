use Rattle.std.proofs.Common.{refl}
use Rattle.decoded_words.proofs.Leading.{auipc_puts}
use Rattle.decoded_words.proofs.doing.upper_of_pc.Goals as goal

pub put-requires-clause-puts : goal.put-requires-clause-puts
put-requires-clause-puts c = auipc_puts c.args.it.now c.args.pc _ c.args.regs.now c.requires.is refl
