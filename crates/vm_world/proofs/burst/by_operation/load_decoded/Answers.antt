use Rattle.vm_world.proofs.Operations.{load_counts_so}
use Rattle.vm_world.proofs.burst.by_operation.load_decoded.Goals as goal

pub returns-clause-goes : goal.returns-clause-goes
returns-clause-goes c = λ k.
    load_counts_so c.args.pages.now.pages c.args.it.now c.args.pc c.args.regs.now c.requires.word c.requires.ram c.requires.read k
    c.args.accesses.now c.args.kind c.value_of_rs1.result c.in_ok-value.value c.put_into_rd.new.regs c.requires.is
    c.value_of_rs1.ensures c.in_ok-value.ensures c.put_into_rd.ensures.put
