use Rattle.vm_types.specs.declared.ids.ActorId.{ActorId}
use Rattle.vm_world.proofs.Operations.{store_counts_so}
use Rattle.vm_world.proofs.burst.by_operation.store_decoded.Goals as goal

pub returns-then-store_marked-clause-goes : goal.returns-then-store_marked-clause-goes
returns-then-store_marked-clause-goes c = λ k.
    store_counts_so c.args.pages.now.pages c.args.it.now c.args.pc c.args.regs.now c.requires.word c.requires.ram c.requires.read k
    c.args.accesses.now c.args.width c.value_of_rs1.result c.get.result c.store_marked.new.pages.pages c.requires.is
    c.value_of_rs1.ensures c.get.ensures c.get.type_inv (c.store_marked.ensures.made c.if-store_marked.true (ActorId.Hart k))
