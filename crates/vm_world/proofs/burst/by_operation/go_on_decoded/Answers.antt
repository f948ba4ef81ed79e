use Rattle.vm_world.proofs.Operations.{plain_counts_so}
use Rattle.vm_world.proofs.burst.by_operation.go_on_decoded.Goals as goal

pub returns-in-Constant-clause-goes : goal.returns-in-Constant-clause-goes
returns-in-Constant-clause-goes c = λ k.
    plain_counts_so c.args.pages.now.pages c.args.it.now c.args.pc c.args.regs.now c.requires.word c.requires.ram c.requires.read k
    c.args.accesses.now c.constant.result c.constant.new.regs c.constant.ensures.done

pub returns-in-Lui-clause-goes : goal.returns-in-Lui-clause-goes
returns-in-Lui-clause-goes c = λ k.
    plain_counts_so c.args.pages.now.pages c.args.it.now c.args.pc c.args.regs.now c.requires.word c.requires.ram c.requires.read k
    c.args.accesses.now c.upper.result c.upper.new.regs c.upper.ensures.done

pub returns-in-Auipc-clause-goes : goal.returns-in-Auipc-clause-goes
returns-in-Auipc-clause-goes c = λ k.
    plain_counts_so c.args.pages.now.pages c.args.it.now c.args.pc c.args.regs.now c.requires.word c.requires.ram c.requires.read k
    c.args.accesses.now c.upper_of_pc.result c.upper_of_pc.new.regs c.upper_of_pc.ensures.done

pub returns-in-AddImmediate-clause-goes : goal.returns-in-AddImmediate-clause-goes
returns-in-AddImmediate-clause-goes c = λ k.
    plain_counts_so c.args.pages.now.pages c.args.it.now c.args.pc c.args.regs.now c.requires.word c.requires.ram c.requires.read k
    c.args.accesses.now c.by_immediate.result c.by_immediate.new.regs c.by_immediate.ensures.done

pub returns-in-SllImmediate-clause-goes : goal.returns-in-SllImmediate-clause-goes
returns-in-SllImmediate-clause-goes c = λ k.
    plain_counts_so c.args.pages.now.pages c.args.it.now c.args.pc c.args.regs.now c.requires.word c.requires.ram c.requires.read k
    c.args.accesses.now c.by_immediate-in-SllImmediate.result c.by_immediate-in-SllImmediate.new.regs c.by_immediate-in-SllImmediate.ensures.done

pub returns-in-SltImmediate-clause-goes : goal.returns-in-SltImmediate-clause-goes
returns-in-SltImmediate-clause-goes c = λ k.
    plain_counts_so c.args.pages.now.pages c.args.it.now c.args.pc c.args.regs.now c.requires.word c.requires.ram c.requires.read k
    c.args.accesses.now c.by_immediate-in-SltImmediate.result c.by_immediate-in-SltImmediate.new.regs c.by_immediate-in-SltImmediate.ensures.done

pub returns-in-SltuImmediate-clause-goes : goal.returns-in-SltuImmediate-clause-goes
returns-in-SltuImmediate-clause-goes c = λ k.
    plain_counts_so c.args.pages.now.pages c.args.it.now c.args.pc c.args.regs.now c.requires.word c.requires.ram c.requires.read k
    c.args.accesses.now c.by_immediate-in-SltuImmediate.result c.by_immediate-in-SltuImmediate.new.regs c.by_immediate-in-SltuImmediate.ensures.done

pub returns-in-XorImmediate-clause-goes : goal.returns-in-XorImmediate-clause-goes
returns-in-XorImmediate-clause-goes c = λ k.
    plain_counts_so c.args.pages.now.pages c.args.it.now c.args.pc c.args.regs.now c.requires.word c.requires.ram c.requires.read k
    c.args.accesses.now c.by_immediate-in-XorImmediate.result c.by_immediate-in-XorImmediate.new.regs c.by_immediate-in-XorImmediate.ensures.done

pub returns-in-SrlImmediate-clause-goes : goal.returns-in-SrlImmediate-clause-goes
returns-in-SrlImmediate-clause-goes c = λ k.
    plain_counts_so c.args.pages.now.pages c.args.it.now c.args.pc c.args.regs.now c.requires.word c.requires.ram c.requires.read k
    c.args.accesses.now c.by_immediate-in-SrlImmediate.result c.by_immediate-in-SrlImmediate.new.regs c.by_immediate-in-SrlImmediate.ensures.done

pub returns-in-SraImmediate-clause-goes : goal.returns-in-SraImmediate-clause-goes
returns-in-SraImmediate-clause-goes c = λ k.
    plain_counts_so c.args.pages.now.pages c.args.it.now c.args.pc c.args.regs.now c.requires.word c.requires.ram c.requires.read k
    c.args.accesses.now c.by_immediate-in-SraImmediate.result c.by_immediate-in-SraImmediate.new.regs c.by_immediate-in-SraImmediate.ensures.done

pub returns-in-OrImmediate-clause-goes : goal.returns-in-OrImmediate-clause-goes
returns-in-OrImmediate-clause-goes c = λ k.
    plain_counts_so c.args.pages.now.pages c.args.it.now c.args.pc c.args.regs.now c.requires.word c.requires.ram c.requires.read k
    c.args.accesses.now c.by_immediate-in-OrImmediate.result c.by_immediate-in-OrImmediate.new.regs c.by_immediate-in-OrImmediate.ensures.done

pub returns-in-AndImmediate-clause-goes : goal.returns-in-AndImmediate-clause-goes
returns-in-AndImmediate-clause-goes c = λ k.
    plain_counts_so c.args.pages.now.pages c.args.it.now c.args.pc c.args.regs.now c.requires.word c.requires.ram c.requires.read k
    c.args.accesses.now c.by_immediate-in-AndImmediate.result c.by_immediate-in-AndImmediate.new.regs c.by_immediate-in-AndImmediate.ensures.done

pub returns-in-AddwImmediate-clause-goes : goal.returns-in-AddwImmediate-clause-goes
returns-in-AddwImmediate-clause-goes c = λ k.
    plain_counts_so c.args.pages.now.pages c.args.it.now c.args.pc c.args.regs.now c.requires.word c.requires.ram c.requires.read k
    c.args.accesses.now c.by_immediate-in-AddwImmediate.result c.by_immediate-in-AddwImmediate.new.regs c.by_immediate-in-AddwImmediate.ensures.done

pub returns-in-SllwImmediate-clause-goes : goal.returns-in-SllwImmediate-clause-goes
returns-in-SllwImmediate-clause-goes c = λ k.
    plain_counts_so c.args.pages.now.pages c.args.it.now c.args.pc c.args.regs.now c.requires.word c.requires.ram c.requires.read k
    c.args.accesses.now c.by_immediate-in-SllwImmediate.result c.by_immediate-in-SllwImmediate.new.regs c.by_immediate-in-SllwImmediate.ensures.done

pub returns-in-SrlwImmediate-clause-goes : goal.returns-in-SrlwImmediate-clause-goes
returns-in-SrlwImmediate-clause-goes c = λ k.
    plain_counts_so c.args.pages.now.pages c.args.it.now c.args.pc c.args.regs.now c.requires.word c.requires.ram c.requires.read k
    c.args.accesses.now c.by_immediate-in-SrlwImmediate.result c.by_immediate-in-SrlwImmediate.new.regs c.by_immediate-in-SrlwImmediate.ensures.done

pub returns-in-SrawImmediate-clause-goes : goal.returns-in-SrawImmediate-clause-goes
returns-in-SrawImmediate-clause-goes c = λ k.
    plain_counts_so c.args.pages.now.pages c.args.it.now c.args.pc c.args.regs.now c.requires.word c.requires.ram c.requires.read k
    c.args.accesses.now c.by_immediate-in-SrawImmediate.result c.by_immediate-in-SrawImmediate.new.regs c.by_immediate-in-SrawImmediate.ensures.done

pub returns-in-Add-clause-goes : goal.returns-in-Add-clause-goes
returns-in-Add-clause-goes c = λ k.
    plain_counts_so c.args.pages.now.pages c.args.it.now c.args.pc c.args.regs.now c.requires.word c.requires.ram c.requires.read k
    c.args.accesses.now c.by_registers.result c.by_registers.new.regs c.by_registers.ensures.done

pub returns-in-Sub-clause-goes : goal.returns-in-Sub-clause-goes
returns-in-Sub-clause-goes c = λ k.
    plain_counts_so c.args.pages.now.pages c.args.it.now c.args.pc c.args.regs.now c.requires.word c.requires.ram c.requires.read k
    c.args.accesses.now c.by_registers-in-Sub.result c.by_registers-in-Sub.new.regs c.by_registers-in-Sub.ensures.done

pub returns-in-Sll-clause-goes : goal.returns-in-Sll-clause-goes
returns-in-Sll-clause-goes c = λ k.
    plain_counts_so c.args.pages.now.pages c.args.it.now c.args.pc c.args.regs.now c.requires.word c.requires.ram c.requires.read k
    c.args.accesses.now c.by_registers-in-Sll.result c.by_registers-in-Sll.new.regs c.by_registers-in-Sll.ensures.done

pub returns-in-Slt-clause-goes : goal.returns-in-Slt-clause-goes
returns-in-Slt-clause-goes c = λ k.
    plain_counts_so c.args.pages.now.pages c.args.it.now c.args.pc c.args.regs.now c.requires.word c.requires.ram c.requires.read k
    c.args.accesses.now c.by_registers-in-Slt.result c.by_registers-in-Slt.new.regs c.by_registers-in-Slt.ensures.done

pub returns-in-Sltu-clause-goes : goal.returns-in-Sltu-clause-goes
returns-in-Sltu-clause-goes c = λ k.
    plain_counts_so c.args.pages.now.pages c.args.it.now c.args.pc c.args.regs.now c.requires.word c.requires.ram c.requires.read k
    c.args.accesses.now c.by_registers-in-Sltu.result c.by_registers-in-Sltu.new.regs c.by_registers-in-Sltu.ensures.done

pub returns-in-Xor-clause-goes : goal.returns-in-Xor-clause-goes
returns-in-Xor-clause-goes c = λ k.
    plain_counts_so c.args.pages.now.pages c.args.it.now c.args.pc c.args.regs.now c.requires.word c.requires.ram c.requires.read k
    c.args.accesses.now c.by_registers-in-Xor.result c.by_registers-in-Xor.new.regs c.by_registers-in-Xor.ensures.done

pub returns-in-Srl-clause-goes : goal.returns-in-Srl-clause-goes
returns-in-Srl-clause-goes c = λ k.
    plain_counts_so c.args.pages.now.pages c.args.it.now c.args.pc c.args.regs.now c.requires.word c.requires.ram c.requires.read k
    c.args.accesses.now c.by_registers-in-Srl.result c.by_registers-in-Srl.new.regs c.by_registers-in-Srl.ensures.done

pub returns-in-Sra-clause-goes : goal.returns-in-Sra-clause-goes
returns-in-Sra-clause-goes c = λ k.
    plain_counts_so c.args.pages.now.pages c.args.it.now c.args.pc c.args.regs.now c.requires.word c.requires.ram c.requires.read k
    c.args.accesses.now c.by_registers-in-Sra.result c.by_registers-in-Sra.new.regs c.by_registers-in-Sra.ensures.done

pub returns-in-Or-clause-goes : goal.returns-in-Or-clause-goes
returns-in-Or-clause-goes c = λ k.
    plain_counts_so c.args.pages.now.pages c.args.it.now c.args.pc c.args.regs.now c.requires.word c.requires.ram c.requires.read k
    c.args.accesses.now c.by_registers-in-Or.result c.by_registers-in-Or.new.regs c.by_registers-in-Or.ensures.done

pub returns-in-And-clause-goes : goal.returns-in-And-clause-goes
returns-in-And-clause-goes c = λ k.
    plain_counts_so c.args.pages.now.pages c.args.it.now c.args.pc c.args.regs.now c.requires.word c.requires.ram c.requires.read k
    c.args.accesses.now c.by_registers-in-And.result c.by_registers-in-And.new.regs c.by_registers-in-And.ensures.done

pub returns-in-Addw-clause-goes : goal.returns-in-Addw-clause-goes
returns-in-Addw-clause-goes c = λ k.
    plain_counts_so c.args.pages.now.pages c.args.it.now c.args.pc c.args.regs.now c.requires.word c.requires.ram c.requires.read k
    c.args.accesses.now c.by_registers-in-Addw.result c.by_registers-in-Addw.new.regs c.by_registers-in-Addw.ensures.done

pub returns-in-Subw-clause-goes : goal.returns-in-Subw-clause-goes
returns-in-Subw-clause-goes c = λ k.
    plain_counts_so c.args.pages.now.pages c.args.it.now c.args.pc c.args.regs.now c.requires.word c.requires.ram c.requires.read k
    c.args.accesses.now c.by_registers-in-Subw.result c.by_registers-in-Subw.new.regs c.by_registers-in-Subw.ensures.done

pub returns-in-Sllw-clause-goes : goal.returns-in-Sllw-clause-goes
returns-in-Sllw-clause-goes c = λ k.
    plain_counts_so c.args.pages.now.pages c.args.it.now c.args.pc c.args.regs.now c.requires.word c.requires.ram c.requires.read k
    c.args.accesses.now c.by_registers-in-Sllw.result c.by_registers-in-Sllw.new.regs c.by_registers-in-Sllw.ensures.done

pub returns-in-Srlw-clause-goes : goal.returns-in-Srlw-clause-goes
returns-in-Srlw-clause-goes c = λ k.
    plain_counts_so c.args.pages.now.pages c.args.it.now c.args.pc c.args.regs.now c.requires.word c.requires.ram c.requires.read k
    c.args.accesses.now c.by_registers-in-Srlw.result c.by_registers-in-Srlw.new.regs c.by_registers-in-Srlw.ensures.done

pub returns-in-Sraw-clause-goes : goal.returns-in-Sraw-clause-goes
returns-in-Sraw-clause-goes c = λ k.
    plain_counts_so c.args.pages.now.pages c.args.it.now c.args.pc c.args.regs.now c.requires.word c.requires.ram c.requires.read k
    c.args.accesses.now c.by_registers-in-Sraw.result c.by_registers-in-Sraw.new.regs c.by_registers-in-Sraw.ensures.done

pub returns-in-Mul-clause-goes : goal.returns-in-Mul-clause-goes
returns-in-Mul-clause-goes c = λ k.
    plain_counts_so c.args.pages.now.pages c.args.it.now c.args.pc c.args.regs.now c.requires.word c.requires.ram c.requires.read k
    c.args.accesses.now c.multiplied.result c.multiplied.new.regs c.multiplied.ensures.done

pub returns-in-Mulw-clause-goes : goal.returns-in-Mulw-clause-goes
returns-in-Mulw-clause-goes c = λ k.
    plain_counts_so c.args.pages.now.pages c.args.it.now c.args.pc c.args.regs.now c.requires.word c.requires.ram c.requires.read k
    c.args.accesses.now c.word_multiplied.result c.word_multiplied.new.regs c.word_multiplied.ensures.done

pub returns-in_ok-branch-in-BranchEq-clause-goes : goal.returns-in_ok-branch-in-BranchEq-clause-goes
returns-in_ok-branch-in-BranchEq-clause-goes c = λ k.
    plain_counts_so c.args.pages.now.pages c.args.it.now c.args.pc c.args.regs.now c.requires.word c.requires.ram c.requires.read k
    c.args.accesses.now _ _ c.in_ok-branch-in-BranchEq.ensures

pub returns-in_ok-branch-in-BranchNe-clause-goes : goal.returns-in_ok-branch-in-BranchNe-clause-goes
returns-in_ok-branch-in-BranchNe-clause-goes c = λ k.
    plain_counts_so c.args.pages.now.pages c.args.it.now c.args.pc c.args.regs.now c.requires.word c.requires.ram c.requires.read k
    c.args.accesses.now _ _ c.in_ok-branch-in-BranchNe.ensures

pub returns-in_ok-branch-in-BranchLt-clause-goes : goal.returns-in_ok-branch-in-BranchLt-clause-goes
returns-in_ok-branch-in-BranchLt-clause-goes c = λ k.
    plain_counts_so c.args.pages.now.pages c.args.it.now c.args.pc c.args.regs.now c.requires.word c.requires.ram c.requires.read k
    c.args.accesses.now _ _ c.in_ok-branch-in-BranchLt.ensures

pub returns-in_ok-branch-in-BranchGe-clause-goes : goal.returns-in_ok-branch-in-BranchGe-clause-goes
returns-in_ok-branch-in-BranchGe-clause-goes c = λ k.
    plain_counts_so c.args.pages.now.pages c.args.it.now c.args.pc c.args.regs.now c.requires.word c.requires.ram c.requires.read k
    c.args.accesses.now _ _ c.in_ok-branch-in-BranchGe.ensures

pub returns-in_ok-branch-in-BranchLtu-clause-goes : goal.returns-in_ok-branch-in-BranchLtu-clause-goes
returns-in_ok-branch-in-BranchLtu-clause-goes c = λ k.
    plain_counts_so c.args.pages.now.pages c.args.it.now c.args.pc c.args.regs.now c.requires.word c.requires.ram c.requires.read k
    c.args.accesses.now _ _ c.in_ok-branch-in-BranchLtu.ensures

pub returns-in_ok-branch-in-BranchGeu-clause-goes : goal.returns-in_ok-branch-in-BranchGeu-clause-goes
returns-in_ok-branch-in-BranchGeu-clause-goes c = λ k.
    plain_counts_so c.args.pages.now.pages c.args.it.now c.args.pc c.args.regs.now c.requires.word c.requires.ram c.requires.read k
    c.args.accesses.now _ _ c.in_ok-branch-in-BranchGeu.ensures

pub returns-in_ok-jump_near-in-Jal-clause-goes : goal.returns-in_ok-jump_near-in-Jal-clause-goes
returns-in_ok-jump_near-in-Jal-clause-goes c = λ k.
    plain_counts_so c.args.pages.now.pages c.args.it.now c.args.pc c.args.regs.now c.requires.word c.requires.ram c.requires.read k
    c.args.accesses.now _ _ c.in_ok-jump_near-in-Jal.ensures.done

pub returns-in_ok-jump_by_register-in-Jalr-clause-goes : goal.returns-in_ok-jump_by_register-in-Jalr-clause-goes
returns-in_ok-jump_by_register-in-Jalr-clause-goes c = λ k.
    plain_counts_so c.args.pages.now.pages c.args.it.now c.args.pc c.args.regs.now c.requires.word c.requires.ram c.requires.read k
    c.args.accesses.now _ _ c.in_ok-jump_by_register-in-Jalr.ensures.done
