use Rattle.std.proofs.Common.{ℕ, refl, sym, ap, ◌∙◌}
use Rattle.rv_rows.specs.Branches.{is_taken}
use Rattle.rv_supervisor.specs.Registers.{reg}
use Rattle.decoded_words.proofs.Leading.{branch_away, branch_on}
use Rattle.decoded_words.proofs.doing.branch.Goals as goal

pub returns-then-not-is_taken : goal.returns-then-not-is_taken
returns-then-not-is_taken c =
    branch_on c.args.it.now c.args.pc _ c.args.regs.now c.args.condition c.requires.is
    (ap (λ (a : ℕ). is_taken c.args.condition a (reg c.args.regs.now c.args.it.now.other)) (sym c.value_of_rs1.ensures)
    ∙ ap (λ (b : ℕ). is_taken c.args.condition c.value_of_rs1.result b) (sym c.get.ensures)
    ∙ sym c.is_taken.ensures ∙ c.if-not-is_taken.true)
    refl

pub returns-then-target-eq0 : goal.returns-then-target-eq0
returns-then-target-eq0 c =
    branch_away c.args.it.now c.args.pc _ c.args.regs.now c.args.condition c.requires.is
    (ap (λ (a : ℕ). is_taken c.args.condition a (reg c.args.regs.now c.args.it.now.other)) (sym c.value_of_rs1.ensures)
    ∙ ap (λ (b : ℕ). is_taken c.args.condition c.value_of_rs1.result b) (sym c.get.ensures)
    ∙ sym c.is_taken.ensures ∙ c.if-not-is_taken.false)
    refl c.if-target-eq0.true
