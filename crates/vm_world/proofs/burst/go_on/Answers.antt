use Rattle.std.proofs.Common.{ℕ, ap, subst, ◌∙◌}
use Rattle.rv_rows.specs.Effects.{address_sum}
use Rattle.rv_rows.specs.declared.register.Register.{Register}
use Rattle.rv_supervisor.specs.Registers.{reg}
use Rattle.vm_types.specs.declared.ids.ActorId.{ActorId}
use Rattle.vm_world.specs.Bursts.{Loads, Stores}
use Rattle.vm_world.proofs.Bursting.{load_ends, load_goes, plain_goes, store_goes}
use Rattle.vm_world.proofs.burst.go_on.Goals as goal

pub returns-in_ok-value-in-3-clause-goes : goal.returns-in_ok-value-in-3-clause-goes
returns-in_ok-value-in-3-clause-goes c = λ count board ports.
    load_ends c.args.pages.now.pages board ports c.args.number c.args.pc count c.args.word c.args.regs.now c.put.new.self c.rd.result
    c.in_ok-value-in-3.value c.put.ensures c.rd.ensures
    (load_goes c.args.pages.now.pages board ports c.args.number c.args.pc count c.args.word c.args.regs.now c.ranges.word.fits c.requires.ram
    c.requires.read c.in_ok-kind-in-3.kind c.get-a.result c.in_ok-value-in-3.value c.in_ok-kind-in-3.ensures
    (c.get-a.ensures ∙ ap (λ (s : Register). reg c.args.regs.now s) c.rs1.ensures)
    (subst (λ (n : ℕ). Loads c.args.pages.now.pages c.in_ok-kind-in-3.kind (address_sum c.get-a.result n) c.in_ok-value-in-3.value)
    c.i_immediate.ensures c.in_ok-value-in-3.ensures))

pub returns-then-store_as-clause-goes : goal.returns-then-store_as-clause-goes
returns-then-store_as-clause-goes c = λ count board ports.
    store_goes c.args.pages.now.pages board ports c.args.number c.args.pc count c.args.word c.args.regs.now c.ranges.word.fits c.requires.ram
    c.requires.read c.in_ok-width-in-35.width c.get-a.result c.get-b.result c.store_as.new.pages.pages c.in_ok-width-in-35.ensures
    (c.get-a.ensures ∙ ap (λ (s : Register). reg c.args.regs.now s) c.rs1.ensures)
    (c.get-b.ensures ∙ ap (λ (s : Register). reg c.args.regs.now s) c.rs2.ensures) c.get-b.type_inv
    (subst (λ (n : ℕ). Stores c.args.pages.now.pages (ActorId.Hart c.args.number) c.in_ok-width-in-35.width (address_sum c.get-a.result n) c.get-b.result c.store_as.new.pages.pages)
    c.s_immediate.ensures (c.store_as.ensures.made c.if-store_as.true))

pub returns-in_ok-plain_at-in_default-clause-goes : goal.returns-in_ok-plain_at-in_default-clause-goes
returns-in_ok-plain_at-in_default-clause-goes c = λ count board ports.
    plain_goes c.args.pages.now.pages board ports c.args.number c.args.pc count c.args.word c.args.regs.now c.ranges.word.fits c.requires.ram
    c.requires.read c.in_ok-plain_at-in_default.field-0 c.plain_at.new.regs c.in_ok-plain_at-in_default.ensures.done
