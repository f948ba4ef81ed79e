-- What a decoded word does, by the instruction that it is.
use Rattle.std.proofs.Common.{◌≡◌, ℕ, ◌+◌, ◌*◌, ◌/◌, ◌%◌, ◌^◌, ◌<◌, ◌==◌, Bool, true, false, if◌then◌else◌, List, Option, Some, None, refl, sym, ap, subst, ◌∙◌, arith}
use Rattle.std.specs.Prelude.{IfSome}
use Rattle.std.proofs.lemmas.Bool.{eq-eqb}
use Rattle.vm_types.specs.declared.op.Op.TheVariants as op
use Rattle.le_fields.specs.Fields.{bytes_of}
use Rattle.rv_rows.specs.declared.alu.AluOp.{AluOp}
use Rattle.rv_rows.specs.declared.alu.AluOp.TheVariants.{Add}
use Rattle.rv_rows.specs.declared.alu.MulDivOp.{MulDivOp}
use Rattle.rv_rows.specs.declared.branch.Condition.{Condition}
use Rattle.rv_rows.specs.declared.effect.Effect.{Effect}
use Rattle.rv_rows.specs.declared.effect.Effect.TheVariants as effect
use Rattle.rv_rows.specs.declared.exception.Exception.TheVariants.{InstructionMisaligned, LoadMisaligned, StoreMisaligned}
use Rattle.rv_rows.specs.declared.instr.Instr.{Instr}
use Rattle.rv_rows.specs.declared.instr.Instr.TheVariants.{Alu, AluImm, Auipc, Branch, Jal, Jalr, Load, Lui, MulDiv, Store}
use Rattle.rv_rows.specs.declared.memory.LoadKind.{LoadKind}
use Rattle.rv_rows.specs.declared.memory.Width.{Width}
use Rattle.rv_rows.specs.declared.register.Register.{Register}
use Rattle.rv_rows.specs.declared.register.Register.TheVariants.{X0}
use Rattle.rv_rows.specs.Alu.{alu}
use Rattle.rv_rows.specs.Branches.{is_taken}
use Rattle.rv_rows.specs.Effects.{address_sum, transfer}
use Rattle.rv_rows.specs.Loads.{load_bytes, low_bytes, width_bytes}
use Rattle.rv_rows.specs.MulDiv.{muldiv}
use Rattle.rv_rows.specs.Numbers.{low_word}
use Rattle.rv_rows.specs.Table.{instr_of}
use Rattle.rv_supervisor.specs.declared.regs.Regs.{Regs}
use Rattle.rv_supervisor.specs.declared.regs.Turn.{Turn}
use Rattle.rv_supervisor.specs.Ends.{after_jump}
use Rattle.rv_supervisor.specs.Registers.{reg, with_reg}
use Rattle.rv_doing.specs.Does.{does, does_by, effect_at, performed}
use Rattle.rv_doing.specs.Doing.{Asks, Ends}
use Rattle.rv_doing.specs.Plain.{LeadsTo, placed}
use Rattle.rv_doing.specs.Replies.{after_load, after_store, with_result}
use Rattle.rv_doing.proofs.Placing.{placed_put, placed_result}
use Rattle.rv_doing.proofs.Widths.{stores_low}
use Rattle.decoded_words.specs.Decoded.{IsDecoded, Puts}
use Rattle.decoded_words.specs.Operations.{IsThat, instr_named}
use Rattle.decoded_words.specs.declared.decoding.Decoded.{Decoded}
use Rattle.decoded_words.specs.declared.operation.Operation.{Operation}

-- by its operation
pub named_as : (d : Decoded) (it : Operation) → d.operation ≡ it → IsDecoded d → IsThat (instr_named it d.rd d.rs1 d.other d.value) d.word
named_as d it is decoded = subst (λ (o : Operation). IsThat (instr_named o d.rd d.rs1 d.other d.value) d.word) is decoded.is

-- a word does what its instruction does
pub does_as : (word : ℕ) (instr : Instr) (r : Regs) → instr_of word ≡ Some instr → does word r ≡ performed (effect_at instr r) word r
unfolding does
does_as word instr r is = ap (λ (it : Option Instr). does_by it word r) is

-- what it puts into rd
module _ (d : Decoded) (pc value : ℕ) (r : Regs) where
  pub immediate_puts : (op : AluOp) → instr_of d.word ≡ Some (AluImm op d.rd d.rs1 d.value) → value ≡ alu op (reg r d.rs1) d.value
      → Puts d pc value r
  immediate_puts op is same = λ count turn.
      does_as d.word (AluImm op d.rd d.rs1 d.value) (placed pc count turn r) is
      ∙ ap (λ (v : ℕ). Ends (with_result d.rd v (placed pc count turn r))) (sym same)

  pub registers_puts : (op : AluOp) → instr_of d.word ≡ Some (Alu op d.rd d.rs1 d.other)
      → value ≡ alu op (reg r d.rs1) (reg r d.other) → Puts d pc value r
  registers_puts op is same = λ count turn.
      does_as d.word (Alu op d.rd d.rs1 d.other) (placed pc count turn r) is
      ∙ ap (λ (v : ℕ). Ends (with_result d.rd v (placed pc count turn r))) (sym same)

  pub product_puts : (op : MulDivOp) → instr_of d.word ≡ Some (MulDiv op d.rd d.rs1 d.other)
      → value ≡ muldiv op (reg r d.rs1) (reg r d.other) → Puts d pc value r
  product_puts op is same = λ count turn.
      does_as d.word (MulDiv op d.rd d.rs1 d.other) (placed pc count turn r) is
      ∙ ap (λ (v : ℕ). Ends (with_result d.rd v (placed pc count turn r))) (sym same)

  pub constant_puts : instr_of d.word ≡ Some (AluImm Add d.rd X0 d.value) → value ≡ alu Add 0 d.value → Puts d pc value r
  constant_puts is same = λ count turn.
      does_as d.word (AluImm Add d.rd X0 d.value) (placed pc count turn r) is
      ∙ ap (λ (v : ℕ). Ends (with_result d.rd v (placed pc count turn r))) (sym same)

  pub lui_puts : instr_of d.word ≡ Some (Lui d.rd d.value) → value ≡ d.value → Puts d pc value r
  lui_puts is same = λ count turn.
      does_as d.word (Lui d.rd d.value) (placed pc count turn r) is
      ∙ ap (λ (v : ℕ). Ends (with_result d.rd v (placed pc count turn r))) (sym same)

  pub auipc_puts : instr_of d.word ≡ Some (Auipc d.rd d.value) → value ≡ address_sum pc d.value → Puts d pc value r
  auipc_puts is same = λ count turn.
      does_as d.word (Auipc d.rd d.value) (placed pc count turn r) is
      ∙ ap (λ (v : ℕ). Ends (with_result d.rd v (placed pc count turn r))) (sym same)

  -- and then the next word is behind it
  pub put_leads : (next : ℕ) (s : Regs) → Puts d pc value r → s ≡ with_reg r d.rd value → next ≡ (pc + 4) % 2 ^ 64
      → LeadsTo d.word pc next r s
  put_leads next s puts put on = λ count turn.
      puts count turn
      ∙ ap Ends (placed_result d.rd value pc count turn r)
      ∙ ap (λ (t : Regs). Ends (after_jump ((pc + 4) % 2 ^ 64) (placed pc count turn t))) (sym put)
      ∙ ap (λ (n : ℕ). Ends (after_jump n (placed pc count turn s))) (sym on)

-- where it leads
module _ (d : Decoded) (pc next : ℕ) (r : Regs) where
  pub branch_on : (condition : Condition) → instr_of d.word ≡ Some (Branch condition d.rs1 d.other d.value)
      → is_taken condition (reg r d.rs1) (reg r d.other) ≡ false → next ≡ (pc + 4) % 2 ^ 64 → LeadsTo d.word pc next r r
  branch_on condition is taken on = λ count turn.
      let target : ℕ = address_sum pc d.value in
      does_as d.word (Branch condition d.rs1 d.other d.value) (placed pc count turn r) is
      ∙ ap (λ (b : Bool). performed (if b then transfer target (effect.Branch target) else effect.Nothing) d.word (placed pc count turn r)) taken
      ∙ ap (λ (n : ℕ). Ends (after_jump n (placed pc count turn r))) (sym on)

  pub branch_away : (condition : Condition) → instr_of d.word ≡ Some (Branch condition d.rs1 d.other d.value)
      → is_taken condition (reg r d.rs1) (reg r d.other) ≡ true → next ≡ address_sum pc d.value → next % 4 ≡ 0
      → LeadsTo d.word pc next r r
  branch_away condition is taken on whole = λ count turn.
      let target : ℕ = address_sum pc d.value in
      let aligned : (target % 4 == 0) ≡ true = eq-eqb (target % 4) 0 (ap (λ (n : ℕ). n % 4) (sym on) ∙ whole) in
      does_as d.word (Branch condition d.rs1 d.other d.value) (placed pc count turn r) is
      ∙ ap (λ (b : Bool). performed (if b then transfer target (effect.Branch target) else effect.Nothing) d.word (placed pc count turn r)) taken
      ∙ ap (λ (b : Bool). performed (if b then effect.Branch target else effect.Trap InstructionMisaligned target) d.word (placed pc count turn r)) aligned
      ∙ ap (λ (n : ℕ). Ends (after_jump n (placed pc count turn r))) (sym on)

  jumps : (instr : Instr) (rd : Register) (target : ℕ) (s : Regs) → instr_of d.word ≡ Some instr
      → ((count : ℕ) (turn : Turn) → effect_at instr (placed pc count turn r) ≡ transfer target (effect.Jump rd (address_sum pc 4) target))
      → next ≡ target → target % 4 ≡ 0 → s ≡ with_reg r rd (address_sum pc 4) → LeadsTo d.word pc next r s
  jumps instr rd target s is effect_is on whole put = λ count turn.
      let link : ℕ = address_sum pc 4 in
      let aligned : (target % 4 == 0) ≡ true = eq-eqb (target % 4) 0 whole in
      does_as d.word instr (placed pc count turn r) is
      ∙ ap (λ (e : Effect). performed e d.word (placed pc count turn r)) (effect_is count turn)
      ∙ ap (λ (b : Bool). performed (if b then effect.Jump rd link target else effect.Trap InstructionMisaligned target) d.word (placed pc count turn r)) aligned
      ∙ ap (λ (t : Regs). Ends (after_jump target t)) (placed_put rd link pc count turn r)
      ∙ ap (λ (t : Regs). Ends (after_jump target (placed pc count turn t))) (sym put)
      ∙ ap (λ (n : ℕ). Ends (after_jump n (placed pc count turn s))) (sym on)

  pub jal_leads : (target : ℕ) (s : Regs) → instr_of d.word ≡ Some (Jal d.other d.value) → target ≡ address_sum pc d.value
      → next ≡ target → target % 4 ≡ 0 → s ≡ with_reg r d.other (address_sum pc 4) → LeadsTo d.word pc next r s
  jal_leads target s is to on whole put =
      jumps (Jal d.other d.value) d.other (address_sum pc d.value) s is (λ count turn. refl) (on ∙ to)
      (ap (λ (n : ℕ). n % 4) (sym to) ∙ whole) put

  pub jalr_leads : (target : ℕ) (s : Regs) → instr_of d.word ≡ Some (Jalr d.other d.rs1 d.value)
      → target ≡ address_sum (reg r d.rs1) d.value / 2 * 2
      → next ≡ target → target % 4 ≡ 0 → s ≡ with_reg r d.other (address_sum pc 4) → LeadsTo d.word pc next r s
  jalr_leads target s is to on whole put =
      jumps (Jalr d.other d.rs1 d.value) d.other (address_sum (reg r d.rs1) d.value / 2 * 2) s is (λ count turn. refl) (on ∙ to)
      (ap (λ (n : ℕ). n % 4) (sym to) ∙ whole) put

-- the access that a load or a store asks for, where it is aligned
pub load_asks : (word : ℕ) (kind : LoadKind) (rd rs1 : Register) (offset : ℕ) (r : Regs) → instr_of word ≡ Some (Load kind rd rs1 offset)
    → (let at : ℕ = address_sum (reg r rs1) offset in
    at % load_bytes kind ≡ 0 → does word r ≡ Asks (op.Read at (load_bytes kind)) (λ reply. after_load kind rd at reply r))
load_asks word kind rd rs1 offset r is aligned =
    let at : ℕ = address_sum (reg r rs1) offset in
    does_as word (Load kind rd rs1 offset) r is
    ∙ ap (λ (b : Bool). performed (if b then effect.Load kind rd at else effect.Trap LoadMisaligned at) word r) (eq-eqb (at % load_bytes kind) 0 aligned)

pub store_asks : (word : ℕ) (width : Width) (rs1 rs2 : Register) (offset b : ℕ) (r : Regs) → instr_of word ≡ Some (Store width rs1 rs2 offset)
    → b ≡ reg r rs2 → b < 2 ^ 64
    → (let at : ℕ = address_sum (reg r rs1) offset in
    at % width_bytes width ≡ 0
    → does word r ≡ Asks (op.Write at (bytes_of (width_bytes width) b)) (λ reply. after_store at reply r))
store_asks word width rs1 rs2 offset b r is second small aligned =
    let at : ℕ = address_sum (reg r rs1) offset in
    let low : ℕ = low_bytes (width_bytes width) (reg r rs2) in
    does_as word (Store width rs1 rs2 offset) r is
    ∙ ap (λ (c : Bool). performed (if c then effect.Store width at low else effect.Trap StoreMisaligned at) word r) (eq-eqb (at % width_bytes width) 0 aligned)
    ∙ ap (λ (v : ℕ). Asks (op.Write at (bytes_of (width_bytes width) (low_bytes (width_bytes width) v))) (λ reply. after_store at reply r)) (sym second)
    ∙ ap (λ (bytes : List ℕ). Asks (op.Write at bytes) (λ reply. after_store at reply r)) (stores_low width b small)

-- a jump that is made
pub jal_goes : (d : Decoded) (pc target : ℕ) (found : Option ℕ) (r s : Regs) → instr_of d.word ≡ Some (Jal d.other d.value)
    → target ≡ address_sum pc d.value
    → IfSome found (λ next. (next ≡ target) × (target % 4 ≡ 0) × (s ≡ with_reg r d.other (address_sum pc 4)))
    → IfSome found (λ next. LeadsTo d.word pc next r s)
jal_goes d pc target None r s is to goes = tt
jal_goes d pc target (Some next) r s is to goes = jal_leads d pc next r target s is to goes.0 goes.1 goes.2

pub jalr_goes : (d : Decoded) (pc target : ℕ) (found : Option ℕ) (r s : Regs) → instr_of d.word ≡ Some (Jalr d.other d.rs1 d.value)
    → target ≡ address_sum (reg r d.rs1) d.value / 2 * 2
    → IfSome found (λ next. (next ≡ target) × (target % 4 ≡ 0) × (s ≡ with_reg r d.other (address_sum pc 4)))
    → IfSome found (λ next. LeadsTo d.word pc next r s)
jalr_goes d pc target None r s is to goes = tt
jalr_goes d pc target (Some next) r s is to goes = jalr_leads d pc next r target s is to goes.0 goes.1 goes.2

-- the low word of a number modulo 2 ^ 64
pub low_low : (n : ℕ) → low_word (n % 2 ^ 64) ≡ low_word n
low_low n = omega arith
