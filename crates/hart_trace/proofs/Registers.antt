-- What changes of a hart's registers keeps each of its width.
use Rattle.std.proofs.Common.{◌≡◌, ◌≤◌, ℕ, ◌+◌, ◌-◌, ◌*◌, ◌/◌, ◌%◌, ◌^◌, ◌==◌, refl, ap, ◌∙◌, Bool, true, false, if◌then◌else◌}
use Rattle.std.proofs.Common.{nat_le, nat_lt, Option, length, arith, slice_set, bit_and, bit_or}
use Rattle.std.specs.Prelude.{slice_index}
use Rattle.std.specs.Int.{bit_not, w64}
use Rattle.std.specs.Int.Bits.{and_self}
use Rattle.std.proofs.lemmas.Bool.{leb-false, ltb-true, ltb-false}
use Rattle.std.proofs.lemmas.Nat.{and_assoc, and_le_l, and_le_r, or_lt}
use Rattle.std.proofs.lemmas.List.{get_or_past, length-set}
use Rattle.std.proofs.lemmas.List.Elements.{All-get_or, All-set}
use Rattle.rv_rows.specs.declared.register.Register.{Register}
use Rattle.rv_rows.specs.Registers.{number}
use Rattle.rv_rows.specs.declared.csr.CsrAccess.{CsrAccess}
use Rattle.rv_rows.specs.declared.csr.CsrAccess.TheVariants as access
use Rattle.rv_rows.specs.declared.exception.Exception.{Exception}
use Rattle.rv_rows.specs.declared.exception.Exception.TheVariants.{InstructionMisaligned, InstructionFault, IllegalInstruction, Breakpoint, LoadMisaligned, LoadFault, StoreMisaligned, StoreFault}
use Rattle.rv_rows.specs.Exceptions.{code}
use Rattle.rv_supervisor.specs.declared.regs.Regs.{Regs}
use Rattle.rv_supervisor.specs.declared.regs.Turn.{Turn}
use Rattle.rv_supervisor.specs.declared.csr.HartCsr.{HartCsr}
use Rattle.rv_supervisor.specs.Registers.{reg, with_reg, granule}
use Rattle.rv_supervisor.specs.Ends.{after_instruction, after_jump, after_trap, count_down}
use Rattle.rv_supervisor.specs.Csrs.{csr_value, status, after_access, after_write, interrupts}
use Rattle.rv_doing.specs.Replies.{with_result}
use Rattle.hart_trace.specs.Kept.{IsHeld, IsRegs, IsWord}

abbrev pub IsSmallAccess : CsrAccess → Type 0
IsSmallAccess access.Read = Unit {0}
IsSmallAccess (access.Write value) = IsWord value
IsSmallAccess (access.Set mask) = IsWord mask
IsSmallAccess (access.Clear mask) = Unit {0}

-- ---- registers that change

module _ (size : ℕ) (r : Regs) (is : IsRegs size r) where
  index_by : (i : ℕ) (b : Bool) → nat_lt i (length r.x) ≡ b → IsWord (slice_index r.x i)
  index_by i true lt = All-get_or IsWord r.x i 0 (ltb-true i (length r.x) lt) is.x
  index_by i false lt =
      let past : slice_index r.x i ≡ 0 = get_or_past r.x i 0 (ltb-false i (length r.x) lt) in
      omega (arith, past)

  pub reg_small : (register : Register) → IsWord (reg r register)
  reg_small register = zero_or (number register == 0) (index_by (number register - 1) _ refl)
    where
      zero_or : (b : Bool) → IsWord (slice_index r.x (number register - 1))
          → IsWord (if b then 0 else slice_index r.x (number register - 1))
      zero_or true small = omega arith
      zero_or false small = small

  counted_by : (b : Bool) → nat_le r.count 1 ≡ b
      → IsRegs size (if b then record r { count = 32; turn = Turn.Look } else record r { count = r.count - 1 })
  counted_by true le = record {
    many = is.many;
    x = is.x;
    pc = is.pc;
    sie = is.sie;
    stvec = is.stvec;
    sscratch = is.sscratch;
    sepc = is.sepc;
    scause = is.scause;
    stval = is.stval;
    some = omega arith;
    few = omega arith;
    held = is.held;
  }
  counted_by false le =
      let more = leb-false r.count 1 le in
      let few = is.few in record {
        many = is.many;
        x = is.x;
        pc = is.pc;
        sie = is.sie;
        stvec = is.stvec;
        sscratch = is.sscratch;
        sepc = is.sepc;
        scause = is.scause;
        stval = is.stval;
        some = omega (arith, more);
        few = omega (arith, few);
        held = is.held;
      }

  pub counts : IsRegs size (count_down r)
  counts = counted_by (nat_le r.count 1) refl

  put_by : (b : Bool) (i value : ℕ) → IsWord value → IsRegs size (if b then r else record r { x = slice_set r.x i value })
  put_by true i value small = is
  put_by false i value small = record {
    many = length-set r.x i value ∙ is.many;
    x = All-set IsWord r.x i value small is.x;
    pc = is.pc;
    sie = is.sie;
    stvec = is.stvec;
    sscratch = is.sscratch;
    sepc = is.sepc;
    scause = is.scause;
    stval = is.stval;
    some = is.some;
    few = is.few;
    held = is.held;
  }

  pub puts : (register : Register) (value : ℕ) → IsWord value → IsRegs size (with_reg r register value)
  puts register value small = put_by (number register == 0) (number register - 1) value small

  pub at_pc : (pc : ℕ) → IsWord pc → IsRegs size (record r { pc = pc })
  at_pc pc small = record {
    many = is.many;
    x = is.x;
    pc = small;
    sie = is.sie;
    stvec = is.stvec;
    sscratch = is.sscratch;
    sepc = is.sepc;
    scause = is.scause;
    stval = is.stval;
    some = is.some;
    few = is.few;
    held = is.held;
  }

  pub trapped : (cause value : ℕ) (sie spie : Bool) (turn : Turn) → IsWord cause → IsWord value
      → IsRegs size (record r {
        pc = r.stvec;
        sepc = r.pc;
        scause = cause;
        stval = value;
        status_spie = spie;
        status_sie = sie;
        turn = turn;
      })
  trapped cause value sie spie turn small short = record {
    many = is.many;
    x = is.x;
    pc = is.stvec;
    sie = is.sie;
    stvec = is.stvec;
    sscratch = is.sscratch;
    sepc = is.pc;
    scause = small;
    stval = short;
    some = is.some;
    few = is.few;
    held = is.held;
  }

  pub holding : (held : Option ℕ) → IsHeld size held → IsRegs size (record r { held = held })
  holding held granule = record {
    many = is.many;
    x = is.x;
    pc = is.pc;
    sie = is.sie;
    stvec = is.stvec;
    sscratch = is.sscratch;
    sepc = is.sepc;
    scause = is.scause;
    stval = is.stval;
    some = is.some;
    few = is.few;
    held = granule;
  }

  pub turned : (turn : Turn) → IsRegs size (record r { turn = turn })
  turned turn = record {
    many = is.many;
    x = is.x;
    pc = is.pc;
    sie = is.sie;
    stvec = is.stvec;
    sscratch = is.sscratch;
    sepc = is.sepc;
    scause = is.scause;
    stval = is.stval;
    some = is.some;
    few = is.few;
    held = is.held;
  }

  pub enabled : (sie spie : Bool) (turn : Turn)
      → IsRegs size (record r { status_sie = sie; status_spie = spie; turn = turn })
  enabled sie spie turn = record {
    many = is.many;
    x = is.x;
    pc = is.pc;
    sie = is.sie;
    stvec = is.stvec;
    sscratch = is.sscratch;
    sepc = is.sepc;
    scause = is.scause;
    stval = is.stval;
    some = is.some;
    few = is.few;
    held = is.held;
  }

  written : (sie stvec sscratch sepc scause stval : ℕ) (turn : Turn) → bit_and sie interrupts ≡ sie → IsWord stvec
      → IsWord sscratch → IsWord sepc → IsWord scause → IsWord stval
      → IsRegs size (record r {
        sie = sie;
        stvec = stvec;
        sscratch = sscratch;
        sepc = sepc;
        scause = scause;
        stval = stval;
        turn = turn;
      })
  written sie stvec sscratch sepc scause stval turn bits vec scratch epc cause val = record {
    many = is.many;
    x = is.x;
    pc = is.pc;
    sie = bits;
    stvec = vec;
    sscratch = scratch;
    sepc = epc;
    scause = cause;
    stval = val;
    some = is.some;
    few = is.few;
    held = is.held;
  }

-- ---- how an instruction ends

module _ (size : ℕ) where
  pub jumps : (target : ℕ) (r : Regs) → IsWord target → IsRegs size r → IsRegs size (after_jump target r)
  jumps target r small is = counts size (record r { pc = target }) (at_pc size r is target small)

  pub finishes : (r : Regs) → IsRegs size r → IsRegs size (after_instruction r)
  finishes r is = jumps ((r.pc + 4) % 2 ^ 64) r (omega arith) is

  code_small : (exception : Exception) → IsWord (code exception)
  code_small InstructionMisaligned = omega arith
  code_small InstructionFault = omega arith
  code_small IllegalInstruction = omega arith
  code_small Breakpoint = omega arith
  code_small LoadMisaligned = omega arith
  code_small LoadFault = omega arith
  code_small StoreMisaligned = omega arith
  code_small StoreFault = omega arith

  pub traps : (exception : Exception) (value : ℕ) (r : Regs) → IsWord value → IsRegs size r
      → IsRegs size (after_trap exception value r)
  traps exception value r small is =
      counts size _ (trapped size r is (code exception) value false r.status_sie r.turn (code_small exception) small)

  pub results : (rd : Register) (value : ℕ) (r : Regs) → IsWord value → IsRegs size r → IsRegs size (with_result rd value r)
  results rd value r small is = finishes (with_reg r rd value) (puts size r is rd value small)

  -- ---- CSRs

  sie_small : (r : Regs) → IsRegs size r → IsWord r.sie
  sie_small r is =
      let le = and_le_r r.sie interrupts in
      let same = is.sie in
      omega (arith, le, same)

  either : (b : Bool) (x y : ℕ) → x ≤ 2 ^ 32 → y ≤ 2 ^ 32 → (if b then x else y) ≤ 2 ^ 32
  either true x y first second = first
  either false x y first second = second

  status_small : (sie spie : Bool) → IsWord (status sie spie)
  status_small sie spie =
      let first = either sie (2 ^ 1) 0 (omega arith) (omega arith) in
      let second = either spie (2 ^ 5) 0 (omega arith) (omega arith) in
      omega (arith, first, second)

  pub csr_small : (it : HartCsr) (r : Regs) → IsRegs size r → IsWord (csr_value it r)
  csr_small HartCsr.Sstatus r is = status_small r.status_sie r.status_spie
  csr_small HartCsr.Sie r is = sie_small r is
  csr_small HartCsr.Stvec r is = is.stvec
  csr_small HartCsr.Sscratch r is = is.sscratch
  csr_small HartCsr.Sepc r is = is.sepc
  csr_small HartCsr.Scause r is = is.scause
  csr_small HartCsr.Stval r is = is.stval
  csr_small HartCsr.Satp r is = omega arith

  pub bits_stay : (value : ℕ) → bit_and (bit_and value interrupts) interrupts ≡ bit_and value interrupts
  bits_stay value = and_assoc interrupts value interrupts ∙ ap (bit_and value) (and_self interrupts)

  writes : (it : HartCsr) (value : ℕ) (r : Regs) → IsWord value → IsRegs size r → IsRegs size (after_write it value r)
  writes HartCsr.Sstatus value r small is = enabled size r is _ _ Turn.Look
  writes HartCsr.Sie value r small is =
      written size r is (bit_and value interrupts) r.stvec r.sscratch r.sepc r.scause r.stval Turn.Look (bits_stay value) is.stvec is.sscratch
      is.sepc is.scause is.stval
  writes HartCsr.Stvec value r small is =
      written size r is r.sie (value / 4 * 4) r.sscratch r.sepc r.scause r.stval r.turn is.sie (omega (arith, small)) is.sscratch is.sepc is.scause
      is.stval
  writes HartCsr.Sscratch value r small is =
      written size r is r.sie r.stvec value r.sepc r.scause r.stval r.turn is.sie is.stvec small is.sepc is.scause is.stval
  writes HartCsr.Sepc value r small is =
      written size r is r.sie r.stvec r.sscratch (value / 4 * 4) r.scause r.stval r.turn is.sie is.stvec is.sscratch (omega (arith, small))
      is.scause is.stval
  writes HartCsr.Scause value r small is =
      written size r is r.sie r.stvec r.sscratch r.sepc value r.stval r.turn is.sie is.stvec is.sscratch is.sepc small is.stval
  writes HartCsr.Stval value r small is =
      written size r is r.sie r.stvec r.sscratch r.sepc r.scause value r.turn is.sie is.stvec is.sscratch is.sepc is.scause small
  writes HartCsr.Satp value r small is = is

  pub changes : (it : HartCsr) (by : CsrAccess) (r : Regs) → IsSmallAccess by → IsRegs size r → IsRegs size (after_access it by r)
  changes it access.Read r small is = is
  changes it (access.Write value) r small is = writes it value r small is
  changes it (access.Set mask) r small is =
      writes it (bit_or (csr_value it r) mask) r (or_lt 64 (csr_value it r) mask (csr_small it r is) small) is
  changes it (access.Clear mask) r small is =
      let le = and_le_l (csr_value it r) (bit_not w64 mask) in
      let lt = csr_small it r is in
      writes it (bit_and (csr_value it r) (bit_not w64 mask)) r (omega (arith, le, lt)) is
