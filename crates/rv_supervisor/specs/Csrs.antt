-- The control and status registers of a supervisor, one line each (privileged manual, supervisor part, "Supervisor
-- CSRs"): its number, what a read of it sees, and what a write of it keeps. Every other number is illegal.
use Rattle.std.specs.Prelude.{ℕ, ◌+◌, ◌*◌, ◌/◌, ◌%◌, ◌^◌, ◌==◌, Bool, true, false, if◌then◌else◌, List, [], ◌∷◌, Option, Some, None, bit_and, bit_or}
use Rattle.std.specs.Int.{bit_not, w64}
use Rattle.rv_rows.specs.declared.csr.CsrAccess.{CsrAccess}
use Rattle.rv_rows.specs.declared.csr.CsrAccess.TheVariants.{Read, Write, Set, Clear}
use Rattle.rv_supervisor.specs.declared.regs.Regs.{Regs}
use Rattle.rv_supervisor.specs.declared.csr.Csr.{Csr}
use Rattle.rv_supervisor.specs.declared.csr.Csr.TheVariants.{Hart, Sip, Time}
use Rattle.rv_supervisor.specs.declared.csr.HartCsr.{HartCsr}
use Rattle.rv_supervisor.specs.declared.csr.HartCsr.TheVariants.{Sstatus, Sie, Stvec, Sscratch, Sepc, Scause, Stval, Satp}
use Rattle.rv_supervisor.specs.Ends.{look_due}

abbrev pub csrs : List (ℕ × Csr)
csrs =
    (0x100, Hart Sstatus)
    ∷ (0x104, Hart Sie)
    ∷ (0x105, Hart Stvec)
    ∷ (0x140, Hart Sscratch)
    ∷ (0x141, Hart Sepc)
    ∷ (0x142, Hart Scause)
    ∷ (0x143, Hart Stval)
    ∷ (0x144, Sip)
    ∷ (0x180, Hart Satp)
    ∷ (0xc01, Time)
    ∷ []

abbrev pub csr_in : List (ℕ × Csr) → ℕ → Option Csr
csr_in [] n = None
csr_in (line ∷ more) n = if n == line.0 then Some line.1 else csr_in more n

-- the CSR of a number, if it has one
abbrev pub csr_of : ℕ → Option Csr
csr_of n = csr_in csrs n

-- bit k of a number
abbrev pub bit : ℕ → ℕ → Bool
bit k n = n / 2 ^ k % 2 == 1

-- the interrupts of a supervisor: bits 1, 5 and 9, software, timer and external
abbrev pub interrupts : ℕ
interrupts = 0x222

-- SPP, bit 8 of sstatus, reads 1, and all but SIE and SPIE, bits 1 and 5, read 0: the hart is always a supervisor
abbrev pub status : Bool → Bool → ℕ
status sie spie = 2 ^ 8 + (if sie then 2 ^ 1 else 0) + (if spie then 2 ^ 5 else 0)

-- what a read sees. There is no paging: satp reads 0.
abbrev pub csr_value : HartCsr → Regs → ℕ
csr_value Sstatus r = status r.status_sie r.status_spie
csr_value Sie r = r.sie
csr_value Stvec r = r.stvec
csr_value Sscratch r = r.sscratch
csr_value Sepc r = r.sepc
csr_value Scause r = r.scause
csr_value Stval r = r.stval
csr_value Satp r = 0

-- What a write keeps: stvec is in direct mode, an instruction stands at a multiple of 4, and satp keeps nothing. After
-- a write of sstatus or sie a look is due, whatever was written.
abbrev pub after_write : HartCsr → ℕ → Regs → Regs
after_write Sstatus value r = look_due (record r { status_sie = bit 1 value; status_spie = bit 5 value })
after_write Sie value r = look_due (record r { sie = bit_and value interrupts })
after_write Stvec value r = record r { stvec = value / 4 * 4 }
after_write Sscratch value r = record r { sscratch = value }
after_write Sepc value r = record r { sepc = value / 4 * 4 }
after_write Scause value r = record r { scause = value }
after_write Stval value r = record r { stval = value }
after_write Satp value r = r

-- what a CSR instruction leaves (unprivileged manual, 9.1)
abbrev pub after_access : HartCsr → CsrAccess → Regs → Regs
after_access csr Read r = r
after_access csr (Write value) r = after_write csr value r
after_access csr (Set mask) r = after_write csr (bit_or (csr_value csr r) mask) r
after_access csr (Clear mask) r = after_write csr (bit_and (csr_value csr r) (bit_not w64 mask)) r

-- of sip only the software-pending bit can be written: the bits that an access clears, and those that it then sets
abbrev pub software : ℕ
software = 0x2

abbrev pub software_cleared : CsrAccess → ℕ
software_cleared Read = 0
software_cleared (Write value) = software
software_cleared (Set mask) = 0
software_cleared (Clear mask) = bit_and mask software

abbrev pub software_set : CsrAccess → ℕ
software_set Read = 0
software_set (Write value) = bit_and value software
software_set (Set mask) = bit_and mask software
software_set (Clear mask) = 0

-- time can't be written, with any value
abbrev pub is_read : CsrAccess → Bool
is_read Read = true
is_read access = false
