-- The integer registers of a hart (unprivileged manual, 2.1), and the granule that it holds.
use Rattle.std.specs.Prelude.{ℕ, ◌-◌, ◌*◌, ◌/◌, ◌==◌, Bool, false, if◌then◌else◌, Option, Some, None, slice_index, slice_set}
use Rattle.rv_rows.specs.declared.register.Register.{Register}
use Rattle.rv_rows.specs.declared.register.Register.TheVariants.{X10, X11}
use Rattle.rv_rows.specs.Registers.{number}
use Rattle.rv_supervisor.specs.declared.regs.Regs.{Regs}

-- x0 reads 0, and what is written to it is dropped
abbrev pub reg : Regs → Register → ℕ
reg r register = if number register == 0 then 0 else slice_index r.x (number register - 1)

abbrev pub with_reg : Regs → Register → ℕ → Regs
with_reg r register value =
    if number register == 0 then r else record r { x = slice_set r.x (number register - 1) value }

-- the registers of a call's first two arguments, and of its two results (SBI, "Binary Encoding")
abbrev pub a0 : Register
a0 = X10

abbrev pub a1 : Register
a1 = X11

-- a granule is 8 aligned bytes
abbrev pub granule : ℕ → ℕ
granule address = address / 8 * 8

abbrev pub is_held : Option ℕ → ℕ → Bool
is_held None g = false
is_held (Some held) g = held == g

-- whether the granule of this address is the one that the hart holds
abbrev pub holds : Regs → ℕ → Bool
holds r address = is_held r.held (granule address)

abbrev pub without_granule : Regs → Regs
without_granule r = record r { held = None }
