-- What a word that computes puts into rd.
use Rattle.std.specs.Prelude.{ℕ, ◌≡◌}
use Rattle.rv_rows.specs.Fields.{rd_field, rs1_field, rs2_field}
use Rattle.rv_supervisor.specs.declared.regs.Regs.{Regs}
use Rattle.rv_supervisor.specs.Registers.{reg}
use Rattle.rv_doing.specs.Doing.{Ends}
use Rattle.rv_doing.specs.Does.{does}
use Rattle.rv_doing.specs.Replies.{with_result}

-- where rs1 has the value a, the word puts this value into rd
abbrev pub PutsOf : ℕ → ℕ → ℕ → Type 0
PutsOf word a value = (r : Regs) → a ≡ reg r (rs1_field word) → does word r ≡ Ends (with_result (rd_field word) value r)

-- and where rs2 has the value b
abbrev pub PutsOfBoth : ℕ → ℕ → ℕ → ℕ → Type 0
PutsOfBoth word a b value =
    (r : Regs) → a ≡ reg r (rs1_field word) → b ≡ reg r (rs2_field word)
    → does word r ≡ Ends (with_result (rd_field word) value r)
