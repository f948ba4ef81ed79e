-- What a word does to a hart whose pc and whose count of instructions are held beside its registers.
use Rattle.std.specs.Prelude.{ℕ, ◌≡◌}
use Rattle.rv_supervisor.specs.declared.regs.Regs.{Regs}
use Rattle.rv_supervisor.specs.declared.regs.Turn.{Turn}
use Rattle.rv_supervisor.specs.Ends.{after_jump}
use Rattle.rv_rows.specs.Fields.{rd_field}
use Rattle.rv_doing.specs.Doing.{Ends}
use Rattle.rv_doing.specs.Does.{does}
use Rattle.rv_doing.specs.Replies.{with_result}

-- the hart with these registers at this pc, with so many instructions left to its next look, and what it begins next
abbrev pub placed : ℕ → ℕ → Turn → Regs → Regs
placed pc count turn r = record r { pc = pc; count = count; turn = turn }

-- there the word puts this value into rd
abbrev pub PutsAt : ℕ → ℕ → ℕ → Regs → Type 0
PutsAt word pc value r =
    (count : ℕ) (turn : Turn)
    → does word (placed pc count turn r) ≡ Ends (with_result (rd_field word) value (placed pc count turn r))

-- there the word leads to the next pc and leaves these registers
abbrev pub LeadsTo : ℕ → ℕ → ℕ → Regs → Regs → Type 0
LeadsTo word pc next old new =
    (count : ℕ) (turn : Turn)
    → does word (placed pc count turn old) ≡ Ends (after_jump next (placed pc count turn new))
