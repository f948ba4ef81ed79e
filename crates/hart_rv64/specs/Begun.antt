-- What is kept of an instruction that is begun.
use Rattle.std.specs.Prelude.{ℕ, ◌≡◌, Option, Some, None}
use Rattle.rv_supervisor.specs.declared.regs.Regs.{Regs}
use Rattle.rv_doing.specs.Does.{performed}
use Rattle.hart_trace.specs.Traces.{executes}
use Rattle.hart_rv64.specs.declared.begun.Begun.{Begun}

-- its word
abbrev pub word_in : Option Begun → Option ℕ
word_in None = None
word_in (Some begun) = Some begun.word

-- and its effect, which is what the word does
abbrev pub IsKept : Option Begun → Regs → Type 0
IsKept None r = Unit {0}
IsKept (Some begun) r = performed begun.effect begun.word r ≡ executes begun.word r
