-- The timer's trace: it asks the clock, advances guest time by the difference from the clock's last answer, and so on.
use Rattle.std.specs.Prelude.{ℕ, ◌≡◌, ◌-◌, Option, Some, None, List, [], ◌∷◌, ◌++◌}
use Rattle.vm_types.specs.declared.op.Op.{Op}
use Rattle.vm_types.specs.declared.op.OutOp.TheVariants.{Clock}
use Rattle.vm_types.specs.declared.op.BoardOp.TheVariants.{Advance}
use Rattle.vm_types.specs.declared.reply.Reply.{Reply}
use Rattle.vm_types.specs.declared.entry.Step.{Step}

-- In nanoseconds. The first answer since the timer's start has none before it, and a clock that fell advances nothing.
abbrev pub difference : Option ℕ → ℕ → ℕ
difference None answer = 0
difference (Some last) answer = answer - last

abbrev pub ask : Op
ask = Op.Out Clock

abbrev pub advance : ℕ → Op
advance nanoseconds = Op.Board (Advance nanoseconds)

-- the two steps of a round, by the answer before it and its own
abbrev pub asked : ℕ → Step
asked answer = record { op = ask; reply = Reply.Word answer }

abbrev pub advanced : ℕ → Step
advanced nanoseconds = record { op = advance nanoseconds; reply = Reply.Done }

-- rounds with these answers, one after another; each answer is the last one of the next, also where it is lower
abbrev pub rounds : Option ℕ → List ℕ → List Step
rounds last [] = []
rounds last (answer ∷ answers) = asked answer ∷ advanced (difference last answer) ∷ rounds (Some answer) answers

-- a trace of the timer from its start, where there was no answer yet
abbrev pub TimerTrace : List Step → Type 0
TimerTrace steps = (answers : List ℕ) × (rounds None answers ≡ steps)

-- the steps go on to a trace
abbrev pub IsPrefix : List Step → Type 0
IsPrefix steps = (more : List Step) × TimerTrace (steps ++ more)

-- the op continues the steps to a trace, with some reply and some steps behind it
abbrev pub Continues : List Step → Op → Type 0
Continues steps op =
    (reply : Reply) × (more : List Step) × TimerTrace (steps ++ record { op = op; reply = reply } ∷ more)
