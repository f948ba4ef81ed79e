-- How a timer is kept inside a round, and where the steps of a trace lead it.
use Rattle.std.specs.Prelude.{ℕ, ◌≡◌, Bool, false, if◌then◌else◌, Option, Some, None, List, [], ◌∷◌, ◌++◌}
use Rattle.std.proofs.Common.{ap}
use Rattle.vm_types.specs.declared.op.Op.{Op}
use Rattle.vm_types.specs.declared.reply.Reply.{Reply}
use Rattle.vm_types.specs.declared.entry.Step.{Step}
use Rattle.vm_types.specs.Fits.{fits}
use Rattle.timer_trace.specs.declared.timer.Timer.{Timer}
use Rattle.timer_trace.specs.Traces.{ask, asked, advance, difference, rounds}

-- a timer at its start
abbrev pub new_timer : Timer
new_timer = record { last = None; due = None }

abbrev pub wants_by : Option ℕ → Op
wants_by None = ask
wants_by (Some due) = advance due

abbrev pub timer_wants : Timer → Op
timer_wants t = wants_by t.due

abbrev pub stepped_by : Option ℕ → Option ℕ → Reply → Timer
stepped_by None last (Reply.Word answer) = record { last = Some answer; due = Some (difference last answer) }
stepped_by due last reply = record { last = last; due = None }

abbrev pub timer_stepped : Timer → Reply → Timer
timer_stepped t reply = stepped_by t.due t.last reply

-- a reply that doesn't fit leaves the timer
abbrev pub timer_next : Timer → Reply → Timer
timer_next t reply = if fits (timer_wants t) reply then timer_stepped t reply else t

pub timer_leaves : (t : Timer) (reply : Reply) → fits (timer_wants t) reply ≡ false → timer_next t reply ≡ t
timer_leaves t reply unfit = ap (λ (fit : Bool). if fit then timer_stepped t reply else t) unfit

abbrev pub last_of : Option ℕ → List ℕ → Option ℕ
last_of last [] = last
last_of last (answer ∷ answers) = last_of (Some answer) answers

-- what is begun after these answers: nothing, or a round whose clock has answered
abbrev pub BegunBy : Option ℕ → Option ℕ → Option ℕ → List Step → Type 0
BegunBy before None last part = (part ≡ []) × (last ≡ before)
BegunBy before (Some due) last part =
    (answer : ℕ) × (part ≡ asked answer ∷ []) × (due ≡ difference before answer) × (last ≡ Some answer)

-- the steps lead from the start to this timer: whole rounds, and then what is begun
abbrev pub LeadsTo : List Step → Timer → Type 0
LeadsTo steps t =
    (answers : List ℕ) × (part : List Step)
    × BegunBy (last_of None answers) t.due t.last part × (rounds None answers ++ part ≡ steps)
