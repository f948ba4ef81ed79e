use denote.Text.{Utf8}
use denote.Shadow.{shadow}
use Rattle.script_cases.proofs.stopping.answer_of.Given as goal

-- the last line so far is text
abbrev pub invariant-loop-line : goal.invariant-loop-line
invariant-loop-line l = shadow (Utf8 l.last)
