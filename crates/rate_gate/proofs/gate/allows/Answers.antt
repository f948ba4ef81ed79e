use Rattle.rate_gate.proofs.Allowed.{Answers, allows_by, answer_by}
use Rattle.rate_gate.proofs.gate.allows.Goals as goal

pub returns-in-Some-clause-answer : goal.returns-in-Some-clause-answer
returns-in-Some-clause-answer c =
    let answers : Answers c.in-Some.bucket c.args.need c.args.now c.may_take.result = record { each = c.may_take.ensures.answer } in
    rw c.in-Some.is (allows_by _ _ _ _ answers, answer_by _ _ _ _ answers)
