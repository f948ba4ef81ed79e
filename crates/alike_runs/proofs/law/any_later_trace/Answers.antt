use Rattle.std.proofs.Common.{◌++◌, List, subst}
use Rattle.alike_runs.specs.Alike.{Alike}
use Rattle.alike_runs.specs.Twins.{Twins}
use Rattle.alike_runs.proofs.Traces.{trace_alike}
use Rattle.alike_runs.proofs.Turned.{all_turned, turned_again, turned_machine}
use Rattle.alike_runs.proofs.law.any_later_trace.Goals as goal

pub returns-clause-forth : goal.returns-clause-forth
returns-clause-forth c acts twins m n k outs alike run =
    let on = trace_alike acts twins m n k outs alike run in
    (on.l, on.front, on.is, on.stays)

pub returns-clause-back : goal.returns-clause-back
returns-clause-back c acts twins m n l outs alike run =
    let on = trace_alike acts (all_turned twins) n m l outs (turned_machine twins m n alike) run in (
      on.l,
      all_turned on.front,
      on.is,
      subst (λ (t : List Twins). Alike t on.l l) (turned_again on.front twins)
          (turned_machine (on.front ++ all_turned twins) l on.l on.stays),
    )
