use Rattle.std.proofs.Common.{[], ap, subst, Result}
use Rattle.refusals.specs.declared.refusal.Refusal.{Refusal}
use Rattle.http_stream.specs.Asked.{request_in}
use Rattle.http_stream.specs.declared.request.Next.TheVariants as next
use Rattle.api_calls.specs.declared.call.ApiCall.{ApiCall}
use Rattle.api_calls.specs.Call.{◌>>=◌, call_of}
use Rattle.api_json.specs.declared.error.ReadError.{ReadError}
use Rattle.api_json.specs.Gives.{Fails}
use Rattle.api_rules.specs.Table.{decision}
use Rattle.flat_machine.specs.Machine.{phase_of}
use Rattle.monitor_machine.proofs.Planning.{refused_plan}
use Rattle.monitor_machine.proofs.machine.LiveMachine.task.Goals as goal

pub task_of_call-requires : goal.task_of_call-requires
task_of_call-requires g c = (request_in c.args.request.now, c.in-Ok.ensures)

pub returns-in-Ok-clause-task : goal.returns-in-Ok-clause-task
returns-in-Ok-clause-task g c =
    let task = c.task_of_call.ensures.task in
    (task.0, λ told m is. task.1 told m is (request_in c.args.request.now) c.in-Ok.ensures)

pub returns-in-Ok-clause-uncalled : goal.returns-in-Ok-clause-uncalled
returns-in-Ok-clause-uncalled g c = λ never.
    c.task_of_call.ensures.uncalled (λ asks. never (c.in-Ok.call, c.in-Ok.ensures, asks))

pub returns-in-Err-Refused-clause-task : goal.returns-in-Err-Refused-clause-task
returns-in-Err-Refused-clause-task g c = (
  [],
  λ told m is.
      refused_plan m (next.Request (request_in c.args.request.now)) c.in-Err-Refused.why
      (ap (λ (r : Result ApiCall Refusal). r >>= λ x. decision (phase_of m) m.config m.ids x)
      (subst (λ (e : ReadError). Fails e (call_of (request_in c.args.request.now))) c.in-Err-Refused.field-0-is c.in-Err-Refused.ensures)),
)

pub returns-in-Err-OutOfMemory-clause-task : goal.returns-in-Err-OutOfMemory-clause-task
returns-in-Err-OutOfMemory-clause-task g c = ([], λ told m is. tt)
