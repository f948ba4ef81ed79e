use Rattle.std.proofs.Common.{sym, ◌∙◌, []}
use Rattle.http_stream.specs.declared.request.Next.TheVariants as next
use Rattle.monitor_machine.specs.Plans.{phase_of}
use Rattle.flat_machine.proofs.Taken.{decided_fits}
use Rattle.monitor_machine.proofs.Deciding.{comes_early, decided_is, has_guest, has_number, no_files, two_files}
use Rattle.monitor_machine.proofs.Planning.{refused_plan}
use Rattle.monitor_machine.proofs.machine.LiveMachine.task_of_call.Goals as goal

pub task_of_allowed-requires : goal.task_of_allowed-requires
task_of_allowed-requires g c =
    let live = c.args.self.now in
    let asks = sym c.decided.ensures.is ∙ c.in-Ok.is in record {
      fits =
          decided_fits (phase_of live) live.config live.ids c.decided.ensures.taken c.requires.0 c.args.call c.in-Ok.call c.requires.1
          asks;
      early = comes_early live.guest live.paused live.config live.ids c.args.call c.in-Ok.call asks;
      guest = has_guest live.guest live.paused live.config live.ids c.args.call c.in-Ok.call asks;
      two = two_files (phase_of live) live.config live.ids c.args.call c.in-Ok.call asks c.requires.0 c.requires.1;
      number = has_number live.guest live.paused live.config live.ids c.args.call c.in-Ok.call asks;
    }

pub returns-in-Ok-clause-task : goal.returns-in-Ok-clause-task
returns-in-Ok-clause-task g c =
    let task = c.task_of_allowed.ensures.task in (
      task.0,
      λ told m is request asks.
          task.1 told m is (next.Request request)
          (sym (decided_is c.args.self.now m request c.args.call is.own asks) ∙ (sym c.decided.ensures.is ∙ c.in-Ok.is)),
    )

pub returns-in-Ok-clause-uncalled : goal.returns-in-Ok-clause-uncalled
returns-in-Ok-clause-uncalled g c = λ never.
    let live = c.args.self.now in
    c.task_of_allowed.ensures.uncalled
    (no_files (phase_of live) live.config live.ids c.args.call c.in-Ok.call (sym c.decided.ensures.is ∙ c.in-Ok.is) never)

pub returns-in-Err-clause-task : goal.returns-in-Err-clause-task
returns-in-Err-clause-task g c = (
  [],
  λ told m is request asks.
      refused_plan m (next.Request request) c.in-Err.why
      (sym (decided_is c.args.self.now m request c.args.call is.own asks) ∙ (sym c.decided.ensures.is ∙ c.in-Err.is)),
)
