use Rattle.std.proofs.Common.{ap}
use Rattle.monitor_cli.proofs.Commanding.{commanded}
use Rattle.monitor_cli.proofs.top.replay_by.Goals as goal

pub returns-clause-command : goal.returns-clause-command
returns-clause-command g c = λ words is.
    let ran = c.replay_as-exit.ensures in
    let wrote = c.write_last.ensures in
    commanded words c.replay_as-exit.result _ _ _ c.write_last.result c.args.id.now is ran.no_usage ran.so_far ran.caused ran.lasts
    wrote.takes (λ quiet. ap g.O.Sink.known (wrote.quiet quiet)) wrote.called
