use Rattle.std.proofs.Common.{ap, ◌∙◌}
use Rattle.http_stream.specs.Stream.{Connection}
use Rattle.monitor_core.proofs.monitor.Monitor.is_failed.Goals as goal

pub returns-clause-machine : goal.returns-clause-machine
returns-clause-machine c = λ known m is. c.is_failed.ensures ∙ ap (λ (d : Connection). d.failed) is.own.connection_is
