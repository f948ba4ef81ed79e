use Rattle.std.proofs.Common.{refl}
use Rattle.monitor_serving.specs.declared.served.Served.TheVariants as served
use Rattle.monitor_serving.proofs.Alone.{breaks_idle}
use Rattle.monitor_serving.proofs.Connections.{in_part}
use Rattle.monitor_serving.proofs.serving.serve.Goals as goal

pub returns-in_default-clause-serves : goal.returns-in_default-clause-serves
returns-in_default-clause-serves g c = λ tell listens s first old.
    let was = g.W.TurnObjects.known c.args.with.now in
    breaks_idle served.OutOfMemory refl s first c.args.monitor.now was.trace was.trace (g.K.Sink.known c.args.sink.now)
    was.host (g.F.Files.known c.args.files.now) (g.M.Listener.known c.args.listener.now) (g.M.Listener.known c.args.listener.now)
    old.since old refl old.came (in_part old.talk old.since old.told) refl
