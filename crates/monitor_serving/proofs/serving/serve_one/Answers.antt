use Rattle.std.proofs.Common.{sym, ap, subst}
use Rattle.monitor_core.specs.declared.monitor.Monitor.{Monitor}
use Rattle.vm_types.specs.declared.exit.Object.TheVariants as object
use Rattle.monitor_running.specs.Asked.{HostKnown}
use Rattle.monitor_running.specs.Objects.{TurnKnown, known_with}
use Rattle.monitor_running.specs.Reached.{known}
use Rattle.monitor_serving.specs.declared.served.Served.TheVariants as served
use Rattle.monitor_serving.specs.Connections.{BrokeOff, Serves, place, still_coming}
use Rattle.monitor_serving.specs.Views.{hosts}
use Rattle.monitor_serving.proofs.Alone.{breaks_unheard}
use Rattle.monitor_serving.proofs.Connections.{one_served}
use Rattle.monitor_serving.proofs.serving.serve_one.Goals as goal

pub returns-in_default-clause-serves : goal.returns-in_default-clause-serves
returns-in_default-clause-serves g c = λ tell bytes fresh listener left back s first old.
    let was = g.W.TurnObjects.known c.args.with.now in
    let told = g.W.TurnObjects.known c.tell_item.new.with in
    let sink = g.K.Sink.known c.args.sink.now in
    let files = g.F.Files.known c.args.files.now in
    subst (λ (h : HostKnown). BrokeOff (served.Fault object.Trace) s first (place c.args.monitor.now (hosts (known told.trace sink h) files) left))
    (sym (ap (λ (k : TurnKnown). k.host) c.tell_item.ensures.beside))
    (breaks_unheard s first c.args.monitor.now was.trace told.trace sink was.host files listener left bytes
    (g.N.Conn.known c.args.conn.now) fresh back (c.in_default.ensures.adds tell.trace) old)

pub returns-clause-serves : goal.returns-clause-serves
returns-clause-serves g c =
    let one = c.serve_connection in
    let was = g.W.TurnObjects.known c.args.with.now in
    let told = g.W.TurnObjects.known c.tell_item.new.with in
    let sink = g.K.Sink.known c.args.sink.now in
    let files = g.F.Files.known c.args.files.now in
    let after = hosts (known_with (g.W.TurnObjects.known one.new.with) (g.K.Sink.known one.new.sink)) (g.F.Files.known one.new.files) in
    λ tell bytes fresh listener left back.
    subst (λ (h : HostKnown). Serves one.result (place c.args.monitor.now (hosts (known was.trace sink h) files) (still_coming bytes listener))
    (place one.new.monitor after left))
    (ap (λ (k : TurnKnown). k.host) c.tell_item.ensures.beside)
    (one_served c.args.monitor.now c.connect.new.self was.trace told.trace sink told.host files
    bytes listener (c.in-Ok.ensures.adds tell.trace) (c.connect.ensures.goes files)
    (ap (λ (m : Monitor). m.front) c.connect.ensures.front)
    (g.N.Conn.known c.args.conn.now) (g.N.Conn.known one.new.conn) fresh one.new.monitor after left back one.result
    (one.ensures.served
    (record { trace = c.tell_item.ensures.called.lasts.still tell.trace; sink = tell.sink; files = tell.files }) fresh.tells)
    one.ensures.cause)
