use Rattle.std.proofs.Common.{Option, subst, sym}
use Rattle.monitor_running.specs.Objects.{known_with}
use Rattle.monitor_serving.specs.declared.served.Served.{Served}
use Rattle.monitor_serving.specs.Connections.{GoCause, Goes, Place, place}
use Rattle.monitor_serving.specs.Views.{Hosts, hosts}
use Rattle.monitor_serving.proofs.Alone.{breaks_on_accept, cause_by, cause_unheard, given_of, goes_to_end, goes_unheard, goes_with_one}
use Rattle.monitor_serving.proofs.serving.serve_next.Goals as goal

pub returns-in-Err-clause-goes : goal.returns-in-Err-clause-goes
returns-in-Err-clause-goes g c = λ tell tells.
    let was = g.W.TurnObjects.known c.args.with.now in
    breaks_on_accept c.args.monitor.now was.trace (g.K.Sink.known c.args.sink.now) was.host
    (g.F.Files.known c.args.files.now) (g.M.Listener.known c.args.listener.now) (g.M.Listener.known c.accept.new.self) (c.in-Err.ensures.same tells)

pub returns-in-Ok-NotYet-clause-cause : goal.returns-in-Ok-NotYet-clause-cause
returns-in-Ok-NotYet-clause-cause g c =
    cause_unheard c.run_alone.result
    (hosts (known_with (g.W.TurnObjects.known c.args.with.now) (g.K.Sink.known c.args.sink.now))
    (g.F.Files.known c.args.files.now))
    (hosts (known_with (g.W.TurnObjects.known c.run_alone.new.with) (g.K.Sink.known c.run_alone.new.sink))
    (g.F.Files.known c.args.files.now))
    (g.M.Listener.known c.args.listener.now).health (g.M.Listener.known c.accept.new.self).health c.accept.ensures.called.lasts
    (c.run_alone.ensures.cause (g.F.Files.known c.args.files.now) (g.M.Listener.known c.args.listener.now).health)

pub returns-in-Ok-Ended-clause-goes : goal.returns-in-Ok-Ended-clause-goes
returns-in-Ok-Ended-clause-goes g c = λ tell tells.
    goes_to_end g.N.Conn.known c.args.monitor.now
    (hosts (known_with (g.W.TurnObjects.known c.args.with.now) (g.K.Sink.known c.args.sink.now))
    (g.F.Files.known c.args.files.now))
    (g.M.Listener.known c.args.listener.now) (g.M.Listener.known c.accept.new.self) c.in-Ok-Ended.field-0 c.in-Ok-Ended.field-0-is
    (c.in-Ok-Ended.ensures.accepts tells)

pub returns-in-Ok-NotYet-clause-goes : goal.returns-in-Ok-NotYet-clause-goes
returns-in-Ok-NotYet-clause-goes g c =
    let alone = c.run_alone in
    let files = g.F.Files.known c.args.files.now in
    let heard = g.M.Listener.known c.accept.new.self in
    λ tell tells.
    goes_unheard g.N.Conn.known c.args.monitor.now
    (hosts (known_with (g.W.TurnObjects.known c.args.with.now) (g.K.Sink.known c.args.sink.now)) files)
    (g.M.Listener.known c.args.listener.now) heard c.in-Ok-NotYet.field-0 c.in-Ok-NotYet.field-0-is (c.in-Ok-NotYet.ensures.accepts tells)
    alone.result
    (place alone.new.monitor
    (hosts (known_with (g.W.TurnObjects.known alone.new.with) (g.K.Sink.known alone.new.sink)) files) heard)
    (alone.ensures.goes files heard tell)

pub returns-in-Ok-Conn-clause-goes : goal.returns-in-Ok-Conn-clause-goes
returns-in-Ok-Conn-clause-goes g c =
    let M = g.M.Listener in
    let one = c.serve_one-end in
    let left = M.known c.end.new.self in
    let start : Hosts = hosts (known_with (g.W.TurnObjects.known c.args.with.now) (g.K.Sink.known c.args.sink.now))
    (g.F.Files.known c.args.files.now) in
    let after : Place = place one.new.monitor (hosts (known_with (g.W.TurnObjects.known one.new.with) (g.K.Sink.known one.new.sink))
    (g.F.Files.known one.new.files)) left in
    λ tell tells.
    let gives = given_of g.N.Conn.known (M.known c.args.listener.now) (M.known c.accept.new.self) c.in-Ok-Conn.field-0 c.in-Ok-Conn.conn
    c.in-Ok-Conn.field-0-is (c.in-Ok-Conn.ensures.accepts tells) in
    subst (λ (end : Option Served). Goes end (place c.args.monitor.now start (M.known c.args.listener.now)) after) (sym c.going.ensures)
    (goes_with_one c.args.monitor.now start (M.known c.args.listener.now) (M.known c.accept.new.self) (g.N.Conn.known c.in-Ok-Conn.conn) gives
    one.result after
    (one.ensures.serves tell gives.bytes gives.fresh (M.known c.accept.new.self) left
    (c.end.ensures.ended (c.accept.ensures.called.lasts.still tells))))

pub returns-in-Ok-Conn-clause-cause : goal.returns-in-Ok-Conn-clause-cause
returns-in-Ok-Conn-clause-cause g c =
    let one = c.serve_one-end in
    let before = (g.M.Listener.known c.args.listener.now).health in
    let now = (g.M.Listener.known c.end.new.self).health in
    let start : Hosts = hosts (known_with (g.W.TurnObjects.known c.args.with.now) (g.K.Sink.known c.args.sink.now))
    (g.F.Files.known c.args.files.now) in
    let after : Hosts = hosts (known_with (g.W.TurnObjects.known one.new.with) (g.K.Sink.known one.new.sink))
    (g.F.Files.known one.new.files) in
    subst (λ (end : Option Served). GoCause end start after before now) (sym c.going.ensures)
    (cause_by one.result start after before now (one.ensures.cause before now))
