use Rattle.std.proofs.Common.{refl}
use Rattle.vm_outside.proofs.Passing.{lasts_more, lasts_same}
use Rattle.monitor_running.specs.Objects.{known_with}
use Rattle.monitor_serving.specs.Views.{Hosts, hosts, view}
use Rattle.monitor_serving.proofs.Turns.{all_last_on, all_last_self, goes_on, open_goes, served_on}
use Rattle.monitor_serving.proofs.Waiting.{stays_on}
use Rattle.monitor_serving.proofs.connection.serve_turns.Goals as goal

pub loop-init : goal.loop-init
loop-init g c =
    let N = g.N.Conn in
    let before : Hosts = hosts (known_with (g.W.TurnObjects.known c.args.with.now) (g.K.Sink.known c.args.sink.now))
    (g.F.Files.known c.args.files.now) in
    record {
      can = tt;
      finite = tt;
      on = λ tell tells. stays_on c.args.monitor.now before (N.known c.args.conn.now) (N.known c.args.conn.now)
          (record { gave = refl; left = refl }) refl;
      last = all_last_self before;
      conn = lasts_same (N.known c.args.conn.now).health;
      gated = c.requires;
    }

pub loop-preserved : goal.loop-preserved
loop-preserved g c =
    let N = g.N.Conn in
    let turn = c.turn-end in
    let start : Hosts = hosts (known_with (g.W.TurnObjects.known c.args.with.now) (g.K.Sink.known c.args.sink.now))
    (g.F.Files.known c.args.files.now) in
    let before : Hosts = hosts (known_with (g.W.TurnObjects.known c.loop.with) (g.K.Sink.known c.loop.sink))
    (g.F.Files.known c.loop.files) in
    let after : Hosts = hosts (known_with (g.W.TurnObjects.known turn.new.with) (g.K.Sink.known turn.new.sink))
    (g.F.Files.known turn.new.files) in
    record {
      can = tt;
      finite = tt;
      on = λ tell tells.
          let on = c.loop.invariant.on tell tells in
          goes_on (view c.args.monitor.now start (N.known c.args.conn.now)) (view c.loop.monitor before (N.known c.loop.conn))
          (view turn.new.monitor after (N.known turn.new.conn)) on c.loop.invariant.conn
          (open_goes (view c.loop.monitor before (N.known c.loop.conn)) (view turn.new.monitor after (N.known turn.new.conn))
          (c.in_default.ensures.turned
          (record {
            trace = c.loop.invariant.last.trace.still tell.trace;
            sink = c.loop.invariant.last.sink.still tell.sink;
            files = c.loop.invariant.last.files.still tell.files;
          })
          (c.loop.invariant.conn.still tells)));
      last = all_last_on start before after c.loop.invariant.last turn.ensures.lasts;
      conn = lasts_more (N.known c.args.conn.now).health (N.known c.loop.conn).health (N.known turn.new.conn).health
          c.loop.invariant.conn turn.ensures.conn_lasts;
      gated = turn.ensures.gated.is;
    }

pub returns-in-Some-end-clause-served : goal.returns-in-Some-end-clause-served
returns-in-Some-end-clause-served g c =
    let N = g.N.Conn in
    let turn = c.turn-end in
    let start : Hosts = hosts (known_with (g.W.TurnObjects.known c.args.with.now) (g.K.Sink.known c.args.sink.now))
    (g.F.Files.known c.args.files.now) in
    let before : Hosts = hosts (known_with (g.W.TurnObjects.known c.loop.with) (g.K.Sink.known c.loop.sink))
    (g.F.Files.known c.loop.files) in
    let after : Hosts = hosts (known_with (g.W.TurnObjects.known turn.new.with) (g.K.Sink.known turn.new.sink))
    (g.F.Files.known turn.new.files) in
    λ tell tells.
    served_on (view c.args.monitor.now start (N.known c.args.conn.now)) (view c.loop.monitor before (N.known c.loop.conn))
    (view turn.new.monitor after (N.known turn.new.conn)) (c.loop.invariant.on tell tells) c.loop.invariant.conn c.in-Some-end.end
    (c.in-Some-end.ensures.turned
    (record {
      trace = c.loop.invariant.last.trace.still tell.trace;
      sink = c.loop.invariant.last.sink.still tell.sink;
      files = c.loop.invariant.last.files.still tell.files;
    })
    (c.loop.invariant.conn.still tells))
