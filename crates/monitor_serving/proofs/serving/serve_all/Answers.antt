use Rattle.std.proofs.Common.{refl, Some}
use Rattle.vm_outside.proofs.Passing.{lasts_more, lasts_same}
use Rattle.monitor_running.specs.Objects.{known_with}
use Rattle.monitor_serving.specs.Connections.{place}
use Rattle.monitor_serving.specs.Views.{Hosts, hosts}
use Rattle.monitor_serving.proofs.Alone.{goes_on}
use Rattle.monitor_serving.proofs.Turns.{all_last_on, all_last_self, listener_on}
use Rattle.monitor_serving.proofs.serving.serve_all.Goals as goal

pub loop-init : goal.loop-init
loop-init g c = record {
  can = tt;
  finite = tt;
  on = λ tell tells s first old. old;
  last = all_last_self (hosts (known_with (g.W.TurnObjects.known c.args.with.now) (g.K.Sink.known c.args.sink.now))
      (g.F.Files.known c.args.files.now));
  listener = lasts_same (g.M.Listener.known c.args.listener.now).health;
  stays = λ tells. refl;
  gated = c.requires;
}

pub loop-preserved : goal.loop-preserved
loop-preserved g c =
    let M = g.M.Listener in
    let next = c.serve_next-end in
    let start : Hosts = hosts (known_with (g.W.TurnObjects.known c.args.with.now) (g.K.Sink.known c.args.sink.now))
    (g.F.Files.known c.args.files.now) in
    let before : Hosts = hosts (known_with (g.W.TurnObjects.known c.loop.with) (g.K.Sink.known c.loop.sink))
    (g.F.Files.known c.loop.files) in
    let after : Hosts = hosts (known_with (g.W.TurnObjects.known next.new.with) (g.K.Sink.known next.new.sink))
    (g.F.Files.known next.new.files) in
    record {
      can = tt;
      finite = tt;
      on = λ tell tells s first old.
          c.in_default.ensures.goes
          (record {
            trace = c.loop.invariant.last.trace.still tell.trace;
            sink = c.loop.invariant.last.sink.still tell.sink;
            files = c.loop.invariant.last.files.still tell.files;
          })
          (c.loop.invariant.listener.still tells) s first (c.loop.invariant.on tell tells s first old);
      last = all_last_on start before after c.loop.invariant.last next.ensures.lasts;
      listener = lasts_more (M.known c.args.listener.now).health (M.known c.loop.listener).health (M.known next.new.listener).health
          c.loop.invariant.listener next.ensures.listener_lasts;
      stays = listener_on (M.known c.args.listener.now) (M.known c.loop.listener) (M.known next.new.listener) c.loop.invariant.listener
          c.loop.invariant.stays next.ensures.listener_stays;
      gated = next.ensures.gated.is;
    }

pub returns-in-Some-end-clause-serves : goal.returns-in-Some-end-clause-serves
returns-in-Some-end-clause-serves g c =
    let M = g.M.Listener in
    let next = c.serve_next-end in
    let start : Hosts = hosts (known_with (g.W.TurnObjects.known c.args.with.now) (g.K.Sink.known c.args.sink.now))
    (g.F.Files.known c.args.files.now) in
    let before : Hosts = hosts (known_with (g.W.TurnObjects.known c.loop.with) (g.K.Sink.known c.loop.sink))
    (g.F.Files.known c.loop.files) in
    let after : Hosts = hosts (known_with (g.W.TurnObjects.known next.new.with) (g.K.Sink.known next.new.sink))
    (g.F.Files.known next.new.files) in
    λ tell tells.
    goes_on (place c.args.monitor.now start (M.known c.args.listener.now)) (place c.loop.monitor before (M.known c.loop.listener))
    (place next.new.monitor after (M.known next.new.listener)) (c.loop.invariant.on tell tells) (Some c.in-Some-end.end)
    (c.in-Some-end.ensures.goes
    (record {
      trace = c.loop.invariant.last.trace.still tell.trace;
      sink = c.loop.invariant.last.sink.still tell.sink;
      files = c.loop.invariant.last.files.still tell.files;
    })
    (c.loop.invariant.listener.still tells))
