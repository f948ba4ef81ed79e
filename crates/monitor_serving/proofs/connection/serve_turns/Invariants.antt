use Rattle.vm_outside.specs.Known.{Lasts, Tells}
use Rattle.monitor_running.specs.Objects.{known_with}
use Rattle.monitor_serving.specs.Gating.{IsGated}
use Rattle.monitor_serving.specs.Turns.{GoesOn}
use Rattle.monitor_serving.specs.Views.{AllLast, AllTell, Hosts, hosts, view}
use Rattle.monitor_serving.proofs.connection.serve_turns.Given as goal

abbrev pub invariant-loop : goal.invariant-loop
invariant-loop g l =
    let before : Hosts =
    hosts (known_with (g.W.TurnObjects.known l.fn.with) (g.K.Sink.known l.fn.sink)) (g.F.Files.known l.fn.files) in
    let now : Hosts = hosts (known_with (g.W.TurnObjects.known l.with) (g.K.Sink.known l.sink)) (g.F.Files.known l.files) in
    let N = g.N.Conn in
    record {
      can : (goal.iterator-loop g).can_next l.iterator';
      finite : (goal.iterator-loop g).is_finite l.iterator';
      on : AllTell before → Tells (N.known l.fn.conn).health
          → GoesOn (view l.fn.monitor before (N.known l.fn.conn)) (view l.monitor now (N.known l.conn));
      last : AllLast before now;
      conn : Lasts (N.known l.fn.conn).health (N.known l.conn).health;
      gated : IsGated l.gating;
    }
