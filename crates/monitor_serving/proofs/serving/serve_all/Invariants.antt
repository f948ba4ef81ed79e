use Rattle.serve_host.specs.Listening.{ListenerStays}
use Rattle.vm_outside.specs.Known.{Lasts, Tells}
use Rattle.monitor_running.specs.Objects.{known_with}
use Rattle.monitor_serving.specs.declared.served.Served.TheVariants as served
use Rattle.monitor_serving.specs.Connections.{Serves, place}
use Rattle.monitor_serving.specs.Gating.{IsGated}
use Rattle.monitor_serving.specs.Views.{AllLast, AllTell, Hosts, hosts}
use Rattle.monitor_serving.proofs.serving.serve_all.Given as goal

abbrev pub invariant-loop : goal.invariant-loop
invariant-loop g l =
    let before : Hosts =
    hosts (known_with (g.W.TurnObjects.known l.fn.with) (g.K.Sink.known l.fn.sink)) (g.F.Files.known l.fn.files) in
    let now : Hosts = hosts (known_with (g.W.TurnObjects.known l.with) (g.K.Sink.known l.sink)) (g.F.Files.known l.files) in
    let M = g.M.Listener in
    record {
      can : (goal.iterator-loop g).can_next l.iterator';
      finite : (goal.iterator-loop g).is_finite l.iterator';
      on : AllTell before → Tells (M.known l.fn.listener).health
          → Serves served.Ended (place l.fn.monitor before (M.known l.fn.listener)) (place l.monitor now (M.known l.listener));
      last : AllLast before now;
      listener : Lasts (M.known l.fn.listener).health (M.known l.listener).health;
      stays : ListenerStays (M.known l.fn.listener) (M.known l.listener);
      gated : IsGated l.gating;
    }
