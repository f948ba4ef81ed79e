use Rattle.std.proofs.Common.{◌≡◌, length}
use Rattle.vm_outside.specs.Known.{Lasts, Tells}
use Rattle.serve_host.specs.Passing.{Waits}
use Rattle.monitor_serving.proofs.listening.listen.Given as goal

abbrev pub invariant-loop : goal.invariant-loop
invariant-loop g l =
    let N = g.N.Conn in
    record {
      can : (goal.iterator-loop g).can_next l.iterator';
      finite : (goal.iterator-loop g).is_finite l.iterator';
      waits : Tells (N.known l.fn.conn).health → Waits (N.known l.fn.conn) (N.known l.conn);
      took : Tells (N.known l.fn.conn).health → (N.known l.conn).took ≡ (N.known l.fn.conn).took;
      kept : (N.known l.conn).health.faults ≡ (N.known l.fn.conn).health.faults;
      lasts : Lasts (N.known l.fn.conn).health (N.known l.conn).health;
      pass : l.pass.0 ≡ l.gate;
      opened : l.pass.1.openings ≡ l.fn.pass.1.openings;
      room : length l.buf.items ≡ length l.fn.buf.items;
    }
