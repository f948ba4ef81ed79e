use Rattle.std.proofs.Common.{◌≡◌, ◌-◌, ◌≤◌, ◌++◌, length, take}
use Rattle.vm_outside.specs.Known.{Tells}
use Rattle.serve_host.specs.Passing.{Waits}
use Rattle.serve_host.proofs.sending.put_all.Given as goal

abbrev pub invariant-loop-sent : goal.invariant-loop-sent
invariant-loop-sent g l =
    let known = g.C.Conn.known in
    record {
      bound : l.sent ≤ length l.bytes;
      still : Tells (known l.fn.conn).health → Tells (known l.conn).health;
      kept : (known l.conn).health.faults ≡ (known l.fn.conn).health.faults;
      taken : Tells (known l.fn.conn).health → (known l.conn).took ≡ (known l.fn.conn).took ++ take l.sent l.bytes;
      waits : Tells (known l.fn.conn).health → Waits (known l.fn.conn) (known l.conn);
    }

abbrev pub decreases-loop-sent : goal.decreases-loop-sent
decreases-loop-sent g l = length l.bytes - l.sent
