use Rattle.std.proofs.Common.{◌≡◌, ◌*◌, ◌≤◌, [], vec_capacity, vec_len}
use Rattle.monitor_running.specs.Devices.{HaveActed}
use Rattle.monitor_running.specs.Objects.{with_devices}
use Rattle.monitor_running.proofs.devices.run_devices.Given as goal

abbrev pub invariant-loop-number : goal.invariant-loop-number
invariant-loop-number g l =
    let all = g.W.TurnObjects.known in
    record {
      acted : HaveActed l.events.items l.fn.world l.world (all l.fn.with).host.devices (all l.with).host.devices;
      beside : all l.with ≡ with_devices (all l.fn.with) (all l.with).host.devices;
      none : l.devices ≡ 0 → l.events.items ≡ [];
      most : vec_len l.events ≤ l.number * l.most;
      room : l.devices * l.most ≤ vec_capacity l.events;
    }
