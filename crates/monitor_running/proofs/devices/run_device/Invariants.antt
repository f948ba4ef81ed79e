use Rattle.std.proofs.Common.{◌≡◌, ◌+◌, ◌<◌, ◌≤◌, vec_capacity, vec_len}
use Rattle.port_table.specs.Window.{most_ports}
use Rattle.vm_world.specs.Worlds.{WorldValue}
use Rattle.monitor_machine.specs.Kinds.{DevicesKnown}
use Rattle.monitor_running.specs.Devices.{HaveActed}
use Rattle.monitor_running.specs.Objects.{with_devices}
use Rattle.monitor_running.proofs.devices.run_device.Given as goal

abbrev pub invariant-loop-made : goal.invariant-loop-made
invariant-loop-made g l =
    let all = g.W.TurnObjects.known in
    record {
      acted : (first : WorldValue) (asked : DevicesKnown) → l.device < most_ports
          → HaveActed l.fn.events.items first l.fn.world asked (all l.fn.with).host.devices
          → HaveActed l.events.items first l.world asked (all l.with).host.devices;
      beside : all l.with ≡ with_devices (all l.fn.with) (all l.with).host.devices;
      room : vec_capacity l.events ≡ vec_capacity l.fn.events;
      most : vec_len l.events ≤ vec_len l.fn.events + l._made;
    }
