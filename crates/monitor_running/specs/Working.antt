-- Which devices have something to do.
use Rattle.std.specs.Prelude.{ℕ, ◌≡◌, ◌<◌, Bool, true, false, ◌||◌, Option, Some, None, length, slice_get}
use Rattle.std.specs.List.{list_any}
use Rattle.vm_types.specs.declared.ids.ActorId.{ActorId}
use Rattle.vm_types.specs.declared.op.Op.{Op}
use Rattle.vm_types.specs.declared.op.PortOp.TheVariants as act
use Rattle.port_table.specs.declared.state.PortQueue.{PortQueue}
use Rattle.port_table.specs.declared.state.PortState.{PortState}
use Rattle.port_table.specs.Window.{most_ports}
use Rattle.vm_world.specs.Worlds.{WorldValue, want_in}

-- the driver asked for a reset, or kicked a queue, which the device's next look at its port finds
abbrev pub is_called : PortState → Bool
is_called port = port.is_reset_asked || list_any (λ (queue : PortQueue). queue.is_kicked) port.queues

abbrev pub is_called_at : Option PortState → Bool
is_called_at None = false
is_called_at (Some port) = is_called port

-- a device that waits, or looks at its port, has only what is there; one in the middle of something has that
abbrev pub works_by : Option Op → Bool → Bool
works_by None called = false
works_by (Some Op.Idle) called = called
works_by (Some (Op.Port port act.Look)) called = called
works_by (Some op) called = true

abbrev pub works_in : WorldValue → ℕ → Bool
works_in w k = works_by (want_in w (ActorId.Device k)) (is_called_at (slice_get w.ports k))

-- a device that is there has something to do
abbrev pub HasWork : WorldValue → Type 0
HasWork w = (k : ℕ) × (k < most_ports) × (k < length w.devices) × (works_in w k ≡ true)
