-- What each act on a port is answered, and what it leaves.
use Rattle.std.specs.Prelude.{ℕ, ◌+◌, ◌-◌, ◌%◌, ◌^◌, ◌==◌, min, nat_le, Bool, true, false, ◌&&◌, if◌then◌else◌, List, length, bit_and, bit_or, map}
use Rattle.vm_types.specs.declared.ids.ActorId.{ActorId}
use Rattle.vm_types.specs.declared.op.Op.{Op}
use Rattle.vm_types.specs.declared.op.PortOp.{PortOp}
use Rattle.vm_types.specs.declared.op.PortOp.TheVariants as act
use Rattle.vm_types.specs.declared.port_look.Accepted.{Accepted}
use Rattle.vm_types.specs.declared.port_look.PortLook.{PortLook}
use Rattle.vm_types.specs.declared.port_look.QueueShown.{QueueShown}
use Rattle.vm_types.specs.declared.reply.Reply.{Reply}
use Rattle.port_table.specs.declared.kind.Feature.{Feature}
use Rattle.port_table.specs.declared.kind.Feature.TheVariants.{EventIndex, IndirectDescriptors}
use Rattle.port_table.specs.declared.state.PortQueue.{PortQueue}
use Rattle.port_table.specs.declared.state.PortState.{PortState}
use Rattle.port_table.specs.Access.{after_bytes, bytes_read}
use Rattle.port_table.specs.Kinds.{feature_mask}
use Rattle.port_table.specs.Ports.{as_new, queue, with_config}
use Rattle.port_table.specs.Registers.{driver_ok, has_bits, needs_reset}
use Rattle.port_table.specs.Window.{is_in_one, port_offset}

-- what a look shows of a queue: one is ready by a 1 in QueueReady alone, and a size that 16 bits don't hold is shown as
-- the largest that they do, which is no size of a queue either
abbrev pub queue_shown : PortQueue → QueueShown
queue_shown q = record {
  descriptors = q.descriptors;
  available = q.available;
  used = q.used;
  size = min q.size (2 ^ 16 - 1);
  is_ready = q.ready == 1;
  is_kicked = q.is_kicked;
}

-- the driver's bits count where they are offered, whether or not FEATURES_OK was set
abbrev pub is_accepted : PortState → Feature → Bool
is_accepted p f = has_bits (bit_and p.accepted p.offered) (feature_mask f)

abbrev pub accepted_shown : PortState → Accepted
accepted_shown p = record { indirect = is_accepted p IndirectDescriptors; event_index = is_accepted p EventIndex }

abbrev pub port_shown : Bool → PortState → PortLook
port_shown was_reset p = record {
  first = queue_shown (queue p 0);
  second = queue_shown (queue p 1);
  third = queue_shown (queue p 2);
  accepted = accepted_shown p;
  status = p.status;
  was_reset = was_reset;
}

abbrev pub without_kick : PortQueue → PortQueue
without_kick q = record q { is_kicked = false }

abbrev pub without_kicks : PortState → PortState
without_kicks p = record p { queues = map without_kick p.queues }

-- A device's look makes the reset that was asked for, and shows the port as it then is. It takes the kicks.
abbrev pub look : PortState → Reply × PortState
look p =
    if p.is_reset_asked then (Reply.Port (port_shown true (as_new p)), as_new p)
    else (Reply.Port (port_shown false p), without_kicks p)

-- these bits of InterruptStatus are set: 1 a used buffer, 2 a configuration change (VIRTIO 1.2, 4.2.2)
abbrev pub interrupted : PortState → ℕ → PortState
interrupted p causes = record p { interrupt_status = bit_or p.interrupt_status (causes % 2 ^ 32) }

abbrev pub configuration_change : ℕ
configuration_change = 2

-- The device needs a reset (VIRTIO 1.2, 2.1.2): DEVICE_NEEDS_RESET is set, and where DRIVER_OK is, the driver is told by a
-- configuration interrupt. The reply is 1 where it is.
abbrev pub broken : PortState → Reply × PortState
broken p =
    let marked : PortState = record p { status = bit_or p.status needs_reset } in
    if has_bits p.status driver_ok then (Reply.Word 1, interrupted marked configuration_change)
    else (Reply.Word 0, marked)

-- an act of the device
abbrev pub port_act : PortState → PortOp → Reply × PortState
port_act p act.Look = look p
port_act p (act.Interrupt causes) = (Reply.Done, interrupted p causes)
port_act p act.Break = broken p

-- An act on a port, by its device or a hart. A port doesn't know its number: which port an op is for, is told by where
-- the op acts. A piece has at most 64 bytes. All else is an access fault, and changes nothing.
abbrev pub touch : PortState → ActorId → Op → Reply × PortState
touch p actor (Op.Port port act) = port_act p act
touch p actor (Op.Read at len) =
    if nat_le len 64 && is_in_one at len then (Reply.Bytes (bytes_read p (port_offset at) len), p) else (Reply.AccessFault, p)
touch p actor (Op.Write at piece) =
    if is_in_one at (length piece) then (Reply.Done, after_bytes p (port_offset at) piece) else (Reply.AccessFault, p)
touch p actor op = (Reply.AccessFault, p)

-- the ops that a port answers
abbrev pub is_port_op : Op → Bool
is_port_op (Op.Board act) = false
is_port_op (Op.Out act) = false
is_port_op Op.Idle = false
is_port_op op = true

-- The device's configuration becomes another: these bytes are its first ones, the rest stays, ConfigGeneration changes
-- (VIRTIO 1.2, 4.2.2.1), and the driver is told by a configuration interrupt.
abbrev pub configured : PortState → List ℕ → PortState
configured p bytes =
    let told : PortState = interrupted p configuration_change in
    record told { config = with_config p.kind p.config bytes; config_generation = (p.config_generation + 1) % 2 ^ 32 }
