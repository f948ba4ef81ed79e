-- Ports as new: at the start, and after a reset.
use Rattle.std.specs.Prelude.{ℕ, ◌+◌, ◌-◌, nat_lt, Bool, false, List, ◌++◌, length, take, drop, replicate, bit_or, slice_index_or, slice_set}
use Rattle.port_table.specs.declared.kind.DeviceKind.{DeviceKind}
use Rattle.port_table.specs.declared.kind.DeviceKind.TheVariants.{Balloon}
use Rattle.port_table.specs.declared.kind.Feature.TheVariants.{EventIndex, IndirectDescriptors, Version1}
use Rattle.port_table.specs.declared.state.PortQueue.{PortQueue}
use Rattle.port_table.specs.declared.state.PortState.{PortState}
use Rattle.port_table.specs.Kinds.{config_length, feature_mask, queue_count}

-- a queue that the driver hasn't set up
abbrev pub new_queue : PortQueue
new_queue = record { descriptors = 0; available = 0; used = 0; size = 0; ready = 0; is_kicked = false }

-- The port of a device of this kind that offers these features, with VIRTIO_F_VERSION_1 among them (VIRTIO 1.2, 6.2),
-- and has this configuration. Every register that the driver sets is 0.
abbrev pub port_of : DeviceKind → ℕ → List ℕ → PortState
port_of kind offered config = record {
  offered = bit_or offered (feature_mask Version1);
  accepted = 0;
  queues = replicate 3 new_queue;
  offered_select = 0;
  accepted_select = 0;
  queue_select = 0;
  interrupt_status = 0;
  status = 0;
  config_generation = 0;
  config = config;
  kind = kind;
  is_reset_asked = false;
}

-- these bytes with a piece written over them from a place on, of which what doesn't fit is lost
abbrev pub put_over : List ℕ → ℕ → List ℕ → List ℕ
put_over bytes at piece = take at bytes ++ take (length bytes - at) piece ++ drop (at + length piece) bytes

-- these bytes in place of the first ones of the configuration, of which what the device doesn't have is lost
abbrev pub with_config : DeviceKind → List ℕ → List ℕ → List ℕ
with_config kind config bytes = put_over config 0 (take (config_length kind) bytes)

-- what every new device offers of its queues. One that is loaded offers what its file says
abbrev pub queue_features : ℕ
queue_features = bit_or (feature_mask IndirectDescriptors) (feature_mask EventIndex)

abbrev pub new_port : DeviceKind → ℕ → List ℕ → PortState
new_port kind offered bytes = port_of kind (bit_or offered queue_features) (with_config kind (replicate 8 0) bytes)

-- A reset leaves what the device says of itself: its features and its configuration. What the driver wrote of that, the
-- balloon's `actual`, bytes 4 to 7 (VIRTIO 1.2, 5.5.4), is 0 again.
abbrev pub reset_config : DeviceKind → List ℕ → List ℕ
reset_config Balloon config = take 4 config ++ replicate 4 0
reset_config kind config = config

-- the port after a reset (VIRTIO 1.2, 4.2.2.1: "Upon reset, the device MUST clear all bits in InterruptStatus and ready
-- bits in the QueueReady register for all queues in the device"; 2.1.2)
abbrev pub as_new : PortState → PortState
as_new p = port_of p.kind p.offered (reset_config p.kind p.config)

-- the queue of this number is one of the device's
abbrev pub is_queue : PortState → ℕ → Bool
is_queue p k = nat_lt k (queue_count p.kind)

abbrev pub queue : PortState → ℕ → PortQueue
queue p k = slice_index_or p.queues k new_queue

abbrev pub with_queue : PortState → ℕ → PortQueue → PortState
with_queue p k q = record p { queues = slice_set p.queues k q }
