-- The states that a port may be in, as a test. What the driver may write freely, as Status, the selectors and the fields of
-- the device's queues, is free here too.
use Rattle.std.specs.Prelude.{ℕ, ◌==◌, Bool, ◌&&◌, ◌||◌, not, if◌then◌else◌, List, drop}
use Rattle.std.specs.List.{list_all}
use Rattle.port_table.specs.declared.kind.DeviceKind.{DeviceKind}
use Rattle.port_table.specs.declared.kind.Feature.TheVariants.{EventIndex, IndirectDescriptors, Version1}
use Rattle.port_table.specs.declared.state.PortQueue.{PortQueue}
use Rattle.port_table.specs.declared.state.PortState.{PortState}
use Rattle.port_table.specs.Kinds.{config_length, feature_mask, queue_count}
use Rattle.port_table.specs.Registers.{has_bits}

-- a queue that the driver hasn't set up
abbrev pub is_new : PortQueue → Bool
is_new q =
    (q.descriptors == 0) && (q.available == 0) && (q.used == 0) && (q.size == 0) && (q.ready == 0) && not q.is_kicked

abbrev pub is_zero : ℕ → Bool
is_zero b = b == 0

-- the queues that the device doesn't have are as new
abbrev pub has_queues : DeviceKind → List PortQueue → Bool
has_queues kind queues = list_all is_new (drop (queue_count kind) queues)

-- and the bytes behind its configuration are 0
abbrev pub has_config : DeviceKind → List ℕ → Bool
has_config kind config = list_all is_zero (drop (config_length kind) config)

-- indirect descriptors and the event index are offered together, or neither is
abbrev pub offers_alike : ℕ → Bool
offers_alike offered =
    if has_bits offered (feature_mask IndirectDescriptors) then has_bits offered (feature_mask EventIndex)
    else not (has_bits offered (feature_mask EventIndex))

-- VIRTIO_F_VERSION_1 is offered (VIRTIO 1.2, 6.2); and where Status is 0 no reset is waited for (2.4.2)
abbrev pub is_state : PortState → Bool
is_state p =
    has_bits p.offered (feature_mask Version1) && offers_alike p.offered && has_queues p.kind p.queues
    && has_config p.kind p.config && (not p.is_reset_asked || not (p.status == 0))
