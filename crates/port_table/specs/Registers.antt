-- The registers, one row each (VIRTIO 1.2, 4.2.2, "MMIO Device Register Layout"): where it is, what a read shows, and
-- what a write leaves. What has no row reads 0 and ignores what is written.
use Rattle.std.specs.Prelude.{ℕ, ◌+◌, ◌-◌, ◌*◌, ◌/◌, ◌%◌, ◌^◌, ◌==◌, Bool, true, ◌&&◌, not, if◌then◌else◌, List, [], ◌∷◌, Option, Some, None, bit_and}
use Rattle.std.specs.Int.{bit_not, w32}
use Rattle.port_table.specs.declared.kind.Feature.TheVariants.{Version1}
use Rattle.port_table.specs.declared.register.Register.{Register}
use Rattle.port_table.specs.declared.register.Register.TheVariants.{MagicValue, Version, DeviceId, VendorId, DeviceFeatures, DeviceFeaturesSel, DriverFeatures, DriverFeaturesSel, QueueSel, QueueNumMax, QueueNum, QueueReady, QueueNotify, InterruptStatus, InterruptAck, Status, QueueDescLow, QueueDescHigh, QueueDriverLow, QueueDriverHigh, QueueDeviceLow, QueueDeviceHigh, ConfigGeneration}
use Rattle.port_table.specs.declared.state.PortQueue.{PortQueue}
use Rattle.port_table.specs.declared.state.PortState.{PortState}
use Rattle.port_table.specs.Kinds.{device_id, feature_bit}
use Rattle.port_table.specs.Ports.{as_new, is_queue, queue, with_queue}

abbrev pub registers : List (ℕ × Register)
registers =
    (0x000, MagicValue)
    ∷ (0x004, Version)
    ∷ (0x008, DeviceId)
    ∷ (0x00c, VendorId)
    ∷ (0x010, DeviceFeatures)
    ∷ (0x014, DeviceFeaturesSel)
    ∷ (0x020, DriverFeatures)
    ∷ (0x024, DriverFeaturesSel)
    ∷ (0x030, QueueSel)
    ∷ (0x034, QueueNumMax)
    ∷ (0x038, QueueNum)
    ∷ (0x044, QueueReady)
    ∷ (0x050, QueueNotify)
    ∷ (0x060, InterruptStatus)
    ∷ (0x064, InterruptAck)
    ∷ (0x070, Status)
    ∷ (0x080, QueueDescLow)
    ∷ (0x084, QueueDescHigh)
    ∷ (0x090, QueueDriverLow)
    ∷ (0x094, QueueDriverHigh)
    ∷ (0x0a0, QueueDeviceLow)
    ∷ (0x0a4, QueueDeviceHigh)
    ∷ (0x0fc, ConfigGeneration)
    ∷ []

abbrev pub register_in : List (ℕ × Register) → ℕ → Option Register
register_in [] offset = None
register_in (row ∷ rows) offset = if offset == row.0 then Some row.1 else register_in rows offset

abbrev pub register_at : ℕ → Option Register
register_at offset = register_in registers offset

-- the halves of a number of 64 bits, and the number with another half
abbrev pub low_half : ℕ → ℕ
low_half n = n % 2 ^ 32

abbrev pub high_half : ℕ → ℕ
high_half n = n / 2 ^ 32

abbrev pub with_low_half : ℕ → ℕ → ℕ
with_low_half n value = 2 ^ 32 * high_half n + value

abbrev pub with_high_half : ℕ → ℕ → ℕ
with_high_half n value = 2 ^ 32 * value + low_half n

-- of features, a selector of 0 means the low half and 1 the high half; there are no others
abbrev pub features_shown : ℕ → ℕ → ℕ
features_shown features select =
    if select == 0 then low_half features else if select == 1 then high_half features else 0

abbrev pub features_written : ℕ → ℕ → ℕ → ℕ
features_written features select value =
    if select == 0 then with_low_half features value
    else if select == 1 then with_high_half features value
    else features

-- the queue that QueueSel names, if the device has it; else what is read of it is 0, and what is written is ignored
abbrev pub of_queue : PortState → (PortQueue → ℕ) → ℕ
of_queue p shown = if is_queue p p.queue_select then shown (queue p p.queue_select) else 0

abbrev pub to_queue : PortState → (PortQueue → PortQueue) → PortState
to_queue p written =
    if is_queue p p.queue_select then with_queue p p.queue_select (written (queue p p.queue_select)) else p

-- the largest size of a queue
abbrev pub queue_num_max : ℕ
queue_num_max = 256

-- the bits of Status that the port knows (VIRTIO 1.2, 2.1)
abbrev pub driver_ok : ℕ
driver_ok = 4

abbrev pub features_ok : ℕ
features_ok = 8

abbrev pub needs_reset : ℕ
needs_reset = 64

abbrev pub has_bits : ℕ → ℕ → Bool
has_bits n bits = bit_and n bits == bits

-- the features that the driver accepted: each was offered, and VIRTIO_F_VERSION_1 is among them (VIRTIO 1.2, 2.2.2 and 6.2)
abbrev pub are_good : ℕ → ℕ → Bool
are_good offered accepted = has_bits offered accepted && (accepted / 2 ^ feature_bit Version1 % 2 == 1)

-- FEATURES_OK stays clear where the device doesn't take the driver's features (VIRTIO 1.2, 2.2.2 and 3.1.1)
abbrev pub status_taken : PortState → ℕ → ℕ
status_taken p value =
    if has_bits value features_ok && not (are_good p.offered p.accepted) then value - features_ok else value

-- A write of 0 asks for a reset, which the device's next look makes; until then Status keeps its value. Where Status is
-- 0 there is nothing to wait for: a driver that reads 0 holds the reset for done (VIRTIO 1.2, 2.4.2), so the port is as
-- new at once.
abbrev pub status_written : PortState → ℕ → PortState
status_written p value =
    if p.is_reset_asked then p
    else if not (value == 0) then record p { status = status_taken p value }
    else if p.status == 0 then as_new p
    else record p { is_reset_asked = true }

-- the queue of this number has buffers for the device, if the device has it
abbrev pub notified : PortState → ℕ → PortState
notified p k = if is_queue p k then with_queue p k (record (queue p k) { is_kicked = true }) else p

-- what a read shows
abbrev pub register_value : PortState → Register → ℕ
register_value p MagicValue = 0x74726976
register_value p Version = 2
register_value p DeviceId = device_id p.kind
register_value p DeviceFeatures = features_shown p.offered p.offered_select
register_value p QueueNumMax = of_queue p (λ q. queue_num_max)
register_value p QueueReady = of_queue p (λ q. q.ready)
register_value p InterruptStatus = p.interrupt_status
register_value p Status = p.status
register_value p ConfigGeneration = p.config_generation
register_value p register = 0

-- what a write leaves
abbrev pub register_after : PortState → Register → ℕ → PortState
register_after p DeviceFeaturesSel value = record p { offered_select = value }
register_after p DriverFeatures value =
    record p { accepted = features_written p.accepted p.accepted_select value }
register_after p DriverFeaturesSel value = record p { accepted_select = value }
register_after p QueueSel value = record p { queue_select = value }
register_after p QueueNum value = to_queue p (λ q. record q { size = value })
register_after p QueueReady value = to_queue p (λ q. record q { ready = value })
register_after p QueueNotify value = notified p value
register_after p InterruptAck value =
    record p { interrupt_status = bit_and p.interrupt_status (bit_not w32 value) }
register_after p Status value = status_written p value
register_after p QueueDescLow value =
    to_queue p (λ q. record q { descriptors = with_low_half q.descriptors value })
register_after p QueueDescHigh value =
    to_queue p (λ q. record q { descriptors = with_high_half q.descriptors value })
register_after p QueueDriverLow value =
    to_queue p (λ q. record q { available = with_low_half q.available value })
register_after p QueueDriverHigh value =
    to_queue p (λ q. record q { available = with_high_half q.available value })
register_after p QueueDeviceLow value = to_queue p (λ q. record q { used = with_low_half q.used value })
register_after p QueueDeviceHigh value = to_queue p (λ q. record q { used = with_high_half q.used value })
register_after p register value = p
