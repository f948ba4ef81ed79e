-- Each act on a port leaves its kind.
use Rattle.std.proofs.Common.{◌≡◌, ℕ, ◌-◌, ◌==◌, ◌&&◌, nat_le, nat_lt, Bool, true, false, not, if◌then◌else◌, List, length, Option, Some, None, bit_or, refl}
use Rattle.vm_types.specs.declared.ids.ActorId.{ActorId}
use Rattle.vm_types.specs.declared.op.Op.{Op}
use Rattle.vm_types.specs.declared.op.PortOp.{PortOp}
use Rattle.vm_types.specs.declared.op.PortOp.TheVariants as act
use Rattle.vm_types.specs.declared.reply.Reply.{Reply}
use Rattle.le_fields.specs.Fields.{little_endian}
use Rattle.port_table.specs.declared.register.Register.{Register}
use Rattle.port_table.specs.declared.register.Register.TheVariants as register
use Rattle.port_table.specs.declared.state.PortQueue.{PortQueue}
use Rattle.port_table.specs.declared.state.PortState.{PortState}
use Rattle.port_table.specs.Access.{after_bytes, after_write, bytes_read, config_after, config_start, is_config_width, is_word}
use Rattle.port_table.specs.Acts.{configuration_change, interrupted, port_act, port_shown, touch, without_kicks}
use Rattle.port_table.specs.Ports.{as_new, is_queue, queue, with_queue}
use Rattle.port_table.specs.Registers.{driver_ok, has_bits, needs_reset, register_after, register_at, status_taken, status_written, to_queue, with_high_half, with_low_half}
use Rattle.port_table.specs.Window.{is_in_one, port_offset}

-- the same kind
abbrev Same : PortState → PortState → Type 0
Same p q = q.kind ≡ p.kind

module _ (p : PortState) where
  either : (b : Bool) (x y : PortState) → Same p x → Same p y → Same p (if b then x else y)
  either true x y first second = first
  either false x y first second = second

  answered : (b : Bool) (x y : Reply × PortState) → Same p x.1 → Same p y.1 → Same p (if b then x else y).1
  answered true x y first second = first
  answered false x y first second = second

  to_same : (f : PortQueue → PortQueue) → Same p (to_queue p f)
  to_same f = either (is_queue p p.queue_select) (with_queue p p.queue_select (f (queue p p.queue_select))) p refl refl

  status_same : (value : ℕ) → Same p (status_written p value)
  status_same value =
      let taken : PortState = record p { status = status_taken p value } in
      let waiting : PortState = record p { is_reset_asked = true } in
      either p.is_reset_asked p (if not (value == 0) then taken else if p.status == 0 then as_new p else waiting) refl
      (either (not (value == 0)) taken (if p.status == 0 then as_new p else waiting) refl
      (either (p.status == 0) (as_new p) waiting refl refl))

  register_same : (r : Register) (value : ℕ) → Same p (register_after p r value)
  register_same register.DeviceFeaturesSel value = refl
  register_same register.DriverFeatures value = refl
  register_same register.DriverFeaturesSel value = refl
  register_same register.QueueSel value = refl
  register_same register.QueueNum value = to_same (λ q. record q { size = value })
  register_same register.QueueReady value = to_same (λ q. record q { ready = value })
  register_same register.QueueNotify value =
      either (is_queue p value) (with_queue p value (record (queue p value) { is_kicked = true })) p refl refl
  register_same register.InterruptAck value = refl
  register_same register.Status value = status_same value
  register_same register.QueueDescLow value = to_same (λ q. record q { descriptors = with_low_half q.descriptors value })
  register_same register.QueueDescHigh value = to_same (λ q. record q { descriptors = with_high_half q.descriptors value })
  register_same register.QueueDriverLow value = to_same (λ q. record q { available = with_low_half q.available value })
  register_same register.QueueDriverHigh value = to_same (λ q. record q { available = with_high_half q.available value })
  register_same register.QueueDeviceLow value = to_same (λ q. record q { used = with_low_half q.used value })
  register_same register.QueueDeviceHigh value = to_same (λ q. record q { used = with_high_half q.used value })
  register_same r value = refl

  write_same : (r : Option Register) (value : ℕ) → Same p (after_write p r value)
  write_same None value = refl
  write_same (Some r) value = register_same r value

  bytes_same : (offset : ℕ) (piece : List ℕ) → Same p (after_bytes p offset piece)
  bytes_same offset piece =
      let written : PortState = after_write p (register_at offset) (little_endian piece) in
      let config : PortState = record p { config = config_after p.kind p.config (offset - config_start) piece } in
      either (nat_lt offset config_start) (if is_word offset (length piece) then written else p)
      (if is_config_width (length piece) then config else p)
      (either (is_word offset (length piece)) written p (write_same (register_at offset) (little_endian piece)) refl)
      (either (is_config_width (length piece)) config p refl refl)

  act_same : (a : PortOp) → Same p (port_act p a).1
  act_same act.Look =
      answered p.is_reset_asked (Reply.Port (port_shown true (as_new p)), as_new p) (Reply.Port (port_shown false p), without_kicks p) refl refl
  act_same (act.Interrupt causes) = refl
  act_same act.Break =
      let marked : PortState = record p { status = bit_or p.status needs_reset } in
      answered (has_bits p.status driver_ok) (Reply.Word 1, interrupted marked configuration_change) (Reply.Word 0, marked) refl refl

  pub touch_same : (actor : ActorId) (op : Op) → (touch p actor op).1.kind ≡ p.kind
  touch_same actor (Op.Port port a) = act_same a
  touch_same actor (Op.Read at len) =
      answered (nat_le len 64 && is_in_one at len) (Reply.Bytes (bytes_read p (port_offset at) len), p) (Reply.AccessFault, p) refl refl
  touch_same actor (Op.Write at piece) =
      answered (is_in_one at (length piece)) (Reply.Done, after_bytes p (port_offset at) piece) (Reply.AccessFault, p)
      (bytes_same (port_offset at) piece) refl
  touch_same actor op = refl
