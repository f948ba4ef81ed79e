-- Each act on a port leaves each field with its width, and the kind as it was.
use Rattle.std.proofs.Common.{◌≡◌, ℕ, ◌+◌, ◌-◌, ◌%◌, ◌^◌, ◌==◌, ◌&&◌, nat_le, nat_lt, Bool, true, false, not, if◌then◌else◌, List, ◌++◌, length, take, drop, replicate, map, slice_set, Option, Some, None, bit_and, bit_or, refl, ap, ◌∙◌, arith, length-append, length-drop, length-take}
use Rattle.std.specs.List.{All}
use Rattle.std.specs.Int.{bit_not, w32}
use Rattle.std.proofs.lemmas.Bool.{and_parts, eqb-true, ltb-true, ltb-false}
use Rattle.std.proofs.lemmas.List.{get_or_past, length-map, length-set}
use Rattle.std.proofs.lemmas.List.Elements.{All-append, All-drop, All-get_or, All-map, All-replicate, All-set, All-take}
use Rattle.std.proofs.lemmas.Nat.{and_le_l, or_lt}
use Rattle.vm_types.specs.declared.ids.ActorId.{ActorId}
use Rattle.vm_types.specs.declared.op.Op.{Op}
use Rattle.vm_types.specs.declared.op.PortOp.{PortOp}
use Rattle.vm_types.specs.declared.op.PortOp.TheVariants as act
use Rattle.vm_types.specs.declared.reply.Reply.{Reply}
use Rattle.le_fields.specs.Fields.{IsByte, bytes_of, little_endian}
use Rattle.le_fields.proofs.Values.{all_bytes, value_below}
use Rattle.port_table.specs.declared.kind.DeviceKind.{DeviceKind}
use Rattle.port_table.specs.declared.kind.DeviceKind.TheVariants.{Net, Block, Balloon, Vsock, Entropy}
use Rattle.port_table.specs.declared.kind.Feature.TheVariants.{EventIndex, IndirectDescriptors, Version1}
use Rattle.port_table.specs.declared.register.Register.{Register}
use Rattle.port_table.specs.declared.register.Register.TheVariants as register
use Rattle.port_table.specs.declared.state.PortQueue.{PortQueue}
use Rattle.port_table.specs.declared.state.PortState.{PortState}
use Rattle.port_table.specs.Access.{after_bytes, after_write, bytes_read, config_after, config_bytes, config_start, is_config_width, is_word, value_of}
use Rattle.port_table.specs.Acts.{configuration_change, configured, interrupted, port_act, port_shown, touch, without_kick, without_kicks}
use Rattle.port_table.specs.Kinds.{config_length, feature_mask}
use Rattle.port_table.specs.Ports.{as_new, is_queue, new_port, new_queue, put_over, port_of, queue, queue_features, reset_config, with_config, with_queue}
use Rattle.port_table.specs.Registers.{are_good, driver_ok, features_ok, features_written, has_bits, needs_reset, register_after, register_at, status_taken, status_written, to_queue, with_high_half, with_low_half}
use Rattle.port_table.specs.Sizes.{IsDouble, IsKept, IsSized, IsSizedQueue, IsSmallOp, IsSmallReply, IsWord}
use Rattle.port_table.specs.Window.{is_in_one, port_offset}
use Rattle.port_table.proofs.Kept.{configured_kept, new_kept, put_over_long, touch_kept}

-- ---- a port of this kind, by its parts

record Is (kind : DeviceKind) (p : PortState) : Type 0 where
  kind_is : p.kind ≡ kind
  sized : IsSized p

either : {A : Type 0} (P : A → Type 0) (b : Bool) (x y : A) → (b ≡ true → P x) → (b ≡ false → P y)
    → P (if b then x else y)
either P true x y first second = first refl
either P false x y first second = second refl

-- ---- bytes

put_over_bytes : (bytes : List ℕ) (at : ℕ) (piece : List ℕ) → All IsByte bytes → All IsByte piece
    → All IsByte (put_over bytes at piece)
put_over_bytes bytes at piece old new =
    All-append IsByte (take at bytes ++ take (length bytes - at) piece) (drop (at + length piece) bytes)
    (All-append IsByte (take at bytes) (take (length bytes - at) piece) (All-take IsByte at bytes old)
    (All-take IsByte (length bytes - at) piece new)) (All-drop IsByte (at + length piece) bytes old)

zeros : (n : ℕ) → All IsByte (replicate n 0)
zeros n = All-replicate IsByte n 0 (omega arith)

-- eight bytes, the first four of which are kept
halves : (config others : List ℕ) → length config ≡ 8 → length others ≡ 4 → length (take 4 config ++ others) ≡ 8
halves config others long short = omega (arith, long, short, length-append (take 4 config) others, length-take 4 config)

reset_long : (kind : DeviceKind) (config : List ℕ) → length config ≡ 8 → length (reset_config kind config) ≡ 8
reset_long Balloon config long = halves config (replicate 4 0) long refl
reset_long Net config long = long
reset_long Block config long = long
reset_long Vsock config long = long
reset_long Entropy config long = long

reset_bytes : (kind : DeviceKind) (config : List ℕ) → All IsByte config → All IsByte (reset_config kind config)
reset_bytes Balloon config bytes =
    All-append IsByte (take 4 config) (replicate 4 0) (All-take IsByte 4 config bytes) (zeros 4)
reset_bytes Net config bytes = bytes
reset_bytes Block config bytes = bytes
reset_bytes Vsock config bytes = bytes
reset_bytes Entropy config bytes = bytes

config_long : (kind : DeviceKind) (config : List ℕ) (at : ℕ) (piece : List ℕ) → length config ≡ 8
    → length (config_after kind config at piece) ≡ 8
config_long Balloon config at piece long =
    halves config (drop 4 (put_over config at piece)) long
    (omega (arith, long, put_over_long config at piece, length-drop 4 (put_over config at piece)))
config_long Net config at piece long = long
config_long Block config at piece long = long
config_long Vsock config at piece long = long
config_long Entropy config at piece long = long

config_small : (kind : DeviceKind) (config : List ℕ) (at : ℕ) (piece : List ℕ) → All IsByte config → All IsByte piece
    → All IsByte (config_after kind config at piece)
config_small Balloon config at piece old new =
    All-append IsByte (take 4 config) (drop 4 (put_over config at piece)) (All-take IsByte 4 config old)
    (All-drop IsByte 4 (put_over config at piece) (put_over_bytes config at piece old new))
config_small Net config at piece old new = old
config_small Block config at piece old new = old
config_small Vsock config at piece old new = old
config_small Entropy config at piece old new = old

-- ---- as new

new_sized : IsSizedQueue new_queue
new_sized = record {
  descriptors = omega arith;
  available = omega arith;
  used = omega arith;
  size = omega arith;
  ready = omega arith;
}

port_sized : (kind : DeviceKind) (offered : ℕ) (config : List ℕ) → IsDouble offered → length config ≡ 8 → All IsByte config
    → IsSized (port_of kind offered config)
port_sized kind offered config small long bytes = record {
  offered = or_lt 64 offered (feature_mask Version1) small (omega arith);
  accepted = omega arith;
  offered_select = omega arith;
  accepted_select = omega arith;
  queue_select = omega arith;
  interrupt_status = omega arith;
  status = omega arith;
  config_generation = omega arith;
  many_queues = refl;
  queues = All-replicate IsSizedQueue 3 new_queue new_sized;
  many_bytes = long;
  bytes = bytes;
}

module _ (kind : DeviceKind) (p : PortState) (is : Is kind p) where
  sized : IsSized p
  sized = is.sized

  new_is : Is kind (as_new p)
  new_is = record {
    kind_is = is.kind_is;
    sized =
        port_sized p.kind p.offered (reset_config p.kind p.config) sized.offered (reset_long p.kind p.config sized.many_bytes)
        (reset_bytes p.kind p.config sized.bytes);
  }

  -- ---- fields that change

  with_features : (accepted offered_select accepted_select queue_select : ℕ) → IsDouble accepted → IsWord offered_select
      → IsWord accepted_select → IsWord queue_select
      → Is kind (record p {
        accepted = accepted;
        offered_select = offered_select;
        accepted_select = accepted_select;
        queue_select = queue_select;
      })
  with_features accepted offered_select accepted_select queue_select a b c d = record {
    kind_is = is.kind_is;
    sized = record {
      offered = sized.offered;
      accepted = a;
      offered_select = b;
      accepted_select = c;
      queue_select = d;
      interrupt_status = sized.interrupt_status;
      status = sized.status;
      config_generation = sized.config_generation;
      many_queues = sized.many_queues;
      queues = sized.queues;
      many_bytes = sized.many_bytes;
      bytes = sized.bytes;
    };
  }

  with_state : (interrupt_status status config_generation : ℕ) (asked : Bool) → IsWord interrupt_status → IsWord status
      → IsWord config_generation
      → Is kind (record p {
        interrupt_status = interrupt_status;
        status = status;
        config_generation = config_generation;
        is_reset_asked = asked;
      })
  with_state interrupt_status status config_generation asked a b c = record {
    kind_is = is.kind_is;
    sized = record {
      offered = sized.offered;
      accepted = sized.accepted;
      offered_select = sized.offered_select;
      accepted_select = sized.accepted_select;
      queue_select = sized.queue_select;
      interrupt_status = a;
      status = b;
      config_generation = c;
      many_queues = sized.many_queues;
      queues = sized.queues;
      many_bytes = sized.many_bytes;
      bytes = sized.bytes;
    };
  }

  with_queues : (queues : List PortQueue) → length queues ≡ 3 → All IsSizedQueue queues → Is kind (record p { queues = queues })
  with_queues queues many all = record {
    kind_is = is.kind_is;
    sized = record {
      offered = sized.offered;
      accepted = sized.accepted;
      offered_select = sized.offered_select;
      accepted_select = sized.accepted_select;
      queue_select = sized.queue_select;
      interrupt_status = sized.interrupt_status;
      status = sized.status;
      config_generation = sized.config_generation;
      many_queues = many;
      queues = all;
      many_bytes = sized.many_bytes;
      bytes = sized.bytes;
    };
  }

  with_bytes : (config : List ℕ) → length config ≡ 8 → All IsByte config → Is kind (record p { config = config })
  with_bytes config long bytes = record {
    kind_is = is.kind_is;
    sized = record {
      offered = sized.offered;
      accepted = sized.accepted;
      offered_select = sized.offered_select;
      accepted_select = sized.accepted_select;
      queue_select = sized.queue_select;
      interrupt_status = sized.interrupt_status;
      status = sized.status;
      config_generation = sized.config_generation;
      many_queues = sized.many_queues;
      queues = sized.queues;
      many_bytes = long;
      bytes = bytes;
    };
  }

  -- ---- queues

  queue_by : (k : ℕ) (b : Bool) → nat_lt k (length p.queues) ≡ b → IsSizedQueue (queue p k)
  queue_by k true lt = All-get_or IsSizedQueue p.queues k new_queue (ltb-true k (length p.queues) lt) sized.queues
  queue_by k false lt = rw (get_or_past p.queues k new_queue (ltb-false k (length p.queues) lt)) new_sized

  queue_sized : (k : ℕ) → IsSizedQueue (queue p k)
  queue_sized k = queue_by k (nat_lt k (length p.queues)) refl

  set_is : (k : ℕ) (q : PortQueue) → IsSizedQueue q → Is kind (with_queue p k q)
  set_is k q small =
      with_queues (slice_set p.queues k q) (length-set p.queues k q ∙ sized.many_queues)
      (All-set IsSizedQueue p.queues k q small sized.queues)

  to_is : (f : PortQueue → PortQueue) → ((q : PortQueue) → IsSizedQueue q → IsSizedQueue (f q)) → Is kind (to_queue p f)
  to_is f keeps =
      either (Is kind) (is_queue p p.queue_select) (with_queue p p.queue_select (f (queue p p.queue_select))) p
      (λ on. set_is p.queue_select (f (queue p p.queue_select)) (keeps (queue p p.queue_select) (queue_sized p.queue_select))) (λ off. is)

  low_small : (n value : ℕ) → IsDouble n → IsWord value → IsDouble (with_low_half n value)
  low_small n value first second = omega (arith, first, second)

  high_small : (n value : ℕ) → IsDouble n → IsWord value → IsDouble (with_high_half n value)
  high_small n value first second = omega (arith, first, second)

  at_rings : (q : PortQueue) → IsSizedQueue q → (descriptors available used : ℕ) → IsDouble descriptors → IsDouble available
      → IsDouble used → IsSizedQueue (record q { descriptors = descriptors; available = available; used = used })
  at_rings q small descriptors available used a b c =
      record { descriptors = a; available = b; used = c; size = small.size; ready = small.ready }

  of_size : (q : PortQueue) → IsSizedQueue q → (size ready : ℕ) → IsWord size → IsWord ready
      → IsSizedQueue (record q { size = size; ready = ready })
  of_size q small size ready a b = record {
    descriptors = small.descriptors;
    available = small.available;
    used = small.used;
    size = a;
    ready = b;
  }

  kicked : (q : PortQueue) → IsSizedQueue q → (b : Bool) → IsSizedQueue (record q { is_kicked = b })
  kicked q small b = record {
    descriptors = small.descriptors;
    available = small.available;
    used = small.used;
    size = small.size;
    ready = small.ready;
  }

  -- ---- registers

  features_small : (value : ℕ) → IsWord value → IsDouble (features_written p.accepted p.accepted_select value)
  features_small value small =
      either IsDouble (p.accepted_select == 0) (with_low_half p.accepted value) _ (λ low. low_small p.accepted value sized.accepted small)
      (λ other. either IsDouble (p.accepted_select == 1) (with_high_half p.accepted value) p.accepted
      (λ high. high_small p.accepted value sized.accepted small) (λ none. sized.accepted))

  taken_small : (value : ℕ) → IsWord value → IsWord (status_taken p value)
  taken_small value small =
      either IsWord (has_bits value features_ok && not (are_good p.offered p.accepted)) (value - features_ok) value
      (λ bad. omega (arith, small)) (λ good. small)

  status_is : (value : ℕ) → IsWord value → Is kind (status_written p value)
  status_is value small =
      let taken : PortState = record p { status = status_taken p value } in
      let waiting : PortState = record p { is_reset_asked = true } in
      either (Is kind) p.is_reset_asked p (if not (value == 0) then taken else if p.status == 0 then as_new p else waiting) (λ on. is)
      (λ off. either (Is kind) (not (value == 0)) taken (if p.status == 0 then as_new p else waiting)
      (λ some. with_state p.interrupt_status (status_taken p value) p.config_generation p.is_reset_asked sized.interrupt_status
      (taken_small value small) sized.config_generation)
      (λ none. either (Is kind) (p.status == 0) (as_new p) waiting (λ new. new_is)
      (λ old. with_state p.interrupt_status p.status p.config_generation true sized.interrupt_status sized.status sized.config_generation)))

  register_is : (r : Register) (value : ℕ) → IsWord value → Is kind (register_after p r value)
  register_is register.DeviceFeaturesSel value small =
      with_features p.accepted value p.accepted_select p.queue_select sized.accepted small sized.accepted_select sized.queue_select
  register_is register.DriverFeatures value small =
      with_features (features_written p.accepted p.accepted_select value) p.offered_select p.accepted_select p.queue_select
      (features_small value small) sized.offered_select sized.accepted_select sized.queue_select
  register_is register.DriverFeaturesSel value small =
      with_features p.accepted p.offered_select value p.queue_select sized.accepted sized.offered_select small sized.queue_select
  register_is register.QueueSel value small =
      with_features p.accepted p.offered_select p.accepted_select value sized.accepted sized.offered_select sized.accepted_select small
  register_is register.QueueNum value small = to_is (λ q. record q { size = value }) (λ q is. of_size q is value q.ready small is.ready)
  register_is register.QueueReady value small = to_is (λ q. record q { ready = value }) (λ q is. of_size q is q.size value is.size small)
  register_is register.QueueNotify value small =
      either (Is kind) (is_queue p value) (with_queue p value (record (queue p value) { is_kicked = true })) p
      (λ on. set_is value (record (queue p value) { is_kicked = true }) (kicked (queue p value) (queue_sized value) true)) (λ off. is)
  register_is register.InterruptAck value small =
      let status = sized.interrupt_status in
      with_state (bit_and p.interrupt_status (bit_not w32 value)) p.status p.config_generation p.is_reset_asked
      (omega (arith, and_le_l p.interrupt_status (bit_not w32 value), status)) sized.status sized.config_generation
  register_is register.Status value small = status_is value small
  register_is register.QueueDescLow value small =
      to_is (λ q. record q { descriptors = with_low_half q.descriptors value })
      (λ q is. at_rings q is (with_low_half q.descriptors value) q.available q.used (low_small q.descriptors value is.descriptors small)
      is.available is.used)
  register_is register.QueueDescHigh value small =
      to_is (λ q. record q { descriptors = with_high_half q.descriptors value })
      (λ q is. at_rings q is (with_high_half q.descriptors value) q.available q.used (high_small q.descriptors value is.descriptors small)
      is.available is.used)
  register_is register.QueueDriverLow value small =
      to_is (λ q. record q { available = with_low_half q.available value })
      (λ q is. at_rings q is q.descriptors (with_low_half q.available value) q.used is.descriptors
      (low_small q.available value is.available small) is.used)
  register_is register.QueueDriverHigh value small =
      to_is (λ q. record q { available = with_high_half q.available value })
      (λ q is. at_rings q is q.descriptors (with_high_half q.available value) q.used is.descriptors
      (high_small q.available value is.available small) is.used)
  register_is register.QueueDeviceLow value small =
      to_is (λ q. record q { used = with_low_half q.used value })
      (λ q is. at_rings q is q.descriptors q.available (with_low_half q.used value) is.descriptors is.available
      (low_small q.used value is.used small))
  register_is register.QueueDeviceHigh value small =
      to_is (λ q. record q { used = with_high_half q.used value })
      (λ q is. at_rings q is q.descriptors q.available (with_high_half q.used value) is.descriptors is.available
      (high_small q.used value is.used small))
  register_is r value small = is

  write_is : (r : Option Register) (value : ℕ) → IsWord value → Is kind (after_write p r value)
  write_is None value small = is
  write_is (Some r) value small = register_is r value small

  word_small : (piece : List ℕ) → length piece ≡ 4 → All IsByte piece → IsWord (little_endian piece)
  word_small piece long bytes =
      let below = value_below piece bytes in
      let most : 256 ^ length piece ≡ 2 ^ 32 = ap (λ (n : ℕ). 256 ^ n) long in
      omega (arith, below, most)

  four : (len offset : ℕ) → is_word offset len ≡ true → len ≡ 4
  four len offset is = eqb-true len 4 (and_parts (len == 4) (offset % 4 == 0) is).0

  bytes_is : (offset : ℕ) (piece : List ℕ) → All IsByte piece → Is kind (after_bytes p offset piece)
  bytes_is offset piece bytes =
      let written : PortState = after_write p (register_at offset) (little_endian piece) in
      let config : PortState = record p { config = config_after p.kind p.config (offset - config_start) piece } in
      either (Is kind) (nat_lt offset config_start) (if is_word offset (length piece) then written else p)
      (if is_config_width (length piece) then config else p)
      (λ below. either (Is kind) (is_word offset (length piece)) written p
      (λ on. write_is (register_at offset) (little_endian piece) (word_small piece (four (length piece) offset on) bytes)) (λ off. is))
      (λ behind. either (Is kind) (is_config_width (length piece)) config p
      (λ on. with_bytes (config_after p.kind p.config (offset - config_start) piece)
      (config_long p.kind p.config (offset - config_start) piece sized.many_bytes)
      (config_small p.kind p.config (offset - config_start) piece sized.bytes bytes)) (λ off. is))

  -- ---- acts

  causes_small : (causes : ℕ) → IsWord (bit_or p.interrupt_status (causes % 2 ^ 32))
  causes_small causes = or_lt 32 p.interrupt_status (causes % 2 ^ 32) sized.interrupt_status (omega arith)

  interrupted_is : (causes : ℕ) → Is kind (interrupted p causes)
  interrupted_is causes =
      with_state (bit_or p.interrupt_status (causes % 2 ^ 32)) p.status p.config_generation p.is_reset_asked (causes_small causes)
      sized.status sized.config_generation

  marked_small : IsWord (bit_or p.status needs_reset)
  marked_small = or_lt 32 p.status needs_reset sized.status (omega arith)

  marked_is : Is kind (record p { status = bit_or p.status needs_reset })
  marked_is =
      with_state p.interrupt_status (bit_or p.status needs_reset) p.config_generation p.is_reset_asked sized.interrupt_status marked_small
      sized.config_generation

  broken_is : Is kind (interrupted (record p { status = bit_or p.status needs_reset }) configuration_change)
  broken_is =
      with_state (bit_or p.interrupt_status (configuration_change % 2 ^ 32)) (bit_or p.status needs_reset) p.config_generation
      p.is_reset_asked (causes_small configuration_change) marked_small sized.config_generation

  looked_is : Is kind (without_kicks p)
  looked_is =
      with_queues (map without_kick p.queues) (length-map p.queues without_kick ∙ sized.many_queues)
      (All-map IsSizedQueue without_kick p.queues (kept p.queues sized.queues))
    where
      kept : (queues : List PortQueue) → All IsSizedQueue queues → All (λ q. IsSizedQueue (without_kick q)) queues
      kept queues all = λ i d lt. kicked _ (all i d lt) false

  act_is : (a : PortOp) → Is kind (port_act p a).1
  act_is act.Look =
      either (λ (x : Reply × PortState). Is kind x.1) p.is_reset_asked (Reply.Port (port_shown true (as_new p)), as_new p)
      (Reply.Port (port_shown false p), without_kicks p) (λ on. new_is) (λ off. looked_is)
  act_is (act.Interrupt causes) = interrupted_is causes
  act_is act.Break =
      let marked : PortState = record p { status = bit_or p.status needs_reset } in
      either (λ (x : Reply × PortState). Is kind x.1) (has_bits p.status driver_ok)
      (Reply.Word 1, interrupted marked configuration_change) (Reply.Word 0, marked) (λ on. broken_is) (λ off. marked_is)

  touch_is : (actor : ActorId) (op : Op) → IsSmallOp op → Is kind (touch p actor op).1
  touch_is actor (Op.Port port a) small = act_is a
  touch_is actor (Op.Read at len) small =
      either (λ (x : Reply × PortState). Is kind x.1) (nat_le len 64 && is_in_one at len)
      (Reply.Bytes (bytes_read p (port_offset at) len), p) (Reply.AccessFault, p) (λ on. is) (λ off. is)
  touch_is actor (Op.Write at piece) small =
      either (λ (x : Reply × PortState). Is kind x.1) (is_in_one at (length piece))
      (Reply.Done, after_bytes p (port_offset at) piece) (Reply.AccessFault, p) (λ on. bytes_is (port_offset at) piece small) (λ off. is)
  touch_is actor op small = is

  -- ---- replies

  read_small : (offset len : ℕ) → All IsByte (bytes_read p offset len)
  read_small offset len =
      either (All IsByte) (nat_lt offset config_start)
      (if is_word offset len then bytes_of 4 (value_of p (register_at offset)) else replicate len 0)
      (if is_config_width len then config_bytes p (offset - config_start) len else replicate len 0)
      (λ below. either (All IsByte) (is_word offset len) (bytes_of 4 (value_of p (register_at offset))) (replicate len 0)
      (λ on. all_bytes 4 (value_of p (register_at offset))) (λ off. zeros len))
      (λ behind. either (All IsByte) (is_config_width len) (config_bytes p (offset - config_start) len) (replicate len 0)
      (λ on. shown (offset - config_start)) (λ off. zeros len))
    where
      shown : (at : ℕ) → All IsByte (config_bytes p at len)
      shown at =
          All-take IsByte len (drop at (take (config_length p.kind) p.config) ++ replicate len 0)
          (All-append IsByte (drop at (take (config_length p.kind) p.config)) (replicate len 0)
          (All-drop IsByte at (take (config_length p.kind) p.config) (All-take IsByte (config_length p.kind) p.config sized.bytes)) (zeros len))

  act_replies : (a : PortOp) → IsSmallReply (port_act p a).0
  act_replies act.Look =
      either (λ (x : Reply × PortState). IsSmallReply x.0) p.is_reset_asked (Reply.Port (port_shown true (as_new p)), as_new p)
      (Reply.Port (port_shown false p), without_kicks p) (λ on. tt) (λ off. tt)
  act_replies (act.Interrupt causes) = tt
  act_replies act.Break =
      let marked : PortState = record p { status = bit_or p.status needs_reset } in
      either (λ (x : Reply × PortState). IsSmallReply x.0) (has_bits p.status driver_ok)
      (Reply.Word 1, interrupted marked configuration_change) (Reply.Word 0, marked) (λ on. omega arith) (λ off. omega arith)

  touch_replies : (actor : ActorId) (op : Op) → IsSmallReply (touch p actor op).0
  touch_replies actor (Op.Port port a) = act_replies a
  touch_replies actor (Op.Read at len) =
      either (λ (x : Reply × PortState). IsSmallReply x.0) (nat_le len 64 && is_in_one at len)
      (Reply.Bytes (bytes_read p (port_offset at) len), p) (Reply.AccessFault, p) (λ on. read_small (port_offset at) len) (λ off. tt)
  touch_replies actor (Op.Write at piece) =
      either (λ (x : Reply × PortState). IsSmallReply x.0) (is_in_one at (length piece))
      (Reply.Done, after_bytes p (port_offset at) piece) (Reply.AccessFault, p) (λ on. tt) (λ off. tt)
  touch_replies actor op = tt

  shown_is : (bytes : List ℕ) → All IsByte bytes → Is kind (configured p bytes)
  shown_is bytes small =
      let front : List ℕ = take (config_length p.kind) bytes in
      let next : IsWord ((p.config_generation + 1) % 2 ^ 32) = omega arith in
      record {
        kind_is = is.kind_is;
        sized = record {
          offered = sized.offered;
          accepted = sized.accepted;
          offered_select = sized.offered_select;
          accepted_select = sized.accepted_select;
          queue_select = sized.queue_select;
          interrupt_status = causes_small configuration_change;
          status = sized.status;
          config_generation = next;
          many_queues = sized.many_queues;
          queues = sized.queues;
          many_bytes = put_over_long p.config 0 front ∙ sized.many_bytes;
          bytes = put_over_bytes p.config 0 front sized.bytes (All-take IsByte (config_length p.kind) bytes small);
        };
      }

-- ---- a port that a state file can have

part : (kind : DeviceKind) (p : PortState) → IsKept kind p → Is kind p
part kind p is = record { kind_is = is.kind_is; sized = is.sized }

pub touch_stays : (kind : DeviceKind) (p : PortState) (actor : ActorId) (op : Op) → IsSmallOp op → IsKept kind p
    → IsKept kind (touch p actor op).1
touch_stays kind p actor op small is =
    let left = touch_is kind p (part kind p is) actor op small in record {
      kind_is = left.kind_is;
      state = touch_kept p actor op is.sized.many_bytes is.state;
      sized = left.sized;
    }

pub touch_small : (kind : DeviceKind) (p : PortState) (actor : ActorId) (op : Op) → IsKept kind p → IsSmallReply (touch p actor op).0
touch_small kind p actor op is = touch_replies kind p (part kind p is) actor op

pub configured_stays : (kind : DeviceKind) (p : PortState) (bytes : List ℕ) → All IsByte bytes → IsKept kind p
    → IsKept kind (configured p bytes)
configured_stays kind p bytes small is =
    let left = shown_is kind p (part kind p is) bytes small in record {
      kind_is = left.kind_is;
      state = configured_kept p bytes is.sized.many_bytes is.state;
      sized = left.sized;
    }

features_sized : IsDouble queue_features
features_sized = or_lt 64 (feature_mask IndirectDescriptors) (feature_mask EventIndex) (omega arith) (omega arith)

pub new_stays : (kind : DeviceKind) (offered : ℕ) (bytes : List ℕ) → IsDouble offered → All IsByte bytes
    → IsKept kind (new_port kind offered bytes)
new_stays kind offered bytes small all =
    let front : List ℕ = take (config_length kind) bytes in record {
      kind_is = refl;
      state = new_kept kind offered bytes;
      sized =
          port_sized kind (bit_or offered queue_features) (with_config kind (replicate 8 0) bytes)
          (or_lt 64 offered queue_features small features_sized) (put_over_long (replicate 8 0) 0 front)
          (put_over_bytes (replicate 8 0) 0 front (zeros 8) (All-take IsByte (config_length kind) bytes all));
    }

-- the queues that a look shows
pub queues_sized : (kind : DeviceKind) (p : PortState) → IsKept kind p → (k : ℕ) → IsSizedQueue (queue p k)
queues_sized kind p is k = queue_sized kind p (part kind p is) k

pub new_queues_sized : (kind : DeviceKind) (p : PortState) → IsKept kind p → (k : ℕ) → IsSizedQueue (queue (as_new p) k)
new_queues_sized kind p is k = queue_sized kind (as_new p) (new_is kind p (part kind p is)) k
