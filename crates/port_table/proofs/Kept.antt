-- Each act on a port leaves a state that ports may be in.
use Rattle.std.proofs.Common.{◌≡◌, ℕ, zero, suc, ◌+◌, ◌-◌, ◌==◌, ◌<◌, ◌≤◌, nat_le, nat_lt, Bool, true, false, ◌&&◌, ◌||◌, not, if◌then◌else◌, List, [], ◌∷◌, ◌++◌, length, take, drop, replicate, map, slice_set, Option, Some, None, bit_and, bit_or, refl, sym, ap, ◌∙◌, arith, length-append, length-drop, length-take}
use Rattle.std.specs.List.{list_all}
use Rattle.std.proofs.lemmas.List.{drop-set-lt}
use Rattle.std.proofs.lemmas.Slice.{drop-append-drop}
use Rattle.std.proofs.lemmas.Nat.{and_assoc, and_or_apart, and_or_self, le_or_r}
use Rattle.std.proofs.lemmas.Grind.{common_steps}
use Rattle.std.proofs.lemmas.Bool.{and_from, and_parts}
use Rattle.vm_types.specs.declared.ids.ActorId.{ActorId}
use Rattle.vm_types.specs.declared.op.Op.{Op}
use Rattle.vm_types.specs.declared.op.PortOp.{PortOp}
use Rattle.vm_types.specs.declared.op.PortOp.TheVariants as act
use Rattle.vm_types.specs.declared.reply.Reply.{Reply}
use Rattle.le_fields.specs.Fields.{little_endian}
use Rattle.port_table.specs.declared.kind.DeviceKind.{DeviceKind}
use Rattle.port_table.specs.declared.kind.DeviceKind.TheVariants.{Net, Block, Balloon, Vsock, Entropy}
use Rattle.port_table.specs.declared.kind.Feature.TheVariants.{EventIndex, IndirectDescriptors, Version1}
use Rattle.port_table.specs.declared.register.Register.{Register}
use Rattle.port_table.specs.declared.register.Register.TheVariants as register
use Rattle.port_table.specs.declared.state.PortQueue.{PortQueue}
use Rattle.port_table.specs.declared.state.PortState.{PortState}
use Rattle.port_table.specs.Access.{after_bytes, after_write, bytes_read, config_after, config_start, is_config_width, is_word}
use Rattle.port_table.specs.Acts.{configuration_change, configured, interrupted, port_act, port_shown, touch, without_kick, without_kicks}
use Rattle.port_table.specs.Kept.{has_config, has_queues, is_new, is_state, is_zero, offers_alike}
use Rattle.port_table.specs.Kinds.{config_length, feature_mask, queue_count}
use Rattle.port_table.specs.Ports.{as_new, is_queue, new_port, new_queue, put_over, port_of, queue, queue_features, reset_config, with_config, with_queue}
use Rattle.port_table.specs.Registers.{driver_ok, has_bits, needs_reset, notified, register_after, register_at, status_taken, status_written, to_queue, with_high_half, with_low_half}
use Rattle.port_table.specs.Window.{is_in_one, port_offset}

-- a state, by its facts
record Is (p : PortState) : Type 0 where
  versioned : has_bits p.offered (feature_mask Version1) ≡ true
  alike : offers_alike p.offered ≡ true
  queues : has_queues p.kind p.queues ≡ true
  config : has_config p.kind p.config ≡ true
  asked : p.is_reset_asked ≡ true → (p.status == 0) ≡ false

asked_of : (reset none : Bool) → (not reset || not none) ≡ true → reset ≡ true → none ≡ false
asked_of true true is on = cc
asked_of true false is on = refl
asked_of false none is on = cc

test_of_asked : (reset none : Bool) → (reset ≡ true → none ≡ false) → (not reset || not none) ≡ true
test_of_asked true true is = let off = is refl in cc
test_of_asked true false is = refl
test_of_asked false none is = refl

is_of : (p : PortState) → is_state p ≡ true → Is p
is_of p is =
    let versioned : Bool = has_bits p.offered (feature_mask Version1) in
    let alike : Bool = offers_alike p.offered in
    let queues : Bool = has_queues p.kind p.queues in
    let config : Bool = has_config p.kind p.config in
    let h = and_parts (versioned && alike && queues && config) (not p.is_reset_asked || not (p.status == 0)) is in
    let g = and_parts (versioned && alike && queues) config h.0 in
    let f = and_parts (versioned && alike) queues g.0 in
    let e = and_parts versioned alike f.0 in
    record {
      versioned = e.0;
      alike = e.1;
      queues = f.1;
      config = g.1;
      asked = asked_of p.is_reset_asked (p.status == 0) h.1;
    }

test_of : (p : PortState) → Is p → is_state p ≡ true
test_of p is =
    and_from _ _ (and_from _ _ (and_from _ _ (and_from _ _ is.versioned is.alike) is.queues) is.config)
    (test_of_asked p.is_reset_asked (p.status == 0) is.asked)

-- ---- as new

no_queue_used : (kind : DeviceKind) → has_queues kind (replicate 3 new_queue) ≡ true
no_queue_used Net = refl
no_queue_used Block = refl
no_queue_used Balloon = refl
no_queue_used Vsock = refl
no_queue_used Entropy = refl

nothing_past : (bytes : List ℕ) → length bytes ≤ 8 → list_all is_zero (drop 8 bytes) ≡ true
nothing_past bytes short =
    let none : drop 8 bytes ≡ [] = grind (arith, common_steps) in
    rw none refl

has_of : (n m : ℕ) → bit_and n m ≡ m → has_bits n m ≡ true
has_of n m is = grind arith

-- both bits are among these, or as among others
with_both : (n : ℕ) → offers_alike (bit_or n queue_features) ≡ true
with_both n =
    let first : bit_and queue_features (feature_mask IndirectDescriptors) ≡ feature_mask IndirectDescriptors = refl in
    let second : bit_and queue_features (feature_mask EventIndex) ≡ feature_mask EventIndex = refl in
    let one = has_of (bit_or n queue_features) (feature_mask IndirectDescriptors) (within n (feature_mask IndirectDescriptors) first) in
    let two = has_of (bit_or n queue_features) (feature_mask EventIndex) (within n (feature_mask EventIndex) second) in
    rw one two
  where
    within : (n m : ℕ) → bit_and queue_features m ≡ m → bit_and (bit_or n queue_features) m ≡ m
    within n m is =
        ap (λ x. bit_and (bit_or n queue_features) x) (sym is) ∙ sym (and_assoc m (bit_or n queue_features) queue_features)
        ∙ ap (λ x. bit_and x m) (and_or_self queue_features n) ∙ is

-- VIRTIO_F_VERSION_1 is none of the two
versioned_alike : (n : ℕ) → offers_alike n ≡ true → offers_alike (bit_or n (feature_mask Version1)) ≡ true
versioned_alike n is =
    let one : bit_and (bit_or n (feature_mask Version1)) (feature_mask IndirectDescriptors) ≡ bit_and n (feature_mask IndirectDescriptors) =
    and_or_apart (feature_mask IndirectDescriptors) n (feature_mask Version1) refl in
    let two : bit_and (bit_or n (feature_mask Version1)) (feature_mask EventIndex) ≡ bit_and n (feature_mask EventIndex) =
    and_or_apart (feature_mask EventIndex) n (feature_mask Version1) refl in
    rw one rw two is

is_port : (kind : DeviceKind) (offered : ℕ) (config : List ℕ) → offers_alike offered ≡ true → has_config kind config ≡ true
    → Is (port_of kind offered config)
is_port kind offered config alike is = record {
  versioned = has_of (bit_or offered (feature_mask Version1)) (feature_mask Version1) (and_or_self (feature_mask Version1) offered);
  alike = versioned_alike offered alike;
  queues = no_queue_used kind;
  config = is;
  asked = λ on. cc;
}

reset_has : (kind : DeviceKind) (config : List ℕ) → has_config kind config ≡ true
    → has_config kind (reset_config kind config) ≡ true
reset_has Balloon config is =
    let short : length (take 4 config) ≤ 4 = omega (arith, length-take 4 config) in
    let zeros : List ℕ = replicate 4 0 in
    let few : length zeros ≡ 4 = refl in
    nothing_past (take 4 config ++ zeros) (omega (arith, short, few, length-append (take 4 config) zeros))
reset_has Net config is = is
reset_has Block config is = is
reset_has Vsock config is = is
reset_has Entropy config is = is

as_new_is : (p : PortState) → Is p → Is (as_new p)
as_new_is p is = is_port p.kind p.offered (reset_config p.kind p.config) is.alike (reset_has p.kind p.config is.config)

-- ---- the configuration

three : (xs ys zs : List ℕ) → length (xs ++ ys ++ zs) ≡ length xs + length ys + length zs
three xs ys zs = omega (arith, length-append (xs ++ ys) zs, length-append xs ys)

pub put_over_long : (bytes : List ℕ) (at : ℕ) (piece : List ℕ) → length (put_over bytes at piece) ≡ length bytes
put_over_long bytes at piece =
    let a = length-take at bytes in
    let b = length-take (length bytes - at) piece in
    let d = length-drop (at + length piece) bytes in
    three (take at bytes) (take (length bytes - at) piece) (drop (at + length piece) bytes) ∙ omega (arith, a, b, d)

written_has : (kind : DeviceKind) (config : List ℕ) (at : ℕ) (piece : List ℕ) → length config ≡ 8
    → has_config kind config ≡ true → has_config kind (config_after kind config at piece) ≡ true
written_has Balloon config at piece long is =
    let whole = put_over_long config at piece in
    nothing_past (take 4 config ++ drop 4 (put_over config at piece))
    (omega (
      arith,
      long,
      whole,
      length-take 4 config,
      length-drop 4 (put_over config at piece),
      length-append (take 4 config) (drop 4 (put_over config at piece)),
    ))
written_has Net config at piece long is = is
written_has Block config at piece long is = is
written_has Vsock config at piece long is = is
written_has Entropy config at piece long is = is

-- where a front of at most n bytes is written over, the bytes from n on stay
front_over : (n : ℕ) (config piece : List ℕ) → length piece ≤ n → length piece ≤ length config
    → drop n (put_over config 0 piece) ≡ drop n config
front_over n config piece short fits =
    let whole : take (length config - 0) piece ≡ piece = grind (arith, common_steps) in
    let rest : 0 + length piece ≡ length piece = omega arith in
    ap (λ (xs : List ℕ). drop n (xs ++ drop (0 + length piece) config)) whole
    ∙ ap (λ k. drop n (piece ++ drop k config)) rest
    ∙ drop-append-drop (length piece) config piece n short refl

few_bytes : (kind : DeviceKind) → config_length kind ≤ 8
few_bytes Net = omega arith
few_bytes Block = omega arith
few_bytes Balloon = omega arith
few_bytes Vsock = omega arith
few_bytes Entropy = omega arith

with_has : (kind : DeviceKind) (config bytes : List ℕ) → length config ≡ 8 → has_config kind config ≡ true
    → has_config kind (with_config kind config bytes) ≡ true
with_has kind config bytes long is =
    let n = config_length kind in
    let short : length (take n bytes) ≤ n = omega (arith, length-take n bytes) in
    ap (list_all is_zero) (front_over n config (take n bytes) short (omega (arith, long, short, few_bytes kind))) ∙ is

zeros_have : (kind : DeviceKind) → has_config kind (replicate 8 0) ≡ true
zeros_have Net = refl
zeros_have Block = refl
zeros_have Balloon = refl
zeros_have Vsock = refl
zeros_have Entropy = refl

-- ---- queues

set_has : (kind : DeviceKind) (queues : List PortQueue) (k : ℕ) (q : PortQueue) → nat_lt k (queue_count kind) ≡ true
    → has_queues kind queues ≡ true → has_queues kind (slice_set queues k q) ≡ true
set_has kind queues k q below is =
    ap (list_all is_new) (drop-set-lt (queue_count kind) queues k q (below_of k (queue_count kind) below)) ∙ is where
      below_of : (k n : ℕ) → nat_lt k n ≡ true → k < n
      below_of k n is = grind arith

unkicked : (q : PortQueue) → is_new q ≡ true → is_new (without_kick q) ≡ true
unkicked q is =
    let h = and_parts ((q.descriptors == 0) && (q.available == 0) && (q.used == 0) && (q.size == 0) && (q.ready == 0))
    (not q.is_kicked) is in
    and_from _ _ h.0 refl

unkicked_all : (queues : List PortQueue) → list_all is_new queues ≡ true
    → list_all is_new (map without_kick queues) ≡ true
unkicked_all [] is = refl
unkicked_all (q ∷ queues) is =
    let h = and_parts (is_new q) (list_all is_new queues) is in
    and_from _ _ (unkicked q h.0) (unkicked_all queues h.1)

unkicked_from : (n : ℕ) (queues : List PortQueue) → list_all is_new (drop n queues) ≡ true
    → list_all is_new (drop n (map without_kick queues)) ≡ true
unkicked_from zero queues is = unkicked_all queues is
unkicked_from (suc n) [] is = refl
unkicked_from (suc n) (q ∷ queues) is = unkicked_from n queues is

-- ---- acts

either : {A : Type 0} (P : A → Type 0) (b : Bool) (x y : A) → (b ≡ true → P x) → (b ≡ false → P y)
    → P (if b then x else y)
either P true x y first second = first refl
either P false x y first second = second refl

interrupted_is : (p : PortState) (causes : ℕ) → Is p → Is (interrupted p causes)
interrupted_is p causes is =
    record { versioned = is.versioned; alike = is.alike; queues = is.queues; config = is.config; asked = is.asked }

marked_is : (p : PortState) → Is p → Is (record p { status = bit_or p.status needs_reset })
marked_is p is = record {
  versioned = is.versioned;
  alike = is.alike;
  queues = is.queues;
  config = is.config;
  asked = λ on. some (bit_or p.status needs_reset) (le_or_r p.status needs_reset);
} where
  some : (n : ℕ) → 64 ≤ n → (n == 0) ≡ false
  some n is = grind arith

act_is : (p : PortState) (a : PortOp) → Is p → Is (port_act p a).1
act_is p act.Look is =
    either (λ (x : Reply × PortState). Is x.1) p.is_reset_asked (Reply.Port (port_shown true (as_new p)), as_new p)
    (Reply.Port (port_shown false p), without_kicks p) (λ on. as_new_is p is)
    (λ off. record {
      versioned = is.versioned;
      alike = is.alike;
      queues = unkicked_from (queue_count p.kind) p.queues is.queues;
      config = is.config;
      asked = is.asked;
    })
act_is p (act.Interrupt causes) is = interrupted_is p causes is
act_is p act.Break is =
    let marked : PortState = record p { status = bit_or p.status needs_reset } in
    either (λ (x : Reply × PortState). Is x.1) (has_bits p.status driver_ok)
    (Reply.Word 1, interrupted marked configuration_change) (Reply.Word 0, marked)
    (λ on. interrupted_is marked configuration_change (marked_is p is)) (λ off. marked_is p is)

-- ---- registers

with_is : (p : PortState) (k : ℕ) (q : PortQueue) → is_queue p k ≡ true → Is p → Is (with_queue p k q)
with_is p k q below is = record {
  versioned = is.versioned;
  alike = is.alike;
  queues = set_has p.kind p.queues k q below is.queues;
  config = is.config;
  asked = is.asked;
}

to_is : (p : PortState) (f : PortQueue → PortQueue) → Is p → Is (to_queue p f)
to_is p f is =
    either Is (is_queue p p.queue_select) (with_queue p p.queue_select (f (queue p p.queue_select))) p
    (λ on. with_is p p.queue_select (f (queue p p.queue_select)) on is) (λ off. is)

notified_is : (p : PortState) (k : ℕ) → Is p → Is (notified p k)
notified_is p k is =
    either Is (is_queue p k) (with_queue p k (record (queue p k) { is_kicked = true })) p
    (λ on. with_is p k (record (queue p k) { is_kicked = true }) on is) (λ off. is)

status_is : (p : PortState) (value : ℕ) → Is p → Is (status_written p value)
status_is p value is =
    let taken : PortState = record p { status = status_taken p value } in
    let waiting : PortState = record p { is_reset_asked = true } in
    either Is p.is_reset_asked p
    (if not (value == 0) then taken else if p.status == 0 then as_new p else waiting)
    (λ on. is)
    (λ off. either Is (not (value == 0)) taken (if p.status == 0 then as_new p else waiting)
    (λ some. record {
      versioned = is.versioned;
      alike = is.alike;
      queues = is.queues;
      config = is.config;
      asked = λ on. absurd (apart p.is_reset_asked on off);
    })
    (λ none. either Is (p.status == 0) (as_new p) waiting (λ new. as_new_is p is)
    (λ old. record {
      versioned = is.versioned;
      alike = is.alike;
      queues = is.queues;
      config = is.config;
      asked = λ on. old;
    }))) where
      apart : (b : Bool) → b ≡ true → b ≡ false → ⊥
      apart true on off = cc
      apart false on off = cc

register_is : (p : PortState) (r : Register) (value : ℕ) → Is p → Is (register_after p r value)
register_is p register.DeviceFeaturesSel value is =
    record { versioned = is.versioned; alike = is.alike; queues = is.queues; config = is.config; asked = is.asked }
register_is p register.DriverFeatures value is =
    record { versioned = is.versioned; alike = is.alike; queues = is.queues; config = is.config; asked = is.asked }
register_is p register.DriverFeaturesSel value is =
    record { versioned = is.versioned; alike = is.alike; queues = is.queues; config = is.config; asked = is.asked }
register_is p register.QueueSel value is =
    record { versioned = is.versioned; alike = is.alike; queues = is.queues; config = is.config; asked = is.asked }
register_is p register.QueueNum value is = to_is p (λ q. record q { size = value }) is
register_is p register.QueueReady value is = to_is p (λ q. record q { ready = value }) is
register_is p register.QueueNotify value is = notified_is p value is
register_is p register.InterruptAck value is =
    record { versioned = is.versioned; alike = is.alike; queues = is.queues; config = is.config; asked = is.asked }
register_is p register.Status value is = status_is p value is
register_is p register.QueueDescLow value is = to_is p (λ q. record q { descriptors = with_low_half q.descriptors value }) is
register_is p register.QueueDescHigh value is = to_is p (λ q. record q { descriptors = with_high_half q.descriptors value }) is
register_is p register.QueueDriverLow value is = to_is p (λ q. record q { available = with_low_half q.available value }) is
register_is p register.QueueDriverHigh value is = to_is p (λ q. record q { available = with_high_half q.available value }) is
register_is p register.QueueDeviceLow value is = to_is p (λ q. record q { used = with_low_half q.used value }) is
register_is p register.QueueDeviceHigh value is = to_is p (λ q. record q { used = with_high_half q.used value }) is
register_is p r value is = is

write_is : (p : PortState) (r : Option Register) (value : ℕ) → Is p → Is (after_write p r value)
write_is p None value is = is
write_is p (Some r) value is = register_is p r value is

bytes_is : (p : PortState) (offset : ℕ) (piece : List ℕ) → length p.config ≡ 8 → Is p → Is (after_bytes p offset piece)
bytes_is p offset piece long is =
    let written : PortState = after_write p (register_at offset) (little_endian piece) in
    let config : PortState = record p { config = config_after p.kind p.config (offset - config_start) piece } in
    either Is (nat_lt offset config_start) (if is_word offset (length piece) then written else p)
    (if is_config_width (length piece) then config else p)
    (λ below. either Is (is_word offset (length piece)) written p
    (λ on. write_is p (register_at offset) (little_endian piece) is) (λ off. is))
    (λ behind. either Is (is_config_width (length piece)) config p
    (λ on. record {
      versioned = is.versioned;
      alike = is.alike;
      queues = is.queues;
      config = written_has p.kind p.config (offset - config_start) piece long is.config;
      asked = is.asked;
    }) (λ off. is))

touch_is : (p : PortState) (actor : ActorId) (op : Op) → length p.config ≡ 8 → Is p → Is (touch p actor op).1
touch_is p actor (Op.Port port a) long is = act_is p a is
touch_is p actor (Op.Read at len) long is =
    either (λ (x : Reply × PortState). Is x.1) (nat_le len 64 && is_in_one at len)
    (Reply.Bytes (bytes_read p (port_offset at) len), p) (Reply.AccessFault, p) (λ on. is) (λ off. is)
touch_is p actor (Op.Write at piece) long is =
    either (λ (x : Reply × PortState). Is x.1) (is_in_one at (length piece))
    (Reply.Done, after_bytes p (port_offset at) piece) (Reply.AccessFault, p)
    (λ on. bytes_is p (port_offset at) piece long is) (λ off. is)
touch_is p actor op long is = is

-- ---- the same of the test

pub new_kept : (kind : DeviceKind) (offered : ℕ) (bytes : List ℕ) → is_state (new_port kind offered bytes) ≡ true
new_kept kind offered bytes =
    test_of (new_port kind offered bytes) (is_port kind (bit_or offered queue_features) (with_config kind (replicate 8 0) bytes)
    (with_both offered) (with_has kind (replicate 8 0) bytes refl (zeros_have kind)))

pub touch_kept : (p : PortState) (actor : ActorId) (op : Op) → length p.config ≡ 8 → is_state p ≡ true
    → is_state (touch p actor op).1 ≡ true
touch_kept p actor op long is = test_of (touch p actor op).1 (touch_is p actor op long (is_of p is))

pub configured_kept : (p : PortState) (bytes : List ℕ) → length p.config ≡ 8 → is_state p ≡ true
    → is_state (configured p bytes) ≡ true
configured_kept p bytes long test =
    let is = is_of p test in
    test_of (configured p bytes)
    (record {
      versioned = is.versioned;
      alike = is.alike;
      queues = is.queues;
      config = with_has p.kind p.config bytes long is.config;
      asked = is.asked;
    })

pub act_kept : (p : PortState) (a : PortOp) → is_state p ≡ true → is_state (port_act p a).1 ≡ true
act_kept p a is = test_of (port_act p a).1 (act_is p a (is_of p is))

pub bytes_kept : (p : PortState) (offset : ℕ) (piece : List ℕ) → length p.config ≡ 8 → is_state p ≡ true
    → is_state (after_bytes p offset piece) ≡ true
bytes_kept p offset piece long is = test_of (after_bytes p offset piece) (bytes_is p offset piece long (is_of p is))
