-- What a port replies fits the act.
use Rattle.std.proofs.Common.{◌≡◌, ℕ, ◌-◌, ◌%◌, ◌==◌, Bool, true, false, cond, nat_lt, nat_le, ◌&&◌, bit_or, length, List, refl, sym, ◌++◌, replicate, take, drop, arith, length-append}
use Rattle.std.proofs.lemmas.Bool.{eq-eqb, eqb-true}
use Rattle.std.proofs.lemmas.List.{length-replicate, length-take-le}
use Rattle.vm_types.specs.declared.ids.ActorId.{ActorId}
use Rattle.vm_types.specs.declared.op.Op.{Op}
use Rattle.vm_types.specs.declared.op.PortOp.{PortOp}
use Rattle.vm_types.specs.declared.op.PortOp.TheVariants as act
use Rattle.vm_types.specs.declared.reply.Reply.{Reply}
use Rattle.vm_types.specs.Fits.{fits}
use Rattle.le_fields.specs.Fields.{bytes_of}
use Rattle.port_table.specs.declared.state.PortState.{PortState}
use Rattle.port_table.specs.Access.{after_bytes, bytes_read, config_bytes, config_start, is_config_width, is_word, value_of}
use Rattle.port_table.specs.Acts.{configuration_change, interrupted, is_port_op, port_act, port_shown, touch, without_kicks}
use Rattle.port_table.specs.Kinds.{config_length}
use Rattle.port_table.specs.Ports.{as_new}
use Rattle.port_table.specs.Registers.{driver_ok, has_bits, needs_reset, register_at}
use Rattle.port_table.specs.Window.{is_in_one, port_offset}

-- of two answers the one that a test picks fits, where both do
either_fits : (op : Op) (b : Bool) (x y : Reply × PortState) → fits op x.0 ≡ true → fits op y.0 ≡ true
    → fits op (cond b x y).0 ≡ true
either_fits op true x y first second = first
either_fits op false x y first second = second

-- of two lists the one that a test picks is so long, where both are
either_long : (len : ℕ) (b : Bool) (xs ys : List ℕ) → (b ≡ true → length xs ≡ len) → length ys ≡ len
    → length (cond b xs ys) ≡ len
either_long len true xs ys first second = first refl
either_long len false xs ys first second = second

first_holds : (a b : Bool) → (a && b) ≡ true → a ≡ true
first_holds true b both = refl
first_holds false b both = cc

config_long : (p : PortState) (at len : ℕ) → length (config_bytes p at len) ≡ len
config_long p at len =
    let shown : List ℕ = drop at (take (config_length p.kind) p.config) in
    let zeros : List ℕ = replicate len 0 in
    let long : length zeros ≡ len = length-replicate len 0 in
    length-take-le len (shown ++ zeros) (omega (arith, length-append shown zeros, long))

-- as many bytes are read as were asked for
bytes_long : (p : PortState) (offset len : ℕ) → length (bytes_read p offset len) ≡ len
bytes_long p offset len =
    let zeros : List ℕ = replicate len 0 in
    let none : length zeros ≡ len = length-replicate len 0 in
    either_long len (nat_lt offset config_start)
    (cond (is_word offset len) (bytes_of 4 (value_of p (register_at offset))) zeros)
    (cond (is_config_width len) (config_bytes p (offset - config_start) len) zeros)
    (λ below. either_long len (is_word offset len) (bytes_of 4 (value_of p (register_at offset))) zeros
    (λ is. sym (eqb-true len 4 (first_holds (len == 4) (offset % 4 == 0) is))) none)
    (either_long len (is_config_width len) (config_bytes p (offset - config_start) len) zeros
    (λ is. config_long p (offset - config_start) len) none)

act_fits : (p : PortState) (port : ℕ) (act : PortOp) → fits (Op.Port port act) (port_act p act).0 ≡ true
act_fits p port act.Look =
    either_fits (Op.Port port act.Look) p.is_reset_asked (Reply.Port (port_shown true (as_new p)), as_new p)
    (Reply.Port (port_shown false p), without_kicks p) refl refl
act_fits p port (act.Interrupt causes) = refl
act_fits p port act.Break =
    let marked : PortState = record p { status = bit_or p.status needs_reset } in
    either_fits (Op.Port port act.Break) (has_bits p.status driver_ok)
    (Reply.Word 1, interrupted marked configuration_change) (Reply.Word 0, marked) refl refl

pub port_reply_fits : (p : PortState) (actor : ActorId) (op : Op) → is_port_op op ≡ true → fits op (touch p actor op).0 ≡ true
port_reply_fits p actor (Op.Port port act) is = act_fits p port act
port_reply_fits p actor (Op.Read at len) is =
    either_fits (Op.Read at len) (nat_le len 64 && is_in_one at len) (Reply.Bytes (bytes_read p (port_offset at) len), p)
    (Reply.AccessFault, p) (eq-eqb (length (bytes_read p (port_offset at) len)) len (bytes_long p (port_offset at) len)) refl
port_reply_fits p actor (Op.Write at piece) is =
    either_fits (Op.Write at piece) (is_in_one at (length piece)) (Reply.Done, after_bytes p (port_offset at) piece)
    (Reply.AccessFault, p) refl refl
port_reply_fits p actor (Op.Amo at value kind wide) is = refl
port_reply_fits p actor (Op.Lr at wide) is = refl
port_reply_fits p actor (Op.Sc at value wide) is = refl
port_reply_fits p actor op is = cc
