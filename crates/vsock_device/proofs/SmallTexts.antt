-- Headers and lines of bytes have their widths.
use Rattle.std.proofs.Common.{◌≡◌, ℕ, zero, suc, ◌+◌, ◌^◌, ◌<◌, ◌≤◌, ◌==◌, nat_lt, ◌&&◌, refl, sym, subst, Bool, true, false, if◌then◌else◌, Option, Some, None, IfSome, List, [], ◌∷◌, ◌++◌, length, drop, take, arith, length-append, length-drop, length-take}
use Rattle.std.specs.Fmt.{decimal}
use Rattle.std.specs.List.{All, list_all}
use Rattle.std.specs.Prelude.{codes, option_and_then, position}
use Rattle.std.proofs.Math.Nat.{pow-suc}
use Rattle.std.proofs.lemmas.Bool.{and_parts, ltb-true}
use Rattle.std.proofs.lemmas.Fmt.{length-decimal-le}
use Rattle.std.proofs.lemmas.List.Elements.{All-append, All-cons, All-drop, All-nil, All-take}
use Rattle.le_fields.specs.Fields.{IsByte, bytes_of, field_at, little_endian}
use Rattle.le_fields.proofs.Halves.{field_take}
use Rattle.le_fields.proofs.Values.{all_bytes, long, value_below}
use Rattle.script_words.specs.Numbers.{is_digit, value_of}
use Rattle.script_words.specs.Words.{behind}
use Rattle.script_words.proofs.Decimals.{decimal_digits}
use Rattle.vsock_packet.specs.declared.header.Header.{Header}
use Rattle.vsock_packet.specs.Header.{Fits, header_bytes, header_of}
use Rattle.vsock_device.specs.declared.data.InHand.{InHand}
use Rattle.vsock_device.specs.declared.data.InHand.TheVariants as hand
use Rattle.vsock_device.specs.declared.line.Lined.{Lined}
use Rattle.vsock_device.specs.declared.line.Lined.TheVariants.{Asks, More, Other}
use Rattle.vsock_device.specs.declared.packet.Packet.{Packet}
use Rattle.vsock_device.specs.Lines.{asked_port, line_asked, line_cut, line_ended, line_longer, lined, most_line, ok_line, port_of}
use Rattle.vsock_device.specs.Packets.{header_of_head, packet_bytes}
use Rattle.vsock_device.specs.Small.{IsShortBytes, IsSmallHand, IsSmallPacket, IsSmallPiece}
use Rattle.vsock_device.specs.Vsock.{text_of}

pub no_bytes : IsSmallPiece []
no_bytes = (omega arith, All-nil IsByte)

-- ---- a header that was read of bytes

power : (n m : ℕ) → n ≤ m → 256 ^ n ≤ 256 ^ m
power zero zero few = omega arith
power zero (suc m) few = let less = power zero m (omega arith) in omega (arith, less, pow-suc 256 m)
power (suc n) zero few = absurd (omega (arith, few))
power (suc n) (suc m) few = let less = power n m (omega (arith, few)) in omega (arith, less, pow-suc 256 n, pow-suc 256 m)

field_below : (width at : ℕ) (bytes : List ℕ) → All IsByte bytes → field_at bytes at width < 256 ^ width
field_below width at bytes all =
    let here : List ℕ = take width (drop at bytes) in
    let below : little_endian here < 256 ^ length here =
    value_below here (All-take IsByte width (drop at bytes) (All-drop IsByte at bytes all)) in
    let most : 256 ^ length here ≤ 256 ^ width = power (length here) width (omega (arith, length-take width (drop at bytes))) in
    subst (λ (n : ℕ). n < 256 ^ width) (sym (field_take bytes at width)) (omega (arith, below, most))

pub header_fits : (bytes : List ℕ) → All IsByte bytes → Fits (header_of bytes)
header_fits bytes all = record {
  src_cid = field_below 8 0 bytes all;
  dst_cid = field_below 8 8 bytes all;
  src_port = field_below 4 16 bytes all;
  dst_port = field_below 4 20 bytes all;
  len = field_below 4 24 bytes all;
  socket_type = field_below 2 28 bytes all;
  op = field_below 2 30 bytes all;
  flags = field_below 4 32 bytes all;
  buf_alloc = field_below 4 36 bytes all;
  fwd_cnt = field_below 4 40 bytes all;
}

-- ---- a header that is written

both : (xs ys : List ℕ) → All IsByte xs → All IsByte ys → All IsByte (xs ++ ys)
both xs ys a b = All-append IsByte xs ys a b

-- the fields of a header from one of them on
abbrev from_buf_alloc : Header → List ℕ
from_buf_alloc h = bytes_of 4 h.buf_alloc ++ bytes_of 4 h.fwd_cnt

abbrev from_flags : Header → List ℕ
from_flags h = bytes_of 4 h.flags ++ from_buf_alloc h

abbrev from_op : Header → List ℕ
from_op h = bytes_of 2 h.op ++ from_flags h

abbrev from_socket_type : Header → List ℕ
from_socket_type h = bytes_of 2 h.socket_type ++ from_op h

abbrev from_len : Header → List ℕ
from_len h = bytes_of 4 h.len ++ from_socket_type h

abbrev from_dst_port : Header → List ℕ
from_dst_port h = bytes_of 4 h.dst_port ++ from_len h

abbrev from_src_port : Header → List ℕ
from_src_port h = bytes_of 4 h.src_port ++ from_dst_port h

abbrev from_dst_cid : Header → List ℕ
from_dst_cid h = bytes_of 8 h.dst_cid ++ from_src_port h

pub header_all : (h : Header) → All IsByte (header_bytes h)
header_all h =
    both (bytes_of 8 h.src_cid) (from_dst_cid h) (all_bytes 8 h.src_cid)
    (both (bytes_of 8 h.dst_cid) (from_src_port h) (all_bytes 8 h.dst_cid)
    (both (bytes_of 4 h.src_port) (from_dst_port h) (all_bytes 4 h.src_port)
    (both (bytes_of 4 h.dst_port) (from_len h) (all_bytes 4 h.dst_port)
    (both (bytes_of 4 h.len) (from_socket_type h) (all_bytes 4 h.len)
    (both (bytes_of 2 h.socket_type) (from_op h) (all_bytes 2 h.socket_type)
    (both (bytes_of 2 h.op) (from_flags h) (all_bytes 2 h.op)
    (both (bytes_of 4 h.flags) (from_buf_alloc h) (all_bytes 4 h.flags)
    (both (bytes_of 4 h.buf_alloc) (bytes_of 4 h.fwd_cnt) (all_bytes 4 h.buf_alloc) (all_bytes 4 h.fwd_cnt)))))))))

joined : (n m : ℕ) (xs ys : List ℕ) → length xs ≡ n → length ys ≡ m → length (xs ++ ys) ≡ n + m
joined n m xs ys a b = omega (arith, length-append xs ys, a, b)

pub header_long : (h : Header) → length (header_bytes h) ≡ 44
header_long h =
    joined 8 36 (bytes_of 8 h.src_cid) (from_dst_cid h) (long 8 h.src_cid)
    (joined 8 28 (bytes_of 8 h.dst_cid) (from_src_port h) (long 8 h.dst_cid)
    (joined 4 24 (bytes_of 4 h.src_port) (from_dst_port h) (long 4 h.src_port)
    (joined 4 20 (bytes_of 4 h.dst_port) (from_len h) (long 4 h.dst_port)
    (joined 4 16 (bytes_of 4 h.len) (from_socket_type h) (long 4 h.len)
    (joined 2 14 (bytes_of 2 h.socket_type) (from_op h) (long 2 h.socket_type)
    (joined 2 12 (bytes_of 2 h.op) (from_flags h) (long 2 h.op)
    (joined 4 8 (bytes_of 4 h.flags) (from_buf_alloc h) (long 4 h.flags)
    (joined 4 4 (bytes_of 4 h.buf_alloc) (bytes_of 4 h.fwd_cnt) (long 4 h.buf_alloc) (long 4 h.fwd_cnt)))))))))

-- and what a packet carries behind it
pub packet_all : (guest_cid : ℕ) (p : Packet) → IsSmallPacket p → All IsByte (packet_bytes guest_cid p)
packet_all guest_cid p small =
    let head = header_of_head guest_cid (length p.bytes) p.head in
    both (header_bytes head) p.bytes (header_all head) small.bytes.1

pub packet_short : (guest_cid : ℕ) (p : Packet) → IsSmallPacket p → length (packet_bytes guest_cid p) ≤ 108
packet_short guest_cid p small =
    let head = header_of_head guest_cid (length p.bytes) p.head in
    let few = small.bytes.0 in
    omega (arith, length-append (header_bytes head) p.bytes, header_long head, few)

no_text : IsShortBytes [] × (length {A = ℕ} [] < 2 ^ 32)
no_text = ((omega arith, All-nil IsByte), omega arith)

-- what a chain receives
pub text_small : (guest_cid : ℕ) (in_hand : InHand) → IsSmallHand in_hand
    → IsShortBytes (text_of guest_cid in_hand) × (length (text_of guest_cid in_hand) < 2 ^ 32)
text_small guest_cid hand.Free small = no_text
text_small guest_cid (hand.Receives p) small =
    let short = packet_short guest_cid p small in ((omega (arith, short), packet_all guest_cid p small), omega (arith, short))
text_small guest_cid hand.Unjudged small = no_text
text_small guest_cid hand.Orphaned small = no_text
text_small guest_cid (hand.Judged refusal) small = no_text

-- ---- a line of the host

abbrev pub IsSmallLined : Lined → Type 0
IsSmallLined (Asks port rest) = (port < 2 ^ 32) × IsSmallPiece rest
IsSmallLined (More so_far) = Unit {0}
IsSmallLined Other = Unit {0}

abbrev IsPort : ℕ → Type 0
IsPort port = port < 2 ^ 32

port_small : (digits : List ℕ) → IfSome (port_of digits) IsPort
port_small digits = tested (nat_lt 0 (length digits) && list_all is_digit digits) (nat_lt (value_of digits) (2 ^ 32)) refl
  where
    tested : (first low : Bool) → nat_lt (value_of digits) (2 ^ 32) ≡ low
        → IfSome (if first && low then Some (value_of digits) else None) IsPort
    tested true true is = ltb-true _ _ is
    tested true false is = tt
    tested false low is = tt

behind_small : (rest : Option (List ℕ)) → IfSome (option_and_then port_of rest) IsPort
behind_small None = tt
behind_small (Some digits) = port_small digits

asked_small : (port : Option ℕ) (rest : List ℕ) → IfSome port IsPort → IsSmallPiece rest → IsSmallLined (line_asked port rest)
asked_small None rest low small = tt
asked_small (Some port) rest low small = (low, small)

ended_small : (line rest : List ℕ) → IsSmallPiece rest → IsSmallLined (line_ended line rest)
ended_small line rest small = by_length (nat_lt (length line) most_line)
  where
    by_length : (short : Bool) → IsSmallLined (if short then line_asked (asked_port line) rest else Other)
    by_length true = asked_small (asked_port line) rest (behind_small (behind (codes "CONNECT ") line)) small
    by_length false = tt

longer_small : (line : List ℕ) → IsSmallLined (line_longer line)
longer_small line = by_length (nat_lt (length line) most_line)
  where
    by_length : (short : Bool) → IsSmallLined (if short then More line else Other)
    by_length true = tt
    by_length false = tt

cut_small : (at : Option ℕ) (so_far bytes : List ℕ) → IsSmallPiece bytes → IsSmallLined (line_cut at so_far bytes)
cut_small None so_far bytes small = longer_small (so_far ++ bytes)
cut_small (Some at) so_far bytes small =
    let few = small.0 in
    ended_small (so_far ++ take at bytes) (drop (at + 1) bytes)
    (omega (arith, length-drop (at + 1) bytes, few), All-drop IsByte (at + 1) bytes small.1)

pub lined_small : (so_far bytes : List ℕ) → IsSmallPiece bytes → IsSmallLined (lined so_far bytes)
lined_small so_far bytes small = cut_small (position (λ b. b == 10) bytes) so_far bytes small

-- ---- the line that answers it

digit_byte : (c : ℕ) → is_digit c ≡ true → IsByte c
digit_byte c is = grind (arith, is)

digits_all : (digits : List ℕ) → list_all is_digit digits ≡ true → All IsByte digits
digits_all [] is = All-nil IsByte
digits_all (c ∷ digits) is =
    let p = and_parts (is_digit c) (list_all is_digit digits) is in
    All-cons IsByte c digits (digit_byte c p.0) (digits_all digits p.1)

ok_front : All IsByte (codes "OK ")
ok_front =
    All-cons IsByte 79 (75 ∷ 32 ∷ []) (omega arith) (All-cons IsByte 75 (32 ∷ []) (omega arith)
    (All-cons IsByte 32 [] (omega arith) (All-nil IsByte)))

pub ok_small : (port : ℕ) → port < 2 ^ 32 → IsSmallPiece (ok_line port)
ok_small port low =
    let few : length (decimal port) ≤ 10 = length-decimal-le 10 port (omega arith) (omega (arith, low)) (omega (arith, low)) in
    let rest : length (decimal port ++ 10 ∷ []) ≡ length (decimal port) + 1 = length-append (decimal port) (10 ∷ []) in
    let whole : length (codes "OK " ++ decimal port ++ 10 ∷ []) ≡ 3 + length (decimal port ++ 10 ∷ []) =
    length-append (codes "OK ") (decimal port ++ 10 ∷ []) in (
      omega (arith, few, rest, whole),
      both (codes "OK ") (decimal port ++ 10 ∷ []) ok_front
          (both (decimal port) (10 ∷ []) (digits_all (decimal port) (decimal_digits port (omega (arith, low))))
          (All-cons IsByte 10 [] (omega arith) (All-nil IsByte))),
    )
