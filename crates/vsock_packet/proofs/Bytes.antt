-- The fields of a header, one behind the other.
use Rattle.std.proofs.Common.{◌≡◌, ℕ, ◌+◌, ◌≤◌, List, [], ◌++◌, length, take, drop, sym, ap, ◌∙◌, arith, length-drop}
use Rattle.std.proofs.lemmas.List.{drop-drop, drop_all, take-append-drop, length-take-le}
use Rattle.std.proofs.lemmas.List.Elements.{All-take, All-drop}
use Rattle.std.specs.List.{All}
use Rattle.le_fields.specs.Fields.{bytes_of, field_at, little_endian, IsByte}
use Rattle.le_fields.proofs.Halves.{field_take}
use Rattle.le_fields.proofs.Values.{bytes_of_value, value_of_bytes}
use Rattle.vsock_packet.specs.Header.{header_bytes, header_of, Fits}
use Rattle.vsock_packet.specs.declared.header.Header.{Header}

-- a field's bytes, and those behind it, are those from its place on
joined : (bytes : List ℕ) (at width : ℕ) (rest : List ℕ) → All IsByte bytes → at + width ≤ length bytes
    → rest ≡ drop (at + width) bytes → bytes_of width (field_at bytes at width) ++ rest ≡ drop at bytes
joined bytes at width rest all room is =
    let here = take width (drop at bytes) in
    let long : length here ≡ width = length-take-le width (drop at bytes) (omega (arith, length-drop at bytes, room)) in
    let same : bytes_of (length here) (little_endian here) ≡ here =
    bytes_of_value here (All-take IsByte width (drop at bytes) (All-drop IsByte at bytes all)) in
    ap (λ n. bytes_of width n ++ rest) (field_take bytes at width)
    ∙ ap (λ n. bytes_of n (little_endian here) ++ rest) (sym long)
    ∙ ap (λ xs. xs ++ rest) same
    ∙ ap (λ xs. here ++ xs) (is ∙ sym (drop-drop width at bytes))
    ∙ take-append-drop width (drop at bytes)

-- the fields of 44 bytes are these bytes
pub whole : (bytes : List ℕ) → All IsByte bytes → length bytes ≡ 44 → header_bytes (header_of bytes) ≡ bytes
whole bytes all long =
    let none : [] ≡ drop 44 bytes = sym (drop_all 44 bytes (omega (arith, long))) in
    let j = joined bytes 40 4 [] all (omega (arith, long)) none in
    let i = joined bytes 36 4 _ all (omega (arith, long)) j in
    let h = joined bytes 32 4 _ all (omega (arith, long)) i in
    let g = joined bytes 30 2 _ all (omega (arith, long)) h in
    let f = joined bytes 28 2 _ all (omega (arith, long)) g in
    let e = joined bytes 24 4 _ all (omega (arith, long)) f in
    let d = joined bytes 20 4 _ all (omega (arith, long)) e in
    let c = joined bytes 16 4 _ all (omega (arith, long)) d in
    let b = joined bytes 8 8 _ all (omega (arith, long)) c in
    joined bytes 0 8 _ all (omega (arith, long)) b

-- a header by its fields
abbrev made : ℕ → ℕ → ℕ → ℕ → ℕ → ℕ → ℕ → ℕ → ℕ → ℕ → Header
made a b c d e f g i j k =
    record {
      src_cid = a;
      dst_cid = b;
      src_port = c;
      dst_port = d;
      len = e;
      socket_type = f;
      op = g;
      flags = i;
      buf_alloc = j;
      fwd_cnt = k;
    }

same_header : (a b c d e f g i j k : ℕ) (h : Header) → a ≡ h.src_cid → b ≡ h.dst_cid → c ≡ h.src_port → d ≡ h.dst_port
    → e ≡ h.len → f ≡ h.socket_type → g ≡ h.op → i ≡ h.flags → j ≡ h.buf_alloc → k ≡ h.fwd_cnt → made a b c d e f g i j k ≡ h
same_header a b c d e f g i j k h pa pb pc pd pe pf pg pi pj pk =
    ap (λ n. made n b c d e f g i j k) pa
    ∙ ap (λ n. made h.src_cid n c d e f g i j k) pb
    ∙ ap (λ n. made h.src_cid h.dst_cid n d e f g i j k) pc
    ∙ ap (λ n. made h.src_cid h.dst_cid h.src_port n e f g i j k) pd
    ∙ ap (λ n. made h.src_cid h.dst_cid h.src_port h.dst_port n f g i j k) pe
    ∙ ap (λ n. made h.src_cid h.dst_cid h.src_port h.dst_port h.len n g i j k) pf
    ∙ ap (λ n. made h.src_cid h.dst_cid h.src_port h.dst_port h.len h.socket_type n i j k) pg
    ∙ ap (λ n. made h.src_cid h.dst_cid h.src_port h.dst_port h.len h.socket_type h.op n j k) pi
    ∙ ap (λ n. made h.src_cid h.dst_cid h.src_port h.dst_port h.len h.socket_type h.op h.flags n k) pj
    ∙ ap (λ n. made h.src_cid h.dst_cid h.src_port h.dst_port h.len h.socket_type h.op h.flags h.buf_alloc n) pk

-- the bytes of a header whose fields have their widths have these fields
pub again : (h : Header) → Fits h → header_of (header_bytes h) ≡ h
again h fits =
    same_header _ _ _ _ _ _ _ _ _ _ h (value_of_bytes 8 h.src_cid fits.src_cid) (value_of_bytes 8 h.dst_cid fits.dst_cid)
    (value_of_bytes 4 h.src_port fits.src_port) (value_of_bytes 4 h.dst_port fits.dst_port) (value_of_bytes 4 h.len fits.len)
    (value_of_bytes 2 h.socket_type fits.socket_type) (value_of_bytes 2 h.op fits.op) (value_of_bytes 4 h.flags fits.flags)
    (value_of_bytes 4 h.buf_alloc fits.buf_alloc) (value_of_bytes 4 h.fwd_cnt fits.fwd_cnt)
