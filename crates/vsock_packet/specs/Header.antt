-- The header of a vsock packet as bytes (VIRTIO 1.2, 5.10.6).
use Rattle.std.specs.Prelude.{ℕ, ◌==◌, ◌<◌, ◌^◌, Bool, List, ◌++◌}
use Rattle.le_fields.specs.Fields.{bytes_of, field_at}
use Rattle.vsock_packet.specs.declared.header.Header.{Header}

-- its 44 bytes: the fields one behind the other, each with its lowest byte first
abbrev pub header_bytes : Header → List ℕ
header_bytes h =
    bytes_of 8 h.src_cid
    ++ bytes_of 8 h.dst_cid
    ++ bytes_of 4 h.src_port
    ++ bytes_of 4 h.dst_port
    ++ bytes_of 4 h.len
    ++ bytes_of 2 h.socket_type
    ++ bytes_of 2 h.op
    ++ bytes_of 4 h.flags
    ++ bytes_of 4 h.buf_alloc
    ++ bytes_of 4 h.fwd_cnt

-- what each field is, by its offset in the bytes and how many it has
abbrev pub header_of : List ℕ → Header
header_of bytes =
    record {
      src_cid = field_at bytes 0 8;
      dst_cid = field_at bytes 8 8;
      src_port = field_at bytes 16 4;
      dst_port = field_at bytes 20 4;
      len = field_at bytes 24 4;
      socket_type = field_at bytes 28 2;
      op = field_at bytes 30 2;
      flags = field_at bytes 32 4;
      buf_alloc = field_at bytes 36 4;
      fwd_cnt = field_at bytes 40 4;
    }

-- each field has its width
pub record Fits (h : Header) : Type 0 where
  pub src_cid : h.src_cid < 2 ^ 64
  pub dst_cid : h.dst_cid < 2 ^ 64
  pub src_port : h.src_port < 2 ^ 32
  pub dst_port : h.dst_port < 2 ^ 32
  pub len : h.len < 2 ^ 32
  pub socket_type : h.socket_type < 2 ^ 16
  pub op : h.op < 2 ^ 16
  pub flags : h.flags < 2 ^ 32
  pub buf_alloc : h.buf_alloc < 2 ^ 32
  pub fwd_cnt : h.fwd_cnt < 2 ^ 32

-- VIRTIO_VSOCK_TYPE_STREAM
abbrev pub is_stream : Header → Bool
is_stream h = h.socket_type == 1

-- of a SHUTDOWN: bit 0 says that its sender receives no more, and bit 1 that it sends no more
abbrev pub ends_both_ways : Header → Bool
ends_both_ways h = h.flags == 3
