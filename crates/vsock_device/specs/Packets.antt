-- What the device tells the guest (VIRTIO 1.2, 5.10.6).
use Rattle.std.specs.Prelude.{ℕ, ◌==◌, if◌then◌else◌, Option, Some, None, List, ◌++◌, length}
use Rattle.vsock_packet.specs.declared.header.Header.{Header}
use Rattle.vsock_packet.specs.declared.operation.Operation.{Operation}
use Rattle.vsock_packet.specs.declared.operation.Operation.TheVariants as operation
use Rattle.vsock_packet.specs.Header.{header_bytes}
use Rattle.vsock_packet.specs.Operations.{number_of}
use Rattle.vsock_device.specs.declared.connection.Connection.{Connection}
use Rattle.vsock_device.specs.declared.packet.Head.{Head}
use Rattle.vsock_device.specs.declared.packet.Packet.{Packet}
use Rattle.vsock_device.specs.Credit.{host_room}

-- the host's CID (5.10.4)
abbrev pub host_cid : ℕ
host_cid = 2

-- its header, with so many bytes behind it, from the host to the guest of this CID
abbrev pub header_of_head : ℕ → ℕ → Head → Header
header_of_head guest_cid len head = record {
  src_cid = host_cid;
  dst_cid = guest_cid;
  src_port = head.host_port;
  dst_port = head.guest_port;
  len = len;
  socket_type = 1;
  op = number_of head.operation;
  flags = 0;
  buf_alloc = host_room;
  fwd_cnt = head.fwd_cnt;
}

abbrev pub packet_bytes : ℕ → Packet → List ℕ
packet_bytes guest_cid p = header_bytes (header_of_head guest_cid (length p.bytes) p.head) ++ p.bytes

-- of a connection
abbrev pub head_of : Operation → Connection → Head
head_of operation c =
    record { operation = operation; host_port = c.host_port; guest_port = c.guest_port; fwd_cnt = c.fwd_cnt }

-- a packet that is of no connection is answered by an RST, an RST by nothing
abbrev pub refusal : Header → Option Head
refusal h =
    if h.op == number_of operation.Rst then None
    else Some (record { operation = operation.Rst; host_port = h.dst_port; guest_port = h.src_port; fwd_cnt = 0 })
