-- Whole sequences of a vsock device's acts.
use Rattle.std.specs.Prelude.{ℕ, ◌+◌, Bool, true, false, Option, Some, List, [], ◌∷◌, ◌++◌, codes, replicate}
use Rattle.vm_types.specs.declared.op.Op.{Op}
use Rattle.vm_types.specs.declared.op.Op.TheVariants.{Read, Write, Port, Board, Out}
use Rattle.vm_types.specs.declared.op.BoardOp.TheVariants.{RaiseLine}
use Rattle.vm_types.specs.declared.op.OutOp.TheVariants.{HostDial, HostNext, HostSend}
use Rattle.vm_types.specs.declared.op.PortOp.TheVariants.{Look, Interrupt}
use Rattle.vm_types.specs.declared.port_look.QueueShown.{QueueShown}
use Rattle.vm_types.specs.declared.reply.Reply.{Reply}
use Rattle.vm_types.specs.declared.reply.Reply.TheVariants.{Bytes, Dialled, Done, Nothing, Opened, Received}
use Rattle.device_trace.specs.Traces.{Item, Did, Changed}
use Rattle.le_fields.specs.Fields.{bytes_of}
use Rattle.queue_device.specs.declared.lanes.Due.TheVariants as due
use Rattle.queue_device.specs.declared.lanes.Lane.{Lane}
use Rattle.queue_device.specs.Lanes.{new_lane, new_rounds}
use Rattle.queue_device.specs.Service.{Queued}
use Rattle.vsock_packet.specs.declared.header.Header.{Header}
use Rattle.vsock_packet.specs.declared.operation.Operation.{Operation}
use Rattle.vsock_packet.specs.declared.operation.Operation.TheVariants as operation
use Rattle.vsock_packet.specs.Header.{header_bytes}
use Rattle.vsock_packet.specs.Operations.{number_of}
use Rattle.vsock_device.specs.declared.connection.Connection.{Connection}
use Rattle.vsock_device.specs.declared.connection.Standing.TheVariants as standing
use Rattle.vsock_device.specs.declared.data.Vsock.{Vsock}
use Rattle.vsock_device.specs.declared.data.VsockChange.{VsockChange}
use Rattle.vsock_device.specs.declared.data.VsockChange.TheVariants.{Reset}
use Rattle.vsock_device.specs.declared.packet.HostBytes.{HostBytes}
use Rattle.vsock_device.specs.Data.{new_data}
use Rattle.vsock_device.specs.Lines.{ok_line}
use Rattle.vsock_device.specs.Packets.{header_of_head}

-- ---- a device at port 3 of a guest of 1,024 pages, whose CID is 3

abbrev pub start : Vsock → Queued Vsock
start own = record { rounds = new_rounds 3 1024; own = own }

-- a lane of which so many chains were given back
abbrev pub used_lane : ℕ → Lane
used_lane n = record new_lane { next = n; used = n }

-- it has nothing to do, and looks next
abbrev pub finish : Lane → Lane → Lane → Vsock → Queued Vsock
finish first second third own = record {
  rounds = record {
    first = first;
    second = second;
    third = third;
    pages = 1024;
    port = 3;
    due = due.Look;
    is_busy = false;
  };
  own = own;
}

-- a connection of the number 7 between port 77 of the guest and this port of the host, by what was sent to the guest, how much room
-- it has, and how much it has let go
abbrev pub connection : ℕ → ℕ → ℕ → ℕ → Connection
connection host_port sent room let_go = record {
  host = 7;
  host_port = host_port;
  guest_port = 77;
  standing = standing.Open;
  fwd_cnt = 0;
  tx_cnt = sent;
  peer_buf_alloc = room;
  peer_fwd_cnt = let_go;
}

abbrev pub with_one : Connection → Vsock
with_one c = record (new_data 3) { connections = c ∷ [] }

abbrev pub did : Op → Reply → Item VsockChange
did op reply = Did (record { op = op; reply = reply })

-- ---- rounds

-- a queue of four descriptors, whose tables stand from this place on
abbrev pub queue_at : ℕ → Bool → QueueShown
queue_at place is_kicked = record {
  descriptors = place;
  available = place + 0x100;
  used = place + 0x200;
  size = 4;
  is_ready = true;
  is_kicked = is_kicked;
}

-- a look, by which tx was kicked or wasn't
abbrev pub looks : Bool → Item VsockChange
looks is_kicked = did (Port 3 Look) (Reply.Port (record {
  first = queue_at 0x80002000 false;
  second = queue_at 0x80003000 is_kicked;
  third = queue_at 0x80004000 false;
  accepted = record { indirect = false; event_index = false };
  status = 15;
  was_reset = false;
}))

-- nothing happened at the host
abbrev pub nothing_new : Item VsockChange
nothing_new = did (Out HostNext) Nothing

abbrev pub waited : Item VsockChange
waited = did Op.Idle Done

-- nothing is left to do
abbrev pub rests : List (Item VsockChange)
rests = looks false ∷ nothing_new ∷ waited ∷ []

-- ---- chains of one part of fewer than 256 bytes, which is at 0x80001000

-- the available index of the queue at this place
abbrev pub index_read : ℕ → ℕ → Item VsockChange
index_read place index = did (Read (place + 0x102) 2) (Bytes (index ∷ 0 ∷ []))

-- the first chain, with the head 0
abbrev pub chain_read : ℕ → ℕ → ℕ → List (Item VsockChange)
chain_read place len flags =
    index_read place 1 ∷ did (Read (place + 0x104) 2) (Bytes (0 ∷ 0 ∷ []))
    ∷ did (Read place 16) (Bytes (bytes_of 8 0x80001000 ++ len ∷ 0 ∷ 0 ∷ 0 ∷ flags ∷ 0 ∷ 0 ∷ 0 ∷ []))
    ∷ []

-- it is given back with fewer than 256 bytes
abbrev pub given_back : ℕ → ℕ → List (Item VsockChange)
given_back place len =
    did (Write (place + 0x204) (0 ∷ 0 ∷ 0 ∷ 0 ∷ len ∷ 0 ∷ 0 ∷ 0 ∷ [])) Done
    ∷ did (Write (place + 0x202) (1 ∷ 0 ∷ [])) Done
    ∷ did (Port 3 (Interrupt 1)) Done
    ∷ did (Board RaiseLine) Done
    ∷ []

-- ---- packets

-- from the guest to port 99 of the host, or to this one
abbrev pub from_guest : Operation → ℕ → ℕ → ℕ → ℕ → Header
from_guest op host_port len room let_go = record {
  src_cid = 3;
  dst_cid = 2;
  src_port = 77;
  dst_port = host_port;
  len = len;
  socket_type = 1;
  op = number_of op;
  flags = 0;
  buf_alloc = room;
  fwd_cnt = let_go;
}

-- a chain of 44 bytes is transmitted, which are this header
abbrev pub header_read : Header → List (Item VsockChange)
header_read h = chain_read 0x80003000 44 0 ++ did (Read 0x80001000 44) (Bytes (header_bytes h)) ∷ []

-- the guest is told this, in a chain of 44 bytes
abbrev pub told : Operation → ℕ → List (Item VsockChange)
told op host_port =
    chain_read 0x80002000 44 2
    ++ did (Write 0x80001000 (header_bytes (header_of_head 3 0 (record { operation = op; host_port = host_port; guest_port = 77; fwd_cnt = 0 })))) Done
    ∷ given_back 0x80002000 44

-- a round in which tx, kicked before, is found empty behind what is told
abbrev pub told_alone : Operation → ℕ → List (Item VsockChange)
told_alone op host_port = looks false ∷ told op host_port ++ index_read 0x80003000 1 ∷ []

-- ---- the guest asks for a connection to port 99, which is there

abbrev pub guest_connects : List (Item VsockChange)
guest_connects =
    looks true ∷ nothing_new ∷ header_read (from_guest operation.Request 99 0 65536 0)
    ++ did (Out (HostDial 99)) (Dialled 7) ∷ given_back 0x80003000 0
    ++ told_alone operation.Response 99 ++ rests

-- ---- the host asks for port 77, and the guest takes the connection

abbrev pub host_connects : List (Item VsockChange)
host_connects =
    looks false ∷ did (Out HostNext) (Opened 7)
    ∷ looks false ∷ did (Out HostNext) (Received (codes "CONNECT 77\n") 7)
    ∷ told operation.Request 1073741824
    ++ looks true ∷ nothing_new ∷ header_read (from_guest operation.Response 1073741824 0 65536 0)
    ++ did (Out (HostSend (ok_line 1073741824) 7)) Done ∷ given_back 0x80003000 0
    ++ index_read 0x80003000 1 ∷ rests

-- ---- credit: 90 bytes were sent to a guest that has room for 100, and 64 of the host's wait

abbrev pub held_bytes : Option HostBytes
held_bytes = Some (record { host = 7; bytes = replicate 64 1 })

abbrev pub holding : ℕ → Vsock
holding let_go = record (with_one (connection 99 90 100 let_go)) { held = held_bytes }

-- the guest tells that it has let so many go
abbrev pub credit_told : ℕ → List (Item VsockChange)
credit_told let_go =
    looks true ∷ header_read (from_guest operation.CreditUpdate 99 0 100 let_go) ++ given_back 0x80003000 0

-- 53 are too few, and the bytes go on waiting; nothing is asked of the host meanwhile
abbrev pub too_little_credit : List (Item VsockChange)
too_little_credit = credit_told 53 ++ index_read 0x80003000 1 ∷ looks false ∷ waited ∷ []

-- 54 are enough
abbrev pub enough_credit : List (Item VsockChange)
enough_credit =
    credit_told 54 ++ looks false ∷ chain_read 0x80002000 108 2
    ++ did (Write 0x80001000 (header_bytes (header_of_head 3 64 (record { operation = operation.Rw; host_port = 99; guest_port = 77; fwd_cnt = 0 })) ++ replicate 20 1)) Done
    ∷ did (Write 0x80001040 (replicate 44 1)) Done
    ∷ given_back 0x80002000 108 ++ index_read 0x80003000 1 ∷ rests

-- ---- a reset of the connections

-- an event goes into the first chain that is long enough: not into one of 3 bytes, but into the second one, of 4, and into that alone
abbrev pub event_told : List (Item VsockChange)
event_told =
    Changed Reset ∷ looks false ∷ nothing_new
    ∷ chain_read 0x80004000 3 2 ++ given_back 0x80004000 0
    ++ index_read 0x80004000 2 ∷ did (Read 0x80004106 2) (Bytes (1 ∷ 0 ∷ []))
    ∷ did (Read 0x80004010 16) (Bytes (bytes_of 8 0x80001000 ++ 4 ∷ 0 ∷ 0 ∷ 0 ∷ 2 ∷ 0 ∷ 0 ∷ 0 ∷ []))
    ∷ did (Write 0x80001000 (0 ∷ 0 ∷ 0 ∷ 0 ∷ [])) Done
    ∷ did (Write 0x8000420c (1 ∷ 0 ∷ 0 ∷ 0 ∷ 4 ∷ 0 ∷ 0 ∷ 0 ∷ [])) Done
    ∷ did (Write 0x80004202 (2 ∷ 0 ∷ [])) Done
    ∷ did (Port 3 (Interrupt 1)) Done
    ∷ did (Board RaiseLine) Done
    ∷ rests

-- Where 4 bytes of the guest are about to go to the host, they don't go any more. Their packet is answered by an RST, as one of no
-- connection. No chain is there for the event.
abbrev pub reset_inside : List (Item VsockChange)
reset_inside =
    looks true ∷ nothing_new ∷ chain_read 0x80003000 48 0
    ++ did (Read 0x80001000 48) (Bytes (header_bytes (from_guest operation.Rw 99 4 65536 0) ++ replicate 4 1))
    ∷ Changed Reset ∷ given_back 0x80003000 0
    ++ index_read 0x80004000 0 ∷ told_alone operation.Rst 99
    ++ index_read 0x80004000 0 ∷ looks false ∷ nothing_new ∷ index_read 0x80004000 0 ∷ waited ∷ []

-- what is left then
abbrev pub after_reset : Bool → Vsock
after_reset due = record (new_data 3) { reset_due = due }

-- the connection of the host, and what port of the host is next
abbrev pub host_connected : Vsock
host_connected =
    record (with_one (connection 1073741824 0 65536 0)) { next_port = 1073741825 }
