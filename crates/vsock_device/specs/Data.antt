-- The data of a vsock device, and what becomes of them.
use Rattle.std.specs.Prelude.{ℕ, ◌==◌, false, if◌then◌else◌, Option, Some, None, List, [], ◌∷◌, ◌++◌, length}
use Rattle.vsock_packet.specs.declared.header.Header.{Header}
use Rattle.vsock_packet.specs.declared.operation.Operation.TheVariants as operation
use Rattle.vsock_device.specs.declared.connection.Connection.{Connection}
use Rattle.vsock_device.specs.declared.data.InHand.TheVariants as hand
use Rattle.vsock_device.specs.declared.data.Vsock.{Vsock}
use Rattle.vsock_device.specs.declared.packet.Head.{Head}
use Rattle.vsock_device.specs.declared.packet.HostBytes.{HostBytes}
use Rattle.vsock_device.specs.declared.packet.Packet.{Packet}
use Rattle.vsock_device.specs.Connections.{connection_at, first_port, updated, without}
use Rattle.vsock_device.specs.Credit.{has_credit, sent}
use Rattle.vsock_device.specs.Packets.{head_of, refusal}

-- those of a device that has done nothing
abbrev pub new_data : ℕ → Vsock
new_data guest_cid = record {
  guest_cid = guest_cid;
  next_port = first_port;
  connections = [];
  answer = None;
  held = None;
  in_hand = hand.Free;
  reset_due = false;
}

-- ---- connections

abbrev pub connected : Connection → Vsock → Vsock
connected c e = record e { connections = e.connections ++ c ∷ [] }

abbrev pub with_connection : Connection → Vsock → Vsock
with_connection c e = record e { connections = updated c e.connections }

-- bytes that are held go with their connection
abbrev pub held_without : ℕ → Option HostBytes → Option HostBytes
held_without host None = None
held_without host (Some b) = if b.host == host then None else Some b

abbrev pub dropped : ℕ → Vsock → Vsock
dropped host e = record e { connections = without host e.connections; held = held_without host e.held }

-- ---- what waits for the guest

-- an answer
abbrev pub answered : Head → Vsock → Vsock
answered head e = record e { answer = Some head }

-- the RST of a packet that is of no connection
abbrev pub refused : Header → Vsock → Vsock
refused h e = record e { answer = refusal h }

-- the connection is gone, and the guest is told so
abbrev pub reset_to_guest : Connection → Vsock → Vsock
reset_to_guest c e = answered (head_of operation.Rst c) (dropped c.host e)

-- bytes of the host go where the guest has room for them
abbrev pub bytes_of_one : Option Connection → List ℕ → Option Packet
bytes_of_one None bytes = None
bytes_of_one (Some c) bytes =
    if has_credit (length bytes) c then Some (record { head = head_of operation.Rw c; bytes = bytes }) else None

abbrev pub bytes_waiting : Option HostBytes → List Connection → Option Packet
bytes_waiting None cs = None
bytes_waiting (Some b) cs = bytes_of_one (connection_at b.host cs) b.bytes

abbrev pub first_of : Option Head → Option Packet → Option Packet
first_of (Some head) bytes = Some (record { head = head; bytes = [] })
first_of None bytes = bytes

-- the packet that waits for a chain: the answer, or else the bytes that are held
abbrev pub waiting : Vsock → Option Packet
waiting e = first_of e.answer (bytes_waiting e.held e.connections)

-- ---- once a chain has it

abbrev pub one_sent : Option Connection → ℕ → Vsock → Vsock
one_sent None n e = e
one_sent (Some c) n e = with_connection (sent n c) e

abbrev pub held_sent : Option HostBytes → Vsock → Vsock
held_sent None e = e
held_sent (Some b) e = record (one_sent (connection_at b.host e.connections) (length b.bytes) e) { held = None }

abbrev pub delivered_by : Option Head → Vsock → Vsock
delivered_by (Some head) e = record e { answer = None }
delivered_by None e = held_sent e.held e

-- what waited was told; after a reset of the connections nothing waits
abbrev pub delivered : Vsock → Vsock
delivered e = delivered_by e.answer e
