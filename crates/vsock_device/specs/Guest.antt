-- What comes from the guest (VIRTIO 1.2, 5.10.6).
use Rattle.std.specs.Prelude.{ℕ, zero, suc, ◌-◌, ◌==◌, nat_le, nat_lt, Bool, true, false, ◌&&◌, not, if◌then◌else◌, Option, Some, None, List, [], ◌∷◌, length, drop, take}
use Rattle.vm_types.specs.declared.op.Op.TheVariants.{Out, Read}
use Rattle.vm_types.specs.declared.op.OutOp.TheVariants.{HostClose, HostDial, HostSend}
use Rattle.vm_types.specs.declared.reply.Reply.{Reply}
use Rattle.vm_types.specs.declared.reply.Reply.TheVariants.{Dialled, Done}
use Rattle.vq_split.specs.declared.queue.Part.{Part}
use Rattle.vq_split.specs.Chain.{read_bytes}
use Rattle.dev_core.specs.Pieces.{Got, collect_all, past, place, room, total}
use Rattle.queue_device.specs.Acting.{Acting, Acts, Comes, performing}
use Rattle.vsock_packet.specs.declared.header.Header.{Header}
use Rattle.vsock_packet.specs.declared.operation.Operation.{Operation}
use Rattle.vsock_packet.specs.declared.operation.Operation.TheVariants as operation
use Rattle.vsock_packet.specs.Header.{ends_both_ways, header_of, is_stream}
use Rattle.vsock_packet.specs.Operations.{operation_of}
use Rattle.vsock_device.specs.declared.connection.Connection.{Connection}
use Rattle.vsock_device.specs.declared.connection.Standing.{Standing}
use Rattle.vsock_device.specs.declared.connection.Standing.TheVariants as standing
use Rattle.vsock_device.specs.declared.data.InHand.{InHand}
use Rattle.vsock_device.specs.declared.data.InHand.TheVariants as hand
use Rattle.vsock_device.specs.declared.data.Vsock.{Vsock}
use Rattle.vsock_device.specs.Connections.{connection_at, connection_between, is_live, most_connections}
use Rattle.vsock_device.specs.Credit.{credited, forwarded, host_room}
use Rattle.vsock_device.specs.Data.{answered, connected, dropped, refused, reset_to_guest, with_connection}
use Rattle.vsock_device.specs.Lines.{ok_line}
use Rattle.vsock_device.specs.Packets.{head_of, host_cid, refusal}

-- no byte is written to a chain that is transmitted
abbrev pub taken_in : Vsock → Acting Vsock (Option ℕ)
taken_in e = Comes e (Some 0)

-- ---- bytes for the host

abbrev pub one_forwarded : Option Connection → ℕ → Vsock → Vsock
one_forwarded None n e = e
one_forwarded (Some c) n e = with_connection (forwarded n c) e

abbrev pub one_failed : Option Connection → Vsock → Vsock
one_failed None e = e
one_failed (Some c) e = reset_to_guest c e

-- the connection of this number could not be sent to
abbrev pub failed : ℕ → Vsock → Vsock
failed host e = one_failed (connection_at host e.connections) e

-- bytes went to the host, and something follows; where they didn't, the connection is reset
abbrev pub passed : Reply → ℕ → ℕ → Vsock → (Vsock → Acting Vsock (Option ℕ)) → Acting Vsock (Option ℕ)
passed Done host n e more = more (one_forwarded (connection_at host e.connections) n e)
passed reply host n e more = taken_in (failed host e)

-- bytes go to the host, unless there is none, and something follows
abbrev pub passing : ℕ → List ℕ → Vsock → (Vsock → Acting Vsock (Option ℕ)) → Acting Vsock (Option ℕ)
passing host [] e more = more e
passing host (b ∷ bytes) e more =
    Acts e (Out (HostSend (b ∷ bytes) host)) (λ f reply. passed reply host (length (b ∷ bytes)) f more)

-- a piece was read, and goes to the host, if the connection still lives
abbrev pub piece_read : ℕ → List ℕ → Vsock → (Vsock → Acting Vsock (Option ℕ)) → Acting Vsock (Option ℕ)
piece_read host piece e more = if is_live host e.connections then passing host piece e more else taken_in e

-- the parts are read in pieces, each of which goes to the host before the next is read; at most `most` pieces
abbrev pub forwarding : ℕ → ℕ → List Part → Vsock → Acting Vsock (Option ℕ)
forwarding zero host parts e = taken_in e
forwarding (suc most) host parts e =
    if room parts == 0 then taken_in e
    else Acts e (Read (place parts) (room parts)) (λ f reply.
    piece_read host (read_bytes (room parts) reply) f (λ g. forwarding most host (past (room parts) parts) g))

abbrev pub forwarding_all : ℕ → List Part → Vsock → Acting Vsock (Option ℕ)
forwarding_all host parts e = forwarding (total parts) host parts e

-- ---- a connection ends

-- it is closed at the host
abbrev pub closed : ℕ → Vsock → Acting Vsock (Option ℕ)
closed host e = Acts e (Out (HostClose host)) (λ f reply. taken_in f)

-- and the guest is told so
abbrev pub reset_both_ways : Connection → Vsock → Acting Vsock (Option ℕ)
reset_both_ways c e = closed c.host (reset_to_guest c e)

-- ---- a connection begins

-- the guest dials a port of the host
abbrev pub guest_connection : ℕ → Header → Connection
guest_connection host h = record {
  host = host;
  host_port = h.dst_port;
  guest_port = h.src_port;
  standing = standing.Open;
  fwd_cnt = 0;
  tx_cnt = 0;
  peer_buf_alloc = h.buf_alloc;
  peer_fwd_cnt = h.fwd_cnt;
}

abbrev pub welcomed : Connection → Vsock → Vsock
welcomed c e = answered (head_of operation.Response c) (connected c e)

-- there is room for one more, whose number isn't in use
abbrev pub is_new : ℕ → Vsock → Bool
is_new host e = not (is_live host e.connections) && nat_lt (length e.connections) most_connections

-- a number that is in use is none
abbrev pub dialled : Reply → Header → Vsock → Acting Vsock (Option ℕ)
dialled (Dialled host) h e =
    if is_new host e then taken_in (welcomed (guest_connection host h) e) else taken_in (refused h e)
dialled reply h e = taken_in (refused h e)

abbrev pub dialling : Header → Vsock → Acting Vsock (Option ℕ)
dialling h e =
    if nat_lt (length e.connections) most_connections
    then Acts e (Out (HostDial h.dst_port)) (λ f reply. dialled reply h f)
    else taken_in (refused h e)

-- the host's connection is told that the guest takes it
abbrev pub one_open : Option Connection → Vsock → Vsock
one_open None e = e
one_open (Some c) e = with_connection (record c { standing = standing.Open }) e

abbrev pub told_open : Reply → ℕ → Vsock → Acting Vsock (Option ℕ)
told_open Done host e = taken_in (one_open (connection_at host e.connections) e)
told_open reply host e = taken_in (failed host e)

abbrev pub telling_open : Connection → Vsock → Acting Vsock (Option ℕ)
telling_open c e = Acts e (Out (HostSend (ok_line c.host_port) c.host)) (λ f reply. told_open reply c.host f)

-- ---- packets of a connection

abbrev pub responded : Standing → Connection → Vsock → Acting Vsock (Option ℕ)
responded standing.Asked c e = telling_open c e
responded standing c e = reset_both_ways c e

-- bytes that the guest may send go on; those behind the header first
abbrev pub written : Standing → Header → Got → Connection → Vsock → Acting Vsock (Option ℕ)
written standing.Open h got c e =
    if nat_le h.len host_room
    then passing c.host (drop 44 got.bytes) e (λ f. forwarding_all c.host got.parts f)
    else reset_both_ways c e
written standing h got c e = reset_both_ways c e

abbrev pub shut_down : Header → Connection → Vsock → Acting Vsock (Option ℕ)
shut_down h c e = if ends_both_ways h then reset_both_ways c e else taken_in e

abbrev pub done : Option Operation → Header → Got → Connection → Vsock → Acting Vsock (Option ℕ)
done (Some operation.Request) h got c e = reset_both_ways c e
done (Some operation.Response) h got c e = responded c.standing c e
done (Some operation.Rst) h got c e = closed c.host (dropped c.host e)
done (Some operation.Shutdown) h got c e = shut_down h c e
done (Some operation.Rw) h got c e = written c.standing h got c e
done (Some operation.CreditUpdate) h got c e = taken_in e
done (Some operation.CreditRequest) h got c e = taken_in (answered (head_of operation.CreditUpdate c) e)
done None h got c e = taken_in e

-- each one tells the credit
abbrev pub done_credited : Header → Got → Connection → Vsock → Acting Vsock (Option ℕ)
done_credited h got c e = done (operation_of h.op) h got c (with_connection c e)

-- ---- a packet

-- a packet of no connection asks for one, or is refused
abbrev pub strange : Option Operation → Header → Vsock → Acting Vsock (Option ℕ)
strange (Some operation.Request) h e = dialling h e
strange operation h e = taken_in (refused h e)

abbrev pub of_connection : Option Connection → Header → Got → Vsock → Acting Vsock (Option ℕ)
of_connection None h got e = strange (operation_of h.op) h e
of_connection (Some c) h got e = done_credited h got (credited h c) e

-- from this guest to the host, of a stream
abbrev pub is_addressed : Header → Vsock → Bool
is_addressed h e = (h.src_cid == e.guest_cid) && (h.dst_cid == host_cid) && is_stream h

-- where the connections were reset since its chain was begun it is of none, and asks for none
abbrev pub is_orphaned : InHand → Bool
is_orphaned hand.Orphaned = true
is_orphaned in_hand = false

abbrev pub judged : Header → Got → Vsock → Acting Vsock (Option ℕ)
judged h got e =
    if not (is_orphaned e.in_hand) && is_addressed h e
    then of_connection (connection_between h.src_port h.dst_port e.connections) h got (record e { in_hand = hand.Judged (refusal h) })
    else taken_in (refused h (record e { in_hand = hand.Judged (refusal h) }))

-- what does nothing is answered by nothing
abbrev pub ignored : Vsock → Acting Vsock (Option ℕ)
ignored e = taken_in (record e { in_hand = hand.Judged None })

-- its header came; it has to say how many bytes there are behind it
abbrev pub read_by : ℕ → Header → Got → Vsock → Acting Vsock (Option ℕ)
read_by len h got e = if h.len == len then judged h got e else ignored e

-- (there are as many bytes as a header has, since the chain has no fewer)
abbrev pub packet_read : ℕ → Vsock → Got → Acting Vsock (Option ℕ)
packet_read len e got =
    if nat_lt (length got.bytes) 44 then ignored e else read_by len (header_of (take 44 got.bytes)) got e

-- the packet of a chain is all that can be read of it; what is shorter than a header does nothing
abbrev pub transmitted : List Part → Vsock → Acting Vsock (Option ℕ)
transmitted parts e =
    if nat_lt (total parts) 44 then ignored e
    else performing (collect_all 44 [] parts) e (packet_read (total parts - 44))
