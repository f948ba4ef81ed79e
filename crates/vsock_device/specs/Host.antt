-- What comes from the host's end.
use Rattle.std.specs.Prelude.{ℕ, Bool, true, false, if◌then◌else◌, nat_lt, Option, Some, None, List, [], ◌∷◌, length}
use Rattle.vm_types.specs.declared.op.Op.TheVariants.{Out}
use Rattle.vm_types.specs.declared.op.OutOp.TheVariants.{HostClose}
use Rattle.vm_types.specs.declared.reply.Reply.{Reply}
use Rattle.vm_types.specs.declared.reply.Reply.TheVariants.{Ended, Opened, Received}
use Rattle.vsock_packet.specs.declared.operation.Operation.TheVariants as operation
use Rattle.queue_device.specs.Acting.{Acting, Acts, Comes}
use Rattle.vsock_device.specs.declared.connection.Connection.{Connection}
use Rattle.vsock_device.specs.declared.connection.Standing.{Standing}
use Rattle.vsock_device.specs.declared.connection.Standing.TheVariants as standing
use Rattle.vsock_device.specs.declared.data.Vsock.{Vsock}
use Rattle.vsock_device.specs.declared.line.Lined.{Lined}
use Rattle.vsock_device.specs.declared.line.Lined.TheVariants.{Asks, More, Other}
use Rattle.vsock_device.specs.declared.packet.HostBytes.{HostBytes}
use Rattle.vsock_device.specs.Connections.{connection_at, free_port, is_live, most_connections, new_connection, port_after}
use Rattle.vsock_device.specs.Data.{answered, connected, dropped, reset_to_guest, with_connection}
use Rattle.vsock_device.specs.Lines.{lined}
use Rattle.vsock_device.specs.Packets.{head_of}

-- ---- a new connection

-- its number is told to the host, by which it is closed; what is received is received
abbrev pub closing : ℕ → Vsock → Acting Vsock Bool
closing host e = Acts e (Out (HostClose host)) (λ f reply. Comes f true)

-- one whose number is in use is none; where there are as many as there may be, it is closed
abbrev pub opened : ℕ → Vsock → Acting Vsock Bool
opened host e =
    if is_live host e.connections then Comes e false
    else if nat_lt (length e.connections) most_connections then Comes (connected (new_connection host) e) true
    else closing host e

-- ---- bytes

-- where there are some
abbrev pub held_of : ℕ → List ℕ → Option HostBytes
held_of host [] = None
held_of host (b ∷ bytes) = Some (record { host = host; bytes = b ∷ bytes })

-- The guest is asked for the connection, at this port of the host; what came behind the line waits.
abbrev pub asked_at : ℕ → Connection → Vsock → Vsock
asked_at port c e =
    answered (head_of operation.Request c) (with_connection c (record e { next_port = port_after port }))

abbrev pub connection_asked : ℕ → ℕ → Connection → Connection
connection_asked port guest_port c =
    record c { host_port = port; guest_port = guest_port; standing = standing.Asked }

abbrev pub guest_asked : ℕ → ℕ → List ℕ → Connection → Vsock → Vsock
guest_asked port guest_port rest c e =
    record (asked_at port (connection_asked port guest_port c) e) { held = held_of c.host rest }

-- the next port that no connection has
abbrev pub next_free : Vsock → ℕ
next_free e = free_port (length e.connections) e.connections e.next_port

-- another line closes the connection, which is gone before that act
abbrev pub asking : Lined → Connection → Vsock → Acting Vsock Bool
asking (More so_far) c e = Comes (with_connection (record c { standing = standing.Line so_far }) e) true
asking Other c e = closing c.host (dropped c.host e)
asking (Asks guest_port rest) c e = Comes (guest_asked (next_free e) guest_port rest c e) true

-- the bytes of a connection that the guest knows wait for it
abbrev pub heard_by : Standing → List ℕ → Connection → Vsock → Acting Vsock Bool
heard_by (standing.Line so_far) bytes c e = asking (lined so_far bytes) c e
heard_by standing bytes c e = Comes (record e { held = Some (record { host = c.host; bytes = bytes }) }) true

-- those of no connection are none
abbrev pub heard : Option Connection → List ℕ → Vsock → Acting Vsock Bool
heard None bytes e = Comes e false
heard (Some c) bytes e = heard_by c.standing bytes c e

-- ---- an end

-- the guest is told of a connection that it knows
abbrev pub ended_by : Standing → Connection → Vsock → Vsock
ended_by (standing.Line so_far) c e = dropped c.host e
ended_by standing c e = reset_to_guest c e

abbrev pub ended : Option Connection → Vsock → Acting Vsock Bool
ended None e = Comes e false
ended (Some c) e = Comes (ended_by c.standing c e) true

-- ---- what happened, and whether it is something

abbrev pub happened : Reply → Vsock → Acting Vsock Bool
happened (Opened host) e = opened host e
happened (Received bytes host) e = heard (connection_at host e.connections) bytes e
happened (Ended host) e = ended (connection_at host e.connections) e
happened reply e = Comes e false
