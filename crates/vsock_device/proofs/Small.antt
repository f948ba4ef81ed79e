-- Data of their widths lead to such, by what becomes of a connection, of what waits, and of the chain in hand.
use Rattle.std.proofs.Common.{◌≡◌, ℕ, zero, suc, ◌+◌, ◌^◌, ◌<◌, ◌==◌, refl, Bool, true, false, not, if◌then◌else◌, Option, Some, None, IfSome, List, [], ◌∷◌, length, arith}
use Rattle.std.specs.List.{All, find}
use Rattle.std.proofs.lemmas.List.Elements.{All-cons, All-filter, All-head, All-nil, All-push, All-tail}
use Rattle.vsock_packet.specs.declared.header.Header.{Header}
use Rattle.vsock_packet.specs.declared.operation.Operation.{Operation}
use Rattle.vsock_packet.specs.declared.operation.Operation.TheVariants as operation
use Rattle.vsock_packet.specs.Header.{Fits}
use Rattle.vsock_packet.specs.Operations.{number_of}
use Rattle.queue_device.specs.declared.lanes.Which.{Which}
use Rattle.queue_device.specs.declared.lanes.Which.TheVariants.{First, Second, Third}
use Rattle.vsock_device.specs.declared.connection.Connection.{Connection}
use Rattle.vsock_device.specs.declared.connection.Standing.{Standing}
use Rattle.vsock_device.specs.declared.connection.Standing.TheVariants as standing
use Rattle.vsock_device.specs.declared.data.InHand.{InHand}
use Rattle.vsock_device.specs.declared.data.InHand.TheVariants as hand
use Rattle.vsock_device.specs.declared.data.Vsock.{Vsock}
use Rattle.vsock_device.specs.declared.packet.Head.{Head}
use Rattle.vsock_device.specs.declared.packet.HostBytes.{HostBytes}
use Rattle.vsock_device.specs.declared.packet.Packet.{Packet}
use Rattle.vsock_device.specs.Connections.{connection_at, connection_between, first_port, free_port, has_port, is_at, is_between, last_port, new_connection, port_after, updated}
use Rattle.vsock_device.specs.Credit.{counted, credited, forwarded, has_credit, sent}
use Rattle.vsock_device.specs.Data.{answered, bytes_of_one, bytes_waiting, connected, delivered, delivered_by, dropped, first_of, held_sent, held_without, new_data, one_sent, refused, reset_to_guest, waiting, with_connection}
use Rattle.vsock_device.specs.Guest.{failed, guest_connection, one_failed, one_forwarded, one_open, welcomed}
use Rattle.vsock_device.specs.Host.{asked_at, connection_asked, ended_by, guest_asked, held_of, next_free}
use Rattle.vsock_device.specs.Packets.{head_of, refusal}
use Rattle.vsock_device.specs.Reset.{answer_reset, hand_reset, reset}
use Rattle.vsock_device.specs.Small.{IsSmallAnswer, IsSmallConnection, IsSmallData, IsSmallHand, IsSmallHead, IsSmallHeld, IsSmallPacket, IsSmallPiece}
use Rattle.vsock_device.specs.Vsock.{begun_by, receives, told}
use Rattle.vsock_device.proofs.SmallTexts.{no_bytes}

-- ---- heads

pub head_small : (o : Operation) (c : Connection) → IsSmallConnection c → IsSmallHead (head_of o c)
head_small o c small = record { host_port = small.host_port; guest_port = small.guest_port; fwd_cnt = small.fwd_cnt }

pub refusal_small : (h : Header) → Fits h → IsSmallAnswer (refusal h)
refusal_small h fits = tested (h.op == number_of operation.Rst)
  where
    tested : (reset : Bool)
        → IsSmallAnswer (if reset then None
        else Some (record { operation = operation.Rst; host_port = h.dst_port; guest_port = h.src_port; fwd_cnt = 0 }))
    tested true = tt
    tested false = record { host_port = fits.dst_port; guest_port = fits.src_port; fwd_cnt = omega arith }

-- ---- connections

abbrev Connected : List Connection → Type 0
Connected cs = All IsSmallConnection cs

abbrev Found : Option Connection → Type 0
Found c = IfSome c IsSmallConnection

find_small : (test : Connection → Bool) (cs : List Connection) → Connected cs → Found (find test cs)
find_small test [] all = tt
find_small test (c ∷ cs) all =
    tested (test c) (All-head IsSmallConnection c cs all) (find_small test cs (All-tail IsSmallConnection c cs all))
  where
    tested : (here : Bool) → IsSmallConnection c → Found (find test cs) → Found (if here then Some c else find test cs)
    tested true small rest = small
    tested false small rest = rest

pub at_small : (host : ℕ) (e : Vsock) → IsSmallData e → Found (connection_at host e.connections)
at_small host e small = find_small (is_at host) e.connections small.connections

pub between_small : (guest_port host_port : ℕ) (e : Vsock) → IsSmallData e
    → Found (connection_between guest_port host_port e.connections)
between_small guest_port host_port e small = find_small (is_between guest_port host_port) e.connections small.connections

updated_small : (now : Connection) (cs : List Connection) → IsSmallConnection now → Connected cs → Connected (updated now cs)
updated_small now [] small all = All-nil IsSmallConnection
updated_small now (c ∷ cs) small all =
    All-cons IsSmallConnection _ (updated now cs) (tested (is_at now.host c) (All-head IsSmallConnection c cs all))
    (updated_small now cs small (All-tail IsSmallConnection c cs all))
  where
    tested : (here : Bool) → IsSmallConnection c → IsSmallConnection (if here then now else c)
    tested true own = small
    tested false own = own

pub credited_small : (h : Header) (c : Connection) → IsSmallConnection c → IsSmallConnection (credited h c)
credited_small h c small =
    record { host = small.host; host_port = small.host_port; guest_port = small.guest_port; fwd_cnt = small.fwd_cnt }

sent_small : (n : ℕ) (c : Connection) → IsSmallConnection c → IsSmallConnection (sent n c)
sent_small n c small =
    record { host = small.host; host_port = small.host_port; guest_port = small.guest_port; fwd_cnt = small.fwd_cnt }

forwarded_small : (n : ℕ) (c : Connection) → IsSmallConnection c → IsSmallConnection (forwarded n c)
forwarded_small n c small =
    let low : counted c.fwd_cnt n < 2 ^ 32 = omega arith in
    record { host = small.host; host_port = small.host_port; guest_port = small.guest_port; fwd_cnt = low }

stands_small : (s : Standing) (c : Connection) → IsSmallConnection c → IsSmallConnection (record c { standing = s })
stands_small s c small =
    record { host = small.host; host_port = small.host_port; guest_port = small.guest_port; fwd_cnt = small.fwd_cnt }

new_small : (host : ℕ) → host < 2 ^ 32 → IsSmallConnection (new_connection host)
new_small host low = record { host = low; host_port = omega arith; guest_port = omega arith; fwd_cnt = omega arith }

guest_small : (host : ℕ) (h : Header) → host < 2 ^ 32 → Fits h → IsSmallConnection (guest_connection host h)
guest_small host h low fits =
    record { host = low; host_port = fits.dst_port; guest_port = fits.src_port; fwd_cnt = omega arith }

-- ---- the data with another connection, another answer

pub with_small : (c : Connection) (e : Vsock) → IsSmallConnection c → IsSmallData e → IsSmallData (with_connection c e)
with_small c e own small = record {
  guest_cid = small.guest_cid;
  next_port = small.next_port;
  connections = updated_small c e.connections own small.connections;
  answer = small.answer;
  held = small.held;
  in_hand = small.in_hand;
}

connected_small : (c : Connection) (e : Vsock) → IsSmallConnection c → IsSmallData e → IsSmallData (connected c e)
connected_small c e own small = record {
  guest_cid = small.guest_cid;
  next_port = small.next_port;
  connections = All-push IsSmallConnection e.connections c small.connections own;
  answer = small.answer;
  held = small.held;
  in_hand = small.in_hand;
}

without_small : (host : ℕ) (held : Option HostBytes) → IsSmallHeld held → IsSmallHeld (held_without host held)
without_small host None small = tt
without_small host (Some b) small = tested (b.host == host)
  where
    tested : (its : Bool) → IsSmallHeld (if its then None else Some b)
    tested true = tt
    tested false = small

pub dropped_small : (host : ℕ) (e : Vsock) → IsSmallData e → IsSmallData (dropped host e)
dropped_small host e small = record {
  guest_cid = small.guest_cid;
  next_port = small.next_port;
  connections = All-filter (λ c. not (is_at host c)) IsSmallConnection e.connections small.connections;
  answer = small.answer;
  held = without_small host e.held small.held;
  in_hand = small.in_hand;
}

pub answered_small : (head : Head) (e : Vsock) → IsSmallHead head → IsSmallData e → IsSmallData (answered head e)
answered_small head e own small = record {
  guest_cid = small.guest_cid;
  next_port = small.next_port;
  connections = small.connections;
  answer = own;
  held = small.held;
  in_hand = small.in_hand;
}

pub refused_small : (h : Header) (e : Vsock) → Fits h → IsSmallData e → IsSmallData (refused h e)
refused_small h e fits small = record {
  guest_cid = small.guest_cid;
  next_port = small.next_port;
  connections = small.connections;
  answer = refusal_small h fits;
  held = small.held;
  in_hand = small.in_hand;
}

pub reset_guest_small : (c : Connection) (e : Vsock) → IsSmallConnection c → IsSmallData e → IsSmallData (reset_to_guest c e)
reset_guest_small c e own small =
    answered_small (head_of operation.Rst c) (dropped c.host e) (head_small operation.Rst c own) (dropped_small c.host e small)

pub held_small : (held : Option HostBytes) (e : Vsock) → IsSmallHeld held → IsSmallData e → IsSmallData (record e { held = held })
held_small held e own small = record {
  guest_cid = small.guest_cid;
  next_port = small.next_port;
  connections = small.connections;
  answer = small.answer;
  held = own;
  in_hand = small.in_hand;
}

pub hand_small : (in_hand : InHand) (e : Vsock) → IsSmallHand in_hand → IsSmallData e → IsSmallData (record e { in_hand = in_hand })
hand_small in_hand e own small = record {
  guest_cid = small.guest_cid;
  next_port = small.next_port;
  connections = small.connections;
  answer = small.answer;
  held = small.held;
  in_hand = own;
}

pub told_small : (e : Vsock) → IsSmallData e → IsSmallData (told e)
told_small e small = record {
  guest_cid = small.guest_cid;
  next_port = small.next_port;
  connections = small.connections;
  answer = small.answer;
  held = small.held;
  in_hand = small.in_hand;
}

-- ---- what waits, and what was delivered

one_sent_small : (c : Option Connection) (n : ℕ) (e : Vsock) → Found c → IsSmallData e → IsSmallData (one_sent c n e)
one_sent_small None n e own small = small
one_sent_small (Some c) n e own small = with_small (sent n c) e (sent_small n c own) small

held_sent_small : (held : Option HostBytes) (e : Vsock) → IsSmallData e → IsSmallData (held_sent held e)
held_sent_small None e small = small
held_sent_small (Some b) e small =
    held_small None (one_sent (connection_at b.host e.connections) (length b.bytes) e) tt
    (one_sent_small (connection_at b.host e.connections) (length b.bytes) e (at_small b.host e small) small)

pub delivered_small : (e : Vsock) → IsSmallData e → IsSmallData (delivered e)
delivered_small e small = by_answer e.answer
  where
    by_answer : (answer : Option Head) → IsSmallData (delivered_by answer e)
    by_answer None = held_sent_small e.held e small
    by_answer (Some head) = record {
      guest_cid = small.guest_cid;
      next_port = small.next_port;
      connections = small.connections;
      answer = tt;
      held = small.held;
      in_hand = small.in_hand;
    }

abbrev Waits : Option Packet → Type 0
Waits p = IfSome p IsSmallPacket

of_one_small : (c : Option Connection) (bytes : List ℕ) → Found c → IsSmallPiece bytes → Waits (bytes_of_one c bytes)
of_one_small None bytes own small = tt
of_one_small (Some c) bytes own small = tested (has_credit (length bytes) c)
  where
    tested : (room : Bool) → Waits (if room then Some (record { head = head_of operation.Rw c; bytes = bytes }) else None)
    tested true = record { head = head_small operation.Rw c own; bytes = small }
    tested false = tt

bytes_small : (held : Option HostBytes) (e : Vsock) → IsSmallHeld held → IsSmallData e → Waits (bytes_waiting held e.connections)
bytes_small None e own small = tt
bytes_small (Some b) e own small = of_one_small (connection_at b.host e.connections) b.bytes (at_small b.host e small) own

waiting_small : (e : Vsock) → IsSmallData e → Waits (waiting e)
waiting_small e small = by_answer e.answer small.answer
  where
    by_answer : (answer : Option Head) → IsSmallAnswer answer → Waits (first_of answer (bytes_waiting e.held e.connections))
    by_answer None own = bytes_small e.held e small.held small
    by_answer (Some head) own = record { head = own; bytes = no_bytes }

receives_small : (p : Option Packet) → Waits p → IsSmallHand (receives p)
receives_small None small = tt
receives_small (Some p) small = small

begun_hand : (k : Which) (e : Vsock) → IsSmallData e → IsSmallHand (begun_by k e)
begun_hand First e small = receives_small (waiting e) (waiting_small e small)
begun_hand Second e small = tt
begun_hand Third e small = tt

pub begun_small : (k : Which) (e : Vsock) → IsSmallData e → IsSmallData (record e { in_hand = begun_by k e })
begun_small k e small = hand_small (begun_by k e) e (begun_hand k e small) small

-- ---- from the host

pub opened_small : (host : ℕ) (e : Vsock) → host < 2 ^ 32 → IsSmallData e → IsSmallData (connected (new_connection host) e)
opened_small host e low small = connected_small (new_connection host) e (new_small host low) small

after_small : (port : ℕ) → port < 2 ^ 32 → port_after port < 2 ^ 32
after_small port low = tested (port == last_port) refl
  where
    tested : (last : Bool) → (port == last_port) ≡ last → (if last then first_port else port + 1) < 2 ^ 32
    tested true is = omega arith
    tested false is = grind (arith, is, low)

chosen_small : (has : Bool) (next port : ℕ) → next < 2 ^ 32 → port < 2 ^ 32 → (if has then next else port) < 2 ^ 32
chosen_small true next port on here = on
chosen_small false next port on here = here

free_small : (most : ℕ) (cs : List Connection) (port : ℕ) → port < 2 ^ 32 → free_port most cs port < 2 ^ 32
free_small zero cs port low = low
free_small (suc most) cs port low =
    chosen_small (has_port port cs) (free_port most cs (port_after port)) port
    (free_small most cs (port_after port) (after_small port low)) low

held_of_small : (host : ℕ) (bytes : List ℕ) → IsSmallPiece bytes → IsSmallHeld (held_of host bytes)
held_of_small host [] small = tt
held_of_small host (b ∷ bytes) small = small

pub asked_small : (guest_port : ℕ) (rest : List ℕ) (c : Connection) (e : Vsock) → guest_port < 2 ^ 32 → IsSmallPiece rest
    → IsSmallConnection c → IsSmallData e → IsSmallData (guest_asked (next_free e) guest_port rest c e)
asked_small guest_port rest c e low piece own small =
    let port = next_free e in
    let free : port < 2 ^ 32 = free_small (length e.connections) e.connections e.next_port small.next_port in
    let asked : Connection = connection_asked port guest_port c in
    let asks : IsSmallConnection asked = record { host = own.host; host_port = free; guest_port = low; fwd_cnt = own.fwd_cnt } in
    let on : Vsock = record e { next_port = port_after port } in
    let with_port : IsSmallData on = record {
      guest_cid = small.guest_cid;
      next_port = after_small port free;
      connections = small.connections;
      answer = small.answer;
      held = small.held;
      in_hand = small.in_hand;
    } in
    held_small (held_of c.host rest) (asked_at port asked e) (held_of_small c.host rest piece)
    (answered_small (head_of operation.Request asked) (with_connection asked on) (head_small operation.Request asked asks)
    (with_small asked on asks with_port))

pub line_small : (so_far : List ℕ) (c : Connection) (e : Vsock) → IsSmallConnection c → IsSmallData e
    → IsSmallData (with_connection (record c { standing = standing.Line so_far }) e)
line_small so_far c e own small =
    with_small (record c { standing = standing.Line so_far }) e (stands_small (standing.Line so_far) c own) small

pub ended_small : (s : Standing) (c : Connection) (e : Vsock) → IsSmallConnection c → IsSmallData e → IsSmallData (ended_by s c e)
ended_small (standing.Line so_far) c e own small = dropped_small c.host e small
ended_small standing.Asked c e own small = reset_guest_small c e own small
ended_small standing.Open c e own small = reset_guest_small c e own small

-- ---- from the guest

pub welcomed_small : (host : ℕ) (h : Header) (e : Vsock) → host < 2 ^ 32 → Fits h → IsSmallData e
    → IsSmallData (welcomed (guest_connection host h) e)
welcomed_small host h e low fits small =
    let c : Connection = guest_connection host h in
    let own : IsSmallConnection c = guest_small host h low fits in
    answered_small (head_of operation.Response c) (connected c e) (head_small operation.Response c own) (connected_small c e own small)

pub one_forwarded_small : (c : Option Connection) (n : ℕ) (e : Vsock) → Found c → IsSmallData e → IsSmallData (one_forwarded c n e)
one_forwarded_small None n e own small = small
one_forwarded_small (Some c) n e own small = with_small (forwarded n c) e (forwarded_small n c own) small

one_failed_small : (c : Option Connection) (e : Vsock) → Found c → IsSmallData e → IsSmallData (one_failed c e)
one_failed_small None e own small = small
one_failed_small (Some c) e own small = reset_guest_small c e own small

pub failed_small : (host : ℕ) (e : Vsock) → IsSmallData e → IsSmallData (failed host e)
failed_small host e small = one_failed_small (connection_at host e.connections) e (at_small host e small) small

pub one_open_small : (c : Option Connection) (e : Vsock) → Found c → IsSmallData e → IsSmallData (one_open c e)
one_open_small None e own small = small
one_open_small (Some c) e own small =
    with_small (record c { standing = standing.Open }) e (stands_small standing.Open c own) small

-- ---- new, and behind a reset

pub data_small : (guest_cid : ℕ) → guest_cid < 2 ^ 64 → IsSmallData (new_data guest_cid)
data_small guest_cid low = record {
  guest_cid = low;
  next_port = omega arith;
  connections = All-nil IsSmallConnection;
  answer = tt;
  held = tt;
  in_hand = tt;
}

answer_small : (in_hand : InHand) → IsSmallHand in_hand → IsSmallAnswer (answer_reset in_hand)
answer_small hand.Free small = tt
answer_small (hand.Receives p) small = tt
answer_small hand.Unjudged small = tt
answer_small hand.Orphaned small = tt
answer_small (hand.Judged refusal) small = small

reset_hand : (in_hand : InHand) → IsSmallHand in_hand → IsSmallHand (hand_reset in_hand)
reset_hand hand.Free small = tt
reset_hand (hand.Receives p) small = small
reset_hand hand.Unjudged small = tt
reset_hand hand.Orphaned small = tt
reset_hand (hand.Judged refusal) small = small

pub reset_small : (e : Vsock) → IsSmallData e → IsSmallData (reset e)
reset_small e small = record {
  guest_cid = small.guest_cid;
  next_port = small.next_port;
  connections = All-nil IsSmallConnection;
  answer = answer_small e.in_hand small.in_hand;
  held = tt;
  in_hand = reset_hand e.in_hand small.in_hand;
}
