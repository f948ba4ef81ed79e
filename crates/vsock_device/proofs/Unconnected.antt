-- Behind a Reset a vsock device has no connection, and no bytes of the host: also where that left out an act, since one that failed
-- makes no connection.
use Rattle.std.proofs.Common.{◌≡◌, ℕ, ◌-◌, ◌==◌, nat_le, nat_lt, ◌&&◌, refl, sym, ap, subst, Bool, true, false, not, if◌then◌else◌, is_some, Option, Some, None, List, [], ◌∷◌, length, take, arith}
use Rattle.std.proofs.lemmas.Bool.{and_from, and_parts, eqb-true}
use Rattle.vm_types.specs.declared.op.Op.{Op}
use Rattle.vm_types.specs.declared.op.Op.TheVariants.{Out, Read}
use Rattle.vm_types.specs.declared.op.OutOp.{OutOp}
use Rattle.vm_types.specs.declared.op.OutOp.TheVariants.{HostClose, HostDial, HostSend}
use Rattle.vm_types.specs.declared.reply.Reply.{Reply}
use Rattle.device_trace.specs.Doing.{Doing, Gives, Wants, asked, led}
use Rattle.device_trace.specs.Script.{Script, data_of, perform}
use Rattle.device_trace.specs.States.{changed_at}
use Rattle.device_trace.specs.Traces.{cut_by as left_out}
use Rattle.vq_split.specs.declared.queue.Queue.{Queue}
use Rattle.vq_split.specs.declared.walk.Walk.{Walk}
use Rattle.vq_split.specs.declared.walk.Walk.TheVariants as walk
use Rattle.vq_split.specs.Chain.{indexed_by, read_bytes}
use Rattle.vq_split.specs.Kept.{is_walking}
use Rattle.vq_split.specs.Walking.{Walking, look_left, walk_left, walk_wants}
use Rattle.dev_core.specs.declared.returning.ReturnStage.TheVariants as returning
use Rattle.dev_core.specs.Collecting.{collect_left}
use Rattle.dev_core.specs.Pieces.{Got, collect_all, past, put_all, readable, room, total, writable}
use Rattle.dev_core.specs.Returning.{break_left, return_left}
use Rattle.queue_device.specs.declared.lanes.Rounds.{Rounds}
use Rattle.queue_device.specs.declared.lanes.Which.{Which}
use Rattle.queue_device.specs.declared.lanes.Which.TheVariants.{First, Second, Third}
use Rattle.queue_device.specs.declared.phase.Phase.{Phase}
use Rattle.queue_device.specs.declared.phase.Phase.TheVariants as phase
use Rattle.queue_device.specs.Acting.{Acting, Acts, Comes, performing}
use Rattle.queue_device.specs.Chains.{Chain, Taken}
use Rattle.queue_device.specs.Kept.{is_at_lane, is_of_round, is_place, is_walked}
use Rattle.queue_device.specs.Lanes.{lane_of}
use Rattle.queue_device.specs.Left.{left_at, queued, used_chain, walk_on}
use Rattle.queue_device.specs.Rounds.{answered, at_own, during, index_read, index_shown, served, took, walked}
use Rattle.queue_device.specs.Service.{Queued}
use Rattle.queue_device.proofs.GoesOn.{break_asks, return_asks}
use Rattle.queue_device.proofs.Steps.{FirstAsks, walk_first}
use Rattle.queue_device.proofs.Walks.{test_asks}
use Rattle.vsock_packet.specs.declared.header.Header.{Header}
use Rattle.vsock_packet.specs.declared.operation.Operation.{Operation}
use Rattle.vsock_packet.specs.declared.operation.Operation.TheVariants as operation
use Rattle.vsock_packet.specs.Header.{header_of}
use Rattle.vsock_packet.specs.Operations.{operation_of}
use Rattle.vsock_device.specs.declared.connection.Connection.{Connection}
use Rattle.vsock_device.specs.declared.data.InHand.{InHand}
use Rattle.vsock_device.specs.declared.data.InHand.TheVariants as hand
use Rattle.vsock_device.specs.declared.data.Vsock.{Vsock}
use Rattle.vsock_device.specs.declared.data.VsockChange.TheVariants.{Reset}
use Rattle.vsock_device.specs.declared.kind.Stage.{Stage}
use Rattle.vsock_device.specs.declared.kind.Stage.TheVariants as stage
use Rattle.vsock_device.specs.declared.packet.Head.{Head}
use Rattle.vsock_device.specs.declared.packet.HostBytes.{HostBytes}
use Rattle.vsock_device.specs.Connections.{connection_at, connection_between, is_live, most_connections}
use Rattle.vsock_device.specs.Data.{delivered, delivered_by, held_sent}
use Rattle.vsock_device.specs.Guest.{dialling, failed, forwarding_all, is_addressed, is_orphaned, of_connection, one_failed, packet_read, passing, piece_read, strange, taken_in}
use Rattle.vsock_device.specs.Packets.{refusal}
use Rattle.vsock_device.specs.Reset.{act_cut, call_cut, cut_by, is_unconnected, reset, unconnected}
use Rattle.vsock_device.specs.Vsock.{begun_by, received, served_by, text_of, told, transport_reset, vsock, vsock_rules}
use Rattle.vsock_device.specs.Work.{hand_of, serving_of}

-- ---- no connection, and no bytes of the host

pub record IsUnconnected (e : Vsock) : Type 0 where
  pub connections : e.connections ≡ []
  pub held : e.held ≡ None

pub test_of : (e : Vsock) → IsUnconnected e → is_unconnected e ≡ true
test_of e is = and_from _ _ (ap (λ (cs : List Connection). length cs == 0) is.connections) (ap (λ (h : Option HostBytes). not (is_some h)) is.held)

no_length : (cs : List Connection) → (length cs == 0) ≡ true → cs ≡ []
no_length [] is = refl
no_length (c ∷ cs) is =
    let none = eqb-true (length (c ∷ cs)) 0 is in absurd (omega (arith, none))

no_held : (held : Option HostBytes) → not (is_some held) ≡ true → held ≡ None
no_held None is = refl
no_held (Some b) is = absurd (cc)

pub of_test : (e : Vsock) → is_unconnected e ≡ true → IsUnconnected e
of_test e is =
    let two = and_parts (length e.connections == 0) (not (is_some e.held)) is in
    record { connections = no_length e.connections two.0; held = no_held e.held two.1 }

pub made_of : (e : Vsock) → is_unconnected e ≡ true → e ≡ unconnected e.guest_cid e.next_port e.answer e.in_hand e.reset_due
made_of e test =
    let is = of_test e test in
    λ i. record {
      guest_cid = e.guest_cid;
      next_port = e.next_port;
      connections = is.connections i;
      answer = e.answer;
      held = is.held i;
      in_hand = e.in_hand;
      reset_due = e.reset_due;
    }

-- the data at the root
abbrev own_of : {A : Type 0} → Acting Vsock A → Vsock
own_of (Comes e a) = e
own_of (Acts e op on) = e

abbrev Root : Script (Queued Vsock) → Type 0
Root t = IsUnconnected (data_of t).own

module _ {A : Type 0} where
  if_own : (test : Bool) (x y : Acting Vsock A) → IsUnconnected (own_of x) → IsUnconnected (own_of y)
      → IsUnconnected (own_of (if test then x else y))
  if_own true x y on off = on
  if_own false x y on off = off

  performing_own : {B : Type 0} (t : Doing B) (e : Vsock) (more : Vsock → B → Acting Vsock A) → IsUnconnected e
      → ((b : B) → IsUnconnected (own_of (more e b))) → IsUnconnected (own_of (performing t e more))
  performing_own (Gives b) e more is on = on b
  performing_own (Wants op on) e more is next = is

  during_root : (t : Acting Vsock A) (r : Rounds) (more : Queued Vsock → A → Script (Queued Vsock)) → IsUnconnected (own_of t)
      → ((d : Queued Vsock) (a : A) → IsUnconnected d.own → Root (more d a)) → Root (during t r more)
  during_root (Comes e a) r more is on = on (queued r e) a is
  during_root (Acts e op on) r more is next = is

  perform_root : (t : Doing A) (d : Queued Vsock) (more : Queued Vsock → A → Script (Queued Vsock)) → IsUnconnected d.own
      → ((a : A) → Root (more d a)) → Root (perform t d more)
  perform_root (Gives a) d more is on = on a
  perform_root (Wants op on) d more is next = is

-- ---- what becomes of such data

answer_own : (answer : Option Head) (e : Vsock) → IsUnconnected e → IsUnconnected (record e { answer = answer })
answer_own answer e is = record { connections = is.connections; held = is.held }

hand_own : (in_hand : InHand) (e : Vsock) → IsUnconnected e → IsUnconnected (record e { in_hand = in_hand })
hand_own in_hand e is = record { connections = is.connections; held = is.held }

told_own : (e : Vsock) → IsUnconnected e → IsUnconnected (told e)
told_own e is = record { connections = is.connections; held = is.held }

delivered_own : (e : Vsock) → IsUnconnected e → IsUnconnected (delivered e)
delivered_own e is = by_answer e.answer
  where
    by_answer : (answer : Option Head) → IsUnconnected (delivered_by answer e)
    by_answer (Some head) = answer_own None e is
    by_answer None = subst (λ (held : Option HostBytes). IsUnconnected (held_sent held e)) (sym is.held) is

reset_own : (e : Vsock) → IsUnconnected (reset e)
reset_own e = record { connections = refl; held = refl }

failed_own : (host : ℕ) (e : Vsock) → IsUnconnected e → IsUnconnected (failed host e)
failed_own host e is =
    subst (λ (cs : List Connection). IsUnconnected (one_failed (connection_at host cs) e)) (sym is.connections) is

-- ---- where work is led on by an act that failed

-- a host object that failed, or a byte outside RAM
abbrev IsFailing : Reply → Type 0
IsFailing Reply.Failed = Unit {0}
IsFailing Reply.AccessFault = Unit {0}
IsFailing reply = ⊥

call_failing : (call : OutOp) (reply : Reply) → call_cut call ≡ Some reply → IsFailing reply
call_failing (HostDial port) reply is = let same : Reply.Failed ≡ reply = cc in subst IsFailing same tt
call_failing (HostSend bytes host) reply is = let same : Reply.Failed ≡ reply = cc in subst IsFailing same tt
call_failing (HostClose host) reply is = let same : Reply.Failed ≡ reply = cc in subst IsFailing same tt
call_failing call reply is = absurd (cc)

act_failing : (op : Op) (reply : Reply) → act_cut op ≡ Some reply → IsFailing reply
act_failing (Out call) reply is = call_failing call reply is
act_failing (Read at len) reply is = let same : Reply.AccessFault ≡ reply = cc in subst IsFailing same tt
act_failing op reply is = absurd (cc)

cut_failing : (in_hand : InHand) (op : Op) (reply : Reply) → cut_by in_hand op ≡ Some reply → IsFailing reply
cut_failing (hand.Judged refusal) op reply is = act_failing op reply is
cut_failing in_hand op reply is = absurd (cc)

dialling_own : (h : Header) (e : Vsock) → IsUnconnected e → IsUnconnected (own_of (dialling h e))
dialling_own h e is = if_own (nat_lt (length e.connections) most_connections) _ _ is (answer_own (refusal h) e is)

strange_own : (o : Option Operation) (h : Header) (e : Vsock) → IsUnconnected e → IsUnconnected (own_of (strange o h e))
strange_own (Some operation.Request) h e is = dialling_own h e is
strange_own (Some operation.Response) h e is = answer_own (refusal h) e is
strange_own (Some operation.Rst) h e is = answer_own (refusal h) e is
strange_own (Some operation.Shutdown) h e is = answer_own (refusal h) e is
strange_own (Some operation.Rw) h e is = answer_own (refusal h) e is
strange_own (Some operation.CreditUpdate) h e is = answer_own (refusal h) e is
strange_own (Some operation.CreditRequest) h e is = answer_own (refusal h) e is
strange_own None h e is = answer_own (refusal h) e is

-- a packet is of none of no connections
of_none : (h : Header) (got : Got) (e f : Vsock) → IsUnconnected e → IsUnconnected f
    → IsUnconnected (own_of (of_connection (connection_between h.src_port h.dst_port e.connections) h got f))
of_none h got e f is next =
    subst (λ (cs : List Connection). IsUnconnected (own_of (of_connection (connection_between h.src_port h.dst_port cs) h got f)))
    (sym is.connections) (strange_own (operation_of h.op) h f next)

packet_own : (len : ℕ) (e : Vsock) (got : Got) → IsUnconnected e → IsUnconnected (own_of (packet_read len e got))
packet_own len e got is =
    let h : Header = header_of (take 44 got.bytes) in
    let now : Vsock = record e { in_hand = hand.Judged (refusal h) } in
    let next : IsUnconnected now = hand_own (hand.Judged (refusal h)) e is in
    if_own (nat_lt (length got.bytes) 44) _ _ (hand_own (hand.Judged None) e is)
    (if_own (h.len == len) _ _
    (if_own (not (is_orphaned e.in_hand) && is_addressed h e) _ _ (of_none h got e now is next) (answer_own (refusal h) now next))
    (hand_own (hand.Judged None) e is))

none_live : (host : ℕ) (piece : List ℕ) (e : Vsock) (more : Vsock → Acting Vsock (Option ℕ)) → IsUnconnected e
    → IsUnconnected (own_of (piece_read host piece e more))
none_live host piece e more is =
    subst (λ (cs : List Connection). IsUnconnected (own_of (if is_live host cs then passing host piece e more else taken_in e)))
    (sym is.connections) is

serving_own : (g : Stage) (e : Vsock) (reply : Reply) → IsFailing reply → IsUnconnected e → IsUnconnected (own_of (serving_of g e reply))
serving_own stage.Rest e reply fails is = is
serving_own (stage.Close host) e reply fails is = is
serving_own (stage.Deliver spill len) e reply fails is =
    performing_own (led (put_all spill.held spill.to) reply) e _ is (λ left. delivered_own e is)
serving_own (stage.Event spill) e reply fails is =
    performing_own (led (put_all spill.held spill.to) reply) e _ is (λ left. told_own e is)
serving_own (stage.Fetch from len) e reply fails is =
    performing_own (led (collect_left 44 from) reply) e (packet_read len) is (λ got. packet_own len e got is)
serving_own (stage.Dial header) e Reply.Failed fails is = answer_own (refusal header) e is
serving_own (stage.Dial header) e Reply.AccessFault fails is = answer_own (refusal header) e is
serving_own (stage.Dial header) e reply fails is = absurd fails
serving_own (stage.Accept host line) e Reply.Failed fails is = failed_own host e is
serving_own (stage.Accept host line) e Reply.AccessFault fails is = failed_own host e is
serving_own (stage.Accept host line) e reply fails is = absurd fails
serving_own (stage.Send host piece from) e Reply.Failed fails is = failed_own host e is
serving_own (stage.Send host piece from) e Reply.AccessFault fails is = failed_own host e is
serving_own (stage.Send host piece from) e reply fails is = absurd fails
serving_own (stage.Read host from) e reply fails is =
    none_live host (read_bytes (room from) reply) e (λ f. forwarding_all host (past (room from) from) f) is

served_own : (k : Which) (c : Chain) (e : Vsock) → IsUnconnected e → IsUnconnected (own_of (served_by k c e))
served_own First c e is =
    let text = text_of e.guest_cid e.in_hand in
    if_own (nat_le (length text) (total (writable c.parts))) _ _
    (performing_own (put_all text (writable c.parts)) e _ is (λ left. delivered_own e is)) is
served_own Second c e is =
    if_own (nat_lt (total (readable c.parts)) 44) _ _ (hand_own (hand.Judged None) e is)
    (performing_own (collect_all 44 [] (readable c.parts)) e (packet_read (total (readable c.parts) - 44)) is
    (λ got. packet_own (total (readable c.parts) - 44) e got is))
served_own Third c e is =
    if_own (nat_le 4 (total (writable c.parts))) _ _
    (performing_own (put_all transport_reset (writable c.parts)) e _ is (λ left. told_own e is)) is

-- ---- in its rounds

served_root : (k : Which) (q : Queue) (head : ℕ) (d : Queued Vsock) (len : Option ℕ) → IsUnconnected d.own
    → Root (served vsock k q head d len)
served_root k q head d None is = is
served_root k q head d (Some len) is =
    perform_root (return_left returning.Pair (used_chain (record { which = k; queue = q; head = head }) len d.rounds)) d _ is
    (λ done. hand_own hand.Free d.own is)

answered_root : (d : Queued Vsock) (received : Bool) → IsUnconnected d.own → Root (answered vsock d received)
answered_root d true is = is
answered_root d false is = is

took_root : (k : Which) (q : Queue) (head : ℕ) (d : Queued Vsock) (t : Option Taken) → IsUnconnected d.own → Root (took vsock k q head d t)
took_root k q head d None is = is
took_root k q head d (Some t) is =
    let c : Chain = record { queue = q; head = head; parts = t.parts; got = t.got } in
    during_root (served_by k c d.own) d.rounds (served vsock k q head) (served_own k c d.own is) (λ e len own. served_root k q head e len own)

walked_root : (k : Which) (q : Queue) (d : Queued Vsock) (came : Walk) → IsUnconnected d.own → Root (walked vsock k q d came)
walked_root k q d (walk.Chain head parts) is = took_root k q head _ (Some _) is
walked_root k q d walk.Empty is = is
walked_root k q d (walk.Broken why) is = is
walked_root k q d walk.More is = is

-- what is wanted stays so, or is left out
cut_root : (o : Option Reply) (d : Queued Vsock) (op : Op) (on : Queued Vsock → Reply → Script (Queued Vsock))
    → ((reply : Reply) → o ≡ Some reply → IsFailing reply) → IsUnconnected d.own
    → ((reply : Reply) → IsFailing reply → Root (on d reply)) → Root (left_out o d op on)
cut_root None d op on fails is next = is
cut_root (Some reply) d op on fails is next = next reply (fails reply refl)

performed : {A : Type 0} (t : Doing A) (op : Op) → asked t ≡ Some op → (d : Queued Vsock)
    (more : Queued Vsock → A → Script (Queued Vsock)) → ((e : Queued Vsock) (a : A) → IsUnconnected e.own → Root (more e a))
    → Root (changed_at vsock_rules Reset (perform t d more))
performed (Gives a) op is d more on = absurd (cc)
performed (Wants o next) op is d more on =
    cut_root (cut_by d.own.in_hand o) (queued d.rounds (reset d.own)) o (λ e reply. perform (next reply) e more)
    (λ reply cut. cut_failing d.own.in_hand o reply cut) (reset_own d.own)
    (λ reply fails. perform_root (next reply) (queued d.rounds (reset d.own)) more (reset_own d.own)
    (λ a. on (queued d.rounds (reset d.own)) a (reset_own d.own)))

-- a walk that looks at the ring may be begun behind it
begun_own : (test : Bool) (k : Which) (d : Queued Vsock) → IsUnconnected d.own
    → IsUnconnected (if test then d else at_own (vsock.begun k) d).own
begun_own true k d is = is
begun_own false k d is = hand_own (begun_by k d.own) d.own is

read_root : (k : Which) (next : ℕ) (q : Queue) (d : Queued Vsock) (index : ℕ) → IsUnconnected d.own
    → Root (index_read vsock k next q d index)
read_root k next q d index is =
    let now : Queued Vsock = index_shown vsock k next index d in
    let own = begun_own (index == next) k d is in
    perform_root (indexed_by q next index) now (walked vsock k q) own (λ came. walked_root k q now came own)

walk_root : (o : Option (Doing ℕ)) (k : Which) (v : Walking) (d : Queued Vsock) → FirstAsks (walk_wants v) (walk_left v) o
    → Root (changed_at vsock_rules Reset (walk_on vsock k v o d))
walk_root (Some look) k v d asks =
    performed look (walk_wants v) asks d (index_read vsock k v.next v.queue) (λ e index own. read_root k v.next v.queue e index own)
walk_root None k v d asks =
    performed (walk_left v) (walk_wants v) asks d (walked vsock k v.queue) (λ e came own. walked_root k v.queue e came own)

pub behind_reset : (p : Phase) (r : Rounds) (e : Vsock) (g : Stage) → is_place false p r ≡ true
    → Root (changed_at vsock_rules Reset (left_at vsock p (hand_of g) (queued r e)))
behind_reset phase.Between r e g place = reset_own e
behind_reset phase.Question r e g place =
    cut_root (cut_by e.in_hand (hand_of g).op) (queued r (reset e)) (hand_of g).op _
    (λ reply cut. cut_failing e.in_hand (hand_of g).op reply cut) (reset_own e)
    (λ reply fails. answering_root g reply)
  where
    answering_root : (s : Stage) (reply : Reply) → Root (during ((hand_of s).answering (reset e) reply) r (answered vsock))
    answering_root (stage.Close host) reply = answered_root (queued r (reset e)) true (reset_own e)
    answering_root stage.Rest reply = answered_root (queued r (reset e)) false (reset_own e)
    answering_root (stage.Deliver spill len) reply = answered_root (queued r (reset e)) false (reset_own e)
    answering_root (stage.Event spill) reply = answered_root (queued r (reset e)) false (reset_own e)
    answering_root (stage.Fetch from len) reply = answered_root (queued r (reset e)) false (reset_own e)
    answering_root (stage.Dial header) reply = answered_root (queued r (reset e)) false (reset_own e)
    answering_root (stage.Accept host line) reply = answered_root (queued r (reset e)) false (reset_own e)
    answering_root (stage.Send host piece from) reply = answered_root (queued r (reset e)) false (reset_own e)
    answering_root (stage.Read host from) reply = answered_root (queued r (reset e)) false (reset_own e)
behind_reset (phase.Walk k v) r e g place =
    let at = and_parts (is_at_lane r.due) (is_walked (lane_of k r) v) place in
    let p1 = and_parts _ (v.next == (lane_of k r).next) at.1 in
    let p0 = and_parts (is_walking v) (is_of_round (lane_of k r).queue v.queue) p1.0 in
    walk_root (look_left v.stage v.queue v.next) k v (queued r e) (walk_first v (walk_wants v) (test_asks v p0.0))
behind_reset (phase.Take c) r e g place =
    cut_root (cut_by e.in_hand (hand_of g).op) (queued r (reset e)) (hand_of g).op _
    (λ reply cut. cut_failing e.in_hand (hand_of g).op reply cut) (reset_own e) (λ reply fails. reset_own e)
behind_reset (phase.Serve c) r e g place =
    cut_root (cut_by e.in_hand (hand_of g).op) (queued r (reset e)) (hand_of g).op _
    (λ reply cut. cut_failing e.in_hand (hand_of g).op reply cut) (reset_own e)
    (λ reply fails. during_root (serving_of g (reset e) reply) r (served vsock c.which c.queue c.head)
    (serving_own g (reset e) reply fails (reset_own e)) (λ d len own. served_root c.which c.queue c.head d len own))
behind_reset (phase.Return c len stage) r e g place =
    let asks = return_asks stage (used_chain c len r) in
    performed (return_left stage (used_chain c len r)) asks.0 asks.1 (queued r e) _ (λ d done own. hand_own hand.Free d.own own)
behind_reset (phase.Break k stage) r e g place =
    let asks = break_asks stage r.port in
    performed (break_left stage r.port) asks.0 asks.1 (queued r e) _ (λ d done own. hand_own hand.Free d.own own)
