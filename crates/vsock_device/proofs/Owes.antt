-- All that a vsock device owes.
use Rattle.std.proofs.Common.{◌≡◌, ℕ, zero, suc, ◌-◌, ◌==◌, ◌<◌, ◌^◌, nat_le, nat_lt, ◌&&◌, Bool, false, not, inr, refl, subst, List, [], ◌∷◌, length, drop, take, Option, Some, None, arith}
use Rattle.vm_types.specs.declared.op.Op.{Op}
use Rattle.vm_types.specs.declared.op.Op.TheVariants.{Out, Read, Write}
use Rattle.vm_types.specs.declared.op.OutOp.{OutOp}
use Rattle.vm_types.specs.declared.op.OutOp.TheVariants.{HostClose, HostDial, HostSend}
use Rattle.vm_types.specs.declared.reply.Reply.{Reply}
use Rattle.vm_types.specs.declared.reply.Reply.TheVariants.{AccessFault, Dialled, Done, Ended, Failed, Opened, Received}
use Rattle.vm_types.specs.Fits.{Fits}
use Rattle.device_trace.specs.Acts.{IsAskedBy}
use Rattle.device_trace.specs.Keeps.{Keeps}
use Rattle.device_trace.proofs.Keeping.{keeps_both}
use Rattle.vq_split.specs.declared.queue.Part.{Part}
use Rattle.vq_split.specs.Chain.{read_bytes}
use Rattle.vq_split.specs.Inside.{AreInside, IsInside}
use Rattle.dev_core.specs.Inside.{Any}
use Rattle.dev_core.specs.Pieces.{Got, collect_all, past, put_all, readable, room, total, writable}
use Rattle.dev_core.proofs.Asking.{collect_all_asks, put_all_asks}
use Rattle.dev_core.proofs.Inside.{collect_all_keeps, filter_inside, past_inside, piece_inside, put_all_keeps}
use Rattle.dev_core.proofs.Fuel.{some_of}
use Rattle.queue_device.specs.declared.lanes.Which.{Which}
use Rattle.queue_device.specs.declared.lanes.Which.TheVariants.{First, Second, Third}
use Rattle.queue_device.specs.Acting.{Acting, ActingKeeps}
use Rattle.queue_device.specs.Chains.{Chain}
use Rattle.queue_device.specs.Confined.{Confines, IsChain, IsDeviceAct}
use Rattle.queue_device.proofs.Acting.{keeps_either, keeps_when, performing_keeps}
use Rattle.vsock_packet.specs.declared.header.Header.{Header}
use Rattle.vsock_packet.specs.declared.operation.Operation.{Operation}
use Rattle.vsock_packet.specs.declared.operation.Operation.TheVariants as operation
use Rattle.vsock_packet.specs.Header.{ends_both_ways, header_of}
use Rattle.vsock_packet.specs.Operations.{operation_of}
use Rattle.vsock_device.specs.declared.connection.Connection.{Connection}
use Rattle.vsock_device.specs.declared.connection.Standing.{Standing}
use Rattle.vsock_device.specs.declared.connection.Standing.TheVariants as standing
use Rattle.vsock_device.specs.declared.data.InHand.{InHand}
use Rattle.vsock_device.specs.declared.data.InHand.TheVariants as hand
use Rattle.vsock_device.specs.declared.data.Vsock.{Vsock}
use Rattle.vsock_device.specs.declared.line.Lined.{Lined}
use Rattle.vsock_device.specs.declared.line.Lined.TheVariants.{Asks, More, Other}
use Rattle.vsock_device.specs.Connections.{connection_at, connection_between, is_live, most_connections}
use Rattle.vsock_device.specs.Credit.{credited, host_room}
use Rattle.vsock_device.specs.Data.{dropped, reset_to_guest, with_connection}
use Rattle.vsock_device.specs.Guest.{closed, dialled, dialling, done, forwarding, forwarding_all, is_addressed, is_new, is_orphaned, judged, of_connection, one_forwarded, packet_read, passed, passing, piece_read, read_by, responded, shut_down, strange, told_open, transmitted, written}
use Rattle.vsock_device.specs.Host.{asking, closing, ended, happened, heard, heard_by, opened}
use Rattle.vsock_device.specs.Lines.{lined}
use Rattle.vsock_device.specs.Packets.{refusal}
use Rattle.vsock_device.specs.Reset.{act_cut, call_cut, cut_by, resetting}
use Rattle.vsock_device.specs.Vsock.{event_told, is_host_call, received, served_by, text_of, transport_reset, vsock}

-- at this port, in a guest of so many pages
module _ (port pages : ℕ) where
  abbrev P : Op → Type 0
  P = IsDeviceAct false is_host_call port pages

  abbrev Ans : Acting Vsock Bool → Type 0
  Ans t = ActingKeeps P (λ (something : Bool). Unit {0}) t

  abbrev Srv : Acting Vsock (Option ℕ) → Type 0
  Srv t = ActingKeeps P (λ (len : Option ℕ). Unit {0}) t

  -- ---- from the host

  closing_keeps : (host : ℕ) (e : Vsock) → Ans (closing host e)
  closing_keeps host e = ((λ few. tt, inr (refl, refl)), λ f reply fit. tt)

  opened_keeps : (host : ℕ) (e : Vsock) → Ans (opened host e)
  opened_keeps host e =
      keeps_either P (λ (something : Bool). Unit {0}) (is_live host e.connections) _ _ (λ there. tt) (λ new.
      keeps_either P (λ (something : Bool). Unit {0}) (nat_lt (length e.connections) most_connections) _ _ (λ few. tt)
      (λ many. closing_keeps host e))

  asking_keeps : (line : Lined) (c : Connection) (e : Vsock) → Ans (asking line c e)
  asking_keeps (More so_far) c e = tt
  asking_keeps Other c e = ((λ few. tt, inr (refl, refl)), λ f reply fit. tt)
  asking_keeps (Asks guest_port rest) c e = tt

  heard_at : (s : Standing) (bytes : List ℕ) (c : Connection) (e : Vsock) → Ans (heard_by s bytes c e)
  heard_at (standing.Line so_far) bytes c e = asking_keeps (lined so_far bytes) c e
  heard_at standing.Asked bytes c e = tt
  heard_at standing.Open bytes c e = tt

  heard_keeps : (c : Option Connection) (bytes : List ℕ) (e : Vsock) → Ans (heard c bytes e)
  heard_keeps None bytes e = tt
  heard_keeps (Some c) bytes e = heard_at c.standing bytes c e

  ended_keeps : (c : Option Connection) (e : Vsock) → Ans (ended c e)
  ended_keeps None e = tt
  ended_keeps (Some c) e = tt

  happens : (reply : Reply) (e : Vsock) → Ans (happened reply e)
  happens (Opened host) e = opened_keeps host e
  happens (Received bytes host) e = heard_keeps (connection_at host e.connections) bytes e
  happens (Ended host) e = ended_keeps (connection_at host e.connections) e
  happens reply e = tt

  -- ---- bytes for the host

  pub passed_keeps : (reply : Reply) (host n : ℕ) (e : Vsock) (more : Vsock → Acting Vsock (Option ℕ))
      → ((f : Vsock) → Srv (more f)) → Srv (passed reply host n e more)
  passed_keeps Done host n e more on = on (one_forwarded (connection_at host e.connections) n e)
  passed_keeps reply host n e more on = tt

  passing_keeps : (host : ℕ) (bytes : List ℕ) (e : Vsock) (more : Vsock → Acting Vsock (Option ℕ))
      → ((f : Vsock) → Srv (more f)) → Srv (passing host bytes e more)
  passing_keeps host [] e more on = on e
  passing_keeps host (b ∷ bytes) e more on =
      ((λ few. tt, inr (refl, refl)), λ f reply fit. passed_keeps reply host (length (b ∷ bytes)) f more on)

  pub piece_keeps : (host : ℕ) (piece : List ℕ) (e : Vsock) (more : Vsock → Acting Vsock (Option ℕ))
      → ((f : Vsock) → Srv (more f)) → Srv (piece_read host piece e more)
  piece_keeps host piece e more on =
      keeps_either P (λ (len : Option ℕ). Unit {0}) (is_live host e.connections) _ _ (λ live. passing_keeps host piece e more on)
      (λ gone. tt)

  forwarding_keeps : (most host : ℕ) (parts : List Part) (e : Vsock) → (pages < 2 ^ 32 → AreInside pages parts)
      → Srv (forwarding most host parts e)
  forwarding_keeps zero host parts e inside = tt
  forwarding_keeps (suc most) host parts e inside =
      keeps_either P (λ (len : Option ℕ). Unit {0}) (room parts == 0) _ _ (λ end. tt) (λ more. (
        (λ few. piece_inside pages (room parts) parts (inside few) (some_of (room parts) more) (omega arith), inr (tt, tt)),
        λ f reply fit. piece_keeps host (read_bytes (room parts) reply) f _ (λ g.
            forwarding_keeps most host (past (room parts) parts) g
            (λ few. past_inside pages (room parts) parts few (inside few) (omega arith))),
      ))

  pub forwards : (host : ℕ) (parts : List Part) (e : Vsock) → (pages < 2 ^ 32 → AreInside pages parts)
      → Srv (forwarding_all host parts e)
  forwards host parts e inside = forwarding_keeps (total parts) host parts e inside

  -- ---- packets

  closed_keeps : (host : ℕ) (e : Vsock) → Srv (closed host e)
  closed_keeps host e = ((λ few. tt, inr (refl, refl)), λ f reply fit. tt)

  pub dialled_keeps : (reply : Reply) (h : Header) (e : Vsock) → Srv (dialled reply h e)
  dialled_keeps (Dialled host) h e =
      keeps_either P (λ (len : Option ℕ). Unit {0}) (is_new host e) _ _ (λ new. tt) (λ old. tt)
  dialled_keeps reply h e = tt

  dialling_keeps : (h : Header) (e : Vsock) → Srv (dialling h e)
  dialling_keeps h e =
      keeps_either P (λ (len : Option ℕ). Unit {0}) (nat_lt (length e.connections) most_connections) _ _
      (λ few. ((λ few. tt, inr (refl, refl)), λ f reply fit. dialled_keeps reply h f)) (λ many. tt)

  pub open_keeps : (reply : Reply) (host : ℕ) (e : Vsock) → Srv (told_open reply host e)
  open_keeps Done host e = tt
  open_keeps reply host e = tt

  responded_keeps : (s : Standing) (c : Connection) (e : Vsock) → Srv (responded s c e)
  responded_keeps standing.Asked c e = ((λ few. tt, inr (refl, refl)), λ f reply fit. open_keeps reply c.host f)
  responded_keeps (standing.Line so_far) c e = closed_keeps c.host (reset_to_guest c e)
  responded_keeps standing.Open c e = closed_keeps c.host (reset_to_guest c e)

  written_keeps : (s : Standing) (h : Header) (got : Got) (c : Connection) (e : Vsock) → (pages < 2 ^ 32 → AreInside pages got.parts)
      → Srv (written s h got c e)
  written_keeps standing.Open h got c e inside =
      keeps_either P (λ (len : Option ℕ). Unit {0}) (nat_le h.len host_room) _ _
      (λ within. passing_keeps c.host (drop 44 got.bytes) e _ (λ f. forwards c.host got.parts f inside))
      (λ past_it. closed_keeps c.host (reset_to_guest c e))
  written_keeps (standing.Line so_far) h got c e inside = closed_keeps c.host (reset_to_guest c e)
  written_keeps standing.Asked h got c e inside = closed_keeps c.host (reset_to_guest c e)

  shut_keeps : (h : Header) (c : Connection) (e : Vsock) → Srv (shut_down h c e)
  shut_keeps h c e =
      keeps_either P (λ (len : Option ℕ). Unit {0}) (ends_both_ways h) _ _ (λ both. closed_keeps c.host (reset_to_guest c e)) (λ one. tt)

  done_keeps : (o : Option Operation) (h : Header) (got : Got) (c : Connection) (e : Vsock)
      → (pages < 2 ^ 32 → AreInside pages got.parts) → Srv (done o h got c e)
  done_keeps (Some operation.Request) h got c e inside = closed_keeps c.host (reset_to_guest c e)
  done_keeps (Some operation.Response) h got c e inside = responded_keeps c.standing c e
  done_keeps (Some operation.Rst) h got c e inside = closed_keeps c.host (dropped c.host e)
  done_keeps (Some operation.Shutdown) h got c e inside = shut_keeps h c e
  done_keeps (Some operation.Rw) h got c e inside = written_keeps c.standing h got c e inside
  done_keeps (Some operation.CreditUpdate) h got c e inside = tt
  done_keeps (Some operation.CreditRequest) h got c e inside = tt
  done_keeps None h got c e inside = tt

  strange_keeps : (o : Option Operation) (h : Header) (e : Vsock) → Srv (strange o h e)
  strange_keeps (Some operation.Request) h e = dialling_keeps h e
  strange_keeps (Some operation.Response) h e = tt
  strange_keeps (Some operation.Rst) h e = tt
  strange_keeps (Some operation.Shutdown) h e = tt
  strange_keeps (Some operation.Rw) h e = tt
  strange_keeps (Some operation.CreditUpdate) h e = tt
  strange_keeps (Some operation.CreditRequest) h e = tt
  strange_keeps None h e = tt

  of_keeps : (c : Option Connection) (h : Header) (got : Got) (e : Vsock) → (pages < 2 ^ 32 → AreInside pages got.parts)
      → Srv (of_connection c h got e)
  of_keeps None h got e inside = strange_keeps (operation_of h.op) h e
  of_keeps (Some c) h got e inside =
      done_keeps (operation_of h.op) h got (credited h c) (with_connection (credited h c) e) inside

  judged_keeps : (h : Header) (got : Got) (e : Vsock) → (pages < 2 ^ 32 → AreInside pages got.parts) → Srv (judged h got e)
  judged_keeps h got e inside =
      keeps_either P (λ (len : Option ℕ). Unit {0}) (not (is_orphaned e.in_hand) && is_addressed h e) _ _
      (λ its. of_keeps (connection_between h.src_port h.dst_port e.connections) h got (record e { in_hand = hand.Judged (refusal h) }) inside) (λ other. tt)

  read_keeps : (len : ℕ) (h : Header) (got : Got) (e : Vsock) → (pages < 2 ^ 32 → AreInside pages got.parts)
      → Srv (read_by len h got e)
  read_keeps len h got e inside =
      keeps_either P (λ (len : Option ℕ). Unit {0}) (h.len == len) _ _ (λ whole. judged_keeps h got e inside) (λ other. tt)

  pub packet_keeps : (len : ℕ) (got : Got) (e : Vsock) → (pages < 2 ^ 32 → AreInside pages got.parts) → Srv (packet_read len e got)
  packet_keeps len got e inside =
      keeps_either P (λ (len : Option ℕ). Unit {0}) (nat_lt (length got.bytes) 44) _ _ (λ short. tt)
      (λ whole. read_keeps len (header_of (take 44 got.bytes)) got e inside)

  -- ---- chains

  writes : (at : ℕ) (piece : List ℕ) → IsAskedBy false is_host_call port (Write at piece)
  writes at piece = inr (tt, tt)

  reads : (at len : ℕ) → IsAskedBy false is_host_call port (Read at len)
  reads at len = inr (tt, tt)

  abbrev InsideParts : List Part → Type 0
  InsideParts left = (pages < 2 ^ 32 → AreInside pages left) × Any left

  pub puts : (bytes : List ℕ) (parts : List Part) → (pages < 2 ^ 32 → AreInside pages parts) → Keeps P InsideParts (put_all bytes parts)
  puts bytes parts inside =
      keeps_both (λ op. pages < 2 ^ 32 → IsInside pages op) (IsAskedBy false is_host_call port)
      (λ (left : List Part). pages < 2 ^ 32 → AreInside pages left) (Any {A = List Part}) (put_all bytes parts)
      (keeps_when (pages < 2 ^ 32) (IsInside pages) (λ (left : List Part). AreInside pages left)
      (put_all bytes parts) (λ few. put_all_keeps pages bytes parts few (inside few)))
      (put_all_asks (IsAskedBy false is_host_call port) writes bytes parts)

  abbrev InsideGot : Got → Type 0
  InsideGot got = (pages < 2 ^ 32 → AreInside pages got.parts) × Any got

  pub collects : (missing : ℕ) (bytes : List ℕ) (parts : List Part) → (pages < 2 ^ 32 → AreInside pages parts)
      → Keeps P InsideGot (collect_all missing bytes parts)
  collects missing bytes parts inside =
      keeps_both (λ op. pages < 2 ^ 32 → IsInside pages op) (IsAskedBy false is_host_call port)
      (λ (got : Got). pages < 2 ^ 32 → AreInside pages got.parts) (Any {A = Got}) (collect_all missing bytes parts)
      (keeps_when (pages < 2 ^ 32) (IsInside pages) (λ (got : Got). AreInside pages got.parts)
      (collect_all missing bytes parts) (λ few. collect_all_keeps pages missing bytes parts few (inside few)))
      (collect_all_asks (IsAskedBy false is_host_call port) reads missing bytes parts)

  received_keeps : (text : List ℕ) (parts : List Part) (e : Vsock) → (pages < 2 ^ 32 → AreInside pages parts)
      → Srv (received text parts e)
  received_keeps text parts e inside =
      keeps_either P (λ (len : Option ℕ). Unit {0}) (nat_le (length text) (total parts)) _ _
      (λ there. performing_keeps P InsideParts (λ (len : Option ℕ). Unit {0}) (put_all text parts) e _ (puts text parts inside)
      (λ f left is. tt))
      (λ short. tt)

  event_keeps : (parts : List Part) (e : Vsock) → (pages < 2 ^ 32 → AreInside pages parts) → Srv (event_told parts e)
  event_keeps parts e inside =
      keeps_either P (λ (len : Option ℕ). Unit {0}) (nat_le 4 (total parts)) _ _
      (λ there. performing_keeps P InsideParts (λ (len : Option ℕ). Unit {0}) (put_all transport_reset parts) e _
      (puts transport_reset parts inside) (λ f left is. tt))
      (λ short. tt)

  transmitted_keeps : (parts : List Part) (e : Vsock) → (pages < 2 ^ 32 → AreInside pages parts) → Srv (transmitted parts e)
  transmitted_keeps parts e inside =
      keeps_either P (λ (len : Option ℕ). Unit {0}) (nat_lt (total parts) 44) _ _ (λ short. tt)
      (λ long. performing_keeps P InsideGot (λ (len : Option ℕ). Unit {0}) (collect_all 44 [] parts) e (packet_read (total parts - 44))
      (collects 44 [] parts inside) (λ f got is. packet_keeps (total parts - 44) got f is.0))

  serve : (k : Which) (c : Chain) (e : Vsock) → (pages < 2 ^ 32 → IsChain vsock pages k c) → Srv (served_by k c e)
  serve First c e chain =
      received_keeps (text_of e.guest_cid e.in_hand) (writable c.parts) e
      (λ few. filter_inside pages (λ (part : Part). part.writable) c.parts (chain few).parts)
  serve Second c e chain =
      transmitted_keeps (readable c.parts) e
      (λ few. filter_inside pages (λ (part : Part). not part.writable) c.parts (chain few).parts)
  serve Third c e chain =
      event_keeps (writable c.parts) e
      (λ few. filter_inside pages (λ (part : Part). part.writable) c.parts (chain few).parts)

-- what a reset leaves out is answered as it may be
call_fits : (call : OutOp) (reply : Reply) → call_cut call ≡ Some reply → Fits (Out call) reply
call_fits (HostDial to) reply is =
    let same : Failed ≡ reply = cc in subst (λ (r : Reply). Fits (Out (HostDial to)) r) same refl
call_fits (HostSend bytes host) reply is =
    let same : Failed ≡ reply = cc in subst (λ (r : Reply). Fits (Out (HostSend bytes host)) r) same refl
call_fits (HostClose host) reply is =
    let same : Failed ≡ reply = cc in subst (λ (r : Reply). Fits (Out (HostClose host)) r) same refl
call_fits call reply is = absurd (cc)

act_fits : (op : Op) (reply : Reply) → act_cut op ≡ Some reply → Fits op reply
act_fits (Out call) reply is = call_fits call reply is
act_fits (Read at len) reply is =
    let same : AccessFault ≡ reply = cc in subst (λ (r : Reply). Fits (Read at len) r) same refl
act_fits op reply is = absurd (cc)

cut_fits : (in_hand : InHand) (op : Op) (reply : Reply) → cut_by in_hand op ≡ Some reply → Fits op reply
cut_fits (hand.Judged refusal) op reply is = act_fits op reply is
cut_fits in_hand op reply is = absurd (cc)

pub owes : Confines vsock resetting false is_host_call
owes = record {
  question = λ port pages e. (λ few. tt, inr (refl, refl));
  answer = λ port pages before e reply fit. happens port pages reply e;
  take = λ port pages k parts e inside few. (inside few, tt, refl);
  serve = λ port pages k c e chain. serve port pages k c e chain;
  untimed = λ no k c e. refl;
  cut = λ c e op reply is. cut_fits e.in_hand op reply is;
}
