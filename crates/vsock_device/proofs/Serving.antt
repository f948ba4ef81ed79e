-- What a vsock device goes on with while it serves a chain.
use Rattle.std.proofs.Common.{◌≡◌, ℕ, zero, suc, ◌-◌, ◌^◌, ◌<◌, ◌≤◌, ◌==◌, ◌||◌, nat_le, nat_lt, ◌&&◌, refl, sym, ap, subst, inl, inr, Bool, true, false, not, if◌then◌else◌, Option, Some, None, IfSome, List, [], ◌∷◌, length, drop, take, arith, length-drop}
use Rattle.std.specs.List.{All}
use Rattle.std.proofs.lemmas.Bool.{eq-eqb}
use Rattle.std.proofs.lemmas.List.Elements.{All-append, All-drop, All-nil, All-replicate, All-take}
use Rattle.vm_types.specs.declared.op.Op.{Op}
use Rattle.vm_types.specs.declared.reply.Reply.{Reply}
use Rattle.vm_types.specs.declared.reply.Reply.TheVariants.{Dialled, Done}
use Rattle.device_trace.specs.Doing.{Doing, led}
use Rattle.le_fields.specs.Fields.{IsByte}
use Rattle.vq_split.specs.declared.queue.Part.{Part}
use Rattle.vq_split.specs.Chain.{read_bytes}
use Rattle.vq_split.specs.Inside.{AreInside}
use Rattle.dev_core.specs.declared.collect.Collect.{Collect}
use Rattle.dev_core.specs.Collecting.{collect_left}
use Rattle.dev_core.specs.Pieces.{Got, past, place, put_all, readable, room, share, total, writable}
use Rattle.vq_split.proofs.Steps.{bytes_fit}
use Rattle.dev_core.proofs.Fuel.{collect_done, put_done}
use Rattle.dev_core.proofs.Inside.{filter_inside, past_inside}
use Rattle.queue_device.specs.declared.lanes.Which.{Which}
use Rattle.queue_device.specs.declared.lanes.Which.TheVariants.{First, Second, Third}
use Rattle.queue_device.specs.declared.phase.Work.TheVariants as work
use Rattle.queue_device.specs.declared.spill.Spill.{Spill}
use Rattle.queue_device.specs.Acting.{Acting, Comes, performing}
use Rattle.queue_device.specs.Chains.{Chain}
use Rattle.queue_device.specs.Confined.{IsChain}
use Rattle.queue_device.specs.Resuming.{Goes, IsShortChain, IsShortTaken, serving_of, taking_of}
use Rattle.queue_device.specs.Sizes.{IsLength, IsReplyTo, IsSmallReply}
use Rattle.queue_device.proofs.Acting.{performing_acts}
use Rattle.queue_device.proofs.Pieces.{collect_asks, collect_next, filter_few, more_of, past_few, put_asks, read_small, room_most, total_most}
use Rattle.queue_device.proofs.Spilling.{spill_on}
use Rattle.vsock_packet.specs.declared.header.Header.{Header}
use Rattle.vsock_packet.specs.declared.operation.Operation.{Operation}
use Rattle.vsock_packet.specs.declared.operation.Operation.TheVariants as operation
use Rattle.vsock_packet.specs.Header as packet
use Rattle.vsock_packet.specs.Header.{ends_both_ways, header_of}
use Rattle.vsock_packet.specs.Operations.{operation_of}
use Rattle.vsock_device.specs.declared.connection.Connection.{Connection}
use Rattle.vsock_device.specs.declared.connection.Standing.{Standing}
use Rattle.vsock_device.specs.declared.connection.Standing.TheVariants as standing
use Rattle.vsock_device.specs.declared.data.InHand.TheVariants as hand
use Rattle.vsock_device.specs.declared.data.Vsock.{Vsock}
use Rattle.vsock_device.specs.declared.kind.Stage.{Stage}
use Rattle.vsock_device.specs.declared.kind.Stage.TheVariants as stage
use Rattle.vsock_device.specs.Connections.{connection_at, connection_between, is_live, most_connections}
use Rattle.vsock_device.specs.Credit.{credited, host_room}
use Rattle.vsock_device.specs.Data.{delivered, dropped, refused, reset_to_guest, with_connection}
use Rattle.vsock_device.specs.Guest.{closed, dialled, dialling, done, forwarding_all, is_addressed, is_new, is_orphaned, of_connection, one_forwarded, packet_read, passed, passing, piece_read, responded, strange, taken_in, told_open, transmitted, written}
use Rattle.vsock_device.specs.Lines.{ok_line}
use Rattle.vsock_device.specs.Packets.{head_of, refusal}
use Rattle.vsock_device.specs.Small.{IsShortBytes, IsSizedData, IsSmallConnection, IsSmallPiece, IsSmallStage, is_sized_work, sized_hand}
use Rattle.vsock_device.specs.Vsock.{event_told, kept_of, received, served_by, text_of, told, transport_reset, vsock}
use Rattle.vsock_device.specs.Work.{hand_of, is_work}
use Rattle.vsock_device.proofs.Hearing.{at_stage}
use Rattle.vsock_device.proofs.Pieces.{forward_done, forward_more}
use Rattle.vsock_device.proofs.Small.{answered_small, at_small, between_small, credited_small, delivered_small, dropped_small, failed_small, hand_small, head_small, one_forwarded_small, one_open_small, refusal_small, refused_small, reset_guest_small, told_small, welcomed_small, with_small}
use Rattle.vsock_device.proofs.SmallTexts.{header_fits, ok_small, text_small}
use Rattle.vsock_device.proofs.Stages.{Fetches, Has, fetches_of, has_of, sends_of, test_of_fetches, test_of_has, test_of_sends}

fewer : (n : ℕ) (bytes : List ℕ) → IsShortBytes bytes → IsShortBytes (drop n bytes)
fewer n bytes short =
    let most = short.0 in (omega (arith, length-drop n bytes, most), All-drop IsByte n bytes short.1)

-- ---- what is kept behind an act

module _ (sized : Bool) (pages : ℕ) where
  abbrev Fine : Vsock → Type 0
  Fine e = IsSizedData sized e

  abbrev IsLow : ℕ → Type 0
  IsLow host = sized ≡ true → host < 2 ^ 32

  abbrev IsPiece : List ℕ → Type 0
  IsPiece piece = sized ≡ true → IsSmallPiece piece

  abbrev IsOwn : Connection → Type 0
  IsOwn c = sized ≡ true → IsSmallConnection c

  abbrev HasFields : Header → Type 0
  HasFields h = sized ≡ true → packet.Fits h

  abbrev Serves : Which → Acting Vsock (Option ℕ) → Type 0
  Serves k t =
      Goes vsock (sized_hand sized) (is_sized_work sized) (IsSizedData sized) sized serving_of (work.Serve k) pages (IsLength sized) t

  -- no byte was written
  none_in : (k : Which) (e : Vsock) → Fine e → Serves k (Comes e (Some 0))
  none_in k e fine = inr (record { own = e; result = Some 0; fine = fine; is = λ yes. omega arith; left = refl })

  serves_if : (k : Which) (test : Bool) (x y : Acting Vsock (Option ℕ)) → Serves k x → Serves k y → Serves k (if test then x else y)
  serves_if k true x y on off = on
  serves_if k false x y on off = off

  -- ---- bytes that are written

  deliver_on : (n : ℕ) (held : List ℕ) (to : List Part) (len : ℕ) (e : Vsock) → share held to ≡ n → Fine e
      → (sized ≡ true → IsShortBytes held × (len < 2 ^ 32)) → AreInside pages to → length to ≤ 256
      → Serves First (performing (put_all held to) e (λ f left. Comes (delivered f) (Some len)))
  deliver_on zero held to len e is fine own inside few =
      inr (record {
        own = delivered e;
        result = Some len;
        fine = λ yes. delivered_small e (fine yes);
        is = λ yes. (own yes).1;
        left =
            ap (λ (t : Doing (List Part)). performing t e (λ f left. Comes (delivered f) (Some len)))
            (put_done held to (eq-eqb _ _ is));
      })
  deliver_on (suc n) held to len e is fine own inside few =
      let some : 0 < share held to = omega (arith, is) in
      inl (record {
        own = e;
        stage = at_stage sized (stage.Deliver (record { held = held; to = to }) len) own;
        fine = fine;
        is = test_of_has pages (share held to) to (record { some = some; inside = inside; few = few });
        left = performing_acts (put_all held to) e _ _ (put_asks held to some);
      })

  event_on : (n : ℕ) (held : List ℕ) (to : List Part) (e : Vsock) → share held to ≡ n → Fine e
      → (sized ≡ true → IsShortBytes held) → AreInside pages to → length to ≤ 256
      → Serves Third (performing (put_all held to) e (λ f left. Comes (told f) (Some 4)))
  event_on zero held to e is fine own inside few =
      inr (record {
        own = told e;
        result = Some 4;
        fine = λ yes. told_small e (fine yes);
        is = λ yes. omega arith;
        left =
            ap (λ (t : Doing (List Part)). performing t e (λ f left. Comes (told f) (Some 4)))
            (put_done held to (eq-eqb _ _ is));
      })
  event_on (suc n) held to e is fine own inside few =
      let some : 0 < share held to = omega (arith, is) in
      inl (record {
        own = e;
        stage = at_stage sized (stage.Event (record { held = held; to = to })) own;
        fine = fine;
        is = test_of_has pages (share held to) to (record { some = some; inside = inside; few = few });
        left = performing_acts (put_all held to) e _ _ (put_asks held to some);
      })

  deliver_next : (spill : Spill) (len : ℕ) (e : Vsock) (reply : Reply) → pages < 2 ^ 32 → Fine e
      → (sized ≡ true → IsSmallStage (stage.Deliver spill len)) → Has pages (share spill.held spill.to) spill.to
      → Serves First (performing (led (put_all spill.held spill.to) reply) e (λ f left. Comes (delivered f) (Some len)))
  deliver_next spill len e reply small fine own v =
      let n : ℕ = share spill.held spill.to in
      let rest : List ℕ = drop n spill.held in
      let to : List Part = past n spill.to in
      subst (λ (t : Doing (List Part)). Serves First (performing t e (λ f left. Comes (delivered f) (Some len))))
      (spill_on spill.held rest spill.to to n reply v.some refl refl refl)
      (deliver_on (share rest to) rest to len e refl fine (λ yes. (fewer n spill.held (own yes).0, (own yes).1))
      (past_inside pages n spill.to small v.inside (omega arith)) (past_few n 256 spill.to v.few))

  event_next : (spill : Spill) (e : Vsock) (reply : Reply) → pages < 2 ^ 32 → Fine e
      → (sized ≡ true → IsSmallStage (stage.Event spill)) → Has pages (share spill.held spill.to) spill.to
      → Serves Third (performing (led (put_all spill.held spill.to) reply) e (λ f left. Comes (told f) (Some 4)))
  event_next spill e reply small fine own v =
      let n : ℕ = share spill.held spill.to in
      let rest : List ℕ = drop n spill.held in
      let to : List Part = past n spill.to in
      subst (λ (t : Doing (List Part)). Serves Third (performing t e (λ f left. Comes (told f) (Some 4))))
      (spill_on spill.held rest spill.to to n reply v.some refl refl refl)
      (event_on (share rest to) rest to e refl fine (λ yes. fewer n spill.held (own yes))
      (past_inside pages n spill.to small v.inside (omega arith)) (past_few n 256 spill.to v.few))

  -- ---- bytes for the host

  forward_by : (n host : ℕ) (from : List Part) (e : Vsock) → room from ≡ n → Fine e → IsLow host → AreInside pages from
      → length from ≤ 256 → Serves Second (forwarding_all host from e)
  forward_by zero host from e is fine low inside few =
      inr (record { own = e; result = Some 0; fine = fine; is = λ yes. omega arith; left = forward_done host from e is })
  forward_by (suc n) host from e is fine low inside few =
      let some : 0 < room from = omega (arith, is) in
      inl (record {
        own = e;
        stage = at_stage sized (stage.Read host from) low;
        fine = fine;
        is = test_of_has pages (room from) from (record { some = some; inside = inside; few = few });
        left = forward_more host from e some;
      })

  forward : (host : ℕ) (from : List Part) (e : Vsock) → Fine e → IsLow host → AreInside pages from → length from ≤ 256
      → Serves Second (forwarding_all host from e)
  forward host from e fine low inside few = forward_by (room from) host from e refl fine low inside few

  pass : (host : ℕ) (piece : List ℕ) (from : List Part) (e : Vsock) → Fine e → IsLow host → IsPiece piece → AreInside pages from
      → length from ≤ 256 → Serves Second (passing host piece e (λ f. forwarding_all host from f))
  pass host [] from e fine low short inside few = forward host from e fine low inside few
  pass host (b ∷ bytes) from e fine low short inside few =
      inl (record {
        own = e;
        stage = at_stage sized (stage.Send host (b ∷ bytes) from) (λ yes. (low yes, short yes));
        fine = fine;
        is = test_of_sends pages host (b ∷ bytes) from (record { some = omega arith; inside = inside; few = few });
        left = refl;
      })

  passed_by : (reply : Reply) (host n : ℕ) (from : List Part) (e : Vsock) → Fine e → IsLow host → AreInside pages from
      → length from ≤ 256 → Serves Second (passed reply host n e (λ f. forwarding_all host from f))
  passed_by Done host n from e fine low inside few =
      forward host from (one_forwarded (connection_at host e.connections) n e)
      (λ yes. one_forwarded_small (connection_at host e.connections) n e (at_small host e (fine yes)) (fine yes)) low inside few
  passed_by reply host n from e fine low inside few = none_in Second _ (λ yes. failed_small host e (fine yes))

  piece_on : (host : ℕ) (piece : List ℕ) (from : List Part) (e : Vsock) → Fine e → IsLow host → IsPiece piece → AreInside pages from
      → length from ≤ 256 → Serves Second (piece_read host piece e (λ f. forwarding_all host from f))
  piece_on host piece from e fine low short inside few =
      serves_if Second (is_live host e.connections) _ _ (pass host piece from e fine low short inside few) (none_in Second e fine)

  -- ---- packets

  close_on : (host : ℕ) (e : Vsock) → Fine e → IsLow host → Serves Second (closed host e)
  close_on host e fine low =
      inl (record { own = e; stage = at_stage sized (stage.Close host) low; fine = fine; is = refl; left = refl })

  -- it is closed, and the guest is told so
  reset_on : (c : Connection) (e : Vsock) → Fine e → IsOwn c → Serves Second (closed c.host (reset_to_guest c e))
  reset_on c e fine own =
      close_on c.host (reset_to_guest c e) (λ yes. reset_guest_small c e (own yes) (fine yes)) (λ yes. (own yes).host)

  refused_on : (h : Header) (e : Vsock) → Fine e → HasFields h → Serves Second (taken_in (refused h e))
  refused_on h e fine head = none_in Second (refused h e) (λ yes. refused_small h e (head yes) (fine yes))

  dialled_by : (reply : Reply) (h : Header) (e : Vsock) → Fine e → HasFields h → (sized ≡ true → IsSmallReply reply)
      → Serves Second (dialled reply h e)
  dialled_by (Dialled host) h e fine head low =
      serves_if Second (is_new host e) _ _
      (none_in Second _ (λ yes. welcomed_small host h e (low yes) (head yes) (fine yes))) (refused_on h e fine head)
  dialled_by reply h e fine head low = refused_on h e fine head

  dial_on : (h : Header) (e : Vsock) → Fine e → HasFields h → Serves Second (dialling h e)
  dial_on h e fine head =
      serves_if Second (nat_lt (length e.connections) most_connections) _ _
      (inl (record { own = e; stage = at_stage sized (stage.Dial h) head; fine = fine; is = refl; left = refl }))
      (refused_on h e fine head)

  opened_by : (reply : Reply) (host : ℕ) (e : Vsock) → Fine e → Serves Second (told_open reply host e)
  opened_by Done host e fine =
      none_in Second _ (λ yes. one_open_small (connection_at host e.connections) e (at_small host e (fine yes)) (fine yes))
  opened_by reply host e fine = none_in Second _ (λ yes. failed_small host e (fine yes))

  respond_on : (s : Standing) (c : Connection) (e : Vsock) → Fine e → IsOwn c → Serves Second (responded s c e)
  respond_on standing.Asked c e fine own =
      inl (record {
        own = e;
        stage =
            at_stage sized (stage.Accept c.host (ok_line c.host_port))
            (λ yes. ((own yes).host, ok_small c.host_port (own yes).host_port));
        fine = fine;
        is = refl;
        left = refl;
      })
  respond_on (standing.Line so_far) c e fine own = reset_on c e fine own
  respond_on standing.Open c e fine own = reset_on c e fine own

  -- at most so many bytes were read, which are bytes
  abbrev WasRead : Got → Type 0
  WasRead got = sized ≡ true → (length got.bytes ≤ 108) × All IsByte got.bytes

  behind_header : (got : Got) → WasRead got → IsPiece (drop 44 got.bytes)
  behind_header got read =
      λ yes. let few = (read yes).0 in (omega (arith, length-drop 44 got.bytes, few), All-drop IsByte 44 got.bytes (read yes).1)

  write_on : (s : Standing) (h : Header) (got : Got) (c : Connection) (e : Vsock) → Fine e → IsOwn c → WasRead got
      → AreInside pages got.parts → length got.parts ≤ 256 → Serves Second (written s h got c e)
  write_on standing.Open h got c e fine own read inside few =
      serves_if Second (nat_le h.len host_room) _ _
      (pass c.host (drop 44 got.bytes) got.parts e fine (λ yes. (own yes).host) (behind_header got read) inside few)
      (reset_on c e fine own)
  write_on (standing.Line so_far) h got c e fine own read inside few = reset_on c e fine own
  write_on standing.Asked h got c e fine own read inside few = reset_on c e fine own

  act_on : (o : Option Operation) (h : Header) (got : Got) (c : Connection) (e : Vsock) → Fine e → IsOwn c → WasRead got
      → AreInside pages got.parts → length got.parts ≤ 256 → Serves Second (done o h got c e)
  act_on (Some operation.Request) h got c e fine own read inside few = reset_on c e fine own
  act_on (Some operation.Response) h got c e fine own read inside few = respond_on c.standing c e fine own
  act_on (Some operation.Rst) h got c e fine own read inside few =
      close_on c.host (dropped c.host e) (λ yes. dropped_small c.host e (fine yes)) (λ yes. (own yes).host)
  act_on (Some operation.Shutdown) h got c e fine own read inside few =
      serves_if Second (ends_both_ways h) _ _ (reset_on c e fine own) (none_in Second e fine)
  act_on (Some operation.Rw) h got c e fine own read inside few = write_on c.standing h got c e fine own read inside few
  act_on (Some operation.CreditUpdate) h got c e fine own read inside few = none_in Second e fine
  act_on (Some operation.CreditRequest) h got c e fine own read inside few =
      none_in Second _ (λ yes. answered_small (head_of operation.CreditUpdate c) e (head_small operation.CreditUpdate c (own yes)) (fine yes))
  act_on None h got c e fine own read inside few = none_in Second e fine

  strange_on : (o : Option Operation) (h : Header) (e : Vsock) → Fine e → HasFields h → Serves Second (strange o h e)
  strange_on (Some operation.Request) h e fine head = dial_on h e fine head
  strange_on (Some operation.Response) h e fine head = refused_on h e fine head
  strange_on (Some operation.Rst) h e fine head = refused_on h e fine head
  strange_on (Some operation.Shutdown) h e fine head = refused_on h e fine head
  strange_on (Some operation.Rw) h e fine head = refused_on h e fine head
  strange_on (Some operation.CreditUpdate) h e fine head = refused_on h e fine head
  strange_on (Some operation.CreditRequest) h e fine head = refused_on h e fine head
  strange_on None h e fine head = refused_on h e fine head

  of_on : (c : Option Connection) (h : Header) (got : Got) (e : Vsock) → Fine e → HasFields h → (sized ≡ true → IfSome c IsSmallConnection)
      → WasRead got → AreInside pages got.parts → length got.parts ≤ 256 → Serves Second (of_connection c h got e)
  of_on None h got e fine head own read inside few = strange_on (operation_of h.op) h e fine head
  of_on (Some c) h got e fine head own read inside few =
      let now : Connection = credited h c in
      let small : IsOwn now = λ yes. credited_small h c (own yes) in
      act_on (operation_of h.op) h got now (with_connection now e) (λ yes. with_small now e (small yes) (fine yes)) small read inside few

  packet_on : (len : ℕ) (got : Got) (e : Vsock) → Fine e → WasRead got → AreInside pages got.parts → length got.parts ≤ 256
      → Serves Second (packet_read len e got)
  packet_on len got e fine read inside few =
      let h : Header = header_of (take 44 got.bytes) in
      let head : HasFields h = λ yes. header_fits (take 44 got.bytes) (All-take IsByte 44 got.bytes (read yes).1) in
      let ignored : Vsock = record e { in_hand = hand.Judged None } in
      let judged : Vsock = record e { in_hand = hand.Judged (refusal h) } in
      let left : Fine ignored = λ yes. hand_small (hand.Judged None) e tt (fine yes) in
      let is : Fine judged = λ yes. hand_small (hand.Judged (refusal h)) e (refusal_small h (head yes)) (fine yes) in
      serves_if Second (nat_lt (length got.bytes) 44) _ _ (none_in Second ignored left)
      (serves_if Second (h.len == len) _ _
      (serves_if Second (not (is_orphaned e.in_hand) && is_addressed h e) _ _
      (of_on (connection_between h.src_port h.dst_port e.connections) h got judged is head
      (λ yes. between_small h.src_port h.dst_port e (fine yes)) read inside few) (refused_on h judged is head))
      (none_in Second ignored left))

  abbrev Fetched : Doing Got → ℕ → Vsock → Type 0
  Fetched t len e = Serves Second (performing t e (packet_read len))

  -- fewer bytes than two pieces came, which are bytes
  abbrev CameSmall : Collect → ℕ → Type 0
  CameSmall from len = sized ≡ true → (length from.held ≤ 108) × All IsByte from.held × (len < 2 ^ 64)

  fetch_by : (test : Bool) (from : Collect) (len : ℕ) (e : Vsock)
      → ((44 - length from.held == 0) || (room from.from == 0)) ≡ test → Fine e → CameSmall from len → AreInside pages from.from
      → length from.from ≤ 256 → Fetched (collect_left 44 from) len e
  fetch_by true from len e is fine came inside few =
      subst (λ (t : Doing Got). Fetched t len e) (sym (collect_done (44 - length from.held) from.held from.from is))
      (packet_on len (record { bytes = from.held; parts = from.from }) e fine (λ yes. ((came yes).0, (came yes).1)) inside few)
  fetch_by false from len e is fine came inside few =
      let more = more_of 44 (length from.held) (room from.from) is in
      inl (record {
        own = e;
        stage = at_stage sized (stage.Fetch from len) (λ yes. ((came yes).1, (came yes).2));
        fine = fine;
        is =
            test_of_fetches pages len from
            (record { short = more.0; has = record { some = more.1; inside = inside; few = few } });
        left = performing_acts (collect_left 44 from) e (packet_read len) _ (collect_asks 44 from more.0 more.1);
      })

  fetch : (from : Collect) (len : ℕ) (e : Vsock) → Fine e → CameSmall from len → AreInside pages from.from → length from.from ≤ 256
      → Fetched (collect_left 44 from) len e
  fetch from len e fine came inside few =
      fetch_by ((44 - length from.held == 0) || (room from.from == 0)) from len e refl fine came inside few

  fetch_next : (from : Collect) (len : ℕ) (e : Vsock) (reply : Reply) → pages < 2 ^ 32 → Fine e
      → (sized ≡ true → IsSmallStage (stage.Fetch from len)) → Fetches pages from → IsReplyTo sized (hand_of (stage.Fetch from len)).op reply
      → Fetched (led (collect_left 44 from) reply) len e
  fetch_next from len e reply small fine own v fit =
      let w = collect_next 44 pages from reply small v.short v.has.some v.has.inside v.has.few fit.0 in
      let few : length w.now.held < 108 = w.most in
      subst (λ (t : Doing Got). Fetched t len e) w.left
      (fetch w.now len e fine (λ yes. (
        omega (arith, few),
        subst (λ (held : List ℕ). All IsByte held) (sym w.held_is)
            (All-append IsByte from.held (read_bytes (room from.from) reply) (own yes).0 (read_small (room from.from) reply (fit.1 yes))),
        (own yes).1,
      )) w.inside w.few)

  -- ---- a chain

  read_piece : (from : List Part) (reply : Reply) → IsReplyTo sized (Op.Read (place from) (room from)) reply
      → IsPiece (read_bytes (room from) reply)
  read_piece from reply fit =
      λ yes. (omega (arith, bytes_fit (place from) (room from) reply fit.0, room_most from), read_small (room from) reply (fit.1 yes))

  pub serving : (k : Which) (g : Stage) (e : Vsock) (reply : Reply) → pages < 2 ^ 32 → Fine e → (sized ≡ true → IsSmallStage g)
      → is_work (work.Serve k) pages g ≡ true → IsReplyTo sized (hand_of g).op reply → Serves k ((hand_of g).serving e reply)
  serving First (stage.Deliver spill len) e reply small fine own is fit =
      deliver_next spill len e reply small fine own (has_of pages (share spill.held spill.to) spill.to is)
  serving First stage.Rest e reply small fine own is fit = absurd (cc)
  serving First (stage.Close host) e reply small fine own is fit = absurd (cc)
  serving First (stage.Event spill) e reply small fine own is fit = absurd (cc)
  serving First (stage.Fetch from len) e reply small fine own is fit = absurd (cc)
  serving First (stage.Dial header) e reply small fine own is fit = absurd (cc)
  serving First (stage.Accept host line) e reply small fine own is fit = absurd (cc)
  serving First (stage.Send host piece from) e reply small fine own is fit = absurd (cc)
  serving First (stage.Read host from) e reply small fine own is fit = absurd (cc)
  serving Second (stage.Fetch from len) e reply small fine own is fit =
      fetch_next from len e reply small fine own (fetches_of pages len from is) fit
  serving Second (stage.Close host) e reply small fine own is fit = none_in Second e fine
  serving Second (stage.Dial header) e reply small fine own is fit = dialled_by reply header e fine own fit.1
  serving Second (stage.Accept host line) e reply small fine own is fit = opened_by reply host e fine
  serving Second (stage.Send host piece from) e reply small fine own is fit =
      let v = sends_of pages host piece from is in
      passed_by reply host (length piece) from e fine (λ yes. (own yes).0) v.inside v.few
  serving Second (stage.Read host from) e reply small fine own is fit =
      let v = has_of pages (room from) from is in
      piece_on host (read_bytes (room from) reply) (past (room from) from) e fine own (read_piece from reply fit)
      (past_inside pages (room from) from small v.inside (omega arith)) (past_few (room from) 256 from v.few)
  serving Second stage.Rest e reply small fine own is fit = absurd (cc)
  serving Second (stage.Deliver spill len) e reply small fine own is fit = absurd (cc)
  serving Second (stage.Event spill) e reply small fine own is fit = absurd (cc)
  serving Third (stage.Event spill) e reply small fine own is fit =
      event_next spill e reply small fine own (has_of pages (share spill.held spill.to) spill.to is)
  serving Third stage.Rest e reply small fine own is fit = absurd (cc)
  serving Third (stage.Close host) e reply small fine own is fit = absurd (cc)
  serving Third (stage.Deliver spill len) e reply small fine own is fit = absurd (cc)
  serving Third (stage.Fetch from len) e reply small fine own is fit = absurd (cc)
  serving Third (stage.Dial header) e reply small fine own is fit = absurd (cc)
  serving Third (stage.Accept host line) e reply small fine own is fit = absurd (cc)
  serving Third (stage.Send host piece from) e reply small fine own is fit = absurd (cc)
  serving Third (stage.Read host from) e reply small fine own is fit = absurd (cc)

  receive_on : (text : List ℕ) (to : List Part) (e : Vsock) → Fine e → (sized ≡ true → IsShortBytes text × (length text < 2 ^ 32))
      → AreInside pages to → length to ≤ 256 → Serves First (received text to e)
  receive_on text to e fine own inside few =
      serves_if First (nat_le (length text) (total to)) _ _
      (deliver_on (share text to) text to (length text) e refl fine own inside few) (none_in First e fine)

  tell_on : (to : List Part) (e : Vsock) → Fine e → AreInside pages to → length to ≤ 256 → Serves Third (event_told to e)
  tell_on to e fine inside few =
      serves_if Third (nat_le 4 (total to)) _ _
      (event_on (share transport_reset to) transport_reset to e refl fine (λ yes. (omega arith, All-replicate IsByte 4 0 (omega arith))) inside few)
      (none_in Third e fine)

  transmit_on : (from : List Part) (e : Vsock) → pages ≤ 2 ^ 20 → Fine e → AreInside pages from → length from ≤ 256
      → Serves Second (transmitted from e)
  transmit_on from e small fine inside few =
      serves_if Second (nat_lt (total from) 44) _ _
      (none_in Second _ (λ yes. hand_small (hand.Judged None) e tt (fine yes)))
      (fetch (record { from = from; held = [] }) (total from - 44) e fine
      (λ yes. (omega arith, All-nil IsByte, omega (arith, total_most pages from small inside, few))) inside few)

  pub serve : (k : Which) (c : Chain) (e : Vsock) → pages ≤ 2 ^ 20 → Fine e → IsChain vsock pages k c → IsShortChain sized (Some c)
      → Serves k (served_by k c e)
  serve First c e small fine chain short =
      let count : length (writable c.parts) ≤ length c.parts = filter_few _ c.parts in
      receive_on (text_of e.guest_cid e.in_hand) (writable c.parts) e fine
      (λ yes. text_small e.guest_cid e.in_hand (fine yes).in_hand) (filter_inside pages _ c.parts chain.parts)
      (omega (arith, count, short.0))
  serve Second c e small fine chain short =
      let count : length (readable c.parts) ≤ length c.parts = filter_few _ c.parts in
      transmit_on (readable c.parts) e small fine (filter_inside pages _ c.parts chain.parts) (omega (arith, count, short.0))
  serve Third c e small fine chain short =
      let count : length (writable c.parts) ≤ length c.parts = filter_few _ c.parts in
      tell_on (writable c.parts) e fine (filter_inside pages _ c.parts chain.parts) (omega (arith, count, short.0))

  pub take_all : (k : Which) (parts : List Part) (e : Vsock) → Fine e → AreInside pages parts → length parts ≤ 256
      → Goes vsock (sized_hand sized) (is_sized_work sized) (IsSizedData sized) sized taking_of (work.Take k) pages
      (IsShortTaken vsock sized pages k) (Comes e (Some (kept_of parts)))
  take_all k parts e fine inside few =
      inr (record {
        own = e;
        result = Some (kept_of parts);
        fine = fine;
        is = ((inside, tt, refl), (few, omega arith, omega arith, λ yes. All-nil IsByte));
        left = refl;
      })
