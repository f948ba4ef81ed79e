-- What a network device owes of what is kept of it.
use Rattle.std.proofs.Common.{◌≡◌, ℕ, zero, suc, ◌+◌, ◌-◌, ◌*◌, ◌^◌, ◌<◌, ◌≤◌, nat_le, refl, sym, ap, ◌∙◌, subst, inl, inr, Bool, true, false, if◌then◌else◌, Option, Some, None, IfSome, option_map, List, [], ◌∷◌, ◌++◌, length, drop, replicate, arith, length-append, length-drop}
use Rattle.std.specs.List.{All}
use Rattle.std.proofs.lemmas.List.Elements.{All-append, All-cons, All-drop, All-nil, All-replicate}
use Rattle.std.proofs.lemmas.Bool.{and_from, and_parts, eq-eqb, eqb-true, leb-true}
use Rattle.vm_types.specs.declared.op.Op.TheVariants.{Out, Read}
use Rattle.vm_types.specs.declared.op.OutOp.TheVariants.{LinkPart, LinkTake}
use Rattle.vm_types.specs.declared.reply.Reply.{Reply}
use Rattle.vm_types.specs.declared.reply.Reply.TheVariants.{Bytes, Frame}
use Rattle.vm_types.specs.Fits.{Fits}
use Rattle.device_trace.specs.Doing.{Doing, Gives, led}
use Rattle.le_fields.specs.Fields.{IsByte}
use Rattle.device_trace.specs.Traces.{setting}
use Rattle.vq_split.specs.declared.queue.Part.{Part}
use Rattle.vq_split.specs.Chain.{read_bytes}
use Rattle.vq_split.specs.Inside.{AreInside}
use Rattle.dev_core.specs.Inside.{Any}
use Rattle.dev_core.specs.Pieces.{past, place, put_all, readable, room, share, writable}
use Rattle.vq_split.proofs.Steps.{bytes_fit}
use Rattle.dev_core.proofs.Fuel.{put_done}
use Rattle.dev_core.proofs.Inside.{filter_inside, past_inside}
use Rattle.queue_device.specs.declared.lanes.Which.{Which}
use Rattle.queue_device.specs.declared.lanes.Which.TheVariants.{First, Second, Third}
use Rattle.rate_gate.specs.Gate.{Buckets, gate_passes}
use Rattle.rate_gate.specs.Small.{AreSmallLimits}
use Rattle.rate_gate.proofs.SmallLimits.{limits_pass}
use Rattle.queue_device.specs.declared.phase.Work.{Work}
use Rattle.queue_device.specs.declared.phase.Work.TheVariants as work
use Rattle.queue_device.specs.Acting.{Acting, Comes, performing}
use Rattle.queue_device.specs.Chains.{Chain}
use Rattle.queue_device.specs.Confined.{IsChain}
use Rattle.queue_device.specs.Resuming.{Goes, IsShortChain, IsShortTaken, Resumes, answering_of, serving_of, taking_of}
use Rattle.queue_device.specs.Left.{Hand}
use Rattle.queue_device.specs.Sizes.{IsLength, IsReplyTo, IsSmallReply}
use Rattle.queue_device.proofs.Acting.{performing_acts}
use Rattle.queue_device.proofs.Never.{never}
use Rattle.queue_device.proofs.Pieces.{filter_few, past_few, put_asks, read_small, room_most, total_most}
use Rattle.net_device.specs.declared.kind.Stage.{Stage}
use Rattle.net_device.specs.declared.kind.Stage.TheVariants as stage
use Rattle.net_device.specs.Frames.{header, header_size, is_done, is_frame, piece_length, piece_sent, pieces, sending_all, sent_length, taking, with_piece, piece_of}
use Rattle.net_device.specs.Net.{Net, answered_by, emptied, has_room, is_link_call, kept_of, limited, net, passes_by, received, served_by}
use Rattle.net_device.specs.Work.{AnyNet, AtWork, IsSizedData, IsSmallStage, IsSmallText, IsSmallWork, SizedWork, hand_of, is_sized_work, is_work, sent, sized_hand, written}
use Rattle.net_device.proofs.Headed.{headed_more}
use Rattle.net_device.proofs.Working.{ends, fill_led, piece_led, read_led, reads, sends, taken, takes}
use Rattle.net_device.proofs.Keeping.{Has, Takes, answering_stays, at_stage, has_clear, has_of, no_take, no_third, serving_stays, takes_of, test_of_has, test_of_takes}

-- ---- what is kept behind an act

-- what was taken is whole, or lost
lost_led : (left size index : ℕ) (bytes : List ℕ) (reply : Reply) (e : Net) → 0 < left → piece_of reply ≡ None
    → performing (led (taking left size index bytes) reply) e received ≡ Comes e false
lost_led zero size index bytes reply e some none = absurd (omega (arith, some))
lost_led (suc left) size index bytes reply e some none =
    ap (λ (o : Option (List ℕ)). performing (with_piece o (λ piece. taking left size (suc index) (bytes ++ piece))) e received)
    none

less_one : (n index : ℕ) → n - index - 1 ≡ n - suc index
less_one n index = omega arith

no_less : (n : ℕ) → n - 0 ≡ n
no_less n = omega arith

-- a piece before the last one has 64 bytes
whole_piece : (size index more : ℕ) → pieces size - suc index ≡ suc more → piece_length size index ≡ 64
whole_piece size index more is = omega (arith, is)

-- the header has bytes
header_bytes : All IsByte header
header_bytes =
    All-append IsByte (replicate 10 0) (1 ∷ 0 ∷ []) (All-replicate IsByte 10 0 (omega arith))
    (All-cons IsByte 1 (0 ∷ []) (omega arith) (All-cons IsByte 0 [] (omega arith) (All-nil IsByte)))

no_text : IsSmallText []
no_text = (omega arith, All-nil IsByte, refl)

-- a frame that is taken isn't long
frame_short : (size index : ℕ) → is_frame size ≡ true → index < pieces size
    → header_size + 64 * index + piece_length size index ≤ 1526
frame_short size index frame more =
    let most = leb-true size 1514 (and_parts (nat_le 14 size) (nat_le size 1514) frame).1 in
    omega (arith, most, more)

module _ (sized : Bool) (pages : ℕ) where
  abbrev Fine : Net → Type 0
  Fine e = IsSizedData sized e

  abbrev IsText : List ℕ → Type 0
  IsText bytes = sized ≡ true → IsSmallText bytes

  abbrev sized_at : (s : Stage) (bytes : List ℕ) → (sized ≡ true → IsSmallStage s) → IsText bytes → SizedWork sized
  sized_at s bytes stage text = record { work = at_stage s bytes; small = λ yes. (stage yes, text yes) }

  -- no byte was written
  none_long : IsLength sized (Some 0)
  none_long = λ yes. omega arith

  cleared : IsText []
  cleared = λ yes. no_text

  -- ---- from the link

  abbrev Answers : Doing (Option (List ℕ)) → Net → Type 0
  Answers t e =
      Goes net (sized_hand sized) (is_sized_work sized) (IsSizedData sized) sized answering_of work.Answer pages Any
      (performing t e received)

  take_on : (n size index : ℕ) (bytes : List ℕ) (e : Net) → pieces size - index ≡ n → is_frame size ≡ true → Fine e → IsText bytes
      → (0 < n → length bytes ≡ header_size + 64 * index) → Answers (taking (pieces size - index) size index bytes) e
  take_on zero size index bytes e is frame fine text long =
      inr (record {
        own = record e { text = bytes };
        result = true;
        fine = λ yes. record { text = text yes; rx = (fine yes).rx; tx = (fine yes).tx };
        is = tt;
        left = taken (pieces size - index) size index bytes e is;
      })
  take_on (suc n) size index bytes e is frame fine text long =
      let some : 0 < pieces size - index = omega (arith, is) in
      inl (record {
        own = e;
        stage = sized_at (stage.Take size index) bytes (λ yes. tt) text;
        fine = fine;
        is =
            test_of_takes pages size index bytes
            (record { frame = frame; more = omega (arith, some); long = long (omega arith) });
        left = takes (pieces size - index) size index bytes e some;
      })

  piece_next : (size index : ℕ) (bytes : List ℕ) (e : Net) (reply : Reply) → Takes size index bytes → Fine e → IsText bytes
      → IsReplyTo sized (Out (LinkPart index (piece_length size index))) reply
      → Answers (led (taking (pieces size - index) size index bytes) reply) e
  piece_next size index bytes e (Bytes piece) v fine text fit =
      let some : 0 < pieces size - index = omega (arith, v.more) in
      let long : length piece ≡ piece_length size index = eqb-true _ _ fit.0 in
      subst (λ (t : Doing (Option (List ℕ))). Answers t e)
      (sym (piece_led (pieces size - index) size index bytes piece some
      ∙ ap (λ (n : ℕ). taking n size (suc index) (bytes ++ piece)) (less_one (pieces size) index)))
      (take_by (pieces size - suc index) refl long (λ yes. (
        omega (arith, length-append bytes piece, v.long, long, frame_short size index v.frame v.more),
        All-append IsByte bytes piece (text yes).1 (fit.1 yes),
        headed_more bytes piece (text yes).2 (omega (arith, v.long)),
      )))
    where
      take_by : (n : ℕ) → pieces size - suc index ≡ n → length piece ≡ piece_length size index → IsText (bytes ++ piece)
          → Answers (taking (pieces size - suc index) size (suc index) (bytes ++ piece)) e
      take_by zero is long more =
          take_on zero size (suc index) (bytes ++ piece) e is v.frame fine more (λ some. absurd (omega (arith, some)))
      take_by (suc left) is long more =
          take_on (suc left) size (suc index) (bytes ++ piece) e is v.frame fine more (λ some.
          omega (arith, length-append bytes piece, v.long, long, whole_piece size index left is))
  piece_next size index bytes e reply v fine text fit =
      inr (record {
        own = e;
        result = false;
        fine = fine;
        is = tt;
        left = lost_led (pieces size - index) size index bytes reply e (omega (arith, v.more)) refl;
      })

  answering : (s : Stage) (bytes : List ℕ) (e : Net) (reply : Reply) → Fine e → IsText bytes
      → is_work work.Answer pages (at_stage s bytes) ≡ true → IsReplyTo sized (hand_of (at_stage s bytes)).op reply
      → Goes net (sized_hand sized) (is_sized_work sized) (IsSizedData sized) sized answering_of work.Answer pages Any
      ((hand_of (at_stage s bytes)).answering e reply)
  answering stage.Rest bytes e reply fine text is fit = absurd (cc)
  answering (stage.Take size index) bytes e reply fine text is fit =
      piece_next size index bytes e reply (takes_of pages size index bytes is) fine text fit
  answering (stage.Receive at to) bytes e reply fine text is fit = absurd (cc)
  answering (stage.Read skip from) bytes e reply fine text is fit = absurd (cc)
  answering (stage.Send piece skip from) bytes e reply fine text is fit = absurd (cc)
  answering stage.End bytes e reply fine text is fit = absurd (cc)

  -- no frame waits any more
  emptied_fine : (e : Net) → Fine e → Fine (emptied e)
  emptied_fine e fine = λ yes. record { text = no_text; rx = (fine yes).rx; tx = (fine yes).tx }

  answer : (e : Net) (reply : Reply) → Fine e → Fits (Out LinkTake) reply
      → Goes net (sized_hand sized) (is_sized_work sized) (IsSizedData sized) sized answering_of work.Answer pages Any (answered_by reply e)
  answer e (Frame size) fine fit =
      subst (λ (n : ℕ). Answers (taking n size 0 header) (emptied e)) (no_less (pieces size))
      (take_on (pieces size - 0) size 0 header (emptied e) refl fit (emptied_fine e fine) (λ yes. (omega arith, header_bytes, refl))
      (λ some. omega arith))
  answer e reply fine fit = inr (record { own = e; result = false; fine = fine; is = tt; left = refl })

  -- ---- to the driver

  abbrev Serves : Which → Acting Net (Option ℕ) → Type 0
  Serves k t =
      Goes net (sized_hand sized) (is_sized_work sized) (IsSizedData sized) sized serving_of (work.Serve k) pages (IsLength sized) t

  abbrev Writes : List ℕ → Doing (List Part) → Net → Type 0
  Writes bytes t e = Serves First (performing t e (λ f left. written (length bytes) f))

  fill_on : (n at : ℕ) (bytes : List ℕ) (to : List Part) (e : Net) → share (drop at bytes) to ≡ n → Fine e → IsText bytes
      → AreInside pages to → length to ≤ 256 → Writes bytes (put_all (drop at bytes) to) e
  fill_on zero at bytes to e is fine text inside few =
      inr (record {
        own = e;
        result = Some (length bytes);
        fine = fine;
        is = λ yes. let short = (text yes).0 in omega (arith, short);
        left =
            ap (λ (t : Doing (List Part)). performing t e (λ f left. written (length bytes) f))
            (put_done (drop at bytes) to (eq-eqb _ _ is));
      })
  fill_on (suc n) at bytes to e is fine text inside few =
      let some : 0 < share (drop at bytes) to = omega (arith, is) in
      inl (record {
        own = e;
        stage = sized_at (stage.Receive at to) bytes (λ yes. tt) text;
        fine = fine;
        is = test_of_has pages (share (drop at bytes) to) to (record { some = some; inside = inside; few = few });
        left = performing_acts (put_all (drop at bytes) to) e _ _ (put_asks (drop at bytes) to some);
      })

  fill_next : (at : ℕ) (bytes : List ℕ) (to : List Part) (e : Net) (reply : Reply) → pages < 2 ^ 32 → Fine e → IsText bytes
      → Has pages (share (drop at bytes) to) to → Writes bytes (led (put_all (drop at bytes) to) reply) e
  fill_next at bytes to e reply small fine text v =
      let n : ℕ = share (drop at bytes) to in
      subst (λ (t : Doing (List Part)). Writes bytes t e) (fill_led bytes at n to (past n to) reply v.some refl refl)
      (fill_on (share (drop (at + n) bytes) (past n to)) (at + n) bytes (past n to) e refl fine text
      (past_inside pages n to small v.inside (omega arith)) (past_few n 256 to v.few))

  -- ---- from the driver

  abbrev Sends : Doing (Unit {0}) → Net → Type 0
  Sends t e = Serves Second (performing t e (λ f done. sent f))

  send_on : (n skip : ℕ) (from : List Part) (e : Net) → room from ≡ n → Fine e → (sized ≡ true → skip < 2 ^ 64)
      → AreInside pages from → length from ≤ 256 → Sends (sending_all skip from) e
  send_on zero skip from e is fine low inside few =
      inl (record {
        own = e;
        stage = sized_at stage.End [] (λ yes. tt) cleared;
        fine = fine;
        is = refl;
        left = ends skip from e is;
      })
  send_on (suc n) skip from e is fine low inside few =
      let some : 0 < room from = omega (arith, is) in
      inl (record {
        own = e;
        stage = sized_at (stage.Read skip from) [] low cleared;
        fine = fine;
        is = and_from _ _ (test_of_has pages (room from) from (record { some = some; inside = inside; few = few })) refl;
        left = reads skip from e some;
      })

  piece_on : (piece : List ℕ) (skip : ℕ) (from : List Part) (e : Net) → Fine e
      → (sized ≡ true → (length piece ≤ 64) × All IsByte piece × (skip < 2 ^ 64)) → AreInside pages from → length from ≤ 256
      → Sends (piece_sent piece (sending_all skip from)) e
  piece_on [] skip from e fine low inside few = send_on (room from) skip from e refl fine (λ yes. (low yes).2) inside few
  piece_on (b ∷ bytes) skip from e fine low inside few =
      inl (record {
        own = e;
        stage = sized_at (stage.Send (b ∷ bytes) skip from) [] low cleared;
        fine = fine;
        is =
            and_from _ _
            (test_of_has pages (length (b ∷ bytes)) from (record { some = omega arith; inside = inside; few = few })) refl;
        left = sends (b ∷ bytes) (sending_all skip from) e (omega arith);
      })

  -- what was read of a frame, less what is passed over
  piece_low : (skip : ℕ) (from : List Part) (reply : Reply) → skip < 2 ^ 64 → Fits (Read (place from) (room from)) reply → IsSmallReply reply
      → (length (drop skip (read_bytes (room from) reply)) ≤ 64) × All IsByte (drop skip (read_bytes (room from) reply))
      × (skip - room from < 2 ^ 64)
  piece_low skip from reply low fit small = (
    omega (
      arith,
      length-drop skip (read_bytes (room from) reply),
      bytes_fit (place from) (room from) reply fit,
      room_most from,
    ),
    All-drop IsByte skip (read_bytes (room from) reply) (read_small (room from) reply small),
    omega (arith, low),
  )

  read_next : (skip : ℕ) (from : List Part) (e : Net) (reply : Reply) → pages < 2 ^ 32 → Fine e → (sized ≡ true → skip < 2 ^ 64)
      → IsReplyTo sized (Read (place from) (room from)) reply → Has pages (room from) from → Sends (led (sending_all skip from) reply) e
  read_next skip from e reply small fine low fit v =
      let n : ℕ = room from in
      subst (λ (t : Doing (Unit {0})). Sends t e)
      (read_led skip n from (past n from) (read_bytes n reply) reply v.some refl refl refl)
      (piece_on (drop skip (read_bytes n reply)) (skip - n) (past n from) e fine
      (λ yes. piece_low skip from reply (low yes) fit.0 (fit.1 yes))
      (past_inside pages n from small v.inside (omega arith)) (past_few n 256 from v.few))

  sent_by : (test : Bool) (skip : ℕ) (from : List Part) (e : Net) → Fine e → (sized ≡ true → skip < 2 ^ 64) → AreInside pages from
      → length from ≤ 256 → Sends (if test then sending_all skip from else Gives tt) e
  sent_by true skip from e fine low inside few = send_on (room from) skip from e refl fine low inside few
  sent_by false skip from e fine low inside few =
      inr (record { own = e; result = Some 0; fine = fine; is = none_long; left = refl })

  send_next : (piece : List ℕ) (skip : ℕ) (from : List Part) (e : Net) (reply : Reply) → Fine e → (sized ≡ true → skip < 2 ^ 64)
      → Has pages (length piece) from → Sends (led (piece_sent piece (sending_all skip from)) reply) e
  send_next [] skip from e reply fine low v = absurd (omega (arith, v.some))
  send_next (b ∷ bytes) skip from e reply fine low v = sent_by (is_done reply) skip from e fine low v.inside v.few

  -- ---- a chain

  serving : (k : Which) (s : Stage) (bytes : List ℕ) (e : Net) (reply : Reply) → pages < 2 ^ 32 → Fine e
      → (sized ≡ true → IsSmallWork (at_stage s bytes)) → is_work (work.Serve k) pages (at_stage s bytes) ≡ true
      → IsReplyTo sized (hand_of (at_stage s bytes)).op reply → Serves k ((hand_of (at_stage s bytes)).serving e reply)
  serving First stage.Rest bytes e reply small fine low is fit = absurd (cc)
  serving First (stage.Take size index) bytes e reply small fine low is fit = absurd (cc)
  serving First (stage.Receive at to) bytes e reply small fine low is fit =
      fill_next at bytes to e reply small fine (λ yes. (low yes).1) (has_of pages (share (drop at bytes) to) to is)
  serving First (stage.Read skip from) bytes e reply small fine low is fit = absurd (cc)
  serving First (stage.Send piece skip from) bytes e reply small fine low is fit = absurd (cc)
  serving First stage.End bytes e reply small fine low is fit = absurd (cc)
  serving Second stage.Rest bytes e reply small fine low is fit = absurd (cc)
  serving Second (stage.Take size index) bytes e reply small fine low is fit = absurd (cc)
  serving Second (stage.Receive at to) bytes e reply small fine low is fit = absurd (cc)
  serving Second (stage.Read skip from) bytes e reply small fine low is fit =
      read_next skip from e reply small fine (λ yes. (low yes).0) fit (has_clear pages (room from) from bytes is)
  serving Second (stage.Send piece skip from) bytes e reply small fine low is fit =
      send_next piece skip from e reply fine (λ yes. (low yes).0.2) (has_clear pages (length piece) from bytes is)
  serving Second stage.End bytes e reply small fine low is fit =
      inr (record { own = e; result = Some 0; fine = fine; is = none_long; left = refl })
  serving Third s bytes e reply small fine low is fit = absurd (no_third pages s bytes is)

  receive_by : (test : Bool) (c : Chain) (e : Net) → Fine e → AreInside pages (writable c.parts) → length (writable c.parts) ≤ 256
      → Serves First (if test then performing (put_all e.text (writable c.parts)) (emptied e) (λ f left. Comes f (Some (length e.text)))
      else Comes (emptied e) (Some 0))
  receive_by true c e fine inside few =
      fill_on (share (drop 0 e.text) (writable c.parts)) 0 e.text (writable c.parts) (emptied e) refl (emptied_fine e fine)
      (λ yes. (fine yes).text) inside few
  receive_by false c e fine inside few =
      inr (record { own = emptied e; result = Some 0; fine = emptied_fine e fine; is = none_long; left = refl })

  transmit_by : (test : Bool) (c : Chain) (e : Net) → Fine e → AreInside pages (readable c.parts) → length (readable c.parts) ≤ 256
      → Serves Second (if test then performing (sending_all header_size (readable c.parts)) e (λ f done. Comes f (Some 0))
      else Comes e (Some 0))
  transmit_by true c e fine inside few =
      send_on (room (readable c.parts)) header_size (readable c.parts) e refl fine (λ yes. omega arith) inside few
  transmit_by false c e fine inside few =
      inr (record { own = e; result = Some 0; fine = fine; is = none_long; left = refl })

  serve : (k : Which) (c : Chain) (e : Net) → Fine e → IsChain net pages k c → IsShortChain sized (Some c) → Serves k (served_by k c e)
  serve First c e fine chain short =
      let count : length (writable c.parts) ≤ length c.parts = filter_few _ c.parts in
      receive_by (has_room c e) c e fine (filter_inside pages _ c.parts chain.parts) (omega (arith, count, short.0))
  serve Second c e fine chain short =
      let count : length (readable c.parts) ≤ length c.parts = filter_few _ c.parts in
      transmit_by (is_frame (sent_length c.parts)) c e fine (filter_inside pages _ c.parts chain.parts)
      (omega (arith, count, short.0))
  serve Third c e fine chain short = inr (record { own = e; result = Some 0; fine = fine; is = none_long; left = refl })

  take : (k : Which) (parts : List Part) (e : Net) → Fine e → AreInside pages parts → length parts ≤ 256
      → Goes net (sized_hand sized) (is_sized_work sized) (IsSizedData sized) sized taking_of (work.Take k) pages
      (IsShortTaken net sized pages k) (Comes e (Some (kept_of parts)))
  take k parts e fine inside few =
      inr (record {
        own = e;
        result = Some (kept_of parts);
        fine = fine;
        is = ((inside, tt, refl), (few, omega arith, omega arith, λ yes. All-nil IsByte));
        left = refl;
      })

  -- ---- behind a need that passes

  -- what is sent of a chain are less than 2^64 bytes
  sent_few : (c : Chain) → pages ≤ 2 ^ 20 → AreInside pages c.parts → length c.parts ≤ 256 → sent_length c.parts < 2 ^ 64
  sent_few c few inside short =
      let count : length (readable c.parts) ≤ length c.parts = filter_few _ c.parts in
      let most = total_most pages (readable c.parts) few (filter_inside pages _ c.parts inside) in
      omega (arith, most, count, short)

  passed_first : (e f : Net) (o : Option Buckets) → (sized ≡ true → IfSome o AreSmallLimits)
      → option_map (λ (limits : Buckets). record e { rx = limits }) o ≡ Some f → Fine e → Fine f
  passed_first e f None small is fine = absurd (cc)
  passed_first e f (Some limits) small is fine =
      subst (IsSizedData sized) (let same : (record e { rx = limits }) ≡ f = cc in same)
      (λ yes. record { text = (fine yes).text; rx = small yes; tx = (fine yes).tx })

  passed_second : (e f : Net) (o : Option Buckets) → (sized ≡ true → IfSome o AreSmallLimits)
      → option_map (λ (limits : Buckets). record e { tx = limits }) o ≡ Some f → Fine e → Fine f
  passed_second e f None small is fine = absurd (cc)
  passed_second e f (Some limits) small is fine =
      subst (IsSizedData sized) (let same : (record e { tx = limits }) ≡ f = cc in same)
      (λ yes. record { text = (fine yes).text; rx = (fine yes).rx; tx = small yes })

  passes : (k : Which) (c : Chain) (now : ℕ) (e f : Net) → pages ≤ 2 ^ 20 → (sized ≡ true → now < 2 ^ 64) → Fine e
      → IsChain net pages k c → IsShortChain sized (Some c) → passes_by k c now e ≡ Some f → Fine f
  passes First c now e f few early fine chain short is =
      passed_first e f (gate_passes e.rx (length e.text - header_size) now)
      (λ yes. let text = (fine yes).text.0 in
      limits_pass e.rx (length e.text - header_size) now (omega (arith, text)) (early yes) (fine yes).rx) is fine
  passes Second c now e f few early fine chain short is =
      passed_second e f (gate_passes e.tx (sent_length c.parts) now)
      (λ yes. limits_pass e.tx (sent_length c.parts) now (sent_few c few chain.parts short.0) (early yes) (fine yes).tx) is fine
  passes Third c now e f few early fine chain short is = subst (IsSizedData sized) (let same : e ≡ f = cc in same) fine

pub resumes_sized : (sized : Bool)
    → Resumes net (sized_hand sized) (is_sized_work sized) (IsSizedData sized) sized (setting limited) true is_link_call
resumes_sized sized = record {
  rest = record { work = at_stage stage.Rest []; small = λ yes. (tt, no_text) };
  rests = λ pages. refl;
  answering_stays = λ port pages g is. answering_stays port pages g.work.stage g.work.bytes is;
  taking_stays = λ port pages k g is. absurd (no_take pages k g.work.stage g.work.bytes is);
  serving_stays = λ port pages k g is. serving_stays port pages k g.work.stage g.work.bytes is;
  answer = λ pages before e reply small fine fit. answer sized pages e reply fine fit.0;
  answering = λ pages g e reply small fine is fit.
      answering sized pages g.work.stage g.work.bytes e reply fine (λ yes. (g.small yes).1) is fit;
  take = λ pages k parts e small fine inside few. take sized pages k parts e fine inside few;
  taking = λ pages k g e reply small fine is fit. absurd (no_take pages k g.work.stage g.work.bytes is);
  serve = λ pages k c e small fine chain short. serve sized pages k c e fine chain short;
  serving = λ pages k g e reply small fine is fit.
      serving sized pages k g.work.stage g.work.bytes e reply (omega (arith, small)) fine g.small is fit;
  begun = λ k e fine. fine;
  passes = λ pages k c now e f small early fine chain short is. passes sized pages k c now e f small early fine chain short is;
  over = λ k e fine. fine;
  reset = λ e fine. emptied_fine sized 0 e fine;
  cut = λ c e op reply is. absurd (cc);
}

-- where replies needn't be small, by the stage alone
abbrev plain : AtWork → SizedWork false
plain g = record { work = g; small = never }

module _ {A : Type 0} (lead : Hand Net → Net → Reply → Acting Net A) (at : Work) (pages : ℕ) (Q : A → Type 0) where
  plainly : (t : Acting Net A) → Goes net (sized_hand false) (is_sized_work false) (IsSizedData false) false lead at pages Q t
      → Goes net hand_of is_work AnyNet false lead at pages Q t
  plainly t (inl g) = inl (record { own = g.own; stage = g.stage.work; fine = tt; is = g.is; left = g.left })
  plainly t (inr h) = inr (record { own = h.own; result = h.result; fine = tt; is = h.is; left = h.left })

pub resumes : Resumes net hand_of is_work AnyNet false (setting limited) true is_link_call
resumes =
    let own = resumes_sized false in
    record {
      rest = at_stage stage.Rest [];
      rests = λ pages. refl;
      answering_stays = λ port pages g is. answering_stays port pages g.stage g.bytes is;
      taking_stays = λ port pages k g is. absurd (no_take pages k g.stage g.bytes is);
      serving_stays = λ port pages k g is. serving_stays port pages k g.stage g.bytes is;
      answer = λ pages before e reply small fine fit.
          plainly answering_of work.Answer pages Any _ (own.answer pages before e reply small never fit);
      answering = λ pages g e reply small fine is fit.
          plainly answering_of work.Answer pages Any _ (own.answering pages (plain g) e reply small never is fit);
      take = λ pages k parts e small fine inside few.
          plainly taking_of (work.Take k) pages (IsShortTaken net false pages k) _ (own.take pages k parts e small never inside few);
      taking = λ pages k g e reply small fine is fit. absurd (no_take pages k g.stage g.bytes is);
      serve = λ pages k c e small fine chain short.
          plainly serving_of (work.Serve k) pages (IsLength false) _ (own.serve pages k c e small never chain short);
      serving = λ pages k g e reply small fine is fit.
          plainly serving_of (work.Serve k) pages (IsLength false) _ (own.serving pages k (plain g) e reply small never is fit);
      begun = λ k e fine. tt;
      passes = λ pages k c now e f small early fine chain short is. tt;
      over = λ k e fine. tt;
      reset = λ e fine. tt;
      cut = λ c e op reply is. never;
    }
