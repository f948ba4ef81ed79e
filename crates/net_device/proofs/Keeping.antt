-- Where a network device may be, and that what is left there keeps to its own.
use Rattle.std.proofs.Common.{◌≡◌, ℕ, zero, suc, ◌+◌, ◌-◌, ◌*◌, ◌^◌, ◌<◌, ◌≤◌, ◌==◌, nat_le, nat_lt, ◌&&◌, refl, ap, inr, Bool, true, false, Option, Some, List, [], ◌∷◌, length, drop, arith}
use Rattle.std.proofs.lemmas.Bool.{and_from, and_parts, eq-eqb, eqb-true, le-leb, leb-true, lt-ltb, ltb-true}
use Rattle.vm_types.specs.declared.op.Op.TheVariants.{Out, Read}
use Rattle.vm_types.specs.declared.op.OutOp.TheVariants.{LinkPart, LinkSend}
use Rattle.vm_types.specs.declared.reply.Reply.{Reply}
use Rattle.vm_types.specs.Fits.{Fits}
use Rattle.device_trace.specs.Acts.{IsAskedBy}
use Rattle.device_trace.specs.Doing.{Doing, asked, led}
use Rattle.device_trace.proofs.Keeping.{keeps_both}
use Rattle.vq_split.specs.declared.queue.Part.{Part}
use Rattle.vq_split.specs.Inside.{AreInside, IsInside}
use Rattle.vq_split.specs.Kept.{are_inside}
use Rattle.vq_split.proofs.Kept.{are_of, inside_of}
use Rattle.dev_core.specs.Inside.{Any}
use Rattle.dev_core.specs.Pieces.{put_all, room, share, total}
use Rattle.dev_core.proofs.Asking.{put_all_asks}
use Rattle.dev_core.proofs.Inside.{put_all_keeps}
use Rattle.queue_device.specs.declared.lanes.Which.{Which}
use Rattle.queue_device.specs.declared.lanes.Which.TheVariants.{First, Second, Third}
use Rattle.queue_device.specs.declared.phase.Work.TheVariants as work
use Rattle.queue_device.specs.Acting.{ActingKeeps}
use Rattle.queue_device.specs.Confined.{IsDeviceAct}
use Rattle.queue_device.proofs.Acting.{keeps_when, led_keeps, performing_keeps}
use Rattle.queue_device.proofs.Pieces.{put_asks}
use Rattle.net_device.specs.declared.kind.Stage.{Stage}
use Rattle.net_device.specs.declared.kind.Stage.TheVariants as stage
use Rattle.net_device.specs.Frames.{header_size, is_frame, piece_length, piece_sent, pieces, sending_all, taking}
use Rattle.net_device.specs.Net.{Net, is_link_call, received}
use Rattle.net_device.specs.Work.{AtWork, hand_of, is_clear, is_work}
use Rattle.net_device.proofs.Net.{came, piece_keeps, sending_keeps, taking_keeps, writes}
use Rattle.net_device.proofs.Pieces.{sent_more}

abbrev pub at_stage : Stage → List ℕ → AtWork
at_stage s bytes = record { stage = s; bytes = bytes }

-- ---- the tests

pub record Takes (size index : ℕ) (bytes : List ℕ) : Type 0 where
  pub frame : is_frame size ≡ true
  pub more : index < pieces size
  pub long : length bytes ≡ header_size + 64 * index

pub takes_of : (pages size index : ℕ) (bytes : List ℕ)
    → is_work work.Answer pages (at_stage (stage.Take size index) bytes) ≡ true → Takes size index bytes
takes_of pages size index bytes is =
    let p1 = and_parts _ (length bytes == header_size + 64 * index) is in
    let p0 = and_parts (is_frame size) (nat_lt index (pieces size)) p1.0 in
    record { frame = p0.0; more = ltb-true _ _ p0.1; long = eqb-true _ _ p1.1 }

pub test_of_takes : (pages size index : ℕ) (bytes : List ℕ) → Takes size index bytes
    → is_work work.Answer pages (at_stage (stage.Take size index) bytes) ≡ true
test_of_takes pages size index bytes is =
    and_from _ _ (and_from _ _ is.frame (lt-ltb _ _ is.more)) (eq-eqb _ _ is.long)

-- so many bytes are left to do, at parts inside RAM
pub record Has (pages n : ℕ) (parts : List Part) : Type 0 where
  pub some : 0 < n
  pub inside : AreInside pages parts
  pub few : length parts ≤ 256

abbrev pub has : ℕ → ℕ → List Part → Bool
has pages n parts = nat_lt 0 n && are_inside pages parts && nat_le (length parts) 256

pub has_of : (pages n : ℕ) (parts : List Part) → has pages n parts ≡ true → Has pages n parts
has_of pages n parts is =
    let p1 = and_parts _ (nat_le (length parts) 256) is in
    let p0 = and_parts (nat_lt 0 n) (are_inside pages parts) p1.0 in
    record { some = ltb-true _ _ p0.0; inside = inside_of pages parts p0.1; few = leb-true _ _ p1.1 }

pub test_of_has : (pages n : ℕ) (parts : List Part) → Has pages n parts → has pages n parts ≡ true
test_of_has pages n parts is =
    and_from _ _ (and_from _ _ (lt-ltb _ _ is.some) (are_of pages parts is.inside)) (le-leb _ _ is.few)

-- and no frame is on its way
pub has_clear : (pages n : ℕ) (parts : List Part) (bytes : List ℕ) → (has pages n parts && is_clear bytes) ≡ true → Has pages n parts
has_clear pages n parts bytes is = has_of pages n parts (and_parts _ (is_clear bytes) is).0

pub no_take : (pages : ℕ) (k : Which) (s : Stage) (bytes : List ℕ) → is_work (work.Take k) pages (at_stage s bytes) ≡ true → ⊥
no_take pages k stage.Rest bytes is = cc
no_take pages k (stage.Take size index) bytes is = cc
no_take pages k (stage.Receive at to) bytes is = cc
no_take pages k (stage.Read skip from) bytes is = cc
no_take pages k (stage.Send piece skip from) bytes is = cc
no_take pages k stage.End bytes is = cc

pub no_third : (pages : ℕ) (s : Stage) (bytes : List ℕ) → is_work (work.Serve Third) pages (at_stage s bytes) ≡ true → ⊥
no_third pages stage.Rest bytes is = cc
no_third pages (stage.Take size index) bytes is = cc
no_third pages (stage.Receive at to) bytes is = cc
no_third pages (stage.Read skip from) bytes is = cc
no_third pages (stage.Send piece skip from) bytes is = cc
no_third pages stage.End bytes is = cc

-- ---- what is left keeps to its own

takes_asked : (left size index : ℕ) (bytes : List ℕ) → 0 < left
    → asked (taking left size index bytes) ≡ Some (Out (LinkPart index (piece_length size index)))
takes_asked zero size index bytes some = absurd (omega (arith, some))
takes_asked (suc left) size index bytes some = refl

sends_asked : (piece : List ℕ) (rest : Doing (Unit {0})) → 0 < length piece
    → asked (piece_sent piece rest) ≡ Some (Out (LinkSend piece))
sends_asked [] rest some = absurd (omega (arith, some))
sends_asked (b ∷ bytes) rest some = refl

module _ (port pages : ℕ) where
  abbrev pub AnswerStays : AtWork → Type 0
  AnswerStays g =
      IsDeviceAct false is_link_call port pages (hand_of g).op
      × ((e : Net) (reply : Reply) → Fits (hand_of g).op reply
      → ActingKeeps (IsDeviceAct false is_link_call port pages) Any ((hand_of g).answering e reply))

  take_stays : (size index : ℕ) (bytes : List ℕ) → Takes size index bytes
      → AnswerStays (at_stage (stage.Take size index) bytes)
  take_stays size index bytes v =
      let left : ℕ = pieces size - index in
      let on = led_keeps (IsDeviceAct false is_link_call port pages) (Any {A = Option (List ℕ)})
      (taking left size index bytes) _ (takes_asked left size index bytes (omega (arith, v.more)))
      (taking_keeps port pages left size index bytes) in (
        on.0,
        λ e reply fit. performing_keeps (IsDeviceAct false is_link_call port pages) (Any {A = Option (List ℕ)}) Any
            (led (taking left size index bytes) reply) e received (on.1 reply fit) (λ f text any. came port pages f text),
      )

  pub answering_stays : (s : Stage) (bytes : List ℕ) → is_work work.Answer pages (at_stage s bytes) ≡ true
      → AnswerStays (at_stage s bytes)
  answering_stays stage.Rest bytes is = absurd (cc)
  answering_stays (stage.Take size index) bytes is = take_stays size index bytes (takes_of pages size index bytes is)
  answering_stays (stage.Receive at to) bytes is = absurd (cc)
  answering_stays (stage.Read skip from) bytes is = absurd (cc)
  answering_stays (stage.Send piece skip from) bytes is = absurd (cc)
  answering_stays stage.End bytes is = absurd (cc)

  abbrev pub ServiceStays : AtWork → Type 0
  ServiceStays g =
      IsDeviceAct false is_link_call port pages (hand_of g).op
      × ((e : Net) (reply : Reply) → Fits (hand_of g).op reply
      → ActingKeeps (IsDeviceAct false is_link_call port pages) Any ((hand_of g).serving e reply))

  receive_stays : (at : ℕ) (to : List Part) (bytes : List ℕ) → Has pages (share (drop at bytes) to) to
      → ServiceStays (at_stage (stage.Receive at to) bytes)
  receive_stays at to bytes v =
      let keeps = keeps_both (λ op. pages < 2 ^ 32 → IsInside pages op) (IsAskedBy false is_link_call port)
      (λ (left : List Part). pages < 2 ^ 32 → AreInside pages left) (Any {A = List Part}) (put_all (drop at bytes) to)
      (keeps_when (pages < 2 ^ 32) (IsInside pages) (λ (left : List Part). AreInside pages left) (put_all (drop at bytes) to)
      (λ few. put_all_keeps pages (drop at bytes) to few v.inside))
      (put_all_asks (IsAskedBy false is_link_call port) (writes port pages) (drop at bytes) to) in
      let on = led_keeps (IsDeviceAct false is_link_call port pages)
      (λ (left : List Part). (pages < 2 ^ 32 → AreInside pages left) × Any left) (put_all (drop at bytes) to) _
      (put_asks (drop at bytes) to v.some) keeps in (
        on.0,
        λ e reply fit. performing_keeps (IsDeviceAct false is_link_call port pages)
            (λ (left : List Part). (pages < 2 ^ 32 → AreInside pages left) × Any left) Any
            (led (put_all (drop at bytes) to) reply) e _ (on.1 reply fit) (λ f left held. tt),
      )

  read_stays : (skip : ℕ) (from : List Part) (bytes : List ℕ) → Has pages (room from) from
      → ServiceStays (at_stage (stage.Read skip from) bytes)
  read_stays skip from bytes v =
      let on = led_keeps (IsDeviceAct false is_link_call port pages) (Any {A = Unit {0}}) (sending_all skip from) _
      (ap asked (sent_more skip from v.some)) (sending_keeps port pages (suc (total from)) skip from (λ few. v.inside)) in (
        on.0,
        λ e reply fit. performing_keeps (IsDeviceAct false is_link_call port pages) (Any {A = Unit {0}}) Any
            (led (sending_all skip from) reply) e _ (on.1 reply fit) (λ f done any. tt),
      )

  send_stays : (piece : List ℕ) (skip : ℕ) (from : List Part) (bytes : List ℕ)
      → Has pages (length piece) from → ServiceStays (at_stage (stage.Send piece skip from) bytes)
  send_stays piece skip from bytes v =
      let on = led_keeps (IsDeviceAct false is_link_call port pages) (Any {A = Unit {0}})
      (piece_sent piece (sending_all skip from)) _ (sends_asked piece (sending_all skip from) v.some)
      (piece_keeps port pages piece (sending_all skip from)
      (sending_keeps port pages (suc (total from)) skip from (λ few. v.inside))) in (
        on.0,
        λ e reply fit. performing_keeps (IsDeviceAct false is_link_call port pages) (Any {A = Unit {0}}) Any
            (led (piece_sent piece (sending_all skip from)) reply) e _ (on.1 reply fit) (λ f done any. tt),
      )

  pub serving_stays : (k : Which) (s : Stage) (bytes : List ℕ)
      → is_work (work.Serve k) pages (at_stage s bytes) ≡ true → ServiceStays (at_stage s bytes)
  serving_stays First stage.Rest bytes is = absurd (cc)
  serving_stays First (stage.Take size index) bytes is = absurd (cc)
  serving_stays First (stage.Receive at to) bytes is =
      receive_stays at to bytes (has_of pages (share (drop at bytes) to) to is)
  serving_stays First (stage.Read skip from) bytes is = absurd (cc)
  serving_stays First (stage.Send piece skip from) bytes is = absurd (cc)
  serving_stays First stage.End bytes is = absurd (cc)
  serving_stays Second stage.Rest bytes is = absurd (cc)
  serving_stays Second (stage.Take size index) bytes is = absurd (cc)
  serving_stays Second (stage.Receive at to) bytes is = absurd (cc)
  serving_stays Second (stage.Read skip from) bytes is =
      read_stays skip from bytes (has_clear pages (room from) from bytes is)
  serving_stays Second (stage.Send piece skip from) bytes is =
      send_stays piece skip from bytes (has_clear pages (length piece) from bytes is)
  serving_stays Second stage.End bytes is = ((λ few. tt, inr (refl, refl)), λ e reply fit. tt)
  serving_stays Third s bytes is = absurd (no_third pages s bytes is)
