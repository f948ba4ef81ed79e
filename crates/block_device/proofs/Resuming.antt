-- What a block device owes of what is kept of it.
use Rattle.std.proofs.Common.{◌≡◌, ℕ, ◌-◌, ◌^◌, ◌<◌, ◌≤◌, ◌==◌, ◌||◌, nat_lt, refl, sym, ap, subst, inl, inr, Bool, true, false, if◌then◌else◌, Option, Some, IfSome, option_map, List, [], length, arith}
use Rattle.std.specs.List.{All}
use Rattle.std.proofs.lemmas.List.Elements.{All-append, All-nil}
use Rattle.std.proofs.lemmas.Bool.{lt-ltb, ltb-true, or_parts}
use Rattle.vm_types.specs.declared.reply.Reply.{Reply}
use Rattle.vm_types.specs.Fits.{Fits}
use Rattle.device_trace.specs.Acts.{is_disk_call}
use Rattle.device_trace.specs.Doing.{Doing, led}
use Rattle.device_trace.specs.Traces.{setting}
use Rattle.le_fields.specs.Fields.{IsByte, field_at}
use Rattle.vq_split.specs.declared.queue.Part.{Part}
use Rattle.vq_split.specs.Chain.{is_inside}
use Rattle.vq_split.specs.Inside.{AreInside}
use Rattle.dev_core.specs.declared.collect.Collect.{Collect}
use Rattle.dev_core.specs.Collecting.{collect_left, nothing}
use Rattle.dev_core.specs.Inside.{Any}
use Rattle.dev_core.specs.Pieces.{Got, collect_all, last_byte, readable, room, writable}
use Rattle.dev_core.proofs.Fuel.{collect_done}
use Rattle.dev_core.proofs.Inside.{filter_inside, status_place}
use Rattle.rate_gate.specs.Gate.{Buckets, gate_passes}
use Rattle.queue_device.specs.declared.lanes.Which.{Which}
use Rattle.queue_device.specs.declared.phase.Work.{Work}
use Rattle.queue_device.specs.declared.phase.Work.TheVariants as work
use Rattle.queue_device.specs.Acting.{Acting, ActingKeeps, Comes, performing}
use Rattle.queue_device.specs.Chains.{Chain, Taken}
use Rattle.queue_device.specs.Confined.{IsChain, IsDeviceAct}
use Rattle.queue_device.specs.Left.{Hand}
use Rattle.queue_device.specs.Resuming.{Goes, IsShortChain, IsShortTaken, Resumes, answering_of, serving_of, taking_of}
use Rattle.queue_device.specs.Sizes.{IsLength, IsReplyTo}
use Rattle.queue_device.proofs.Acting.{led_keeps, performing_acts, performing_keeps}
use Rattle.queue_device.proofs.Never.{never}
use Rattle.queue_device.proofs.PieceActs.{collect_acts}
use Rattle.queue_device.proofs.Pieces.{collect_asks, collect_next, filter_few, more_of, read_small, total_most}
use Rattle.block_device.specs.declared.data.BlockData.{BlockData}
use Rattle.block_device.specs.declared.work.BlockStage.{BlockStage}
use Rattle.block_device.specs.declared.work.BlockStage.TheVariants as at
use Rattle.block_device.specs.Block.{block, changed, data_in, data_out, headed, is_short, need_of, request_of, served, taken}
use Rattle.block_device.specs.Kept.{is_work}
use Rattle.block_device.specs.Service.{kind_out, service}
use Rattle.block_device.specs.Serving.{serving_left}
use Rattle.rate_gate.specs.Small.{AreSmallLimits}
use Rattle.block_device.specs.Working.{IsFine, IsSizedData, IsSmallWork, SizedWork, Working, hand_of, sized_hand}
use Rattle.block_device.proofs.Asking.{serving_acts}
use Rattle.block_device.proofs.GoesOnBegin.{service_on}
use Rattle.block_device.proofs.GoesOnServe.{Serves, ServesOn, serves_on}
use Rattle.block_device.proofs.Kept.{ArePart, test_of_work, work_of}
use Rattle.rate_gate.proofs.SmallLimits.{limits_pass}
use Rattle.block_device.proofs.Owes.{Taking, none_not, some_parts}
use Rattle.block_device.proofs.Wanting.{serving_asks}

abbrev works : (sized : Bool) → Work → ℕ → SizedWork sized → Bool
works sized w n g = is_work w n g.work

abbrev kept : BlockStage → Collect → List Part → Working
kept stage from to = record { stage = stage; from = from; to = to }

-- ---- what is left keeps to its own

module _ (port pages : ℕ) (k : Which) where
  taking_by : (stage : BlockStage) (from : Collect) (to : List Part) → is_work (work.Take k) pages (kept stage from to) ≡ true
      → IsDeviceAct false is_disk_call port pages (hand_of (kept stage from to)).op
      × ((e : BlockData) (reply : Reply) → Fits (hand_of (kept stage from to)).op reply
      → ActingKeeps (IsDeviceAct false is_disk_call port pages) (Taking pages k)
      ((hand_of (kept stage from to)).taking e reply))
  taking_by at.Rest from to is = absurd (cc)
  taking_by (at.Serve status s) from to is = absurd (cc)
  taking_by at.Header from to is =
      let v = work_of (work.Take k) pages (kept at.Header from to) is in
      let on = led_keeps (IsDeviceAct false is_disk_call port pages) (λ (got : Got). pages < 2 ^ 32 → AreInside pages got.parts)
      (collect_left 16 from) _ (collect_asks 16 from v.is.0 v.is.1)
      (collect_acts is_disk_call port pages (16 - length from.held) from.held from.from (λ few. v.from.0)) in (
        on.0,
        λ e reply fit. performing_keeps (IsDeviceAct false is_disk_call port pages)
            (λ (got : Got). pages < 2 ^ 32 → AreInside pages got.parts) (Taking pages k)
            (led (collect_left 16 from) reply) e _ (on.1 reply fit)
            (λ f got held few. (v.to.0, held few, lt-ltb 0 (length to) v.is.2)),
      )

  serving_by : (stage : BlockStage) (from : Collect) (to : List Part)
      → is_work (work.Serve k) pages (kept stage from to) ≡ true
      → IsDeviceAct false is_disk_call port pages (hand_of (kept stage from to)).op
      × ((e : BlockData) (reply : Reply) → Fits (hand_of (kept stage from to)).op reply
      → ActingKeeps (IsDeviceAct false is_disk_call port pages) Any ((hand_of (kept stage from to)).serving e reply))
  serving_by at.Rest from to is = absurd (cc)
  serving_by at.Header from to is = absurd (cc)
  serving_by (at.Serve status s) from to is =
      let v = work_of (work.Serve k) pages (kept (at.Serve status s) from to) is in
      let on = led_keeps (IsDeviceAct false is_disk_call port pages) (Any {A = ℕ}) (serving_left s from to status) _
      (serving_asks s from to status v.is)
      (serving_acts port pages s from to status (λ few. v.from.0) (λ few. v.to.0) (λ few. v.place)) in (
        on.0,
        λ e reply fit. performing_keeps (IsDeviceAct false is_disk_call port pages) (Any {A = ℕ}) Any
            (led (serving_left s from to status) reply) e _ (on.1 reply fit) (λ f used held. tt),
      )

-- ---- what is kept behind an act

module _ (sized : Bool) (pages : ℕ) (k : Which) where
  abbrev AreBytes : List ℕ → Type 0
  AreBytes bytes = sized ≡ true → All IsByte bytes

  abbrev Takes : Acting BlockData (Option Taken) → Type 0
  Takes t =
      Goes block (sized_hand sized) (works sized) (IsSizedData sized) sized taking_of (work.Take k) pages (IsShortTaken block sized pages k) t

  abbrev Answers : Acting BlockData (Option ℕ) → Type 0
  Answers t = Goes block (sized_hand sized) (works sized) (IsSizedData sized) sized serving_of (work.Serve k) pages (IsLength sized) t

  abbrev reading : Doing Got → List Part → BlockData → Acting BlockData (Option Taken)
  reading t to e = performing t e (λ f got. Comes f (Some (headed to got)))

  abbrev answering : Doing ℕ → BlockData → Acting BlockData (Option ℕ)
  answering t e = performing t e (λ f used. Comes f (Some used))

  read_by : (test : Bool) (from : Collect) (to : List Part) (e : BlockData)
      → ((16 - length from.held == 0) || (room from.from == 0)) ≡ test → IsSizedData sized e → ArePart pages from.from
      → ArePart pages to → nat_lt 0 (length to) ≡ true → length from.held ≤ 128 → AreBytes from.held
      → Takes (reading (collect_left 16 from) to e)
  read_by true from to e is fine reads writes some most bytes =
      inr (record {
        own = e;
        result = Some (headed to (record { bytes = from.held; parts = from.from }));
        fine = fine;
        is = ((writes.0, reads.0, some), (writes.1, reads.1, most, bytes));
        left = ap (λ (t : Doing Got). reading t to e) (collect_done (16 - length from.held) from.held from.from is);
      })
  read_by false from to e is fine reads writes some most bytes =
      let more = more_of 16 (length from.held) (room from.from) is in
      inl (record {
        own = e;
        stage = record { work = kept at.Header from to; small = λ yes. record { held = (most, bytes yes); stage = tt } };
        fine = fine;
        is =
            test_of_work (work.Take k) pages (kept at.Header from to)
            (record {
              of = refl;
              is = (more.0, more.1, ltb-true 0 (length to) some);
              place = refl;
              from = reads;
              to = writes;
            });
        left = performing_acts (collect_left 16 from) e _ _ (collect_asks 16 from more.0 more.1);
      })

  read_on : (from : Collect) (to : List Part) (e : BlockData) → IsSizedData sized e → ArePart pages from.from → ArePart pages to
      → nat_lt 0 (length to) ≡ true → length from.held ≤ 128 → AreBytes from.held → Takes (reading (collect_left 16 from) to e)
  read_on from to e fine reads writes some most bytes =
      read_by ((16 - length from.held == 0) || (room from.from == 0)) from to e refl fine reads writes some most bytes

  taken_by : (test : Bool) (parts : List Part) (e : BlockData)
      → (is_short parts) ≡ test → IsSizedData sized e → AreInside pages parts
      → length parts ≤ 256
      → Takes (if test then Comes e Option.None else reading (collect_all 16 [] (readable parts)) (writable parts) e)
  taken_by true parts e is fine inside few =
      inr (record { own = e; result = Option.None; fine = fine; is = (tt, tt); left = refl })
  taken_by false parts e is fine inside few =
      let reads : length (readable parts) ≤ length parts = filter_few _ parts in
      let writes : length (writable parts) ≤ length parts = filter_few _ parts in
      read_on (record { from = readable parts; held = [] }) (writable parts) e fine
      (filter_inside pages _ parts inside, omega (arith, reads, few))
      (filter_inside pages _ parts inside, omega (arith, writes, few))
      (some_parts (length (writable parts)) (or_parts _ _ is).1) (omega arith) (λ yes. All-nil IsByte)

  take : (parts : List Part) (e : BlockData) → IsSizedData sized e → AreInside pages parts → length parts ≤ 256
      → Takes (taken parts e)
  unfolding taken
  take parts e fine inside few =
      taken_by (is_short parts) parts e refl fine inside few

  taking : (stage : BlockStage) (from : Collect) (to : List Part) (e : BlockData) (reply : Reply) → pages < 2 ^ 32
      → IsSizedData sized e → is_work (work.Take k) pages (kept stage from to) ≡ true → AreBytes from.held
      → IsReplyTo sized (hand_of (kept stage from to)).op reply → Takes ((hand_of (kept stage from to)).taking e reply)
  taking at.Rest from to e reply small fine is bytes fit = absurd (cc)
  taking (at.Serve status s) from to e reply small fine is bytes fit = absurd (cc)
  taking at.Header from to e reply small fine is bytes fit =
      let v = work_of (work.Take k) pages (kept at.Header from to) is in
      let next = collect_next 16 pages from reply small v.is.0 v.is.1 v.from.0 v.from.1 fit.0 in
      subst (λ (t : Doing Got). Takes (reading t to e)) next.left
      (read_on next.now to e fine (next.inside, next.few) v.to (lt-ltb 0 (length to) v.is.2) (omega (arith, next.most))
      (λ yes. subst (All IsByte) (sym next.held_is)
      (All-append IsByte from.held _ (bytes yes) (read_small (room from.from) reply (fit.1 yes)))))

  serves : (at_place : ℕ) (t : Doing ℕ) (e : BlockData) → IsSizedData sized e → is_inside pages at_place 1 ≡ true
      → Serves sized pages at_place t → Answers (answering t e)
  serves place t e fine inside s =
      let w : Working = kept (at.Serve place s.stage) s.from s.to in
      subst (λ (u : Doing ℕ). Answers (answering u e)) s.left
      (inl (record {
        own = e;
        stage = record { work = w; small = λ yes. record { held = s.bytes yes; stage = s.narrow yes } };
        fine = fine;
        is =
            test_of_work (work.Serve k) pages w
            (record {
              of = refl;
              is = s.is;
              place = inside;
              from = (s.placed.0, s.fewer);
              to = (s.placed.1, s.few);
            });
        left =
            performing_acts (serving_left s.stage s.from s.to place) e _ _ (serving_asks s.stage s.from s.to place s.is);
      }))

  serves_end : (place : ℕ) (t : Doing ℕ) (e : BlockData) → IsSizedData sized e → is_inside pages place 1 ≡ true
      → ServesOn sized pages place t → Answers (answering t e)
  serves_end place t e fine inside (inl s) = serves place t e fine inside s
  serves_end place t e fine inside (inr h) =
      subst (λ (u : Doing ℕ). Answers (answering u e)) (sym h.1)
      (inr (record { own = e; result = Some h.0; fine = fine; is = h.2; left = refl }))

  module _ (small : pages ≤ 2 ^ 20) where
    served_by : (test : Bool) (t : Taken) (e : BlockData) → nat_lt (length t.got.bytes) 16 ≡ test → IsSizedData sized e
        → ArePart pages t.parts → ArePart pages t.got.parts → length t.got.bytes ≤ 128 → AreBytes t.got.bytes
        → nat_lt 0 (length t.parts) ≡ true → Answers (if test then Comes e Option.None else answering (service (request_of t e)) e)
    served_by true t e is fine writes reads short bytes some =
        inr (record { own = e; result = Option.None; fine = fine; is = tt; left = refl })
    served_by false t e is fine writes reads short bytes some =
        let put = total_most pages t.parts small writes.0 in
        let got = total_most pages t.got.parts small reads.0 in
        serves (last_byte 0 t.parts) (service (request_of t e)) e fine
        (status_place pages t.parts (omega (arith, small)) writes.0 (none_not (length t.parts) some))
        (service_on sized pages (request_of t e) fine.0 (omega (arith, put, writes.1)) (omega (arith, got, reads.1, short)) writes.0
        writes.1 reads (λ yes. (short, bytes yes))
        (λ yes. let long = (fine.1 yes).0 in (omega (arith, long), (fine.1 yes).1)))

    serve : (t : Taken) (e : BlockData) → IsSizedData sized e → ArePart pages t.parts → ArePart pages t.got.parts
        → length t.got.bytes ≤ 128 → AreBytes t.got.bytes → nat_lt 0 (length t.parts) ≡ true → Answers (served t e)
    unfolding served
    serve t e fine writes reads short bytes some =
        served_by (nat_lt (length t.got.bytes) 16) t e refl fine writes reads short bytes some

  serving : (stage : BlockStage) (from : Collect) (to : List Part) (e : BlockData) (reply : Reply) → pages < 2 ^ 32
      → IsSizedData sized e → is_work (work.Serve k) pages (kept stage from to) ≡ true
      → (sized ≡ true → IsSmallWork (kept stage from to)) → IsReplyTo sized (hand_of (kept stage from to)).op reply → Answers ((hand_of (kept stage from to)).serving e reply)
  serving at.Rest from to e reply small fine is own fit = absurd (cc)
  serving at.Header from to e reply small fine is own fit = absurd (cc)
  serving (at.Serve status s) from to e reply small fine is own fit =
      let v = work_of (work.Serve k) pages (kept (at.Serve status s) from to) is in
      serves_end status (led (serving_left s from to status) reply) e fine v.place
      (serves_on sized pages status s from to reply small v.is v.from v.to (λ yes. (own yes).held) (λ yes. (own yes).stage) fit)

no_answer : (pages : ℕ) (g : Working) → is_work work.Answer pages g ≡ true → ⊥
no_answer pages g is =
    let v = work_of work.Answer pages g is in
    let wrong : false ≡ true = v.of in cc

-- behind a need that passes the buckets are small where those before it were
passed : (sized : Bool) (e f : BlockData) (o : Option Buckets) → (sized ≡ true → IfSome o AreSmallLimits)
    → option_map (λ (limits : Buckets). record e { limits = limits }) o ≡ Some f → IsSizedData sized e → IsSizedData sized f
passed sized e f Option.None small is fine = absurd (cc)
passed sized e f (Some limits) small is fine =
    subst (IsSizedData sized) (let same : (record e { limits = limits }) ≡ f = cc in same)
    (fine.0, λ yes. ((fine.1 yes).0, (fine.1 yes).1, small yes))

-- a chain needs less than 2^64 bytes
need_few : (sized : Bool) (pages : ℕ) (k : Which) (c : Chain) → pages ≤ 2 ^ 20 → IsChain block pages k c → IsShortChain sized (Some c)
    → need_of (headed c.parts c.got) < 2 ^ 64
need_few sized pages k c few chain short =
    let put = total_most pages c.parts few chain.parts in
    let got = total_most pages c.got.parts few chain.got in
    let t : Taken = headed c.parts c.got in
    need_by (nat_lt (length c.got.bytes) 16) (field_at c.got.bytes 0 4 == kind_out) (data_out t) (data_in t)
    (omega (arith, got, short.1, short.2)) (omega (arith, put, short.0))
  where
    need_by : (none out : Bool) (put get : ℕ) → put < 2 ^ 64 → get < 2 ^ 64
        → (if none then 0 else if out then put else get) < 2 ^ 64
    need_by true out put get first second = omega arith
    need_by false true put get first second = first
    need_by false false put get first second = second

pub resumes_sized : (sized : Bool)
    → Resumes block (sized_hand sized) (works sized) (IsSizedData sized) sized (setting changed) true is_disk_call
resumes_sized sized = record {
  rest = record { work = kept at.Rest nothing []; small = λ yes. record { held = (omega arith, All-nil IsByte); stage = tt } };
  rests = λ pages. refl;
  answering_stays = λ port pages g is. absurd (no_answer pages g.work is);
  taking_stays = λ port pages k g is. taking_by port pages k g.work.stage g.work.from g.work.to is;
  serving_stays = λ port pages k g is. serving_by port pages k g.work.stage g.work.from g.work.to is;
  answer = λ pages before e reply small fine fit.
      inr (record { own = e; result = false; fine = fine; is = tt; left = refl });
  answering = λ pages g e reply small fine is fit. absurd (no_answer pages g.work is);
  take = λ pages k parts e small fine inside few. take sized pages k parts e fine inside few;
  taking = λ pages k g e reply small fine is fit.
      taking sized pages k g.work.stage g.work.from g.work.to e reply (omega (arith, small)) fine is (λ yes. (g.small yes).held.1) fit;
  serve = λ pages k c e small fine chain short.
      serve sized pages k small (headed c.parts c.got) e fine (chain.parts, short.0) (chain.got, short.1) short.2
      (λ yes. (short.3 yes).1) chain.taken;
  serving = λ pages k g e reply small fine is fit.
      serving sized pages k g.work.stage g.work.from g.work.to e reply (omega (arith, small)) fine is g.small fit;
  begun = λ k e fine. fine;
  passes = λ pages k c now e f small early fine chain short is.
      passed sized e f (gate_passes e.limits (need_of (headed c.parts c.got)) now)
      (λ yes. limits_pass e.limits (need_of (headed c.parts c.got)) now (need_few sized pages k c small chain short) (early yes) (fine.1 yes).2)
      is fine;
  over = λ k e fine. fine;
  reset = λ e fine. fine;
  cut = λ c e op reply is. absurd (cc);
}

-- where replies needn't be small, by the stage alone
abbrev plain : Working → SizedWork false
plain w = record { work = w; small = never }

module _ {A : Type 0} (lead : Hand BlockData → BlockData → Reply → Acting BlockData A) (at_work : Work) (pages : ℕ) (Q : A → Type 0) where
  plainly : (t : Acting BlockData A)
      → Goes block (sized_hand false) (works false) (IsSizedData false) false lead at_work pages Q t
      → Goes block hand_of is_work IsFine false lead at_work pages Q t
  plainly t (inl g) =
      inl (record { own = g.own; stage = g.stage.work; fine = g.fine.0; is = g.is; left = g.left })
  plainly t (inr h) = inr (record { own = h.own; result = h.result; fine = h.fine.0; is = h.is; left = h.left })

pub resumes : Resumes block hand_of is_work IsFine false (setting changed) true is_disk_call
resumes =
    let own = resumes_sized false in
    record {
      rest = own.rest.work;
      rests = own.rests;
      answering_stays = λ port pages g is. own.answering_stays port pages (plain g) is;
      taking_stays = λ port pages k g is. own.taking_stays port pages k (plain g) is;
      serving_stays = λ port pages k g is. own.serving_stays port pages k (plain g) is;
      answer = λ pages before e reply small fine fit.
          plainly answering_of work.Answer pages Any _ (own.answer pages before e reply small (fine, never) fit);
      answering = λ pages g e reply small fine is fit.
          plainly answering_of work.Answer pages Any _ (own.answering pages (plain g) e reply small (fine, never) is fit);
      take = λ pages k parts e small fine inside few.
          plainly taking_of (work.Take k) pages (IsShortTaken block false pages k) _
          (own.take pages k parts e small (fine, never) inside few);
      taking = λ pages k g e reply small fine is fit.
          plainly taking_of (work.Take k) pages (IsShortTaken block false pages k) _
          (own.taking pages k (plain g) e reply small (fine, never) is fit);
      serve = λ pages k c e small fine chain short.
          plainly serving_of (work.Serve k) pages (IsLength false) _ (own.serve pages k c e small (fine, never) chain short);
      serving = λ pages k g e reply small fine is fit.
          plainly serving_of (work.Serve k) pages (IsLength false) _
          (own.serving pages k (plain g) e reply small (fine, never) is fit);
      begun = λ k e fine. fine;
      passes = λ pages k c now e f small early fine chain short is.
          (own.passes pages k c now e f small early (fine, never) chain short is).0;
      over = λ k e fine. fine;
      reset = λ e fine. fine;
      cut = λ c e op reply is. never;
    }
