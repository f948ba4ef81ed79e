-- What a filler owes of what is kept of it.
use Rattle.std.proofs.Common.{◌≡◌, ℕ, ◌-◌, ◌^◌, ◌<◌, ◌≤◌, ◌==◌, ◌||◌, nat_le, nat_lt, refl, ap, subst, inl, inr, Bool, true, false, if◌then◌else◌, Option, Some, List, [], length, replicate, arith}
use Rattle.std.proofs.lemmas.Bool.{and_from, and_parts, le-leb, leb-true, lt-ltb, ltb-true}
use Rattle.vm_types.specs.declared.reply.Reply.{Reply}
use Rattle.vm_types.specs.Fits.{Fits}
use Rattle.device_trace.specs.Acts.{IsAskedBy}
use Rattle.device_trace.specs.Doing.{Doing, led}
use Rattle.device_trace.specs.Traces.{setting}
use Rattle.device_trace.proofs.Keeping.{keeps_both}
use Rattle.vq_split.specs.declared.queue.Part.{Part}
use Rattle.vq_split.specs.Inside.{AreInside, IsInside}
use Rattle.vq_split.specs.Kept.{are_inside}
use Rattle.vq_split.proofs.Kept.{are_of, inside_of}
use Rattle.dev_core.specs.declared.collect.Collect.{Collect}
use Rattle.dev_core.specs.Collecting.{collect_left}
use Rattle.dev_core.specs.Inside.{Any}
use Rattle.dev_core.specs.Pieces.{Got, collect_all, put_all, readable, room, share, total, writable}
use Rattle.dev_core.proofs.Asking.{collect_all_asks, put_all_asks}
use Rattle.dev_core.proofs.Fuel.{collect_done, put_done, some_of}
use Rattle.dev_core.proofs.Inside.{collect_all_keeps, filter_inside, put_all_keeps}
use Rattle.queue_device.specs.declared.lanes.Which.{Which}
use Rattle.queue_device.specs.declared.lanes.Which.TheVariants.{First, Second, Third}
use Rattle.queue_device.specs.declared.phase.Work.TheVariants as work
use Rattle.queue_device.specs.declared.spill.Spill.{Spill}
use Rattle.queue_device.specs.Acting.{Acting, ActingKeeps, Comes, performing}
use Rattle.queue_device.specs.Chains.{Chain, Taken}
use Rattle.queue_device.specs.Confined.{IsChain, IsDeviceAct}
use Rattle.queue_device.specs.Resuming.{Goes, IsShortChain, IsShortTaken, Resumes, serving_of, taking_of}
use Rattle.queue_device.specs.Sizes.{IsLength}
use Rattle.queue_device.specs.Spilling.{spill_left}
use Rattle.queue_device.proofs.Acting.{keeps_when, led_keeps, performing_acts, performing_keeps}
use Rattle.queue_device.proofs.Never.{never}
use Rattle.queue_device.proofs.Pieces.{collect_asks, collect_next, filter_few, more_of, put_asks, put_next}
use Rattle.filler_device.specs.declared.kind.Stage.{Stage}
use Rattle.filler_device.specs.declared.kind.Stage.TheVariants as stage
use Rattle.filler_device.specs.Filler.{Filler, filled, filler, limited, no_bytes, no_call, only_read, served_by, taken_by}
use Rattle.filler_device.specs.Work.{AnyFiller, hand_of, is_work}
use Rattle.filler_device.proofs.Filler.{Taking, reads, writes}

-- ---- the tests

record Reads (pages : ℕ) (from : Collect) : Type 0 where
  short : length from.held < 1
  space : 0 < room from.from
  inside : AreInside pages from.from
  few : length from.from ≤ 256

reads_of : (pages : ℕ) (k : Which) (from : Collect) → is_work (work.Take k) pages (stage.Take from) ≡ true
    → Reads pages from
reads_of pages k from is =
    let p2 = and_parts _ (nat_le (length from.from) 256) is in
    let p1 = and_parts _ (are_inside pages from.from) p2.0 in
    let p0 = and_parts (nat_lt (length from.held) 1) (nat_lt 0 (room from.from)) p1.0 in
    record {
      short = ltb-true _ _ p0.0;
      space = ltb-true _ _ p0.1;
      inside = inside_of pages from.from p1.1;
      few = leb-true _ _ p2.1;
    }

test_of_reads : (pages : ℕ) (k : Which) (from : Collect) → Reads pages from
    → is_work (work.Take k) pages (stage.Take from) ≡ true
test_of_reads pages k from is =
    and_from _ _
    (and_from _ _ (and_from _ _ (lt-ltb _ _ is.short) (lt-ltb _ _ is.space)) (are_of pages from.from is.inside))
    (le-leb _ _ is.few)

record Fills (pages : ℕ) (held : List ℕ) (to : List Part) : Type 0 where
  some : 0 < share held to
  inside : AreInside pages to
  few : length to ≤ 256

fills_of : (pages : ℕ) (k : Which) (spill : Spill) (len : ℕ) → is_work (work.Serve k) pages (stage.Fill spill len) ≡ true
    → Fills pages spill.held spill.to
fills_of pages k spill len is =
    let p1 = and_parts _ (nat_le (length spill.to) 256) is in
    let p0 = and_parts (nat_lt 0 (share spill.held spill.to)) (are_inside pages spill.to) p1.0 in
    record { some = ltb-true _ _ p0.0; inside = inside_of pages spill.to p0.1; few = leb-true _ _ p1.1 }

test_of_fills : (pages : ℕ) (k : Which) (spill : Spill) (len : ℕ) → Fills pages spill.held spill.to
    → is_work (work.Serve k) pages (stage.Fill spill len) ≡ true
test_of_fills pages k spill len is =
    and_from _ _ (and_from _ _ (lt-ltb _ _ is.some) (are_of pages spill.to is.inside)) (le-leb _ _ is.few)

no_answer : (pages : ℕ) (g : Stage) → is_work work.Answer pages g ≡ true → ⊥
no_answer pages stage.Rest is = cc
no_answer pages (stage.Take from) is = cc
no_answer pages (stage.Fill spill len) is = cc

-- ---- what is left keeps to its own

taking_stays : (port pages : ℕ) (k : Which) (g : Stage) → is_work (work.Take k) pages g ≡ true
    → IsDeviceAct false no_call port pages (hand_of g).op
    × ((e : Filler) (reply : Reply) → Fits (hand_of g).op reply
    → ActingKeeps (IsDeviceAct false no_call port pages) (Taking pages k) ((hand_of g).taking e reply))
taking_stays port pages k stage.Rest is = absurd (cc)
taking_stays port pages k (stage.Fill spill len) is = absurd (cc)
taking_stays port pages k (stage.Take from) is =
    let v = reads_of pages k from is in
    let keeps = keeps_both (λ op. pages < 2 ^ 32 → IsInside pages op) (IsAskedBy false no_call port)
    (λ (got : Got). pages < 2 ^ 32 → AreInside pages got.parts) (Any {A = Got}) (collect_left 1 from)
    (keeps_when (pages < 2 ^ 32) (IsInside pages) (λ (got : Got). AreInside pages got.parts) (collect_left 1 from)
    (λ few. collect_all_keeps pages (1 - length from.held) from.held from.from few v.inside))
    (collect_all_asks (IsAskedBy false no_call port) (reads port) (1 - length from.held) from.held from.from) in
    let on = led_keeps (IsDeviceAct false no_call port pages) (λ (got : Got). (pages < 2 ^ 32 → AreInside pages got.parts) × Any got)
    (collect_left 1 from) _ (collect_asks 1 from v.short v.space) keeps in (
      on.0,
      λ e reply fit. performing_keeps (IsDeviceAct false no_call port pages)
          (λ (got : Got). (pages < 2 ^ 32 → AreInside pages got.parts) × Any got) (Taking pages k) (led (collect_left 1 from) reply) e
          _ (on.1 reply fit) (λ f got held few. (tt, held.0 few, refl)),
    )

serving_stays : (port pages : ℕ) (k : Which) (g : Stage) → is_work (work.Serve k) pages g ≡ true
    → IsDeviceAct false no_call port pages (hand_of g).op
    × ((e : Filler) (reply : Reply) → Fits (hand_of g).op reply
    → ActingKeeps (IsDeviceAct false no_call port pages) Any ((hand_of g).serving e reply))
serving_stays port pages k stage.Rest is = absurd (cc)
serving_stays port pages k (stage.Take from) is = absurd (cc)
serving_stays port pages k (stage.Fill spill len) is =
    let v = fills_of pages k spill len is in
    let keeps = keeps_both (λ op. pages < 2 ^ 32 → IsInside pages op) (IsAskedBy false no_call port)
    (λ (left : List Part). pages < 2 ^ 32 → AreInside pages left) (Any {A = List Part}) (spill_left spill)
    (keeps_when (pages < 2 ^ 32) (IsInside pages) (λ (left : List Part). AreInside pages left) (spill_left spill)
    (λ few. put_all_keeps pages spill.held spill.to few v.inside))
    (put_all_asks (IsAskedBy false no_call port) (writes port) spill.held spill.to) in
    let on = led_keeps (IsDeviceAct false no_call port pages) (λ (left : List Part). (pages < 2 ^ 32 → AreInside pages left) × Any left)
    (spill_left spill) _ (put_asks spill.held spill.to v.some) keeps in (
      on.0,
      λ e reply fit. performing_keeps (IsDeviceAct false no_call port pages)
          (λ (left : List Part). (pages < 2 ^ 32 → AreInside pages left) × Any left) Any (led (spill_left spill) reply) e _ (on.1 reply fit)
          (λ f left held. tt),
    )

-- ---- what is kept behind an act

module _ (pages : ℕ) (k : Which) where
  abbrev Takes : Acting Filler (Option Taken) → Type 0
  Takes t = Goes filler hand_of is_work AnyFiller false taking_of (work.Take k) pages (IsShortTaken filler false pages k) t

  abbrev Serves : Acting Filler (Option ℕ) → Type 0
  Serves t = Goes filler hand_of is_work AnyFiller false serving_of (work.Serve k) pages (IsLength false) t

  abbrev reading : Doing Got → Filler → Acting Filler (Option Taken)
  reading t e = performing t e (λ f got. Comes f (Some (only_read got)))

  abbrev filling : Doing (List Part) → ℕ → Filler → Acting Filler (Option ℕ)
  filling t len e = performing t e (λ f left. Comes f (Some len))

  read_by : (test : Bool) (from : Collect) (e : Filler)
      → ((1 - length from.held == 0) || (room from.from == 0)) ≡ test → AreInside pages from.from
      → length from.from ≤ 256 → length from.held ≤ 128 → Takes (reading (collect_left 1 from) e)
  read_by true from e is inside few most =
      inr (record {
        own = e;
        result = Some (only_read (record { bytes = from.held; parts = from.from }));
        fine = tt;
        is = ((tt, inside, refl), (omega arith, few, most, never));
        left =
            ap (λ (t : Doing Got). reading t e) (collect_done (1 - length from.held) from.held from.from is);
      })
  read_by false from e is inside few most =
      let more = more_of 1 (length from.held) (room from.from) is in
      inl (record {
        own = e;
        stage = stage.Take from;
        fine = tt;
        is = test_of_reads pages k from (record { short = more.0; space = more.1; inside = inside; few = few });
        left = performing_acts (collect_left 1 from) e _ _ (collect_asks 1 from more.0 more.1);
      })

  read_on : (from : Collect) (e : Filler) → AreInside pages from.from → length from.from ≤ 256
      → length from.held ≤ 128 → Takes (reading (collect_left 1 from) e)
  read_on from e inside few most =
      read_by ((1 - length from.held == 0) || (room from.from == 0)) from e refl inside few most

  byte_by : (test : Bool) (parts : List Part) (e : Filler) → AreInside pages parts → length parts ≤ 256
      → Takes (if test then Comes e Option.None else reading (collect_all 1 [] (readable parts)) e)
  byte_by true parts e inside few =
      inr (record { own = e; result = Option.None; fine = tt; is = (tt, tt); left = refl })
  byte_by false parts e inside few =
      let count : length (readable parts) ≤ length parts = filter_few _ parts in
      read_on (record { from = readable parts; held = [] }) e (filter_inside pages _ parts inside) (omega (arith, count, few))
      (omega arith)

  taking : (g : Stage) (e : Filler) (reply : Reply) → pages < 2 ^ 32 → is_work (work.Take k) pages g ≡ true
      → Fits (hand_of g).op reply → Takes ((hand_of g).taking e reply)
  taking stage.Rest e reply small is fit = absurd (cc)
  taking (stage.Fill spill len) e reply small is fit = absurd (cc)
  taking (stage.Take from) e reply small is fit =
      let v = reads_of pages k from is in
      let next = collect_next 1 pages from reply small v.short v.space v.inside v.few fit in
      subst (λ (t : Doing Got). Takes (reading t e)) next.left (read_on next.now e next.inside next.few (omega (arith, next.most)))

  fill_by : (test : Bool) (held : List ℕ) (to : List Part) (len : ℕ) (e : Filler) → (share held to == 0) ≡ test
      → AreInside pages to → length to ≤ 256 → Serves (filling (put_all held to) len e)
  fill_by true held to len e is inside few =
      inr (record {
        own = e;
        result = Some len;
        fine = tt;
        is = never;
        left = ap (λ (t : Doing (List Part)). filling t len e) (put_done held to is);
      })
  fill_by false held to len e is inside few =
      let some = some_of (share held to) is in
      inl (record {
        own = e;
        stage = stage.Fill (record { held = held; to = to }) len;
        fine = tt;
        is =
            test_of_fills pages k (record { held = held; to = to }) len
            (record { some = some; inside = inside; few = few });
        left = performing_acts (put_all held to) e _ _ (put_asks held to some);
      })

  fill_on : (held : List ℕ) (to : List Part) (len : ℕ) (e : Filler) → AreInside pages to → length to ≤ 256
      → Serves (filling (put_all held to) len e)
  fill_on held to len e inside few = fill_by (share held to == 0) held to len e refl inside few

  serving : (g : Stage) (e : Filler) (reply : Reply) → pages < 2 ^ 32 → is_work (work.Serve k) pages g ≡ true
      → Fits (hand_of g).op reply → Serves ((hand_of g).serving e reply)
  serving stage.Rest e reply small is fit = absurd (cc)
  serving (stage.Take from) e reply small is fit = absurd (cc)
  serving (stage.Fill spill len) e reply small is fit =
      let v = fills_of pages k spill len is in
      let next = put_next pages spill.held spill.to reply small v.some v.inside v.few in
      subst (λ (t : Doing (List Part)). Serves (filling t len e)) next.left
      (fill_on next.held next.to len e next.inside next.few)

take : (pages : ℕ) (k : Which) (parts : List Part) (e : Filler) → AreInside pages parts → length parts ≤ 256
    → Takes pages k (taken_by k parts e)
take pages First parts e inside few =
    inr (record {
      own = e;
      result = Some (record { parts = parts; got = no_bytes });
      fine = tt;
      is = ((inside, tt, refl), (few, omega arith, omega arith, never));
      left = refl;
    })
take pages Second parts e inside few = byte_by pages Second (total (readable parts) == 0) parts e inside few
take pages Third parts e inside few = byte_by pages Third (total (readable parts) == 0) parts e inside few

serve : (pages : ℕ) (k : Which) (c : Chain) (e : Filler) → IsChain filler pages k c → IsShortChain false (Some c)
    → Serves pages k (served_by k c e)
serve pages First c e chain short =
    let count : length (writable c.parts) ≤ length c.parts = filter_few _ c.parts in
    fill_on pages First (replicate (filled c) e.byte) (writable c.parts) (filled c) e
    (filter_inside pages _ c.parts chain.parts) (omega (arith, count, short.0))
serve pages Second c e chain short = inr (record { own = _; result = Some 0; fine = tt; is = never; left = refl })
serve pages Third c e chain short = inr (record { own = _; result = Some 0; fine = tt; is = never; left = refl })

pub resumes : Resumes filler hand_of is_work AnyFiller false (setting limited) true no_call
resumes = record {
  rest = stage.Rest;
  rests = λ pages. refl;
  answering_stays = λ port pages g is. absurd (no_answer pages g is);
  taking_stays = taking_stays;
  serving_stays = serving_stays;
  answer = λ pages before e reply small fine fit.
      inr (record { own = e; result = false; fine = tt; is = tt; left = refl });
  answering = λ pages g e reply small fine is fit. absurd (no_answer pages g is);
  take = λ pages k parts e small fine inside few. take pages k parts e inside few;
  taking = λ pages k g e reply small fine is fit. taking pages k g e reply (omega (arith, small)) is fit.0;
  serve = λ pages k c e small fine chain short. serve pages k c e chain short;
  serving = λ pages k g e reply small fine is fit. serving pages k g e reply (omega (arith, small)) is fit.0;
  begun = λ k e fine. tt;
  passes = λ pages k c now e f small early fine chain short is. tt;
  over = λ k e fine. tt;
  reset = λ e fine. tt;
  cut = λ c e op reply is. never;
}
