-- The work of a balloon is where it may be.
use Rattle.std.proofs.Common.{◌≡◌, ℕ, ◌+◌, ◌-◌, ◌^◌, ◌==◌, ◌<◌, ◌≤◌, refl, not, true, Some, List, [], ◌++◌, length, arith, ap, length-append, sym, subst}
use Rattle.std.proofs.lemmas.Bool.{and_from, and_parts, eqb-true}
use Rattle.vq_split.specs.declared.queue.Part.{Part}
use Rattle.vq_split.specs.Chain.{is_inside}
use Rattle.vq_split.specs.Kept.{are_inside, is_sound}
use Rattle.vq_split.proofs.Inside.{of_ram}
use Rattle.vq_split.proofs.Kept.{are_of, inside_of}
use Rattle.dev_core.specs.declared.collect.Collect.{Collect}
use Rattle.dev_core.specs.Pieces.{past, readable, room}
use Rattle.dev_core.proofs.Bytes as bytes
use Rattle.dev_core.proofs.Inside.{past_inside}
use Rattle.queue_device.specs.declared.lanes.Which.{Which}
use Rattle.queue_device.specs.declared.lanes.Which.TheVariants.{First, Second, Third}
use Rattle.queue_device.specs.declared.phase.Work.TheVariants as work
use Rattle.queue_device.specs.Chains.{Chain}
use Rattle.queue_device.specs.Confined.{is_chain}
use Rattle.queue_device.specs.Kept.{is_fit}
use Rattle.queue_device.proofs.Pieces.{filter_test}
use Rattle.balloon_device.specs.declared.kind.Stage.{Stage}
use Rattle.balloon_device.specs.declared.kind.Stage.TheVariants as stage
use Rattle.balloon_device.specs.declared.statistics.Statistics.{Statistics}
use Rattle.balloon_device.specs.Balloon.{balloon}
use Rattle.balloon_device.specs.Work.{is_work, is_zeroing}
use Rattle.balloon_device.proofs.Stages.{list_of, reads_of, test_of_list, test_of_reads, test_of_zeros, zeroes_of}

-- ---- no work but a chain's service

pub answer_rests : (pages : ℕ) (g : Stage) → is_work work.Answer pages g ≡ true → is_work work.Rest pages g ≡ true
answer_rests pages stage.Rest is = refl
answer_rests pages (stage.List list n) is = absurd (cc)
answer_rests pages (stage.Zeros list n left at) is = absurd (cc)
answer_rests pages (stage.Tags from s) is = absurd (cc)

pub take_rests : (pages : ℕ) (k : Which) (g : Stage) → is_work (work.Take k) pages g ≡ true → is_work work.Rest pages g ≡ true
take_rests pages k stage.Rest is = refl
take_rests pages k (stage.List list n) is = absurd (cc)
take_rests pages k (stage.Zeros list n left at) is = absurd (cc)
take_rests pages k (stage.Tags from s) is = absurd (cc)

-- ---- what is read and written goes on

pub list_more : (pages : ℕ) (list was : Collect) → length list.held < 4 → 0 < room list.from → list.from ≡ was.from
    → are_inside pages was.from ≡ true → length list.from ≤ 256
    → is_work (work.Serve First) pages (stage.List list pages) ≡ true
list_more pages list was short some same inside few =
    test_of_list pages list
    (record { short = short; space = some; inside = inside_of pages list.from (rw same inside); few = few })

pub zeros_more : (pages at : ℕ) (list was : Collect) → is_inside pages at 4096 ≡ true
    → length list.held + 4 ≤ length was.held → length was.held < 68 → list.from ≡ was.from
    → are_inside pages was.from ≡ true → length list.from ≤ 256
    → is_work (work.Serve First) pages (stage.Zeros list pages 64 at) ≡ true
zeros_more pages at list was there shorter short same inside few =
    let ram = of_ram pages at 4096 there in
    test_of_zeros pages 64 at list
    (record {
      some = omega arith;
      most = omega arith;
      low = ram.0;
      high = omega (arith, ram);
      short = omega (arith, shorter, short);
      inside = inside_of pages list.from (rw same inside);
      few = few;
    })

pub zeros_less : (pages left at : ℕ) (list : Collect) → (left ≡ 1 → ⊥) → is_zeroing pages list left at ≡ true
    → is_work (work.Serve First) pages (stage.Zeros list pages (left - 1) (at + 64)) ≡ true
zeros_less pages left at list more is =
    let v = zeroes_of pages list left at is in
    test_of_zeros pages (left - 1) (at + 64) list
    (record {
      some = omega (arith, v.some, more);
      most = omega (arith, v.most);
      low = omega (arith, v.low);
      high = omega (arith, v.high, v.some);
      short = v.short;
      inside = v.inside;
      few = v.few;
    })

pub zeros_done : (pages left at : ℕ) (list : Collect) → is_zeroing pages list left at ≡ true
    → (are_inside pages list.from ≡ true) × (length list.held < 68)
zeros_done pages left at list is =
    let v = zeroes_of pages list left at is in (are_of pages list.from v.inside, omega (arith, v.short))

pub tags_more : (pages : ℕ) (from : Collect) (s : Statistics) → length from.held < 10 → 0 < room from.from
    → are_inside pages from.from ≡ true → length from.from ≤ 256
    → is_work (work.Serve Third) pages (stage.Tags from s) ≡ true
tags_more pages from s short some inside few =
    test_of_reads pages 10 from (record { short = short; space = some; inside = inside_of pages from.from inside; few = few })

-- ---- behind a reply

pub record ListNext (pages n : ℕ) (k : Which) (now : List Part) (held : List ℕ) : Type 0 where
  pub first : First ≡ k
  pub own : n ≡ pages
  pub inside : are_inside n now ≡ true
  pub short : length held < 68

pub list_next : (pages n : ℕ) (k : Which) (list : Collect) (now : List Part) (held piece : List ℕ) → pages < 2 ^ 32
    → is_work (work.Serve k) pages (stage.List list n) ≡ true → now ≡ past (room list.from) list.from
    → held ≡ list.held ++ piece → length piece ≡ room list.from → ListNext pages n k now held
list_next pages n First list now held piece few is left whole long =
    let v = list_of pages n list is in
    let inside = past_inside pages (room list.from) list.from few v.1.inside (omega arith) in
    record {
      first = refl;
      own = v.0;
      inside = subst (λ (m : ℕ). are_inside m now ≡ true) (sym v.0) (rw left (are_of pages _ inside));
      short =
          omega (arith, ap length whole, length-append list.held piece, long, bytes.most list.from, v.1.short);
    }
list_next pages n Second list now held piece few is left whole long = absurd (cc)
list_next pages n Third list now held piece few is left whole long = absurd (cc)

pub record ZerosNext (pages n left at : ℕ) (k : Which) (list : Collect) : Type 0 where
  pub first : First ≡ k
  pub own : n ≡ pages
  pub zeroing : is_zeroing n list left at ≡ true

pub zeros_next : (pages n left at : ℕ) (k : Which) (list : Collect)
    → is_work (work.Serve k) pages (stage.Zeros list n left at) ≡ true → ZerosNext pages n left at k list
zeros_next pages n left at First list is =
    let p = and_parts (n == pages) (is_zeroing pages list left at) is in
    let same : n ≡ pages = eqb-true n pages p.0 in
    record {
      first = refl;
      own = same;
      zeroing = subst (λ (m : ℕ). is_zeroing m list left at ≡ true) (sym same) p.1;
    }
zeros_next pages n left at Second list is = absurd (cc)
zeros_next pages n left at Third list is = absurd (cc)

pub tags_next : (pages : ℕ) (k : Which) (from : Collect) (s : Statistics) (now : List Part) → pages < 2 ^ 32
    → is_work (work.Serve k) pages (stage.Tags from s) ≡ true → now ≡ past (room from.from) from.from
    → (Third ≡ k) × (are_inside pages now ≡ true)
tags_next pages Third from s now few is left =
    let inside = past_inside pages (room from.from) from.from few (reads_of pages 10 from is).inside (omega arith) in
    (refl, rw left (are_of pages _ inside))
tags_next pages First from s now few is left = absurd (cc)
tags_next pages Second from s now few is left = absurd (cc)

-- ---- of a chain

pub taken : (pages : ℕ) (k : Which) (parts : List Part) → are_inside pages parts ≡ true
    → is_fit balloon pages k (Some (record { parts = parts; got = record { bytes = []; parts = [] } })) ≡ true
taken pages k parts inside = and_from _ _ (and_from _ _ inside refl) refl

pub chain_pages : (pages : ℕ) (k : Which) (c : Chain) → is_chain balloon pages k c ≡ true → c.queue.pages ≡ pages
chain_pages pages k c is =
    eqb-true _ _
    (and_parts (c.queue.pages == pages) (is_sound c.queue)
    (and_parts _ (are_inside pages c.parts)
    (and_parts _ (are_inside pages c.got.parts) (and_parts _ (balloon.is_taken k c.parts c.got) is).0).0).0).0

pub chain_reads : (pages : ℕ) (k : Which) (c : Chain) → is_chain balloon pages k c ≡ true
    → are_inside pages (readable c.parts) ≡ true
chain_reads pages k c is =
    filter_test pages (λ (part : Part). not part.writable) c.parts
    (and_parts _ (are_inside pages c.parts)
    (and_parts _ (are_inside pages c.got.parts) (and_parts _ (balloon.is_taken k c.parts c.got) is).0).0).1
