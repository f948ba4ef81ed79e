-- What a block device is at behind an act, as the test of it.
use Rattle.std.proofs.Common.{◌≡◌, ℕ, ◌^◌, ◌<◌, ◌≤◌, ◌==◌, ◌&&◌, nat_lt, refl, sym, ap, subst, ◌∙◌, true, Some, List, length, arith}
use Rattle.std.proofs.lemmas.Bool.{and_from, and_parts, lt-ltb}
use Rattle.vq_split.specs.declared.queue.Part.{Part}
use Rattle.vq_split.specs.Inside.{AreInside}
use Rattle.vq_split.specs.Kept.{are_inside, is_sound}
use Rattle.vq_split.proofs.Kept.{are_of, inside_of}
use Rattle.dev_core.specs.declared.collect.Collect.{Collect}
use Rattle.dev_core.specs.Collecting.{nothing}
use Rattle.dev_core.specs.Pieces.{Got, last_byte, past, readable, room, writable}
use Rattle.dev_core.proofs.Inside.{filter_inside, past_inside, status_place}
use Rattle.queue_device.specs.declared.lanes.Which.{Which}
use Rattle.queue_device.specs.declared.phase.Work.TheVariants as work
use Rattle.queue_device.specs.Chains.{Chain, got_of}
use Rattle.queue_device.specs.Confined.{is_chain}
use Rattle.queue_device.specs.Kept.{is_fit}
use Rattle.block_device.specs.declared.stage.ServiceStage.{ServiceStage}
use Rattle.block_device.specs.declared.work.BlockStage.{BlockStage}
use Rattle.block_device.specs.declared.work.BlockStage.TheVariants as at
use Rattle.block_device.specs.Block.{block}
use Rattle.block_device.specs.Kept.{is_work}
use Rattle.block_device.specs.Serving.{IsStage, StayPlaced}
use Rattle.block_device.specs.Working.{IsClear, Working}
use Rattle.block_device.proofs.Kept.{test_of_work, work_of}
use Rattle.block_device.proofs.Owes.{none_not}

abbrev pub kept : BlockStage → Collect → List Part → Working
kept stage from to = record { stage = stage; from = from; to = to }

-- a list of parts is never longer
abbrev pub AreFew : Collect → List Part → Type 0
AreFew from to = (length from.from ≤ 256) × (length to ≤ 256)

-- ---- the header

-- the parts of a chain that are read and those that are written lie where all do
pub reads_inside : (pages : ℕ) (parts reads : List Part) → reads ≡ readable parts → are_inside pages parts ≡ true
    → AreInside pages reads
reads_inside pages parts reads is inside =
    subst (λ (it : List Part). AreInside pages it) (sym is) (filter_inside pages _ parts (inside_of pages parts inside))

pub writes_inside : (pages : ℕ) (parts writes : List Part) → writes ≡ writable parts → are_inside pages parts ≡ true
    → AreInside pages writes
writes_inside pages parts writes is inside =
    subst (λ (it : List Part). AreInside pages it) (sym is) (filter_inside pages _ parts (inside_of pages parts inside))

pub rest_inside : (pages : ℕ) (parts now : List Part) → now ≡ past (room parts) parts → pages < 2 ^ 32
    → AreInside pages parts → AreInside pages now
rest_inside pages parts now is small inside =
    subst (λ (it : List Part). AreInside pages it) (sym is) (past_inside pages (room parts) parts small inside (omega arith))

module _ (pages : ℕ) (k : Which) where
  pub header_whole : (from : Collect) (to : List Part) → AreInside pages from.from → AreInside pages to → 0 < length to
      → is_fit block pages k (Some (record { parts = to; got = got_of from })) ≡ true
  header_whole from to reads writes some =
      and_from _ _ (and_from _ _ (are_of pages to writes) (are_of pages from.from reads)) (lt-ltb 0 (length to) some)

  pub header_more : (from : Collect) (to : List Part) → AreInside pages from.from → AreInside pages to → 0 < length to
      → (length from.held < 16) × (0 < room from.from) → AreFew from to
      → is_work (work.Take k) pages (kept at.Header from to) ≡ true
  header_more from to reads writes some more few =
      test_of_work (work.Take k) pages (kept at.Header from to)
      (record {
        of = refl;
        is = (more.0, more.1, some);
        place = refl;
        from = (reads, few.0);
        to = (writes, few.1);
      })

  pub header_reads : (w : Working) → is_work (work.Take k) pages w ≡ true → AreInside pages w.from.from
  header_reads w is = (work_of (work.Take k) pages w is).from.0

  pub header_writes : (w : Working) → is_work (work.Take k) pages w ≡ true → AreInside pages w.to
  header_writes w is = (work_of (work.Take k) pages w is).to.0

  -- ---- the service

  pub serve_begun : (c : Chain) (place : ℕ) (s : ServiceStage) (from now : Collect) (to after : List Part) → pages < 2 ^ 32
      → is_chain block pages k c ≡ true → got_of from ≡ c.got → to ≡ c.parts → place ≡ last_byte 0 to
      → StayPlaced from to now after → IsStage s now after → AreFew now after
      → is_work (work.Serve k) pages (kept (at.Serve place s) now after) ≡ true
  serve_begun c place s from now to after small is got parts there stay stage few =
      let z = and_parts _ (nat_lt 0 (length c.parts)) is in
      let y = and_parts _ (are_inside pages c.got.parts) z.0 in
      let x = and_parts ((c.queue.pages == pages) && is_sound c.queue) (are_inside pages c.parts) y.0 in
      let reads : AreInside pages from.from =
      subst (λ (it : Got). AreInside pages it.parts) (sym got) (inside_of pages c.got.parts y.1) in
      let writes : AreInside pages to =
      subst (λ (it : List Part). AreInside pages it) (sym parts) (inside_of pages c.parts x.1) in
      let some : nat_lt 0 (length to) ≡ true = subst (λ (it : List Part). nat_lt 0 (length it) ≡ true) (sym parts) z.1 in
      let placed = stay pages small (reads, writes) in
      subst (λ (n : ℕ). is_work (work.Serve k) pages (kept (at.Serve n s) now after) ≡ true) (sym there)
      (test_of_work (work.Serve k) pages (kept (at.Serve (last_byte 0 to) s) now after)
      (record {
        of = refl;
        is = stage;
        place = status_place pages to small writes (none_not (length to) some);
        from = (placed.0, few.0);
        to = (placed.1, few.1);
      }))

  pub serve_more : (w : Working) (place : ℕ) (s t : ServiceStage) (now : Collect) (after : List Part) → pages < 2 ^ 32
      → is_work (work.Serve k) pages w ≡ true → w.stage ≡ at.Serve place s → StayPlaced w.from w.to now after
      → IsStage t now after → AreFew now after
      → is_work (work.Serve k) pages (kept (at.Serve place t) now after) ≡ true
  serve_more w place s t now after small is there stay stage few =
      let here : is_work (work.Serve k) pages (kept (at.Serve place s) w.from w.to) ≡ true =
      subst (λ (it : BlockStage). is_work (work.Serve k) pages (kept it w.from w.to) ≡ true) there is in
      let v = work_of (work.Serve k) pages (kept (at.Serve place s) w.from w.to) here in
      let placed = stay pages small (v.from.0, v.to.0) in
      test_of_work (work.Serve k) pages (kept (at.Serve place t) now after)
      (record { of = refl; is = stage; place = v.place; from = (placed.0, few.0); to = (placed.1, few.1) })

  pub serve_done : (now : Collect) (after : List Part) → IsClear now after
      → is_work work.Rest pages (kept at.Rest now after) ≡ true
  serve_done now after clear =
      ap (λ (it : Collect). is_work work.Rest pages (kept at.Rest it after)) clear.0
      ∙ ap (λ (it : List Part). is_work work.Rest pages (kept at.Rest nothing it)) clear.1
