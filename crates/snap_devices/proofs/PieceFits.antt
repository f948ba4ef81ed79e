-- The parts of a device in the fields of a file: what is kept of a queue, a walk and a chain fits, where each number has its width.
use Rattle.std.proofs.Common.{◌≡◌, ◌≤◌, ◌<◌, ◌^◌, ℕ, suc, ◌*◌, ◌==◌, Bool, true, false, refl, sym, subst, arith, List, [], ◌∷◌, length, Option, Some, None}
use Rattle.std.specs.Prelude.{IfSome}
use Rattle.std.specs.List.{All}
use Rattle.std.proofs.lemmas.Bool.{and_parts, eqb-true, le-leb}
use Rattle.std.proofs.lemmas.List.Elements.{All-cons, All-nil}
use Rattle.file_format.specs.Format.{Format}
use Rattle.file_format.specs.Kinds.{number16}
use Rattle.file_format.proofs.Fitting.{fits8, fits16, fits32, fits64, fits_bytes, fits_flag, fits_list}
use Rattle.vm_types.specs.declared.port_look.Accepted.{Accepted}
use Rattle.vq_split.specs.declared.queue.Part.{Part}
use Rattle.vq_split.specs.declared.queue.Queue.{Queue}
use Rattle.vq_split.specs.declared.queue.Table.{Table}
use Rattle.vq_split.specs.declared.walk.Stage.{Stage}
use Rattle.vq_split.specs.declared.walk.Stage.TheVariants.{AvailEvent, Entry, EntryRest, Index, IndexAgain, Link, Ring}
use Rattle.vq_split.specs.Chain.{is_inside}
use Rattle.vq_split.specs.Inside.{AreInside}
use Rattle.vq_split.specs.Kept.{IsWalking}
use Rattle.vq_split.specs.Walking.{IsEntry, IsSound, IsStage, Walking}
use Rattle.vq_split.proofs.Inside.{of_len, of_ram}
use Rattle.vq_split.proofs.Kept.{test_of_sound, test_of_walking}
use Rattle.dev_core.specs.declared.breaking.BreakStage.{BreakStage}
use Rattle.dev_core.specs.declared.breaking.BreakStage.TheVariants as breaking
use Rattle.dev_core.specs.declared.collect.Collect.{Collect}
use Rattle.dev_core.specs.Looks.{no_queue}
use Rattle.dev_core.specs.declared.returning.ReturnStage.{ReturnStage}
use Rattle.dev_core.specs.declared.returning.ReturnStage.TheVariants as returning
use Rattle.queue_device.specs.declared.lanes.Rounds.{Rounds}
use Rattle.queue_device.specs.declared.lanes.Which.{Which}
use Rattle.queue_device.specs.declared.lanes.Which.TheVariants.{First, Second, Third}
use Rattle.queue_device.specs.declared.phase.InHand.{InHand}
use Rattle.queue_device.specs.Chains.{Chain}
use Rattle.queue_device.specs.Confined.{IsChain, are_rounds, is_queue, is_waiting}
use Rattle.queue_device.specs.Kept.{is_in_hand, is_walked}
use Rattle.queue_device.specs.Lanes.{lane_of}
use Rattle.queue_device.specs.Resuming.{AreShort, IsShortChain}
use Rattle.queue_device.specs.Service.{Service}
use Rattle.queue_device.specs.Sizes.{IsNarrowLane, IsNarrowQueue, IsNarrowStage}
use Rattle.queue_device.proofs.Keeping.{chain_of, lane_is}
use Rattle.queue_device.proofs.KeptRounds.{short_of}
use Rattle.queue_device.proofs.Places.{held_of, walking_is}
use Rattle.block_device.specs.Working.{IsHeld}
use Rattle.block_device.proofs.Kept.{ArePart}
use Rattle.snap_devices.specs.Limits.{chain, chain_fields, chain_marks, maybe_chain, no_chain}
use Rattle.snap_devices.specs.Marks.{accepted_code, at_code, at_queue, feature_code, marked, marked_by, maybe, maybe_by, of_queue, queue_code, which_at, which_at-is, which_code}
use Rattle.snap_devices.specs.Phases.{break_stage, return_stage}
use Rattle.snap_devices.specs.Queues.{collect, held, maybe_queue, part, parts, piece, queue, queue_marks, registers, registers_of, table, walk, walk_fields, walk_stage}

-- ---- queues and parts, in a guest of at most 2^20 pages

pub registers_fit : (q : Queue) → IsNarrowQueue q → q.pages ≤ 2 ^ 20 → registers.Fits (registers_of q)
unfolding registers
registers_fit q is few = (
  fits64 q.descriptors is.descriptors,
  (fits64 q.available is.available, (fits64 q.used is.used, (fits16 q.size is.size, fits32 q.pages (omega (arith, few))))),
)

pub queue_fits : (q : Queue) → IsNarrowQueue q → q.pages ≤ 2 ^ 20 → (queue q.accepted).Fits q
unfolding queue
queue_fits q is few = (refl, registers_fit q is few)

-- ---- what was accepted

code_few : (indirect event_index : Bool) → feature_code indirect event_index < 4
code_few false false = omega arith
code_few true false = omega arith
code_few false true = omega arith
code_few true true = omega arith

pub accepted_few : (a : Accepted) → accepted_code a < 4
accepted_few a = code_few a.indirect a.event_index

-- what is there fits behind its mark
module _ {X : Type 0} (of : Accepted → Format X) (marks : X → Accepted) (other : X)
    (is : (a : Accepted) (x : X) → (of a).Fits x → a ≡ marks x) where
  pub maybe_fits : (v : Option X) → IfSome v (λ (x : X). (of (marks x)).Fits x) → (maybe of marks other is).Fits v
  unfolding maybe
  maybe_fits None fits = (fits8 0 (omega arith), refl)
  maybe_fits (Some x) fits =
      let few = accepted_few (marks x) in
      let there : (maybe_by of marks other is (Some (marks x))).Fits (Some x) = (refl, fits) in (
        fits8 (suc (accepted_code (marks x))) (omega (arith, few)),
        subst (λ (o : Option Accepted). (maybe_by of marks other is o).Fits (Some x)) (sym (at_code (marks x))) there,
      )

  pub of_maybe : (x : X) → (maybe of marks other is).Fits (Some x) → (of (marks x)).Fits x
  unfolding maybe
  of_maybe x fits =
      let there : (maybe_by of marks other is (Some (marks x))).Fits (Some x) =
      subst (λ (o : Option Accepted). (maybe_by of marks other is o).Fits (Some x)) (at_code (marks x)) fits.1 in
      there.1

-- and what has a number behind that and its mark
which_few : (k : Which) → which_code k < 3
which_few First = omega arith
which_few Second = omega arith
which_few Third = omega arith

module _ {X : Type 0} (of : Which → Accepted → Format X) (key : X → Which) (marks : X → Accepted)
    (is : (k : Which) (a : Accepted) (x : X) → (of k a).Fits x → (k ≡ key x) × (a ≡ marks x)) where
  pub numbered_fits : (x : X) → (of (key x) (marks x)).Fits x → (of_queue of key marks is).Fits x
  unfolding marked
  numbered_fits x fits =
      let few = accepted_few (marks x) in
      let low = which_few (key x) in (
        fits8 (queue_code (key x) (marks x)) (omega (arith, few, low)),
        subst (λ (o : Option (Which × Accepted)). (marked_by which_code which_at which_at-is of key marks is o).Fits x)
            (sym (at_queue (key x) (marks x))) fits,
      )

  pub of_numbered : (x : X) → (of_queue of key marks is).Fits x → (of (key x) (marks x)).Fits x
  unfolding marked
  of_numbered x fits =
      subst (λ (o : Option (Which × Accepted)). (marked_by which_code which_at which_at-is of key marks is o).Fits x)
      (at_queue (key x) (marks x)) fits.1

pub sound_narrow : (q : Queue) → IsSound q → q.pages ≤ 2 ^ 20 → IsNarrowQueue q
sound_narrow q is few =
    let t = is.tables in
    let most = is.most in
    let descriptors = t.descriptors_in.1 in
    let available = t.available_in.1 in
    let used = t.used_in.1 in
    record {
      descriptors = omega (arith, descriptors, few);
      available = omega (arith, available, few);
      used = omega (arith, used, few);
      size = omega (arith, most);
    }

part_fits : (pages : ℕ) (p : Part) → pages ≤ 2 ^ 20 → is_inside pages p.at p.len ≡ true → part.Fits p
unfolding part
part_fits pages p few inside =
    let in_ram = of_ram pages p.at p.len inside in
    let high = in_ram.1 in
    (fits64 p.at (omega (arith, high, few)), (fits32 p.len (of_len pages p.at p.len inside), fits_flag p.writable))

each_fits : (pages : ℕ) (ps : List Part) → pages ≤ 2 ^ 20 → AreInside pages ps → All part.Fits ps
each_fits pages [] few inside = All-nil part.Fits
each_fits pages (p ∷ ps) few inside = All-cons part.Fits p ps (part_fits pages p few inside.1) (each_fits pages ps few inside.2)

pub parts_fit : (pages : ℕ) (ps : List Part) → pages ≤ 2 ^ 20 → ArePart pages ps → parts.Fits ps
unfolding parts
parts_fit pages ps few are =
    let most = are.1 in
    (fits_list part ps (omega (arith, most)) (each_fits pages ps few are.0), le-leb (length ps) 256 most)

pub held_fits : (bytes : List ℕ) → IsHeld bytes → held.Fits bytes
unfolding held
held_fits bytes is =
    let most = is.0 in
    (fits_bytes bytes (omega (arith, most)), le-leb (length bytes) 128 most)

pub collect_fits : (pages : ℕ) (c : Collect) → pages ≤ 2 ^ 20 → ArePart pages c.from → IsHeld c.held → collect.Fits c
unfolding collect
collect_fits pages c few are is = (parts_fit pages c.from few are, held_fits c.held is)

-- ---- a walk

-- a table inside RAM
table_fits : (q : Queue) (t : Table) (at : ℕ) (ps : List Part) → IsEntry q t at ps → q.pages ≤ 2 ^ 20 → table.Fits t
unfolding table
table_fits q t at ps is few =
    let high = (of_ram q.pages t.at (16 * t.count) is.inside).1 in
    let most = is.most in
    (fits64 t.at (omega (arith, high, few)), fits16 t.count (omega (arith, most)))

entry_fits : (q : Queue) (t : Table) (at : ℕ) (ps : List Part) → IsEntry q t at ps → number16.Fits at
entry_fits q t at ps is =
    let there = is.there in
    let most = is.most in
    fits16 at (omega (arith, there, most))

stage_fits : (s : Stage) (q : Queue) (ps : List Part) → IsStage s q ps → IsNarrowStage s → q.size ≤ 256 → q.pages ≤ 2 ^ 20 → walk_stage.Fits s
unfolding walk_stage piece
stage_fits Index q ps is narrow most few = (fits8 0 (omega arith), refl)
stage_fits Ring q ps is narrow most few = (fits8 1 (omega arith), refl)
stage_fits (Link head at) q ps is narrow most few =
    let below = is.0 in
    (fits8 2 (omega arith), (refl, (fits16 head narrow, fits16 at (omega (arith, below, most)))))
stage_fits AvailEvent q ps is narrow most few = (fits8 3 (omega arith), refl)
stage_fits IndexAgain q ps is narrow most few = (fits8 4 (omega arith), refl)
stage_fits (Entry head t at) q ps is narrow most few =
    (fits8 5 (omega arith), (refl, (fits16 head narrow, (table_fits q t at ps is few, entry_fits q t at ps is))))
stage_fits (EntryRest head t at front) q ps is narrow most few =
    let short : length front ≤ 64 = omega (arith, is.1, is.2) in (
      fits8 6 (omega arith),
      (
        refl,
        (
          fits16 head narrow.0,
          (table_fits q t at ps is.0 few, (entry_fits q t at ps is.0, (fits_bytes front (omega (arith, short)), le-leb (length front) 64 short))),
        ),
      ),
    )

few_parts : (s : Stage) (q : Queue) (ps : List Part) → IsStage s q ps → q.size ≤ 256 → length ps ≤ 256
few_parts Index q ps is most = subst (λ (xs : List Part). length xs ≤ 256) (sym is) (omega arith)
few_parts Ring q ps is most = subst (λ (xs : List Part). length xs ≤ 256) (sym is) (omega arith)
few_parts (Link head at) q ps is most =
    let below = is.1 in
    omega (arith, below, most)
few_parts AvailEvent q ps is most = subst (λ (xs : List Part). length xs ≤ 256) (sym is.0) (omega arith)
few_parts IndexAgain q ps is most = subst (λ (xs : List Part). length xs ≤ 256) (sym is.0) (omega arith)
few_parts (Entry head t at) q ps is most = let below = is.few in omega (arith, below)
few_parts (EntryRest head t at front) q ps is most = let below = is.0.few in omega (arith, below)

pub walk_fits : (w : Walking) → IsWalking w → IsNarrowStage w.stage → w.next < 2 ^ 16 → w.queue.pages ≤ 2 ^ 20 → (walk w.queue.accepted).Fits w
unfolding walk walk_fields
walk_fits w is narrow next few =
    let most = is.sound.most in (
      (
        queue_fits w.queue (sound_narrow w.queue is.sound few) few,
        (
          fits16 w.next next,
          (
            stage_fits w.stage w.queue w.parts is.stage narrow most few,
            parts_fit w.queue.pages w.parts few (is.inside, few_parts w.stage w.queue w.parts is.stage most),
          ),
        ),
      ),
      test_of_walking w is,
    )

-- ---- breaking a queue, and giving a chain back

pub break_fits : (s : BreakStage) → break_stage.Fits s
unfolding break_stage
break_fits breaking.Port = (fits8 0 (omega arith), refl)
break_fits breaking.Line = (fits8 1 (omega arith), refl)

pub return_fits : (s : ReturnStage) → return_stage.Fits s
unfolding return_stage
return_fits returning.Pair = (fits8 0 (omega arith), refl)
return_fits returning.Half = (fits8 1 (omega arith), refl)
return_fits returning.Index = (fits8 2 (omega arith), refl)
return_fits returning.Interrupt = (fits8 3 (omega arith), refl)
return_fits returning.Line = (fits8 4 (omega arith), refl)
return_fits returning.Event = (fits8 5 (omega arith), refl)

-- ---- the queue and the chain of a lane, a walk that is begun, and a chain in hand, of any kind of device

module _ {E : Type 0} (s : Service E) (times : Bool) (r : Rounds) (are : are_rounds s r.port r.pages r ≡ true) (few : r.pages ≤ 2 ^ 20)
    (short : AreShort true r) where
  low : r.pages < 2 ^ 32
  low = omega (arith, few)

  narrow_of : (k : Which) → IsNarrowLane (lane_of k r)
  narrow_of k = (short_of true k r short).1 refl

  pub shown_of : (k : Which) → is_queue s r.pages (lane_of k r).queue ≡ true
  shown_of k = (and_parts (is_queue s r.pages (lane_of k r).queue) (is_waiting s r.pages k (lane_of k r).waiting) (lane_is s r.port r.pages k r are)).0

  queue_by : (o : Option Queue) → is_queue s r.pages o ≡ true → IfSome o IsNarrowQueue → maybe_queue.Fits o
  unfolding maybe_queue
  queue_by None of_pages narrow = maybe_fits queue (λ q. q.accepted) (no_queue 0) queue_marks None tt
  queue_by (Some q) of_pages narrow =
      let same = eqb-true q.pages r.pages of_pages in
      maybe_fits queue (λ q. q.accepted) (no_queue 0) queue_marks (Some q) (queue_fits q narrow (omega (arith, same, few)))

  pub lane_queue_fits : (k : Which) → maybe_queue.Fits (lane_of k r).queue
  lane_queue_fits k = queue_by (lane_of k r).queue (shown_of k) (narrow_of k).queue

  chain_fits : (k : Which) (c : Chain) → IsChain s r.pages k c → IsShortChain true (Some c) → (chain c.queue.accepted).Fits c
  unfolding chain chain_fields
  chain_fits k c is most =
      let same = is.pages_are in (
        (
          queue_fits c.queue (sound_narrow c.queue is.sound (omega (arith, same, few))) (omega (arith, same, few)),
          (
            fits16 c.head (most.3 refl).0,
            (
              parts_fit r.pages c.parts few (is.parts, most.0),
              (parts_fit r.pages c.got.parts few (is.got, most.1), held_fits c.got.bytes (most.2, (most.3 refl).1)),
            ),
          ),
        ),
        test_of_sound c.queue is.sound,
      )

  waiting_by : (k : Which) (o : Option Chain) → is_waiting s r.pages k o ≡ true → IsShortChain true o → maybe_chain.Fits o
  unfolding maybe_chain
  waiting_by k None is most = maybe_fits chain (λ c. c.queue.accepted) no_chain chain_marks None tt
  waiting_by k (Some c) is most =
      maybe_fits chain (λ c. c.queue.accepted) no_chain chain_marks (Some c) (chain_fits k c (chain_of s r.pages low k c is) most)

  pub waiting_fits : (k : Which) → maybe_chain.Fits (lane_of k r).waiting
  waiting_fits k =
      let own = and_parts (is_queue s r.pages (lane_of k r).queue) (is_waiting s r.pages k (lane_of k r).waiting)
      (lane_is s r.port r.pages k r are) in
      waiting_by k (lane_of k r).waiting own.1 (short_of true k r short).0

  pub begun_fits : (k : Which) (w : Walking) → is_walked (lane_of k r) w ≡ true → IsNarrowStage w.stage → (walk w.queue.accepted).Fits w
  begun_fits k w is narrow =
      let walks = walking_is s times r.port r.pages low k w r are is in
      let same = eqb-true w.next (lane_of k r).next (and_parts _ (w.next == (lane_of k r).next) is).1 in
      let of_pages = walks.1 in
      let next = (narrow_of k).next in
      walk_fits w walks.0 narrow (omega (arith, same, next)) (omega (arith, of_pages, few))

  pub hand_fits : (c : InHand) → is_in_hand times c r ≡ true → (queue c.queue.accepted).Fits c.queue
  hand_fits c is =
      let own = held_of s times r.port r.pages low c r are is in
      let same = own.1 in
      queue_fits c.queue (sound_narrow c.queue own.0 (omega (arith, same, few))) (omega (arith, same, few))
