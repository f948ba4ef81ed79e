-- What a block device keeps in a state that it may be in is what its form in a file stands for.
use Rattle.std.proofs.Common.{◌≡◌, ℕ, ◌==◌, ◌+◌, refl, sym, ap, subst, ◌∙◌, Bool, true, false, ◌&&◌, not, if◌then◌else◌, Option, Some, None, is_some, List, length}
use Rattle.std.proofs.lemmas.Bool.{and_from, and_parts, eqb-true, not-true}
use Rattle.vq_split.specs.declared.queue.Part.{Part}
use Rattle.vq_split.specs.declared.queue.Queue.{Queue}
use Rattle.vq_split.specs.Kept.{is_sound}
use Rattle.vq_split.proofs.Kept.{is_eq}
use Rattle.dev_core.specs.declared.collect.Collect.{Collect}
use Rattle.dev_core.specs.Pieces.{total}
use Rattle.dev_core.specs.Returning.{may_return}
use Rattle.queue_device.specs.declared.device.QueueRounds.{QueueRounds}
use Rattle.queue_device.specs.declared.lanes.Due.{Due}
use Rattle.queue_device.specs.declared.lanes.Due.TheVariants as due
use Rattle.queue_device.specs.declared.lanes.Lane.{Lane}
use Rattle.queue_device.specs.declared.lanes.Rounds.{Rounds}
use Rattle.queue_device.specs.declared.lanes.Which.{Which}
use Rattle.queue_device.specs.declared.lanes.Which.TheVariants.{First, Second, Third}
use Rattle.queue_device.specs.declared.phase.InHand.{InHand}
use Rattle.queue_device.specs.declared.phase.Phase.{Phase}
use Rattle.queue_device.specs.declared.phase.Phase.TheVariants as phase
use Rattle.queue_device.specs.Confined.{are_lanes, is_lane, is_queue}
use Rattle.queue_device.specs.Kept.{are_kept, are_own_lanes, is_at_lane, is_in_hand, is_new, is_next, is_of_round, is_over, is_own_lane}
use Rattle.queue_device.specs.Kept.{is_place, is_same_bool, is_same_queue, is_taken_of, is_told, work_of}
use Rattle.queue_device.specs.Lanes.{lane_of, new_lane}
use Rattle.queue_device.proofs.Places.{round_some}
use Rattle.block_device.specs.declared.kind.BlockKind.{BlockKind}
use Rattle.block_device.specs.declared.work.BlockStage.{BlockStage}
use Rattle.block_device.specs.declared.work.BlockStage.TheVariants as at
use Rattle.block_device.specs.Block.{block}
use Rattle.block_device.specs.Kept.{is_at, is_of, is_work, working_from}
use Rattle.block_device.specs.States.{is_state}
use Rattle.block_device.specs.Working.{Working}
use Rattle.block_device.proofs.Kept.{work_of as work_parts}
use Rattle.snap_devices.specs.declared.file.FileBlock.{FileBlock}
use Rattle.snap_devices.specs.declared.file.FileMore.{FileMore}
use Rattle.snap_devices.specs.declared.file.FilePhase.{FilePhase}
use Rattle.snap_devices.specs.Forms.{data_filed, due_filed, due_kept, file_of, hand_filed, hand_kept, in_hand, is_form, is_hand}
use Rattle.snap_devices.specs.Forms.{is_header_long, is_plain, is_queue_due, is_walk_alone, kept_of, other_queue, phase_filed}
use Rattle.snap_devices.specs.Forms.{phase_kept, queue_filed, queue_kept, rounds_kept, served_filed, stage_kept, walk_filed}

-- ---- lanes

none_of : {A : Type 0} (o : Option A) → not (is_some o) ≡ true → o ≡ None
none_of None is = refl
none_of (Some a) is = absurd (cc)

new_is : (l : Lane) → is_new l ≡ true → l ≡ new_lane
new_is l is =
    let d = and_parts _ (not l.is_kicked) is in
    let c = and_parts _ (l.used == 0) d.0 in
    let b = and_parts _ (l.next == 0) c.0 in
    let a = and_parts (not (is_some l.queue)) (not (is_some l.waiting)) b.0 in
    λ i. record {
      queue = none_of l.queue a.0 i;
      waiting = none_of l.waiting a.1 i;
      next = eqb-true l.next 0 b.1 i;
      used = eqb-true l.used 0 c.1 i;
      is_kicked = not-true l.is_kicked d.1 i;
    }

some_is : (o : Option Queue) (pages : ℕ) → is_some o ≡ true → o ≡ Some (queue_filed pages o)
some_is (Some q) pages is = refl
some_is None pages is = absurd (cc)

pages_are : (o : Option Queue) (pages : ℕ) → is_queue block pages o ≡ true → pages ≡ (queue_filed pages o).pages
pages_are None pages is = refl
pages_are (Some q) pages is = sym (eqb-true q.pages pages is)

bool_is : (a b : Bool) → is_same_bool a b ≡ true → a ≡ b
bool_is true true is = refl
bool_is true false is = absurd (cc)
bool_is false false is = refl
bool_is false true is = absurd (cc)

same_is : (a b : Queue) → is_same_queue a b ≡ true → b ≡ a
same_is a b is =
    let h = and_parts _ (is_same_bool a.accepted.event_index b.accepted.event_index) is in
    let g = and_parts _ (is_same_bool a.accepted.indirect b.accepted.indirect) h.0 in
    let d = and_parts _ (a.pages == b.pages) g.0 in
    let c = and_parts _ (a.size == b.size) d.0 in
    let e = and_parts _ (a.used == b.used) c.0 in
    let f = and_parts (a.descriptors == b.descriptors) (a.available == b.available) e.0 in
    sym (λ i. record {
      descriptors = eqb-true a.descriptors b.descriptors f.0 i;
      available = eqb-true a.available b.available f.1 i;
      used = eqb-true a.used b.used e.1 i;
      size = eqb-true a.size b.size c.1 i;
      pages = eqb-true a.pages b.pages d.1 i;
      accepted = record {
        indirect = bool_is a.accepted.indirect b.accepted.indirect g.1 i;
        event_index = bool_is a.accepted.event_index b.accepted.event_index h.1 i;
      };
    })

of_round : (o : Option Queue) (q : Queue) (pages : ℕ) → is_of_round o q ≡ true → q ≡ queue_filed pages o
of_round None q pages is = absurd (cc)
of_round (Some shown) q pages is = same_is shown q is

-- ---- the rounds that may be kept: one lane, and the others new

record OneLane (r : Rounds) : Type 0 where
  second : r.second ≡ new_lane
  third : r.third ≡ new_lane
  queue : is_queue block r.pages r.first.queue ≡ true
  next : is_next false r.due r ≡ true

one_lane : (r : Rounds) → are_kept block true r ≡ true → OneLane r
one_lane r is =
    let b = and_parts _ (is_next false r.due r) is in
    let a = and_parts (are_lanes block r.pages r) (are_own_lanes block true r) b.0 in
    let own = and_parts _ (is_new r.third) a.1 in
    let first = and_parts (is_own_lane true true r.first) (is_new r.second) own.0 in
    let lanes = and_parts _ (is_lane block r.pages Third r.third) a.0 in
    let lane = and_parts (is_lane block r.pages First r.first) (is_lane block r.pages Second r.second) lanes.0 in
    record {
      second = new_is r.second first.1;
      third = new_is r.third own.1;
      queue = (and_parts (is_queue block r.pages r.first.queue) _ lane.0).0;
      next = b.1;
    }

wrong : {A : Type 0} (l : Lane) → l ≡ new_lane → is_some l.queue ≡ true → A
wrong l new some =
    let no : false ≡ true = subst (λ (it : Lane). is_some it.queue ≡ true) new some in
    absurd (cc)

first_is : (k : Which) (r : Rounds) → OneLane r → is_some (lane_of k r).queue ≡ true → First ≡ k
first_is First r one some = refl
first_is Second r one some = wrong r.second one.second some
first_is Third r one some = wrong r.third one.third some

over_is : (r : Rounds) → is_over r ≡ true → r.first.queue ≡ None
over_is r is =
    let c = and_parts _ (not r.is_busy) is in
    let b = and_parts _ (not (is_some r.third.queue)) c.0 in
    none_of r.first.queue (and_parts (not (is_some r.first.queue)) _ b.0).0

queue_back : (o : Due) (r : Rounds) → OneLane r → is_next false o r ≡ true
    → r.first.queue ≡ queue_kept (due_filed o) (queue_filed r.pages r.first.queue)
queue_back due.Look r one is = over_is r is
queue_back due.Wait r one is = over_is r is
queue_back due.Question r one is = absurd (cc)
queue_back (due.Lane First) r one is = some_is r.first.queue r.pages is
queue_back (due.Lane Second) r one is = wrong r.second one.second is
queue_back (due.Lane Third) r one is = wrong r.third one.third is

due_back : (o : Due) (r : Rounds) → OneLane r → is_next false o r ≡ true → o ≡ due_kept (due_filed o)
due_back due.Look r one is = refl
due_back due.Wait r one is = refl
due_back due.Question r one is = absurd (cc)
due_back (due.Lane k) r one is = ap due.Lane (sym (first_is k r one is))

rounds_back : (b : QueueRounds BlockKind) → OneLane b.rounds → b.rounds ≡ rounds_kept (data_filed b) b.rounds.first.waiting
rounds_back b one =
    let r = b.rounds in
    λ i. record {
      first = record {
        queue = queue_back r.due r one one.next i;
        waiting = r.first.waiting;
        next = r.first.next;
        used = r.first.used;
        is_kicked = r.first.is_kicked;
      };
      second = one.second i;
      third = one.third i;
      pages = pages_are r.first.queue r.pages one.queue i;
      port = r.port;
      due = due_back r.due r one one.next i;
      is_busy = r.is_busy;
    }

-- ---- where it is, and the kind's stage

hand_by : (t : Bool) (q c : Queue) → is_same_queue q c ≡ t → c ≡ hand_kept (if t then None else Some c) q
hand_by true q c is = same_is q c is
hand_by false q c is = refl

hand_is : (c : InHand) (r : Rounds) → OneLane r → is_in_hand true c r ≡ true
    → c ≡ in_hand (hand_kept (other_queue (queue_filed r.pages r.first.queue) c.queue) (queue_filed r.pages r.first.queue)) c.head
hand_is c r one is =
    let some = (and_parts _ (is_taken_of true (lane_of c.which r).queue c.queue) is).1 in
    let k = first_is c.which r one some in
    let q = queue_filed r.pages r.first.queue in
    λ i. record { which = sym k i; queue = hand_by (is_same_queue q c.queue) q c.queue refl i; head = c.head }

phase_back : (p : Phase) (s : BlockStage) (from : Collect) (r : Rounds) → OneLane r → is_place true p r ≡ true
    → is_of (work_of p) s ≡ true
    → p ≡ phase_kept (walk_filed p) (phase_filed p s from)
    (hand_kept (hand_filed p (queue_filed r.pages r.first.queue)) (queue_filed r.pages r.first.queue))
phase_back phase.Between s from r one place of = refl
phase_back phase.Question s from r one place of = absurd (cc)
phase_back (phase.Walk k w) s from r one place of =
    let walked = (and_parts (is_at_lane r.due) _ place).1 in
    let b = and_parts _ (w.next == (lane_of k r).next) walked in
    let round = (and_parts _ (is_of_round (lane_of k r).queue w.queue) b.0).1 in
    ap (λ (it : Which). phase.Walk it w) (sym (first_is k r one (round_some _ w.queue round)))
phase_back (phase.Take c) s from r one place of =
    ap phase.Take (hand_is c r one (and_parts (is_at_lane r.due) _ place).1)
phase_back (phase.Serve c) at.Rest from r one place of = absurd (cc)
phase_back (phase.Serve c) at.Header from r one place of = absurd (cc)
phase_back (phase.Serve c) (at.Serve status s) from r one place of =
    ap phase.Serve (hand_is c r one (and_parts (is_at_lane r.due) _ place).1)
phase_back (phase.Return c len stage) s from r one place of =
    let may = and_parts _ (may_return stage c.queue) place in
    let b = and_parts _ (is_told stage len c.head) may.0 in
    ap (λ (it : InHand). phase.Return it len stage) (hand_is c r one (and_parts (is_at_lane r.due) _ b.0).1)
phase_back (phase.Break k stage) s from r one place of =
    ap (λ (it : Which). phase.Break it stage) (sym (first_is k r one (and_parts (is_at_lane r.due) _ place).1))

stage_back : (p : Phase) (s : BlockStage) (from : Collect) → is_of (work_of p) s ≡ true
    → s ≡ stage_kept (phase_filed p s from)
stage_back phase.Between at.Rest from of = refl
stage_back phase.Between at.Header from of = absurd (cc)
stage_back phase.Between (at.Serve place s) from of = absurd (cc)
stage_back phase.Question s from of = absurd (cc)
stage_back (phase.Walk k w) at.Rest from of = refl
stage_back (phase.Walk k w) at.Header from of = absurd (cc)
stage_back (phase.Walk k w) (at.Serve place s) from of = absurd (cc)
stage_back (phase.Take c) at.Rest from of = absurd (cc)
stage_back (phase.Take c) at.Header from of = refl
stage_back (phase.Take c) (at.Serve place s) from of = absurd (cc)
stage_back (phase.Serve c) at.Rest from of = absurd (cc)
stage_back (phase.Serve c) at.Header from of = absurd (cc)
stage_back (phase.Serve c) (at.Serve place s) from of = refl
stage_back (phase.Return c len stage) at.Rest from of = refl
stage_back (phase.Return c len stage) at.Header from of = absurd (cc)
stage_back (phase.Return c len stage) (at.Serve place s) from of = absurd (cc)
stage_back (phase.Break k stage) at.Rest from of = refl
stage_back (phase.Break k stage) at.Header from of = absurd (cc)
stage_back (phase.Break k stage) (at.Serve place s) from of = absurd (cc)

-- ---- its form

record Parts (b : QueueRounds BlockKind) : Type 0 where
  one : OneLane b.rounds
  place : is_place true b.phase b.rounds ≡ true
  of : is_of (work_of b.phase) b.kind.work.stage ≡ true

parts_of : (b : QueueRounds BlockKind) → is_state b ≡ true → Parts b
parts_of b is =
    let z = and_parts _ (is_work (work_of b.phase) b.rounds.pages b.kind.work) is in
    let y = and_parts (are_kept block true b.rounds) (is_place true b.phase b.rounds) z.0 in
    record {
      one = one_lane b.rounds y.0;
      place = y.1;
      of = (work_parts (work_of b.phase) b.rounds.pages b.kind.work z.1).of;
    }

block_back : (b : QueueRounds BlockKind) → Parts b → b ≡ kept_of (file_of b)
block_back b it =
    let w = b.kind.work in
    let q = queue_filed b.rounds.pages b.rounds.first.queue in
    λ i. record {
      rounds = rounds_back b it.one i;
      kind = record {
        facts = b.kind.facts;
        work = record { stage = stage_back b.phase w.stage w.from it.of i; from = w.from; to = w.to };
      };
      phase = phase_back b.phase w.stage w.from b.rounds it.one it.place it.of i;
    }

plain_queue : (o : Due) (r : Rounds) → is_next false o r ≡ true
    → is_queue_due (due_filed o) (queue_filed r.pages r.first.queue) ≡ true
plain_queue due.Look r is = ap (λ (it : Option Queue). is_queue_due (due_filed due.Look) (queue_filed r.pages it)) (over_is r is)
plain_queue due.Wait r is = ap (λ (it : Option Queue). is_queue_due (due_filed due.Wait) (queue_filed r.pages it)) (over_is r is)
plain_queue due.Question r is = absurd (cc)
plain_queue (due.Lane k) r is = refl

plain_walk : (p : Phase) (s : BlockStage) (from : Collect) → is_walk_alone (walk_filed p) (phase_filed p s from) ≡ true
plain_walk phase.Between s from = refl
plain_walk phase.Question s from = refl
plain_walk (phase.Walk k w) s from = refl
plain_walk (phase.Take c) s from = refl
plain_walk (phase.Serve c) s from = refl
plain_walk (phase.Return c len stage) s from = refl
plain_walk (phase.Break k stage) s from = refl

same_number : (n : ℕ) → (n == n) ≡ true
same_number n = is_eq n n refl

served_header : (head : ℕ) (s : BlockStage) (from : Collect) → is_header_long (served_filed head s) from ≡ true
served_header head at.Rest from = refl
served_header head at.Header from = refl
served_header head (at.Serve place s) from = refl

plain_header : (p : Phase) (s : BlockStage) (from : Collect) → is_header_long (phase_filed p s from) from ≡ true
plain_header phase.Between s from = refl
plain_header phase.Question s from = refl
plain_header (phase.Walk k w) s from = refl
plain_header (phase.Take c) s from = same_number (length from.held + total from.from)
plain_header (phase.Serve c) s from = served_header c.head s from
plain_header (phase.Return c len stage) s from = refl
plain_header (phase.Break k stage) s from = refl

other_hand : (t : Bool) (q c : Queue) (p : FilePhase) → is_same_queue q c ≡ t
    → is_hand (Some c) None p q ≡ not (is_same_queue q c) → is_hand (if t then None else Some c) None p q ≡ true
other_hand true q c p is told = refl
other_hand false q c p is told = told ∙ ap not is

plain_hand : (p : Phase) (s : BlockStage) (from : Collect) (q : Queue) → is_of (work_of p) s ≡ true
    → is_hand (hand_filed p q) (walk_filed p) (phase_filed p s from) q ≡ true
plain_hand phase.Between s from q of = refl
plain_hand phase.Question s from q of = refl
plain_hand (phase.Walk k w) s from q of = refl
plain_hand (phase.Take c) s from q of = other_hand (is_same_queue q c.queue) q c.queue _ refl refl
plain_hand (phase.Serve c) at.Rest from q of = absurd (cc)
plain_hand (phase.Serve c) at.Header from q of = absurd (cc)
plain_hand (phase.Serve c) (at.Serve place s) from q of = other_hand (is_same_queue q c.queue) q c.queue _ refl refl
plain_hand (phase.Return c len stage) s from q of = other_hand (is_same_queue q c.queue) q c.queue _ refl refl
plain_hand (phase.Break k stage) s from q of = refl

plain_is : (b : QueueRounds BlockKind) → Parts b → is_plain (file_of b) ≡ true
plain_is b it =
    let w = b.kind.work in
    and_from _ _
    (and_from _ _
    (and_from _ _ (plain_queue b.rounds.due b.rounds it.one.next) (plain_walk b.phase w.stage w.from))
    (plain_header b.phase w.stage w.from))
    (plain_hand b.phase w.stage w.from (queue_filed b.rounds.pages b.rounds.first.queue) it.of)

pub stands : (b : QueueRounds BlockKind) → is_state b ≡ true → (b ≡ kept_of (file_of b)) × (is_form (file_of b) ≡ true)
stands b is =
    let it = parts_of b is in
    let back = block_back b it in
    (back, and_from _ _ (plain_is b it) (subst (λ (k : QueueRounds BlockKind). is_state k ≡ true) back is))

-- ---- a form of which nothing is kept

off_first : (a b : Bool) → a ≡ false → (a && b) ≡ false
off_first false b is = refl
off_first true b is = absurd (cc)

off_second : (a b : Bool) → b ≡ false → (a && b) ≡ false
off_second false b is = refl
off_second true b is = is

pub unsound_off : (c : InHand) (r : Rounds) → is_sound c.queue ≡ false → (is_at_lane r.due && is_in_hand true c r) ≡ false
unsound_off c r is = off_second (is_at_lane r.due) _ (off_first _ _ (off_first (is_sound c.queue) _ is))

pub place_off : (f : FileBlock) (m : FileMore)
    → ((r : Rounds) → is_place true (phase_kept f.walk f.phase (hand_kept m.in_hand f.facts.queue)) r ≡ false)
    → is_state (kept_of (f, m)) ≡ false
place_off f m off =
    off_first _ _
    (off_second (are_kept block true (rounds_kept f.facts m.waiting)) _ (off (rounds_kept f.facts m.waiting)))

none_test : (test : Bool) (w : Working) → Option.None ≡ (if test then Some w else None) → test ≡ false
none_test true w is = absurd (cc)
none_test false w is = refl

-- no work keeps what doesn't fit
pub none_at : (s : BlockStage) (from : Collect) (to : List Part) → Option.None ≡ working_from s from to
    → is_at s from to ≡ false
none_at s from to is = none_test (is_at s from to) (record { stage = s; from = from; to = to }) is

pub work_off : (f : FileBlock) (m : FileMore) → is_at (stage_kept f.phase) f.from f.to ≡ false → is_state (kept_of (f, m)) ≡ false
work_off f m off =
    off_second (are_kept block true (rounds_kept f.facts m.waiting)
    && is_place true (kept_of (f, m)).phase (rounds_kept f.facts m.waiting)) _
    (off_first _ _ (off_first _ _ (off_first _ _ (off_second _ _ off))))
