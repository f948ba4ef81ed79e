-- What a block device keeps, and its form in a file. The form tells no more than is needed: a block device has one queue, on which
-- it works while that is due; a walk is of that queue, and so is a chain in hand, unless its queue is told; and how much of a header
-- is left to be read is told.
use Rattle.std.specs.Prelude.{◌≡◌, ℕ, ◌+◌, ◌==◌, Bool, true, false, ◌&&◌, not, if◌then◌else◌, IsTrue, Option, Some, None, length, refl}
use Rattle.std.proofs.Common.{sym, ap, ◌∙◌}
use Rattle.std.proofs.lemmas.Bool.{and_from, and_parts, eqb-true, not-true}
use Rattle.vq_split.specs.declared.queue.Queue.{Queue}
use Rattle.vq_split.specs.Walking.{Walking}
use Rattle.vq_split.proofs.Kept.{is_eq}
use Rattle.dev_core.specs.declared.collect.Collect.{Collect}
use Rattle.dev_core.specs.Looks.{no_queue}
use Rattle.dev_core.specs.Pieces.{total}
use Rattle.queue_device.specs.declared.device.QueueRounds.{QueueRounds}
use Rattle.queue_device.specs.declared.lanes.Due.{Due}
use Rattle.queue_device.specs.declared.lanes.Due.TheVariants as due
use Rattle.queue_device.specs.declared.lanes.Rounds.{Rounds}
use Rattle.queue_device.specs.declared.lanes.Which.TheVariants.{First}
use Rattle.queue_device.specs.declared.phase.InHand.{InHand}
use Rattle.queue_device.specs.declared.phase.Phase.{Phase}
use Rattle.queue_device.specs.declared.phase.Phase.TheVariants as phase
use Rattle.queue_device.specs.Chains.{Chain}
use Rattle.queue_device.specs.Kept.{is_same_bool, is_same_queue}
use Rattle.queue_device.specs.Lanes.{new_lane}
use Rattle.block_device.specs.declared.kind.BlockKind.{BlockKind}
use Rattle.block_device.specs.declared.work.BlockStage.{BlockStage}
use Rattle.block_device.specs.declared.work.BlockStage.TheVariants as at
use Rattle.block_device.specs.States.{is_state}
use Rattle.snap_devices.specs.declared.file.FileBlock.{FileBlock}
use Rattle.snap_devices.specs.declared.file.FileData.{FileData}
use Rattle.snap_devices.specs.declared.file.FileDue.{FileDue}
use Rattle.snap_devices.specs.declared.file.FileDue.TheVariants.{Look, Walk, Idle}
use Rattle.snap_devices.specs.declared.file.FileMore.{FileMore}
use Rattle.snap_devices.specs.declared.file.FilePhase.{FilePhase}
use Rattle.snap_devices.specs.declared.file.FilePhase.TheVariants.{Between, Break, Header, Serve, Return}

-- ---- what is kept, by its form

abbrev pub due_kept : FileDue → Due
due_kept Look = due.Look
due_kept Walk = due.Lane First
due_kept Idle = due.Wait

abbrev pub queue_kept : FileDue → Queue → Option Queue
queue_kept Look q = None
queue_kept Walk q = Some q
queue_kept Idle q = None

abbrev pub rounds_kept : FileData → Option Chain → Rounds
rounds_kept d waiting = record {
  first = record {
    queue = queue_kept d.due d.queue;
    waiting = waiting;
    next = d.next;
    used = d.used;
    is_kicked = d.is_kicked;
  };
  second = new_lane;
  third = new_lane;
  pages = d.queue.pages;
  port = d.port;
  due = due_kept d.due;
  is_busy = d.has_finished;
}

abbrev pub in_hand : Queue → ℕ → InHand
in_hand q head = record { which = First; queue = q; head = head }

abbrev pub phase_kept : Option Walking → FilePhase → Queue → Phase
phase_kept (Some w) p q = phase.Walk First w
phase_kept None Between q = phase.Between
phase_kept None (Break stage) q = phase.Break First stage
phase_kept None (Header len head) q = phase.Take (in_hand q head)
phase_kept None (Serve at stage head) q = phase.Serve (in_hand q head)
phase_kept None (Return len head stage) q = phase.Return (in_hand q head) len stage

abbrev pub stage_kept : FilePhase → BlockStage
stage_kept Between = at.Rest
stage_kept (Break stage) = at.Rest
stage_kept (Header len head) = at.Header
stage_kept (Serve place stage head) = at.Serve place stage
stage_kept (Return len head stage) = at.Rest

-- the queue of the chain in hand: the one that is told, or that of the round
abbrev pub hand_kept : Option Queue → Queue → Queue
hand_kept None q = q
hand_kept (Some hand) q = hand

-- by a form and what may be lacking behind it
abbrev pub kept_of : FileBlock × FileMore → QueueRounds BlockKind
kept_of (f, more) = record {
  rounds = rounds_kept f.facts more.waiting;
  kind = record {
    facts = record {
      sectors = f.facts.sectors;
      drive_id = f.facts.drive_id;
      is_read_only = f.facts.is_read_only;
      limits = more.limits;
    };
    work = record { stage = stage_kept f.phase; from = f.from; to = f.to };
  };
  phase = phase_kept f.walk f.phase (hand_kept more.in_hand f.facts.queue);
}

-- ---- the form of what is kept

abbrev pub due_filed : Due → FileDue
due_filed due.Look = Look
due_filed due.Question = Look
due_filed (due.Lane k) = Walk
due_filed due.Wait = Idle

abbrev pub queue_filed : ℕ → Option Queue → Queue
queue_filed pages None = no_queue pages
queue_filed pages (Some q) = q

abbrev pub data_filed : QueueRounds BlockKind → FileData
data_filed b = record {
  sectors = b.kind.facts.sectors;
  queue = queue_filed b.rounds.pages b.rounds.first.queue;
  drive_id = b.kind.facts.drive_id;
  next = b.rounds.first.next;
  used = b.rounds.first.used;
  port = b.rounds.port;
  is_read_only = b.kind.facts.is_read_only;
  is_kicked = b.rounds.first.is_kicked;
  has_finished = b.rounds.is_busy;
  due = due_filed b.rounds.due;
}

abbrev pub served_filed : ℕ → BlockStage → FilePhase
served_filed head at.Rest = Between
served_filed head at.Header = Between
served_filed head (at.Serve place stage) = Serve place stage head

abbrev pub phase_filed : Phase → BlockStage → Collect → FilePhase
phase_filed phase.Between s from = Between
phase_filed phase.Question s from = Between
phase_filed (phase.Walk k w) s from = Between
phase_filed (phase.Take c) s from = Header (length from.held + total from.from) c.head
phase_filed (phase.Serve c) s from = served_filed c.head s
phase_filed (phase.Return c len stage) s from = Return len c.head stage
phase_filed (phase.Break k stage) s from = Break stage

abbrev pub walk_filed : Phase → Option Walking
walk_filed phase.Between = None
walk_filed phase.Question = None
walk_filed (phase.Walk k w) = Some w
walk_filed (phase.Take c) = None
walk_filed (phase.Serve c) = None
walk_filed (phase.Return c len stage) = None
walk_filed (phase.Break k stage) = None

abbrev pub block_filed : QueueRounds BlockKind → FileBlock
block_filed b = record {
  facts = data_filed b;
  phase = phase_filed b.phase b.kind.work.stage b.kind.work.from;
  walk = walk_filed b.phase;
  from = b.kind.work.from;
  to = b.kind.work.to;
}

-- a queue that isn't the one of the round
abbrev pub other_queue : Queue → Queue → Option Queue
other_queue q hand = if is_same_queue q hand then None else Some hand

abbrev pub hand_filed : Phase → Queue → Option Queue
hand_filed phase.Between q = None
hand_filed phase.Question q = None
hand_filed (phase.Walk k w) q = None
hand_filed (phase.Take c) q = other_queue q c.queue
hand_filed (phase.Serve c) q = other_queue q c.queue
hand_filed (phase.Return c len stage) q = other_queue q c.queue
hand_filed (phase.Break k stage) q = None

abbrev pub more_filed : QueueRounds BlockKind → FileMore
more_filed b = record {
  limits = b.kind.facts.limits;
  waiting = b.rounds.first.waiting;
  in_hand = hand_filed b.phase (queue_filed b.rounds.pages b.rounds.first.queue);
}

abbrev pub file_of : QueueRounds BlockKind → FileBlock × FileMore
file_of b = (block_filed b, more_filed b)

-- ---- which forms there are

-- between two rounds there is no queue
abbrev pub is_no_queue : Queue → Bool
is_no_queue q =
    (q.descriptors == 0) && (q.available == 0) && (q.used == 0) && (q.size == 0) && not q.accepted.indirect
    && not q.accepted.event_index

abbrev pub is_queue_due : FileDue → Queue → Bool
is_queue_due Look q = is_no_queue q
is_queue_due Walk q = true
is_queue_due Idle q = is_no_queue q

-- while a chain is walked nothing else is begun
abbrev pub is_walk_alone : Option Walking → FilePhase → Bool
is_walk_alone None p = true
is_walk_alone (Some w) Between = true
is_walk_alone (Some w) (Break stage) = false
is_walk_alone (Some w) (Header len head) = false
is_walk_alone (Some w) (Serve at stage head) = false
is_walk_alone (Some w) (Return len head stage) = false

-- of a chain whose header is read so many bytes are told as are held and left to be read
abbrev pub is_header_long : FilePhase → Collect → Bool
is_header_long Between from = true
is_header_long (Break stage) from = true
is_header_long (Header len head) from = len == length from.held + total from.from
is_header_long (Serve at stage head) from = true
is_header_long (Return len head stage) from = true

-- a queue is told where a chain is in hand that isn't of the round's
abbrev pub is_hand : Option Queue → Option Walking → FilePhase → Queue → Bool
is_hand None w p q = true
is_hand (Some hand) (Some w) p q = false
is_hand (Some hand) None Between q = false
is_hand (Some hand) None (Break stage) q = false
is_hand (Some hand) None (Header len head) q = not (is_same_queue q hand)
is_hand (Some hand) None (Serve at stage head) q = not (is_same_queue q hand)
is_hand (Some hand) None (Return len head stage) q = not (is_same_queue q hand)

abbrev pub is_plain : FileBlock × FileMore → Bool
is_plain (f, more) =
    is_queue_due f.facts.due f.facts.queue && is_walk_alone f.walk f.phase && is_header_long f.phase f.from
    && is_hand more.in_hand f.walk f.phase f.facts.queue

-- and of a state that a block device may be in
abbrev pub is_form : FileBlock × FileMore → Bool
is_form f = is_plain f && is_state (kept_of f)

-- ---- such a form is what the value has that it stands for

none_back : (q : Queue) → is_no_queue q ≡ true → q ≡ no_queue q.pages
none_back q is =
    let e = and_parts _ (not q.accepted.event_index) is in
    let d = and_parts _ (not q.accepted.indirect) e.0 in
    let c = and_parts _ (q.size == 0) d.0 in
    let b = and_parts _ (q.used == 0) c.0 in
    let a = and_parts (q.descriptors == 0) (q.available == 0) b.0 in
    λ i. record {
      descriptors = eqb-true q.descriptors 0 a.0 i;
      available = eqb-true q.available 0 a.1 i;
      used = eqb-true q.used 0 b.1 i;
      size = eqb-true q.size 0 c.1 i;
      pages = q.pages;
      accepted = record { indirect = not-true q.accepted.indirect d.1 i; event_index = not-true q.accepted.event_index e.1 i };
    }

queue_back : (o : FileDue) (q : Queue) → is_queue_due o q ≡ true → q ≡ queue_filed q.pages (queue_kept o q)
queue_back Look q is = none_back q is
queue_back Walk q is = refl
queue_back Idle q is = none_back q is

due_back : (o : FileDue) → o ≡ due_filed (due_kept o)
due_back Look = refl
due_back Walk = refl
due_back Idle = refl

phase_back : (w : Option Walking) (p : FilePhase) (q : Queue) (from : Collect) → is_walk_alone w p ≡ true
    → is_header_long p from ≡ true → p ≡ phase_filed (phase_kept w p q) (stage_kept p) from
phase_back None Between q from alone long = refl
phase_back None (Break stage) q from alone long = refl
phase_back None (Header len head) q from alone long = ap (λ (n : ℕ). Header n head) (eqb-true len _ long)
phase_back None (Serve at stage head) q from alone long = refl
phase_back None (Return len head stage) q from alone long = refl
phase_back (Some w) Between q from alone long = refl
phase_back (Some w) (Break stage) q from alone long = absurd (cc)
phase_back (Some w) (Header len head) q from alone long = absurd (cc)
phase_back (Some w) (Serve at stage head) q from alone long = absurd (cc)
phase_back (Some w) (Return len head stage) q from alone long = absurd (cc)

walk_back : (w : Option Walking) (p : FilePhase) (q : Queue) → w ≡ walk_filed (phase_kept w p q)
walk_back (Some w) p q = refl
walk_back None Between q = refl
walk_back None (Break stage) q = refl
walk_back None (Header len head) q = refl
walk_back None (Serve at stage head) q = refl
walk_back None (Return len head stage) q = refl

same_bool : (b : Bool) → is_same_bool b b ≡ true
same_bool true = refl
same_bool false = refl

same_refl : (q : Queue) → is_same_queue q q ≡ true
same_refl q =
    and_from _ _
    (and_from _ _
    (and_from _ _
    (and_from _ _
    (and_from _ _ (and_from _ _ (is_eq q.descriptors _ refl) (is_eq q.available _ refl)) (is_eq q.used _ refl)) (is_eq q.size _ refl))
    (is_eq q.pages _ refl))
    (same_bool q.accepted.indirect))
    (same_bool q.accepted.event_index)

no_other : (q : Queue) → None ≡ other_queue q q
no_other q = sym (ap (λ (t : Bool). if t then None else Some q) (same_refl q))

other_by : (t : Bool) (hand : Queue) → not t ≡ true → Some hand ≡ (if t then None else Some hand)
other_by false hand is = refl
other_by true hand is = cc

one_other : (q hand : Queue) → not (is_same_queue q hand) ≡ true → Some hand ≡ other_queue q hand
one_other q hand is = other_by (is_same_queue q hand) hand is

hand_back : (o : Option Queue) (w : Option Walking) (p : FilePhase) (q : Queue) → is_hand o w p q ≡ true
    → o ≡ hand_filed (phase_kept w p (hand_kept o q)) q
hand_back None (Some w) p q is = refl
hand_back None None Between q is = refl
hand_back None None (Break stage) q is = refl
hand_back None None (Header len head) q is = no_other q
hand_back None None (Serve at stage head) q is = no_other q
hand_back None None (Return len head stage) q is = no_other q
hand_back (Some hand) (Some w) p q is = absurd (cc)
hand_back (Some hand) None Between q is = absurd (cc)
hand_back (Some hand) None (Break stage) q is = absurd (cc)
hand_back (Some hand) None (Header len head) q is = one_other q hand is
hand_back (Some hand) None (Serve at stage head) q is = one_other q hand is
hand_back (Some hand) None (Return len head stage) q is = one_other q hand is

pub form_back : (x : FileBlock × FileMore) → IsTrue (is_form x) → x ≡ file_of (kept_of x)
form_back (f, more) form =
    let plain = (and_parts (is_plain (f, more)) _ form).0 in
    let c = and_parts _ (is_hand more.in_hand f.walk f.phase f.facts.queue) plain in
    let b = and_parts _ (is_header_long f.phase f.from) c.0 in
    let a = and_parts (is_queue_due f.facts.due f.facts.queue) (is_walk_alone f.walk f.phase) b.0 in
    let q = queue_back f.facts.due f.facts.queue a.0 in
    let hand : more.in_hand ≡ hand_filed (phase_kept f.walk f.phase (hand_kept more.in_hand f.facts.queue))
    (queue_filed f.facts.queue.pages (queue_kept f.facts.due f.facts.queue)) =
    hand_back more.in_hand f.walk f.phase f.facts.queue c.1
    ∙ ap (hand_filed (phase_kept f.walk f.phase (hand_kept more.in_hand f.facts.queue))) q in
    λ i. (
      record {
        facts = record {
          sectors = f.facts.sectors;
          queue = q i;
          drive_id = f.facts.drive_id;
          next = f.facts.next;
          used = f.facts.used;
          port = f.facts.port;
          is_read_only = f.facts.is_read_only;
          is_kicked = f.facts.is_kicked;
          has_finished = f.facts.has_finished;
          due = due_back f.facts.due i;
        };
        phase = phase_back f.walk f.phase (hand_kept more.in_hand f.facts.queue) f.from a.1 b.1 i;
        walk = walk_back f.walk f.phase (hand_kept more.in_hand f.facts.queue) i;
        from = f.from;
        to = f.to;
      },
      record { limits = more.limits; waiting = more.waiting; in_hand = hand i },
    )
