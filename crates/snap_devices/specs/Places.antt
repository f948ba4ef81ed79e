-- Where a device with queues is, as bytes.
use Rattle.std.specs.Prelude.{◌≡◌, ℕ, zero, suc, Bool, refl}
use Rattle.std.proofs.Common.{sym, ap}
use Rattle.file_format.specs.Format.{Format}
use Rattle.file_format.specs.Kinds.{byte, number16, number32, just, nothing, variant, chosen_by, passing, ◌&◌}
use Rattle.vm_types.specs.declared.port_look.Accepted.{Accepted}
use Rattle.vq_split.specs.Kept.{is_sound}
use Rattle.vq_split.specs.Walking.{Walking, walk_of}
use Rattle.dev_core.specs.declared.breaking.BreakStage.{BreakStage}
use Rattle.dev_core.specs.declared.breaking.BreakStage.TheVariants as breaking
use Rattle.dev_core.specs.declared.returning.ReturnStage.{ReturnStage}
use Rattle.dev_core.specs.declared.returning.ReturnStage.TheVariants as returning
use Rattle.dev_core.specs.Looks.{no_queue}
use Rattle.queue_device.specs.declared.lanes.Which.{Which}
use Rattle.queue_device.specs.declared.lanes.Which.TheVariants.{First}
use Rattle.queue_device.specs.declared.phase.InHand.{InHand}
use Rattle.queue_device.specs.declared.phase.Phase.{Phase}
use Rattle.queue_device.specs.declared.phase.Phase.TheVariants as phase
use Rattle.snap_devices.specs.Phases.{break_stage, return_stage}
use Rattle.snap_devices.specs.Marks.{of_queue}
use Rattle.snap_devices.specs.Queues.{queue, queue_marks, walk, walk_marks}
use Rattle.snap_devices.specs.Rounds.{which}

-- ---- a chain in hand

abbrev pub is_hand : InHand → Bool
is_hand c = is_sound c.queue

-- the number of its queue with what was accepted, that queue's registers, which have no flaw, and the chain's head
unfoldable pub hand_fields : Which → Accepted → Format InHand
hand_fields k a =
    variant (λ (queue, head). record { which = k; queue = queue; head = head }) (λ c. (c.queue, c.head)) (λ _. refl) (queue a & number16)

unfoldable pub hand_by : Which → Accepted → Format InHand
hand_by k a = passing is_hand (hand_fields k a)

pub hand_marks : (k : Which) (a : Accepted) (c : InHand) → (hand_by k a).Fits c → (k ≡ c.which) × (a ≡ c.queue.accepted)
unfolding hand_by hand_fields
hand_marks k a c fits = (sym (ap (λ (x : InHand). x.which) fits.0.0), queue_marks a c.queue fits.0.1.0)

unfoldable pub hand : Format InHand
hand = of_queue hand_by (λ c. c.which) (λ c. c.queue.accepted) hand_marks

-- ---- a walk of the next chain of a queue

unfoldable pub walked_by : Which → Accepted → Format (Which × Walking)
walked_by k a = variant (λ w. (k, w)) (λ v. v.1) (λ _. refl) (walk a)

pub walked_marks : (k : Which) (a : Accepted) (v : Which × Walking) → (walked_by k a).Fits v → (k ≡ v.0) × (a ≡ v.1.queue.accepted)
unfolding walked_by
walked_marks k a v fits = (sym (ap (λ (x : Which × Walking). x.0) fits.0), walk_marks a v.1 fits.1)

-- the number of the queue with what was accepted, and the walk
unfoldable pub walked : Format (Which × Walking)
walked = of_queue walked_by (λ v. v.0) (λ v. v.1.queue.accepted) walked_marks

-- ---- where it is: a byte, and behind it what it is at

abbrev pub place_code : Phase → ℕ
place_code phase.Between = 0
place_code phase.Question = 1
place_code (phase.Walk k w) = 2
place_code (phase.Take c) = 3
place_code (phase.Serve c) = 4
place_code (phase.Return c len stage) = 5
place_code (phase.Break k stage) = 6

-- the queue that is walked, and the walk
abbrev pub walked_of : Phase → Which × Walking
walked_of (phase.Walk k w) = (k, w)
walked_of _ = (First, walk_of (no_queue 0) 0)

abbrev pub no_hand : InHand
no_hand = record { which = First; queue = no_queue 0; head = 0 }

abbrev pub hand_of : Phase → InHand
hand_of (phase.Take c) = c
hand_of (phase.Serve c) = c
hand_of _ = no_hand

-- how many bytes were written, how far the chain is given back, and the chain
abbrev pub returned_of : Phase → ℕ × (ReturnStage × InHand)
returned_of (phase.Return c len stage) = (len, (stage, c))
returned_of _ = (0, (returning.Pair, no_hand))

-- the queue that is broken, and how far that is told
abbrev pub broken_of : Phase → Which × BreakStage
broken_of (phase.Break k stage) = (k, stage)
broken_of _ = (First, breaking.Port)

abbrev pub places : ℕ → Format Phase
places zero = just phase.Between
places (suc zero) = just phase.Question
places (suc (suc zero)) = variant (λ w. phase.Walk w.0 w.1) walked_of (λ _. refl) walked
places (suc (suc (suc zero))) = variant phase.Take hand_of (λ _. refl) hand
places (suc (suc (suc (suc zero)))) = variant phase.Serve hand_of (λ _. refl) hand
places (suc (suc (suc (suc (suc zero))))) =
    variant (λ r. phase.Return r.1.1 r.0 r.1.0) returned_of (λ _. refl) (number32 & return_stage & hand)
places (suc (suc (suc (suc (suc (suc zero)))))) =
    variant (λ b. phase.Break b.0 b.1) broken_of (λ _. refl) (which & break_stage)
places (suc (suc (suc (suc (suc (suc (suc n))))))) = nothing

pub place_code-is : (code : ℕ) (p : Phase) → (places code).Fits p → code ≡ place_code p
place_code-is zero p fits = sym (ap place_code fits)
place_code-is (suc zero) p fits = sym (ap place_code fits)
place_code-is (suc (suc zero)) p fits = sym (ap place_code fits.0)
place_code-is (suc (suc (suc zero))) p fits = sym (ap place_code fits.0)
place_code-is (suc (suc (suc (suc zero)))) p fits = sym (ap place_code fits.0)
place_code-is (suc (suc (suc (suc (suc zero))))) p fits = sym (ap place_code fits.0)
place_code-is (suc (suc (suc (suc (suc (suc zero)))))) p fits = sym (ap place_code fits.0)
place_code-is (suc (suc (suc (suc (suc (suc (suc n))))))) p fits = absurd fits

unfoldable pub place : Format Phase
place = chosen_by byte places place_code place_code-is
