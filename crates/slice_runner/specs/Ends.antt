-- Actors that begin a slice at its places, and end it.
use Rattle.std.specs.Prelude.{ℕ, ◌≡◌, ◌<◌, List, [], ◌∷◌, length, slice_index_or}
use Rattle.pause_gate.specs.Tally.{Tally}
use Rattle.vm_host.specs.Telling.{ClockKnown}
use Rattle.vm_types.specs.declared.op.OutOp.{OutOp}
use Rattle.vm_types.specs.declared.reply.Reply.{Reply}
use Rattle.slice_runner.specs.declared.places.Places.{Places}
use Rattle.slice_runner.specs.declared.worker.DeviceWorker.{DeviceWorker}
use Rattle.slice_runner.specs.declared.worker.HartWorker.{HartWorker}
use Rattle.slice_runner.specs.declared.worker.TimerWorker.{TimerWorker}
use Rattle.slice_runner.specs.declared.worker.Track.{Track}
use Rattle.slice_runner.specs.Runs.{AreAnswered, Begins, DeviceWorked, HartWorked, HasAnswered, TimerWorked}
use Rattle.slice_runner.specs.Seats.{IsSeated, StaysSeated}
use Rattle.slice_runner.specs.Slices.{answers_of}
use Rattle.slice_runner.specs.Stops.{timer_most}

-- an actor that begins a slice at its places with a pass of its gate
pub record IsReady {Q : Type 0} (serves : Q → Type 0) (places : Places) (n : ℕ) (track : Track Q) : Type 0 where
  pub pass : serves track.pass
  pub seat : IsSeated places track.work
  pub begins : Begins n (length track.pool.items) track

-- and ends it
pub record HartEnds {Q : Type 0} (serves : Q → Type 0) (tally : Q → Tally) (places : Places) (n : ℕ) (before after : HartWorker Q) :
    Type 0 where
  pub pass : serves after.track.pass
  pub seat : StaysSeated places before.track.work after.track.work
  pub worked : HartWorked tally places.layout places.made.items n before after

pub record TimerEnds {Q : Type 0} (serves : Q → Type 0) (tally : Q → Tally) (places : Places) (n : ℕ) (asked now : ClockKnown)
    (before after : TimerWorker Q) : Type 0 where
  pub pass : serves after.track.pass
  pub seat : StaysSeated places before.track.work after.track.work
  pub worked : TimerWorked tally places.layout places.made.items n before after
  pub answers : HasAnswered asked (answers_of after.track.work.journal.items) now

pub record DeviceEnds {Q K : Type 0} (serves : Q → Type 0) (tally : Q → Tally) (Answers : ℕ → OutOp → Reply → K → K → Type 0)
    (places : Places) (n : ℕ) (known left : K) (before after : DeviceWorker Q) : Type 0 where
  pub pass : serves after.track.pass
  pub seat : StaysSeated places before.track.work after.track.work
  pub worked : DeviceWorked tally places.layout places.made.items n before after
  pub number : after.number ≡ before.number
  pub answers : AreAnswered Answers before.number known after.track.work.journal.items left

-- each hart of the list does
pub record HartsWorked {Q : Type 0} (serves : Q → Type 0) (tally : Q → Tally) (places : Places) (n : ℕ)
    (before after : List (HartWorker Q)) : Type 0 where
  pub same : length after ≡ length before
  pub each : (i : ℕ) (d : HartWorker Q) → i < length before
      → HartEnds serves tally places n (slice_index_or before i d) (slice_index_or after i d)

-- and each device, one after another
abbrev pub DevicesWorked : {Q K : Type 0} → (Q → Type 0) → (Q → Tally) → (ℕ → OutOp → Reply → K → K → Type 0) → Places → ℕ → K → K
    → List (DeviceWorker Q) → List (DeviceWorker Q) → Type 0
DevicesWorked serves tally Answers places n known left [] [] = left ≡ known
DevicesWorked {Q} {K} serves tally Answers places n known left (before ∷ befores) (after ∷ afters) =
    (mid : K) × DeviceEnds serves tally Answers places n known mid before after
    × DevicesWorked serves tally Answers places n mid left befores afters
DevicesWorked serves tally Answers places n known left befores afters = ⊥

-- the worker beside the harts ends: the timer, and each device
pub record BesideEnds {Q K : Type 0} (serves : Q → Type 0) (tally : Q → Tally) (Answers : ℕ → OutOp → Reply → K → K → Type 0)
    (places : Places) (n : ℕ) (asked now : ClockKnown) (known left : K) (before after : TimerWorker Q)
    (befores afters : List (DeviceWorker Q)) : Type 0 where
  pub timer : TimerEnds serves tally places (timer_most n) asked now before after
  pub devices : DevicesWorked serves tally Answers places n known left befores afters
