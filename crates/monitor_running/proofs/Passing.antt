-- What the first pass knows of its gate, slice after slice.
use Rattle.std.specs.Prelude.{MatchBool}
use Rattle.std.proofs.Common.{Bool, true, false, ◌≡◌, ◌+◌, ℕ, suc, ◌<◌, refl, ap, ◌∙◌, arith, List, [], ◌∷◌, length, slice_get, Option, Some, None, All}
use Rattle.pause_gate.specs.Tally.{Tally}
use Rattle.vm_types.specs.declared.entry.Entry.{Entry}
use Rattle.vm_world.specs.Worlds.{WorldValue}
use Rattle.slice_runner.specs.declared.stop.Stopped.{Stopped}
use Rattle.slice_runner.specs.Stops.{AreStopped}
use Rattle.monitor_running.specs.declared.ran.Ran.{Ran}
use Rattle.monitor_running.specs.declared.ran.Ran.TheVariants as ran
use Rattle.monitor_running.specs.Passes.{ArePassed, AtFirst, FirstSaw, NeverFell}

first_of : {A : Type 0} (xs : List A) (n : ℕ) → length xs ≡ suc n → (x : A) × (slice_get xs 0 ≡ Some x)
first_of [] n is = absurd (omega (arith, is))
first_of (x ∷ xs) n is = (x, refl)

first_there : {A : Type 0} (xs : List A) → 0 < length xs → (x : A) × (slice_get xs 0 ≡ Some x)
first_there [] is = absurd (omega (arith, is))
first_there (x ∷ xs) is = (x, refl)

never_fell : {Q : Type 0} (tally : Q → Tally) (n devices : ℕ) (old : WorldValue) (events : List Entry) (now : WorldValue) (stops : List Stopped)
    (before after : List Q) → AreStopped tally n devices old events now stops before after → AtFirst (NeverFell tally) before after
never_fell tally n devices old events now stops before after are p q is later =
    let s = first_of stops (length now.harts + devices) are.count in
    let stopped = are.each 0 s.0 p q s.1 is later in
    let gate = stopped.cause.gate in
    omega (arith, gate)

-- a slice was made
pub passed_slice : {Q : Type 0} (serves : Q → Type 0) (tally : Q → Tally) (n devices : ℕ) (old : WorldValue) (events : List Entry) (now : WorldValue)
    (stops : List Stopped) (before after : List Q) → AreStopped tally n devices old events now stops before after → All serves after
    → length after ≡ length before → ArePassed serves tally None before after
passed_slice serves tally n devices old events now stops before after are serve same =
    record { serve = serve; same = same; first = never_fell tally n devices old events now stops before after are }

-- an end that the gate did not make
pub passed_end : {Q : Type 0} (serves : Q → Type 0) (tally : Q → Tally) (end : Ran) (before after : List Q)
    → (Some end ≡ Some ran.Closed → ⊥) → All serves after → length after ≡ length before
    → ArePassed serves tally (Some end) before after
passed_end {Q} serves tally end before after other serve same =
    record { serve = serve; same = same; first = unseen end other }
  where
    unseen : (e : Ran) → (Some e ≡ Some ran.Closed → ⊥) → FirstSaw tally (Some e) before after
    unseen ran.Closed not = absurd (not refl)
    unseen ran.Off not = tt
    unseen ran.TraceFailed not = tt
    unseen ran.SinkFailed not = tt
    unseen ran.OutOfMemory not = tt

-- whatever was made behind it, in which the gate was not asked
pub passed_by : {Q : Type 0} (serves : Q → Type 0) (tally : Q → Tally) (end : Option Ran) (before after : List Q)
    → (end ≡ Some ran.Closed → ⊥) → ArePassed serves tally None before after → ArePassed serves tally end before after
passed_by serves tally None before after other are = are
passed_by serves tally (Some end) before after other are = passed_end serves tally end before after other are.serve are.same

-- a closed gate was found, and that is the end or the guest was off
pub passed_closed : {Q : Type 0} (serves : Q → Type 0) (tally : Q → Tally) (end : Ran) (before after : List Q)
    → ArePassed serves tally (Some ran.Closed) before after → ArePassed serves tally (Some end) before after
passed_closed serves tally end before after are =
    record { serve = are.serve; same = are.same; first = saw end }
  where
    saw : (e : Ran) → FirstSaw tally (Some e) before after
    saw ran.Closed = are.first
    saw ran.Off = tt
    saw ran.TraceFailed = tt
    saw ran.SinkFailed = tt
    saw ran.OutOfMemory = tt

-- a closed gate was found, and whoever asks next finds it so
still : {Q : Type 0} (serves : Q → Type 0) (tally : Q → Tally) (before after : List Q)
    → ArePassed serves tally (Some ran.Closed) before after → ArePassed serves tally None before after
still serves tally before after are = record {
  serve = are.serve;
  same = are.same;
  first = λ p q is later. let rose = are.first p q is later in omega (arith, rose);
}

-- whatever was found
pub passed_looked : {Q : Type 0} (serves : Q → Type 0) (tally : Q → Tally) (found : Bool) (before after : List Q)
    → MatchBool found (ArePassed serves tally None before after) (ArePassed serves tally (Some ran.Closed) before after)
    → ArePassed serves tally None before after
passed_looked serves tally true before after are = are
passed_looked serves tally false before after are = still serves tally before after are

some_same : {A : Type 0} (o : Option A) (x y : A) → o ≡ Some x → o ≡ Some y → x ≡ y
some_same o x y first last = cc

-- nothing was asked
pub passed_none : {Q : Type 0} (serves : Q → Type 0) (tally : Q → Tally) (passes : List Q) → All serves passes
    → ArePassed serves tally None passes passes
passed_none serves tally passes serve = record {
  serve = serve;
  same = refl;
  first = λ p q first last.
      let same = ap (λ (x : _). (tally x).closed) (some_same (slice_get passes 0) p q first last) in omega (arith, same);
}

-- and once more
pub passed_on : {Q : Type 0} (serves : Q → Type 0) (tally : Q → Tally) (end : Option Ran) (before mid after : List Q)
    → 0 < length before → ArePassed serves tally None before mid → ArePassed serves tally end mid after
    → ArePassed serves tally end before after
passed_on {Q} serves tally end before mid after some first last =
    record { serve = last.serve; same = last.same ∙ first.same; first = saw end last.first }
  where
    there : (r : Q) × (slice_get mid 0 ≡ Some r)
    there = first_there mid (omega (arith, first.same, some))

    saw : (e : Option Ran) → FirstSaw tally e mid after → FirstSaw tally e before after
    saw None then = λ p q is later.
        let a = first.first p there.0 is there.1 in
        let b = then there.0 q there.1 later in
        omega (arith, a, b)
    saw (Some ran.Closed) then = λ p q is later.
        let a = first.first p there.0 is there.1 in
        let b = then there.0 q there.1 later in
        omega (arith, a, b)
    saw (Some ran.Off) then = tt
    saw (Some ran.TraceFailed) then = tt
    saw (Some ran.SinkFailed) then = tt
    saw (Some ran.OutOfMemory) then = tt
