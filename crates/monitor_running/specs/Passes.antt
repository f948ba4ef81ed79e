-- What the passes know of the gate.
use Rattle.std.specs.Prelude.{◌≡◌, ◌≤◌, ◌<◌, All, List, Option, Some, None, length, slice_get}
use Rattle.pause_gate.specs.Tally.{Tally}
use Rattle.monitor_running.specs.declared.ran.Ran.{Ran}
use Rattle.monitor_running.specs.declared.ran.Ran.TheVariants as ran

-- what the first pass was, and what it is
abbrev pub AtFirst : {Q : Type 0} → (Q → Q → Type 0) → List Q → List Q → Type 0
AtFirst {Q} Is before after =
    (p q : Q) → slice_get before 0 ≡ Some p → slice_get after 0 ≡ Some q → Is p q

-- its count of closed answers did not fall, or it rose
abbrev pub NeverFell : {Q : Type 0} → (Q → Tally) → Q → Q → Type 0
NeverFell tally p q = (tally p).closed ≤ (tally q).closed

abbrev pub HasRisen : {Q : Type 0} → (Q → Tally) → Q → Q → Type 0
HasRisen tally p q = (tally p).closed < (tally q).closed

-- where slices go on it did not fall, and where the gate ended them it rose
abbrev pub FirstSaw : {Q : Type 0} → (Q → Tally) → Option Ran → List Q → List Q → Type 0
FirstSaw tally None before after = AtFirst (NeverFell tally) before after
FirstSaw tally (Some ran.Closed) before after = AtFirst (HasRisen tally) before after
FirstSaw tally end before after = Unit {0}

-- the passes are as many, and still of their gate
pub record ArePassed {Q : Type 0} (serves : Q → Type 0) (tally : Q → Tally) (end : Option Ran) (before after : List Q) :
    Type 0 where
  pub serve : All serves after
  pub same : length after ≡ length before
  pub first : FirstSaw tally end before after
