-- How a request went.
use Rattle.std.specs.Prelude.{ℕ, ◌≡◌, ◌+◌, List, [], ◌∷◌, map, Option, None}
use Rattle.guest_devices.specs.declared.device.Device.{Device}

-- what a create left where one of its calls on the files failed: what was kept of the devices, how many of its calls were
-- begun, the oldest first, and what its two names hold, if they hold anything
pub record Left : Type 0 where
  pub kept : List Device
  pub begun : ℕ
  pub memory : Option (List ℕ)
  pub state : Option (List ℕ)

-- what each other call of the API left
abbrev pub nothing_left : Left
nothing_left = record { kept = []; begun = 0; memory = None; state = None }

-- Answered by the machine, with what was kept of the devices where a snapshot was written; 500 because a call on the files
-- failed, with what it left; or 503 for want of memory. The run goes on after each.
pub data Outcome : Type 0 where
  Answered : List Device → Outcome
  Failed : Left → Outcome
  NoMemory : Outcome

-- answered by the machine, each of them
abbrev pub AreAnswered : List Outcome → Type 0
AreAnswered [] = Unit {0}
AreAnswered (Answered kept ∷ outcomes) = AreAnswered outcomes
AreAnswered (outcome ∷ outcomes) = ⊥

-- what was kept of the devices, request by request
abbrev pub kept_by : Outcome → List Device
kept_by (Answered kept) = kept
kept_by outcome = []

abbrev pub kept_in : List Outcome → List (List Device)
kept_in outcomes = map kept_by outcomes

-- nothing was kept of them in any of these
abbrev pub KeepNone : List Outcome → Type 0
KeepNone [] = Unit {0}
KeepNone (outcome ∷ outcomes) = (kept_by outcome ≡ []) × KeepNone outcomes

-- how many were answered 500, and how many 503
abbrev pub failed_in : List Outcome → ℕ
failed_in [] = 0
failed_in (Failed left ∷ outcomes) = 1 + failed_in outcomes
failed_in (outcome ∷ outcomes) = failed_in outcomes

abbrev pub short_in : List Outcome → ℕ
short_in [] = 0
short_in (NoMemory ∷ outcomes) = 1 + short_in outcomes
short_in (outcome ∷ outcomes) = short_in outcomes
