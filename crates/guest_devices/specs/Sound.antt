-- A device that is never stuck, and keeps to what is its own; and what is owed of a kind.
use Rattle.std.specs.Prelude.{ℕ, ◌≡◌, ◌≤◌, ◌^◌, true, false, Option, Some, None}
use Rattle.queue_device.specs.declared.lanes.Rounds.{Rounds}
use Rattle.queue_device.specs.declared.phase.Phase.{Phase}
use Rattle.queue_device.specs.Confined.{Confines, IsConfined}
use Rattle.queue_device.specs.Kept.{is_state}
use Rattle.queue_device.specs.Resuming as resuming
use Rattle.guest_devices.specs.declared.change.DeviceChange.{DeviceChange}
use Rattle.guest_devices.specs.declared.device.Device.{Device}
use Rattle.guest_devices.specs.Devices.{DeviceLeads, DeviceLeft, FlatDevice}
use Rattle.guest_devices.specs.Kept.{kept_of}
use Rattle.guest_devices.specs.Kinds.{ChangeOf, FitsChange, IsFineOf, Kind, OwnOf, StageOf, calls_of, change_for, changing_of}
use Rattle.guest_devices.specs.Kinds.{hand_of, is_fine_of, is_work_of, reset_for, service_of, times_of}

-- what is left of the device at this port, in a guest of so many pages, is told by kept data
abbrev pub HasKept : ℕ → ℕ → DeviceLeft → Type 0
HasKept port pages d =
    resuming.HasKept (service_of d.kind) (hand_of d.kind) (is_work_of d.kind) (IsFineOf d.kind) false (times_of d.kind) port pages d.left

-- from here on each act up to the end of the group is one of the device at this port, whatever is replied and changed; and in a
-- guest of fewer than 2^32 pages none touches a byte outside RAM
abbrev pub StaysOwn : ℕ → ℕ → DeviceLeft → Type 0
StaysOwn port pages d = IsConfined (service_of d.kind) (calls_of d.kind) port pages d.left

-- The device at this port keeps to its own, and in a guest of at most 2^20 pages kept data tell what is left of it.
pub record KeepsToItsOwn (port pages : ℕ) (left : DeviceLeft) : Type 0 where
  pub stays : StaysOwn port pages left
  pub kept : pages ≤ 2 ^ 20 → HasKept port pages left

-- the device at this port of a guest of so many pages: its items lead somewhere, and from there it keeps to its own
abbrev pub IsSoundDevice : ℕ → ℕ → FlatDevice → Type 0
IsSoundDevice port pages d = (left : DeviceLeft) × DeviceLeads d left × KeepsToItsOwn port pages left

-- data that its kind may have are such behind it
abbrev pub LeavesFine : (k : Kind) → Option (ChangeOf k) → Type 0
LeavesFine k None = Unit {0}
LeavesFine k (Some c) =
    (e : OwnOf k) → IsFineOf k e → IsFineOf k ((changing_of k).between c e) × IsFineOf k ((changing_of k).inside c e)

-- What is owed of a kind: it keeps to its own, and goes on from what is kept of it; a change that fits, and the Reset, leave data
-- that it may have, which the test finds; and its code can keep a state that it may be in.
pub record KindLaws (k : Kind) : Type 0 where
  pub confines : Confines (service_of k) (changing_of k) (times_of k) (calls_of k)
  pub resumes : resuming.Resumes (service_of k) (hand_of k) (is_work_of k) (IsFineOf k) false (changing_of k) (times_of k) (calls_of k)
  pub changed : (change : DeviceChange) → FitsChange change → LeavesFine k (change_for change k)
  pub reset : LeavesFine k (reset_for k)
  pub tested : (e : OwnOf k) → is_fine_of k e ≡ true → IsFineOf k e
  pub tests : (e : OwnOf k) → IsFineOf k e → is_fine_of k e ≡ true
  pub held : (p : Phase) (r : Rounds) (e : OwnOf k) (g : StageOf k)
      → is_state (service_of k) (times_of k) (is_work_of k) p r g ≡ true
      → (it : Device) × (kept_of it ≡ record { kind = k; phase = p; rounds = r; own = e; stage = g })
