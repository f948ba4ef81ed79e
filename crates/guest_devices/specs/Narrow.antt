-- A device of which each number that is kept has its width, and what is owed of a kind for it.
use Rattle.std.specs.Prelude.{ℕ, ◌≡◌, true, Option, Some, None}
use Rattle.queue_device.specs.declared.lanes.Rounds.{Rounds}
use Rattle.queue_device.specs.declared.phase.Phase.{Phase}
use Rattle.queue_device.specs.declared.phase.Work.{Work}
use Rattle.queue_device.specs.Kept.{is_state}
use Rattle.queue_device.specs.Resuming as resuming
use Rattle.queue_device.specs.Sizes.{IsNarrowPhase, IsSmallWrite}
use Rattle.guest_devices.specs.declared.change.DeviceChange.{DeviceChange}
use Rattle.guest_devices.specs.declared.device.Device.{Device}
use Rattle.guest_devices.specs.declared.new_device.NewDevice.{NewDevice}
use Rattle.guest_devices.specs.Devices.{DeviceLeads, DeviceLeft, FlatDevice}
use Rattle.guest_devices.specs.Kept.{KeptDevice, kept_of}
use Rattle.guest_devices.specs.Kinds.{ChangeOf, FitsChange, IsFineOf, IsSizedOf, IsSmallChange, IsSmallOf, Kind, OwnOf, SizedOf}
use Rattle.guest_devices.specs.Kinds.{calls_of, change_for, changing_of, hand_of, is_sized_work_of, is_work_of, kind_at_start}
use Rattle.guest_devices.specs.Kinds.{own_at_start, reset_for, service_of, sized_hand_of, stage_in, times_of}

-- narrow data tell what is left of the device at this port, in a guest of so many pages
abbrev pub HasNarrow : ℕ → ℕ → DeviceLeft → Type 0
HasNarrow port pages d =
    resuming.HasKept (service_of d.kind) (sized_hand_of d.kind) (is_sized_work_of d.kind) (IsSizedOf d.kind) true (times_of d.kind)
    port pages d.left

abbrev pub IsNarrowDevice : ℕ → ℕ → FlatDevice → Type 0
IsNarrowDevice port pages d = (left : DeviceLeft) × DeviceLeads d left × HasNarrow port pages left

-- what it starts with
abbrev pub IsNarrowNew : NewDevice → Type 0
IsNarrowNew what = IsSizedOf (kind_at_start what) (own_at_start what)

-- what the code keeps of it
abbrev pub IsNarrow : KeptDevice → Type 0
IsNarrow d = resuming.AreShort true d.rounds × IsNarrowPhase d.phase × IsSmallOf d.kind d.stage × IsSizedOf d.kind d.own

abbrev pub IsNarrowKept : Device → Type 0
IsNarrowKept d = IsNarrow (kept_of d)

-- data of their widths are such behind it
abbrev pub LeavesSized : (k : Kind) → Option (ChangeOf k) → Type 0
LeavesSized k None = Unit {0}
LeavesSized k (Some c) =
    (e : OwnOf k) → IsSizedOf k e → IsSizedOf k ((changing_of k).between c e) × IsSizedOf k ((changing_of k).inside c e)

-- What is owed of a kind: it goes on from what is kept of it, and a change and the Reset leave its data so; what it writes are bytes;
-- and what it keeps is what its code keeps.
pub record NarrowLaws (k : Kind) : Type 0 where
  pub resumes :
      resuming.Resumes (service_of k) (sized_hand_of k) (is_sized_work_of k) (IsSizedOf k) true (changing_of k) (times_of k) (calls_of k)
  pub changed : (change : DeviceChange) → FitsChange change → IsSmallChange change → LeavesSized k (change_for change k)
  pub reset : LeavesSized k (reset_for k)
  pub asks : (e : OwnOf k) → IsSmallWrite ((service_of k).question e)
  pub writes : (pages : ℕ) (w : Work) (g : SizedOf k) → is_sized_work_of k w pages g ≡ true → IsSmallWrite (sized_hand_of k g).op
  pub fine : (e : OwnOf k) → IsSizedOf k e → IsFineOf k e
  pub small : (g : SizedOf k) → IsSmallOf k (stage_in k g)
  pub hand : (g : SizedOf k) → sized_hand_of k g ≡ hand_of k (stage_in k g)
  pub state : (p : Phase) (r : Rounds) (g : SizedOf k) → is_state (service_of k) (times_of k) (is_sized_work_of k) p r g ≡ true
      → is_state (service_of k) (times_of k) (is_work_of k) p r (stage_in k g) ≡ true
