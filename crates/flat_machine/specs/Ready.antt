-- A machine of whose guest, once it has started, each copy passes the tests of a state file.
use Rattle.std.specs.Prelude.{ℕ, ◌≡◌, ◌<◌, ◌≤◌, ◌*◌, ◌^◌, Bool, true, List, [], length, IsTrue, Option, Some, None}
use Rattle.vm_types.specs.declared.identity.Identity.{Identity}
use Rattle.vm_types.specs.declared.ids.ActorId.TheVariants.{Timer}
use Rattle.api_calls.specs.declared.balloon.Balloon.{Balloon}
use Rattle.api_calls.specs.declared.entropy.Entropy.{Entropy}
use Rattle.api_calls.specs.declared.call.BootSource.{BootSource}
use Rattle.api_calls.specs.declared.call.Drive.{Drive}
use Rattle.api_calls.specs.declared.call.MachineConfig.{MachineConfig}
use Rattle.api_calls.specs.declared.interface.Interface.{Interface}
use Rattle.api_calls.specs.declared.mmds.MmdsConfig.{MmdsConfig}
use Rattle.api_calls.specs.declared.vsock.Vsock.{Vsock}
use Rattle.api_calls.specs.Form.{holds, is_path}
use Rattle.api_calls.specs.Limits.{is_limiter}
use Rattle.vm_config.specs.declared.config.Config.{Config}
use Rattle.api_calls.specs.declared.call.ApiCall.{ApiCall}
use Rattle.api_calls.specs.declared.call.ApiCall.TheVariants as call
use Rattle.vm_config.specs.Changes.{with_fields}
use Rattle.vm_config.specs.Drives.{put_drive}
use Rattle.vm_config.specs.Interfaces.{put_interface}
use Rattle.guest_memory.specs.Ram.{page_size}
use Rattle.flat_guest.specs.Changes.{reset_guest}
use Rattle.flat_guest.specs.Guest.{Guest}
use Rattle.flat_guest.specs.Sound.{IsSound}
use Rattle.snap_state.specs.Valid.{are_drives, are_interfaces, has_room, is_balloon, is_entropy, is_machine, is_mmds, is_source, is_valid, is_vsock}
use Rattle.snap_state.specs.declared.copy.StateCopy.{StateCopy}
use Rattle.file_format.specs.Identities.{is_numbered}
use Rattle.file_format.specs.Versions.{current_version}
use Rattle.snap_state.specs.Files.{contents, contents_of}
use Rattle.flat_snapshot.specs.Copies.{IsCopyOf, source_of}
use Rattle.flat_snapshot.specs.Ready.{IsReady}
use Rattle.flat_machine.specs.Machine.{Machine}
use Rattle.flat_machine.specs.Requests.{next_identity}

-- a boot source that is configured is one that the API takes
abbrev pub IsSourceBy : Option BootSource → Type 0
IsSourceBy None = Unit {0}
IsSourceBy (Some source) = is_source (source_of (Some source)) ≡ true

-- what is configured is as the API takes it: the boot source, if there is one; the drives, which are told apart, and of
-- which one at most is the root drive; the interfaces, which are told apart; the vsock device, if there is one; where metadata are given,
-- at interfaces that are there; how many harts and how much memory there is; the balloon, if there is one, which takes no more than that;
-- the entropy device, if there is one; and no more devices than there may be
pub record IsTaken (config : Config) : Type 0 where
  pub source : IsSourceBy config.boot_source
  pub drives : are_drives config.drives ≡ true
  pub interfaces : are_interfaces config.interfaces ≡ true
  pub vsock : holds is_vsock config.vsock ≡ true
  pub mmds : holds (is_mmds config.interfaces) config.mmds ≡ true
  pub machine : is_machine config.machine ≡ true
  pub balloon : holds (is_balloon config.machine.mem_size_mib) config.balloon ≡ true
  pub entropy : holds is_entropy config.entropy ≡ true
  pub room : has_room config.drives config.interfaces config.vsock config.balloon config.entropy ≡ true

-- these drives fit beside the interfaces, and a vsock device, a balloon and an entropy device, if there are such
abbrev pub AreFitting : List Drive → List Interface → Option Vsock → Option Balloon → Option Entropy → Type 0
AreFitting drives interfaces vsock balloon entropy =
    (are_drives drives ≡ true) × (has_room drives interfaces vsock balloon entropy ≡ true)

-- and so do these interfaces, and those at which metadata are given are among them
abbrev pub AreLinked : List Drive → List Interface → Option Vsock → Option Balloon → Option Entropy → Option MmdsConfig → Type 0
AreLinked drives interfaces vsock balloon entropy mmds =
    (are_interfaces interfaces ≡ true) × (has_room drives interfaces vsock balloon entropy ≡ true) × (holds (is_mmds interfaces) mmds ≡ true)

-- there may be such a machine, and it has the memory that the balloon is to take, if there is one
abbrev pub IsHeld : MachineConfig → Option Balloon → Type 0
IsHeld machine balloon = (is_machine machine ≡ true) × (holds (is_balloon machine.mem_size_mib) balloon ≡ true)

-- a call leaves it so
abbrev pub IsFitting : Config → ApiCall → Type 0
IsFitting config (call.PutBootSource source) = is_source (source_of (Some source)) ≡ true
IsFitting config (call.PutDrive drive) = AreFitting (put_drive config.drives drive) config.interfaces config.vsock config.balloon config.entropy
IsFitting config (call.PatchDrive patch) =
    (holds is_path patch.path_on_host ≡ true) × (holds is_limiter patch.rate_limiter ≡ true)
IsFitting config (call.PutInterface interface) =
    AreLinked config.drives (put_interface config.interfaces interface) config.vsock config.balloon config.entropy config.mmds
IsFitting config (call.PatchInterface patch) =
    (holds is_limiter patch.rx_rate_limiter ≡ true) × (holds is_limiter patch.tx_rate_limiter ≡ true)
IsFitting config (call.PutMachineConfig machine) = IsHeld machine config.balloon
IsFitting config (call.PatchMachineConfig patch) = IsHeld (with_fields patch config.machine) config.balloon
IsFitting config (call.PutVsock vsock) =
    (is_vsock vsock ≡ true) × (has_room config.drives config.interfaces (Some vsock) config.balloon config.entropy ≡ true)
IsFitting config (call.PutBalloon balloon) =
    (is_balloon config.machine.mem_size_mib balloon ≡ true) × (has_room config.drives config.interfaces config.vsock (Some balloon) config.entropy ≡ true)
IsFitting config (call.PutEntropy entropy) =
    (is_entropy entropy ≡ true) × (has_room config.drives config.interfaces config.vsock config.balloon (Some entropy) ≡ true)
IsFitting config (call.PatchBalloon patch) = patch.amount_mib ≤ config.machine.mem_size_mib
IsFitting config (call.PatchStatistics patch) = patch.stats_polling_interval_s < 2 ^ 16
IsFitting config (call.PutMmdsConfig mmds) = is_mmds config.interfaces mmds ≡ true
IsFitting config it = Unit {0}

-- The guest is never stuck, and has what is configured. Where it stands still, its timer is at its start.
pub record IsReadyGuest (config : Config) (paused : Bool) (g : Guest) : Type 0 where
  pub sound : IsSound g
  pub ready : IsReady config g
  pub rests : paused ≡ true → g.steps Timer ≡ []

abbrev pub ReadyBy : Config → Bool → Option Guest → Type 0
ReadyBy config paused None = Unit {0}
ReadyBy config paused (Some g) = IsReadyGuest config paused g

-- the base, if there is one, has a number from 1 on, below the one of the next snapshot
abbrev pub IsBaseBefore : ℕ → Option Identity → Type 0
IsBaseBefore next None = Unit {0}
IsBaseBefore next (Some base) = (1 ≤ base.number) × (base.number < next)

-- and the next snapshot has a number, from 1 on, above the one of the base
pub record Ready (m : Machine) : Type 0 where
  pub taken : IsTaken m.config
  pub guest : ReadyBy m.config m.paused m.guest
  pub next : 1 ≤ m.ids.next
  pub base : IsBaseBefore m.ids.next m.ids.base

-- each copy of its guest, as it is behind a Reset, passes each test of a state file, and its pages are all of the guest's memory
abbrev pub CanBeCopied : Machine → Type 0
CanBeCopied m =
    (g : Guest) (copy : StateCopy) → m.guest ≡ Some g → IsCopyOf m.config (reset_guest g) copy
    → IsTrue (is_valid copy) × (length g.memory.bytes ≡ page_size * copy.pages)

-- there is a copy of its guest, once it has started, as it is behind a Reset, each number of which fits its field of a state file
abbrev pub HasFields : Machine → Type 0
HasFields m =
    (g : Guest) → m.guest ≡ Some g → IsTrue (is_numbered (next_identity m))
    → (copy : StateCopy) × IsCopyOf m.config (reset_guest g) copy
    × (contents current_version).Fits (contents_of current_version (record { identity = next_identity m; copy = copy }))
