-- What a start comes to, by the configuration and what the files hold.
use Rattle.std.specs.Prelude.{◌≡◌, ℕ, List, [], ◌∷◌, ◌++◌, map, Option, Some, None}
use Rattle.vm_types.specs.Saved.{Saved}
use Rattle.api_calls.specs.declared.balloon.Balloon.{Balloon}
use Rattle.api_calls.specs.declared.entropy.Entropy.{Entropy}
use Rattle.api_calls.specs.declared.interface.Interface.{Interface}
use Rattle.api_calls.specs.declared.vsock.Vsock.{Vsock}
use Rattle.vm_config.specs.declared.config.Config.{Config}
use Rattle.guest_devices.specs.declared.new_device.NewDevice.{NewDevice}
use Rattle.guest_devices.specs.declared.new_device.NewDevice.TheVariants as starts
use Rattle.guest_devices.specs.Moments.{IsGivenNew}
use Rattle.flat_guest.specs.Start.{started}
use Rattle.flat_machine.specs.Balloon.{new_balloon}
use Rattle.flat_machine.specs.Entropy.{new_entropy}
use Rattle.flat_machine.specs.Interfaces.{new_net}
use Rattle.flat_machine.specs.Vsock.{new_vsock}
use Rattle.flat_machine.specs.Requests.{disk_by, devices_from, image_by, initrd_name, loads_from, start_refusal}
use Rattle.vm_world.specs.Worlds.{IsWorld}
use Rattle.monitor_plans.specs.declared.plan.Plan.{Plan}
use Rattle.monitor_plans.specs.declared.plan.Plan.TheVariants as plan

-- the kernel image, if there is one, and the initial RAM disk
abbrev pub image_in : Config → Saved → Option (List ℕ)
image_in config saved = image_by config.boot_source saved

abbrev pub disk_in : Config → Saved → Option (List ℕ)
disk_in config saved = disk_by (initrd_name config.boot_source) saved

-- it is a block device, which may start so
abbrev pub FitsDrive : NewDevice → Type 0
FitsDrive (starts.Block d) = IsGivenNew (starts.Block d)
FitsDrive (starts.Net n) = ⊥
FitsDrive (starts.Vsock v) = ⊥
FitsDrive (starts.Balloon b) = ⊥
FitsDrive (starts.Entropy e) = ⊥

-- what the device of an interface starts with
abbrev pub net_start : Interface → NewDevice
net_start i = starts.Net (new_net i)

-- the entropy device stands last
abbrev pub with_entropy : List NewDevice → Option Entropy → List NewDevice
with_entropy drives None = drives
with_entropy drives (Some e) = drives ++ starts.Entropy (new_entropy e) ∷ []

-- the balloon stands before it
abbrev pub with_balloon : List NewDevice → Option Balloon → List NewDevice
with_balloon drives None = drives
with_balloon drives (Some b) = drives ++ starts.Balloon (new_balloon b) ∷ []

-- and the vsock device before that
abbrev pub with_vsock : List NewDevice → Option Vsock → List NewDevice
with_vsock drives None = drives
with_vsock drives (Some v) = drives ++ starts.Vsock (new_vsock v) ∷ []

-- the devices of the interfaces stand behind the drives, and before those
abbrev pub with_others : List NewDevice → List Interface → Option Vsock → Option Balloon → Option Entropy → List NewDevice
with_others drives interfaces vsock balloon entropy =
    with_entropy (with_balloon (with_vsock (drives ++ map net_start interfaces) vsock) balloon) entropy

abbrev pub StartGives : Plan → Config → Saved → Type 0
StartGives (plan.Starts w) config saved =
    (start_refusal config saved ≡ None) × (image : List ℕ) × (image_in config saved ≡ Some image)
    × IsWorld w (started config.machine.vcpu_count config.machine.mem_size_mib (loads_from config image (disk_in config saved))
    (devices_from config saved))
StartGives (plan.Refused why) config saved = start_refusal config saved ≡ Some why
StartGives plan.FilesFailed config saved = Unit {0}
StartGives plan.NoMemory config saved = Unit {0}
StartGives it config saved = ⊥
