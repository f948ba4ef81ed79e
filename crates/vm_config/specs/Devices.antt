-- The devices of a machine by their numbers: the root drive, the other drives, the interfaces, the vsock device, the balloon and the
-- entropy device. Drives and interfaces are in the order of their first PUT.
use Rattle.std.specs.Prelude.{ℕ, ◌+◌, List, [], ◌∷◌, ◌++◌, length, map, Option, Some, None, option_map}
use Rattle.std.specs.List.{position}
use Rattle.api_calls.specs.declared.balloon.Balloon.{Balloon}
use Rattle.api_calls.specs.declared.call.Drive.{Drive}
use Rattle.api_calls.specs.declared.entropy.Entropy.{Entropy}
use Rattle.api_calls.specs.declared.interface.Interface.{Interface}
use Rattle.api_calls.specs.declared.vsock.Vsock.{Vsock}
use Rattle.vm_config.specs.declared.config.Config.{Config}
use Rattle.vm_config.specs.Drives.{in_order}
use Rattle.vm_config.specs.Interfaces.{is_interface}

-- what is configured of a device
pub data Configured : Type 0 where
  of_drive : Drive → Configured
  of_interface : Interface → Configured
  of_vsock : Vsock → Configured
  of_balloon : Balloon → Configured
  of_entropy : Entropy → Configured

abbrev pub vsock_devices : Option Vsock → List Configured
vsock_devices None = []
vsock_devices (Some v) = of_vsock v ∷ []

abbrev pub balloon_devices : Option Balloon → List Configured
balloon_devices None = []
balloon_devices (Some b) = of_balloon b ∷ []

abbrev pub entropy_devices : Option Entropy → List Configured
entropy_devices None = []
entropy_devices (Some e) = of_entropy e ∷ []

-- those that a machine has one of at most
abbrev pub lone_devices : Option Vsock → Option Balloon → Option Entropy → List Configured
lone_devices vsock balloon entropy = vsock_devices vsock ++ (balloon_devices balloon ++ entropy_devices entropy)

abbrev pub devices_in : List Drive → List Interface → Option Vsock → Option Balloon → Option Entropy → List Configured
devices_in drives interfaces vsock balloon entropy =
    map of_drive (in_order drives) ++ (map of_interface interfaces ++ lone_devices vsock balloon entropy)

abbrev pub devices_of : Config → List Configured
devices_of config = devices_in config.drives config.interfaces config.vsock config.balloon config.entropy

-- how many there are
abbrev pub vsock_count : Option Vsock → ℕ
vsock_count None = 0
vsock_count (Some v) = 1

abbrev pub balloon_count : Option Balloon → ℕ
balloon_count None = 0
balloon_count (Some b) = 1

abbrev pub entropy_count : Option Entropy → ℕ
entropy_count None = 0
entropy_count (Some e) = 1

abbrev pub count_in : List Drive → List Interface → Option Vsock → Option Balloon → Option Entropy → ℕ
count_in drives interfaces vsock balloon entropy =
    length drives + length interfaces + vsock_count vsock + balloon_count balloon + entropy_count entropy

abbrev pub device_count : Config → ℕ
device_count config = count_in config.drives config.interfaces config.vsock config.balloon config.entropy

-- the number of the device that the interface of this id is, and that of the balloon's
abbrev pub interface_device : Config → List ℕ → Option ℕ
interface_device config id = option_map (λ k. length config.drives + k) (position (is_interface id) config.interfaces)

abbrev pub balloon_device : Config → Option ℕ
balloon_device config =
    option_map (λ b. length config.drives + length config.interfaces + vsock_count config.vsock) config.balloon
