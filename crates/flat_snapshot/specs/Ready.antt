-- A guest, and what is configured of its machine, whose copy passes each test of a state file.
use Rattle.std.specs.Prelude.{◌≡◌, ◌*◌, true, length}
use Rattle.api_calls.specs.Form.{holds}
use Rattle.vm_config.specs.declared.config.Config.{Config}
use Rattle.vm_config.specs.Devices.{device_count}
use Rattle.flat_guest.specs.Guest.{Guest}
use Rattle.flat_guest.specs.Shaped.{IsShaped}
use Rattle.snap_state.specs.Valid.{are_drives, are_interfaces, has_room, is_balloon, is_entropy, is_machine, is_mmds, is_source, is_vsock, kinds_of}
use Rattle.flat_snapshot.specs.Copies.{configuration_of, source_of}

-- as the API takes it, with what is booted
pub record IsConfigured (config : Config) : Type 0 where
  pub source : is_source (source_of config.boot_source) ≡ true
  pub drives : are_drives config.drives ≡ true
  pub interfaces : are_interfaces config.interfaces ≡ true
  pub vsock : holds is_vsock config.vsock ≡ true
  pub mmds : holds (is_mmds config.interfaces) config.mmds ≡ true
  pub machine : is_machine config.machine ≡ true
  pub balloon : holds (is_balloon config.machine.mem_size_mib) config.balloon ≡ true
  pub entropy : holds is_entropy config.entropy ≡ true
  pub room : has_room config.drives config.interfaces config.vsock config.balloon config.entropy ≡ true

-- the guest has its harts and its pages, 256 for each MiB, a port of each kind that is configured, and as many devices
pub record IsReady (config : Config) (g : Guest) : Type 0 where
  pub configured : IsConfigured config
  pub shaped :
      IsShaped (256 * config.machine.mem_size_mib) config.machine.vcpu_count (kinds_of (configuration_of config) config.entropy) g
  pub devices : length g.devices ≡ device_count config
