-- What is configured before the first call, and what a PATCH leaves of the machine and of the balloon.
use Rattle.std.specs.Prelude.{false, [], Option, None, option_map, unwrap_or}
use Rattle.api_calls.specs.declared.balloon.Balloon.{Balloon}
use Rattle.api_calls.specs.declared.balloon.BalloonPatch.{BalloonPatch}
use Rattle.api_calls.specs.declared.balloon.StatisticsPatch.{StatisticsPatch}
use Rattle.api_calls.specs.declared.call.MachineConfig.{MachineConfig}
use Rattle.api_calls.specs.declared.call.MachinePatch.{MachinePatch}
use Rattle.vm_config.specs.declared.config.Config.{Config}

-- no boot source, no drive, no interface, no vsock device, no balloon, no entropy device, no metadata for the guest, one hart and 128 MiB
abbrev pub default_config : Config
default_config = record {
  boot_source = None;
  drives = [];
  interfaces = [];
  vsock = None;
  machine = record { vcpu_count = 1; mem_size_mib = 128; track_dirty_pages = false };
  balloon = None;
  entropy = None;
  mmds = None;
  configured = false;
}

-- a PATCH of the machine: the given fields replace, and the others stay
abbrev pub with_fields : MachinePatch → MachineConfig → MachineConfig
with_fields patch machine = record {
  vcpu_count = unwrap_or patch.vcpu_count machine.vcpu_count;
  mem_size_mib = unwrap_or patch.mem_size_mib machine.mem_size_mib;
  track_dirty_pages = unwrap_or patch.track_dirty_pages machine.track_dirty_pages;
}

-- a PATCH of the balloon, where there is one
abbrev pub with_amount : BalloonPatch → Option Balloon → Option Balloon
with_amount patch balloon = option_map (λ (b : Balloon). record b { amount_mib = patch.amount_mib }) balloon

abbrev pub with_interval : StatisticsPatch → Option Balloon → Option Balloon
with_interval patch balloon =
    option_map (λ (b : Balloon). record b { stats_polling_interval_s = patch.stats_polling_interval_s }) balloon
