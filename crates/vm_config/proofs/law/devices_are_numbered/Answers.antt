use Rattle.vm_config.proofs.DeviceLemmas.{balloon_at, counted, drive_at, interface_at}
use Rattle.vm_config.proofs.law.devices_are_numbered.Goals as goal

pub returns : goal.returns
returns c = record { count = counted; drive = drive_at; interface = interface_at; balloon = balloon_at }
