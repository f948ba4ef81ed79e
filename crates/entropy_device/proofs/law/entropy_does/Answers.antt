use Rattle.entropy_device.proofs.Filled.{bytes_are, places_are, used_is}
use Rattle.entropy_device.proofs.law.entropy_does.Goals as goal

pub returns : goal.returns
returns c = record { bytes = bytes_are; places = places_are; used = used_is }
