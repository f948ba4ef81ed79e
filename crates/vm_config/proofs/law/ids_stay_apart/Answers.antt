use Rattle.std.proofs.Common.{refl}
use Rattle.vm_config.specs.Drives.{id_of_drive, patched_drive}
use Rattle.vm_config.specs.Interfaces.{id_of_interface, patched_interface}
use Rattle.vm_config.proofs.Apart.{apart_changed, apart_put}
use Rattle.vm_config.proofs.law.ids_stay_apart.Goals as goal

pub returns : goal.returns
returns c = record {
  put_drive = λ drives drive apart. apart_put id_of_drive drives drive apart;
  patch_drive = λ drives patch. apart_changed id_of_drive patch.drive_id (patched_drive patch) (λ d named. refl) drives;
  put_interface = λ interfaces interface apart. apart_put id_of_interface interfaces interface apart;
  patch_interface = λ interfaces patch. apart_changed id_of_interface patch.iface_id (patched_interface patch) (λ i named. refl) interfaces;
}
