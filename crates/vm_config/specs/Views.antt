-- What there is to tell of a machine that is seen so.
use Rattle.vm_config.specs.declared.machine_view.MachineView.{MachineView}
use Rattle.vm_config.specs.Texts.{Told}

abbrev pub told_in : MachineView → Told
told_in view = record {
  id = view.id.now;
  phase = view.phase;
  config = view.config.now;
  metadata = view.metadata.now;
  statistics = view.statistics;
}
