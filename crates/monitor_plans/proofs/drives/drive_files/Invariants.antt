use Rattle.monitor_plans.proofs.DrivesAsked.{HasAsked}
use Rattle.monitor_plans.proofs.drives.drive_files.Given as goal

abbrev pub invariant-loop-number : goal.invariant-loop-number
invariant-loop-number g l = record {
  so_far : HasAsked l.drives (g.F.Files.known l.fn.files) (g.F.Files.known l.files) l.found l.number;
}
