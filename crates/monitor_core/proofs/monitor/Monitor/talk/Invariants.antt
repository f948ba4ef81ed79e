use Rattle.monitor_core.specs.Talking.{HasAnswered}
use Rattle.monitor_core.proofs.Talks.{weight}
use Rattle.monitor_core.proofs.monitor.Monitor.talk.Given as goal

abbrev pub invariant-replies : goal.invariant-replies
invariant-replies g l = record {
  so_far : HasAnswered l.form l.fn.self l.self l.text (g.F.Files.known l.fn.files) (g.F.Files.known l.files);
}

abbrev pub decreases-replies : goal.decreases-replies
decreases-replies g l = weight l.self.front
