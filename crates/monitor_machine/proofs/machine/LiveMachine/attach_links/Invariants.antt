use Rattle.std.proofs.Common.{ℕ, ◌<◌}
use Rattle.monitor_machine.specs.Kinds.{links}
use Rattle.monitor_machine.specs.Objects.{Named, Uncalled}
use Rattle.monitor_machine.proofs.machine.LiveMachine.attach_links.Given as goal

abbrev pub invariant-loop-device : goal.invariant-loop-device
invariant-loop-device g l =
    let L = g.L.Link in
    record {
      attached : (k : ℕ) → k < l.device → Named links (L.known l.fn.link).health l.self-inside.config k (L.known l.link);
      uncalled : Uncalled links (L.known l.fn.link) (L.known l.link);
    }
