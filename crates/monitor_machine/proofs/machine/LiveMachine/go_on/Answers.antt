use Rattle.std.proofs.Common.{Some, not, sym, subst}
use Rattle.serde_json.specs.Data.{Data}
use Rattle.api_rules.specs.Ids.{based}
use Rattle.monitor_machine.specs.Ready.{IsReadyLive}
use Rattle.monitor_machine.specs.Seen.{live_of}
use Rattle.monitor_machine.proofs.Standing.{load_stays}
use Rattle.monitor_machine.proofs.machine.LiveMachine.go_on.Goals as goal

pub invariant_of-self : goal.invariant_of-self
invariant_of-self c =
    let it = c.args.restored in
    subst (λ (d : Data). IsReadyLive (record (live_of c.self.inside) { ids = based it.identity it.next c.self.inside.ids; config = it.config; metadata = d; guest = Some it.guest; paused = not it.resumes }))
    (sym c.new.ensures)
    (load_stays (live_of c.self.inside) it.config it.guest it.identity it.next (not it.resumes) c.requires.0 c.requires.1 c.requires.2 c.self.invariant)
