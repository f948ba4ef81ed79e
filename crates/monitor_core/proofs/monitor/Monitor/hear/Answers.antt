use Rattle.monitor_core.proofs.Hears.{hears}
use Rattle.monitor_core.proofs.monitor.Monitor.hear.Goals as goal

pub returns-clause-goes : goal.returns-clause-goes
returns-clause-goes g c =
    hears c.args.bytes.now c.in_ok-text.text c.args.self.now c.take_bytes.new.self (g.F.Files.known c.args.files.now)
    (g.F.Files.known c.take_bytes.new.files) c.in_ok-text.ensures.ok
