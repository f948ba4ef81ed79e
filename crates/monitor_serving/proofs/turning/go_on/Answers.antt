use Rattle.std.proofs.Common.{sym, ◌∙◌}
use Rattle.monitor_serving.proofs.Waiting.{stays_off, stays_open}
use Rattle.monitor_serving.proofs.turning.go_on.Goals as goal

pub returns-then-is_off-clause-goes : goal.returns-then-is_off-clause-goes
returns-then-is_off-clause-goes c = λ hosts before conn waits untaken.
    stays_off c.args.monitor.now hosts before conn waits untaken
    (λ m is. sym (c.is_off.ensures hosts.files m is) ∙ c.if-is_off.true)

pub returns-clause-goes : goal.returns-clause-goes
returns-clause-goes c = λ hosts before conn waits untaken.
    stays_open c.args.monitor.now hosts before conn waits untaken
    (λ m is. sym (c.is_off.ensures hosts.files m is) ∙ c.if-is_off.false)
