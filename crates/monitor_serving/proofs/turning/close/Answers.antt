use Rattle.std.proofs.Common.{sym, ◌∙◌}
use Rattle.monitor_serving.proofs.Waiting.{stays_off, stays_over}
use Rattle.monitor_serving.proofs.turning.close.Goals as goal

pub returns-then-is_off-clause-closes : goal.returns-then-is_off-clause-closes
returns-then-is_off-clause-closes c = λ hosts before conn waits untaken.
    stays_off c.args.monitor.now hosts before conn waits untaken
    (λ m is. sym (c.is_off.ensures hosts.files m is) ∙ c.if-is_off.true)

pub returns-clause-closes : goal.returns-clause-closes
returns-clause-closes c = λ hosts before conn waits untaken.
    stays_over c.args.monitor.now hosts before conn waits untaken
    (λ m is. sym (c.is_off.ensures hosts.files m is) ∙ c.if-is_off.false)
