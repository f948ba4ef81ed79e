use Rattle.monitor_cli.proofs.Commanding.{line_alone}
use Rattle.vm_outside.proofs.Passing.{lasts_same}
use Rattle.monitor_cli.proofs.top.refuse.Goals as goal

pub returns-clause-unbegun : goal.returns-clause-unbegun
returns-clause-unbegun g c = λ never.
    line_alone c.args.exit _ _ c.write_last.result never c.write_last.ensures.takes c.write_last.ensures.called

pub returns-clause-lasts : goal.returns-clause-lasts
returns-clause-lasts g c = record { source = lasts_same _; sink = c.write_last.ensures.called.lasts; files = lasts_same _ }
