use Rattle.std.proofs.Common.{◌∙◌}
use Rattle.monitor_cli.proofs.EndTexts.{took_all}
use Rattle.monitor_cli.proofs.Parts.{took_front}
use Rattle.monitor_cli.proofs.closing.write_closing.Goals as goal

pub returns-in-Ok-write_all-clause-closes : goal.returns-in-Ok-write_all-clause-closes
returns-in-Ok-write_all-clause-closes g c = λ told known m is.
    took_all c.as_slice.result.now _ _ _ (c.as_slice.ensures ∙ c.in-Ok.ensures known m is) (c.in-Ok-write_all.ensures.takes told)

pub returns-clause-closes : goal.returns-clause-closes
returns-clause-closes g c = λ told known m is.
    took_front c.as_slice.result.now _ _ _ (c.as_slice.ensures ∙ c.in-Ok.ensures known m is) (c.in-Err.ensures.takes told)
