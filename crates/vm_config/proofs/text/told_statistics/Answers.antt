use Rattle.vm_config.proofs.text.told_statistics.Goals as goal

pub returns : goal.returns
returns c = rw (c.in-Some.is, c.in-Some-statistics.is) c.statistics_value.ensures
