use Rattle.monitor_machine.proofs.machine.LiveMachine.answer.Goals as goal

pub perform-requires : goal.perform-requires
perform-requires c = c.in_ok-plan.ensures.keeps c.requires
