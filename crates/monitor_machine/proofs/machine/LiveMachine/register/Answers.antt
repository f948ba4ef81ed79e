use Rattle.monitor_machine.proofs.Lines.{register_lacks, register_shown}
use Rattle.monitor_machine.specs.Seen.{live_of}
use Rattle.monitor_machine.proofs.machine.LiveMachine.register.Goals as goal

pub returns-in_ok-register_line-in-Some-register_in : goal.returns-in_ok-register_line-in-Some-register_in
returns-in_ok-register_line-in-Some-register_in c =
    rw (← c.self.view_is)
    (λ known m is.
    register_shown (live_of c.self.inside) known m c.in-Some.guest c.args.hart c.args.number c.in-Some-register_in.value _ is c.in-Some.is
    c.in-Some-register_in.ensures c.in_ok-register_line-in-Some-register_in.ensures)

pub returns-in_ok-misfit_line-in-None-register_in : goal.returns-in_ok-misfit_line-in-None-register_in
returns-in_ok-misfit_line-in-None-register_in c =
    rw (← c.self.view_is)
    (λ known m is.
    register_lacks (live_of c.self.inside) known m c.in-Some.guest c.args.hart c.args.number _ is c.in-Some.is
    c.in-None-register_in.ensures c.in_ok-misfit_line-in-None-register_in.ensures)
