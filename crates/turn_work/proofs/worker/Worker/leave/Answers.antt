use Rattle.std.proofs.Common.{◌+◌, ap, ◌∙◌}
use Rattle.turn_work.proofs.Noting.{noted_join}
use Rattle.turn_work.proofs.worker.Worker.leave.Goals as goal

pub returns-clause-noted : goal.returns-clause-noted
returns-clause-noted g c = λ round index es h k.
    noted_join round index c.args.seat.now.me.0 c.args.self.seat.me.0 c.join.new.seat.me.0 es c.args.self.journal.items c.join.ensures.both h k

pub returns-clause-parts : goal.returns-clause-parts
returns-clause-parts g c =
    ap (λ v. v.parts) c.join.ensures.both ∙ ap (λ n. c.args.seat.now.me.0.parts + n) c.requires.work.one
