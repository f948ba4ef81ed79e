use Rattle.std.proofs.Common.{arith, ap, length, ◌∷◌, [], length-append}
use Rattle.vm_types.specs.Ids.{is_out}
use Rattle.turn_work.proofs.Noting.{noted_out}
use Rattle.turn_work.proofs.worker.Worker.act_out.Goals as goal

pub returns-clause-noted : goal.returns-clause-noted
returns-clause-noted g c = λ round index h.
    noted_out round index c.args.self.now.seat.me.0 c.args.self.now.journal.items c.push_reserved.new.self.items c.again-2.result (ap (λ e. is_out e.place) c.again-2.ensures) c.push_reserved.ensures.items h

pub returns-clause-work : goal.returns-clause-work
returns-clause-work g c = λ table n w. record {
  ready = w.ready;
  one = w.one;
  few = omega (arith, w.few, ap length c.push_reserved.ensures.items, length-append c.args.self.now.journal.items (c.again-2.result ∷ []));
}
