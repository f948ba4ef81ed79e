use Rattle.std.proofs.Common.{arith, ap, ◌∙◌, length, ◌++◌, ◌∷◌, [], length-append}
use Rattle.turn_work.proofs.Noting.{made_by, noted_act, one_more}
use Rattle.turn_work.proofs.worker.Worker.act.Goals as goal

pub returns-clause-noted : goal.returns-clause-noted
returns-clause-noted g c = λ round index named h.
    let n = c.act_turn-entry.ensures.noted in
    noted_act round index c.args.self.now.seat.me.0 c.act_turn-entry.new.seat.me.0 c.args.self.now.journal.items _ c.args.place c.act_turn-entry.result c.args.self.now.actor c.args.op.now c.args.self.now.clock n.left named h n.view c.act_turn-entry.ensures.entry
    (c.push_reserved.ensures.items ∙ ap (λ e. c.args.self.now.journal.items ++ e ∷ []) c.again.ensures)

pub returns-clause-spent : goal.returns-clause-spent
returns-clause-spent g c = λ less.
    made_by g.P.Fed.made c.args.place c.act_turn-entry.result c.args.self.now.seat.me.0 c.act_turn-entry.new.seat.me.0 _ _ c.act_turn-entry.ensures.noted less

pub returns-clause-work : goal.returns-clause-work
returns-clause-work g c =
    let w = c.requires.work in
    let n = c.act_turn-entry.ensures.noted in
    record {
      ready = c.act_turn-entry.ensures.seat;
      one = ap (λ v. v.parts) n.view ∙ w.one;
      few = omega (arith, w.few, one_more c.args.self.now.seat.me.0 c.act_turn-entry.new.seat.me.0 c.args.place c.act_turn-entry.result n.left n.view, ap length c.push_reserved.ensures.items, length-append c.args.self.now.journal.items (c.again.result ∷ []));
    }
