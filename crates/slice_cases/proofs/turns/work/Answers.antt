use Rattle.std.proofs.Common.{◌∷◌, [], length, vec_len, inr, sym, ap, ◌∙◌, arith, length-append}
use Rattle.std.proofs.lemmas.Bool.{eqb-false}
use Rattle.turn_table.specs.Views.{noted}
use Rattle.slice_cases.proofs.turns.work.Goals as goal

pub act_turn-entry-requires-clause-fed : goal.act_turn-entry-requires-clause-fed
act_turn-entry-requires-clause-fed g c =
    let pool = c.loop-act.turner.pool in
    inr (omega (arith, eqb-false (vec_len pool) 0 (sym c.is_empty.ensures ∙ c.if-is_empty.false), pool.ok))

pub loop-act-preserved : goal.loop-act-preserved
loop-act-preserved g c =
    let h = c.loop-act.invariant in
    let n = c.act_turn-entry.ensures.noted in
    let turner = c.loop-act.turner in
    record {
      seat = c.act_turn-entry.ensures.seat;
      parts = ap (λ v. v.parts) n.view ∙ h.parts;
      few = omega (arith, h.few, ap (λ v. length v.entries) n.view, length-append turner.seat.me.0.entries (noted turner.place c.act_turn-entry.result n.left ∷ []));
      place = h.place;
    }
