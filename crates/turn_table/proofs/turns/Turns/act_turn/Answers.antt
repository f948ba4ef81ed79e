use Rattle.std.proofs.Common.{ℕ, sym, ap, ◌∙◌, subst}
use lib.ListN.{get_elem?}
use Rattle.place_locks.specs.Held.{IsEntryOf}
use Rattle.turn_table.specs.Steps.{with_turn}
use Rattle.turn_table.proofs.Giving.{fed_still, made_still, has_turn, noted_still}
use Rattle.turn_table.proofs.turns.Turns.act_turn.Goals as goal

pub act_and_give-entry-requires-clause-turn : goal.act_and_give-entry-requires-clause-turn
act_and_give-entry-requires-clause-turn g c =
    let tk = c.if-take.ensures.taken in
    (tk.turn, has_turn g.P.Fed.made c.args.place c.peek-word.result c.loop.seat.me c.take.new.seat.me tk (ap (λ m. m.1) c.loop.invariant.2 ∙ c.requires.seat.bare))

pub returns-then-take-clause-noted : goal.returns-then-take-clause-noted
returns-then-take-clause-noted g c =
    let tk = c.if-take.ensures.taken in
    noted_still g.P.Fed.made c.args.place c.act_and_give-entry.result c.args.seat.now.me.0 c.take.new.seat.me.0 _ tk.turn (g.P.Fed.blanks c.args.pool.now) _ (g.P.Fed.blanks c.loop.pool)
    (tk.view ∙ ap (λ m. with_turn m.0 tk.turn) c.loop.invariant.2) (ap (λ p. g.P.Fed.blanks p) c.loop.invariant.4) c.act_and_give-entry.ensures.noted

pub returns-then-take-clause-entry : goal.returns-then-take-clause-entry
returns-then-take-clause-entry g c =
    let tk = c.if-take.ensures.taken in
    let h = c.act_and_give-entry.ensures.entry in
    let opens = ap (λ v. v.round.opens) tk.view ∙ ap (λ m. m.0.round.opens) c.loop.invariant.2 in (
      h.0,
      ap (λ l. get_elem? l c.args.place) (sym opens) ∙ h.1,
      subst (λ (n : ℕ). IsEntryOf c.act_and_give-entry.result c.args.actor h.0.id c.args.op.now n) c.loop.invariant.3 h.2,
    )

pub act_and_give-entry-requires-clause-fed : goal.act_and_give-entry-requires-clause-fed
act_and_give-entry-requires-clause-fed g c =
    let tk = c.if-take.ensures.taken in
    fed_still g.P.Fed.made c.args.place (g.P.Fed.blanks c.args.pool.now) (g.P.Fed.blanks c.loop.pool) c.args.seat.now.me.0 c.take.new.seat.me.0
    (ap (λ v. v.round) tk.view ∙ ap (λ m. m.0.round) c.loop.invariant.2)
    (ap (λ v. v.entries) tk.view ∙ ap (λ m. m.0.entries) c.loop.invariant.2) (ap (λ p. g.P.Fed.blanks p) c.loop.invariant.4) c.requires.fed

pub returns-then-take-clause-none : goal.returns-then-take-clause-none
returns-then-take-clause-none g c =
    let tk = c.if-take.ensures.taken in
    λ m. c.act_and_give-entry.ensures.none
    (made_still g.P.Fed.made c.args.place c.args.seat.now.me.0 c.take.new.seat.me.0
    (ap (λ v. v.round) tk.view ∙ ap (λ m. m.0.round) c.loop.invariant.2)
    (ap (λ v. v.entries) tk.view ∙ ap (λ m. m.0.entries) c.loop.invariant.2) m)
    ∙ ap (λ p. g.P.Fed.blanks p) c.loop.invariant.4
