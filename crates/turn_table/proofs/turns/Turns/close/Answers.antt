use Rattle.std.proofs.Common.{List, subst, sym}
use Rattle.turn_table.specs.declared.held.Held.{Held}
use Rattle.turn_table.specs.Steps.{Told}
use Rattle.turn_table.proofs.Whole.{told_last}
use Rattle.turn_table.proofs.turns.Turns.close.Goals as goal

pub returns-clause-told : goal.returns-clause-told
returns-clause-told g c =
    let r = c.requires.seat in
    let last = told_last g.P.Fed.touch g.P.Fed.value g.P.Fed.made c.args.self.table.shared.key.parts c.args.seat.id c.args.seat.me.0 _ _ r.free c.requires.whole r.parts c.close_with.ensures.values.2 in
    subst (λ (xs : List (Held g.row.P.Denot)). Told g.P.Fed.touch g.P.Fed.value g.P.Fed.made c.args.seat.me.0 xs) (sym c.empty.ensures) last.0
