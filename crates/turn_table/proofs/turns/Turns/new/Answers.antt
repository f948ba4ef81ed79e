use Rattle.std.proofs.Common.{List, length, replicate, sym, subst, rules, ◌≡◌}
use Rattle.atomic_table.specs.Table.{opening}
use Rattle.turn_table.specs.declared.held.Held.{Held}
use Rattle.turn_table.specs.Views.{newcomer}
use Rattle.turn_table.specs.Rule.{IsKept, IsNew}
use Rattle.std.proofs.lemmas.List.Elements.{recursion_from_All}
use Rattle.turn_table.proofs.Whole.{opens_kept}
use Rattle.turn_table.proofs.turns.Turns.new.Goals as goal

pub new-requires : goal.new-requires
new-requires g c =
    let xs : List (Held g.row.P.Denot) = c.args.places.items in
    let words : c.deref.result.now ≡ replicate (length xs) 0 = search rules in
    let opens : c.of.result.value.items ≡ xs = search rules in
    subst (λ (ys : List (Held g.row.P.Denot)). IsKept g.P.Fed.touch g.P.Fed.value g.P.Fed.made c.args.parts (opening c.deref.result.now xs (newcomer c.args.parts (record { number = 0; opens = ys })))) (sym opens)
    (opens_kept g.P.Fed.touch g.P.Fed.value g.P.Fed.made c.args.parts c.deref.result.now xs words (recursion_from_All IsNew xs c.requires.new) c.requires.parts.1)
