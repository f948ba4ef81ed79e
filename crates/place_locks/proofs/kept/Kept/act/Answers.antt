use Rattle.std.proofs.Common.{ap, ◌∙◌, ◌++◌, ◌∷◌, []}
use Rattle.place_locks.proofs.Grows.{history_grows}
use Rattle.place_locks.proofs.kept.Kept.act.Goals as goal

pub invariant_of-self-2 : goal.invariant_of-self-2
invariant_of-self-2 g c =
    let old = c.self.inside in
    let kept = c.self.invariant in
    let act = c.act_on-entry.ensures in
    history_grows g.P.Place.touch old.id _ (g.P.Place.value old.place) _ old.history.items _ c.act_on-entry.result c.args.actor c.args.op.now c.args.clock.now old.last kept.0 kept.1 c.requires act.entry act.before act.reply act.value (c.write_down.ensures ∙ ap (λ xs. xs ++ c.act_on-entry.result ∷ []) c.in_ok-reserve.ensures.items)
