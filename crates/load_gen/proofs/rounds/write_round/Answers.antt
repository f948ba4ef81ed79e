use Rattle.std.proofs.Common.{[], ◌∷◌, ◌+◌}
use Rattle.vm_types.specs.declared.ids.ActorId.TheVariants.{Hart}
use Rattle.script_text.specs.declared.item.Item.TheVariants as item
use Rattle.load_gen.specs.Load.{create_diff, pause, resume}
use Rattle.load_gen.proofs.Texts.{items_behind, items_cut}
use Rattle.load_gen.proofs.rounds.write_round.Goals as goal

pub returns-in_default-clause-takes : goal.returns-in_default-clause-takes
returns-in_default-clause-takes g c = λ told.
    items_cut (item.Step (Hart 0) c.args.first ∷ item.Step (Hart 1) c.args.second ∷ [])
    (pause ∷ create_diff (c.args.before + 1) ∷ resume ∷ []) _ _ (c.in_default.ensures.takes told)

pub returns-clause-takes : goal.returns-clause-takes
returns-clause-takes g c = λ told.
    items_behind (item.Step (Hart 0) c.args.first ∷ item.Step (Hart 1) c.args.second ∷ [])
    (pause ∷ create_diff (c.args.before + 1) ∷ resume ∷ []) _ _ _ c.write_diff.result (c.in-Ok.ensures.takes told)
    (c.write_diff.ensures.takes (c.write_steps.ensures.called.lasts.still told))
