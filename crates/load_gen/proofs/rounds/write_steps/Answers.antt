use Rattle.std.proofs.Common.{subst, refl, ap, ◌∙◌, ℕ, List, [], ◌∷◌, ◌++◌, codes}
use Rattle.std.specs.Fmt.{digits}
use Rattle.vm_types.specs.declared.ids.ActorId.TheVariants.{Hart}
use Rattle.script_text.specs.declared.item.Item.TheVariants as item
use Rattle.vm_outside.specs.Passing.{TakesAll, TakesPart}
use Rattle.load_gen.proofs.Texts.{items_behind, items_cut, step_text}
use Rattle.load_gen.proofs.rounds.write_steps.Goals as goal

pub returns-in_default-clause-takes : goal.returns-in_default-clause-takes
unfolding digits
returns-in_default-clause-takes g c = λ told.
    items_cut (item.Step (Hart 0) c.args.first ∷ []) (item.Step (Hart 1) c.args.second ∷ []) _ _
    (subst (λ (t : List ℕ). TakesPart (g.K.Sink.known c.args.sink.now).taken (g.K.Sink.known c.write_numbered.new.sink).taken t)
    (step_text 0 c.args.first (codes "step h0 ") refl) (c.in_default.ensures.takes told))

pub returns-clause-takes : goal.returns-clause-takes
unfolding digits
returns-clause-takes g c = λ told.
    items_behind (item.Step (Hart 0) c.args.first ∷ []) (item.Step (Hart 1) c.args.second ∷ []) _ _ _
    c.write_numbered-2.result
    (c.in-Ok.ensures.takes told
    ∙ ap (λ (t : List ℕ). (g.K.Sink.known c.args.sink.now).taken ++ t)
    (step_text 0 c.args.first (codes "step h0 ") refl))
    (subst (λ (t : List ℕ). TakesAll (g.K.Sink.known c.write_numbered.new.sink).taken (g.K.Sink.known c.write_numbered-2.new.sink).taken c.write_numbered-2.result t)
    (step_text 1 c.args.second (codes "step h1 ") refl)
    (c.write_numbered-2.ensures.takes (c.write_numbered.ensures.called.lasts.still told)))
