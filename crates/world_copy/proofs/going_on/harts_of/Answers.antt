use Rattle.std.proofs.Common.{sym, subst, ◌+◌, ◌∷◌, ◌++◌, [], List, take}
use Rattle.std.proofs.lemmas.List.{take_more}
use Rattle.hart_trace.specs.States.{Hart}
use Rattle.snap_harts.specs.declared.hart.SavedHart.{SavedHart}
use Rattle.world_copy.specs.GoingOn.{GoOn}
use Rattle.world_copy.proofs.GoingOn.{one_more}
use Rattle.world_copy.proofs.going_on.harts_of.Goals as goal

pub loop-hart-preserved : goal.loop-hart-preserved
loop-hart-preserved c =
    let saved = c.args.saved.now in
    let i = c.loop-hart.hart-index in
    subst (λ (hs : List Hart). GoOn (take (i + 1) saved) hs) (sym c.in_ok-push.ensures.items)
    (subst (λ (ss : List SavedHart). GoOn ss (c.loop-hart.harts.items ++ c.hart_of.result ∷ [])) (sym (take_more saved i _ c.loop-hart-test.true))
    (one_more (take i saved) c.loop-hart.harts.items _ c.hart_of.result c.loop-hart.invariant c.hart_of.ensures.leads))
