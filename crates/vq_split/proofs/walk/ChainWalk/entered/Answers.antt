-- The part of an entry without a flaw is inside RAM, and one that leads on leads to an entry of its table.
use Rattle.std.proofs.Common.{◌≡◌, ◌∙◌, ◌++◌, ◌∷◌, [], sym, subst, List, None}
use Rattle.vq_split.specs.declared.queue.Part.{Part}
use Rattle.vq_split.specs.Chain.{entry_flaw}
use Rattle.vq_split.specs.Inside.{AreInside}
use Rattle.vq_split.specs.Walking.{IsEntry, Walking}
use Rattle.vq_split.proofs.Inside.{entry_fine, entry_next, more_inside}
use Rattle.vq_split.proofs.walk.ChainWalk.entered.Goals as goal

pub invariant_of-self : goal.invariant_of-self
invariant_of-self c =
    let w = c.self.inside in
    let none = subst (λ (parts : List Part). entry_flaw w.queue c.args.table parts c.args.d ≡ None) c.as_slice.ensures.parts
    (sym c.entry_flaw.ensures ∙ c.in_default.is) in
    let is = entry_fine w.queue c.args.table w.parts c.args.d none in
    let more = sym c.has_next.ensures ∙ c.if-has_next.true in
    let here = subst (λ (x : Walking). IsEntry x.queue c.args.table c.requires.0 x.parts) (sym c.self.view_is) c.requires.1 in (
      c.self.invariant.0,
      subst (λ (parts : List Part). IsEntry w.queue c.args.table c.args.d.next parts) (sym c.push.ensures)
          (entry_next w.queue c.args.table c.requires.0 w.parts c.args.d c.part_of-part.result none more here),
      subst (λ (parts : List Part). AreInside w.queue.pages parts) (sym c.push.ensures)
          (subst (λ (part : Part). AreInside w.queue.pages (w.parts ++ part ∷ [])) (sym c.part_of-part.ensures)
          (more_inside w.queue.pages w.parts _ c.self.invariant.2 is.1.some is.1.inside)),
    )
