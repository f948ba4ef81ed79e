-- The part of a descriptor without a flaw is inside RAM, and one that leads on leaves room.
use Rattle.std.proofs.Common.{◌≡◌, ◌∙◌, ◌<◌, ◌++◌, ◌∷◌, [], ap, sym, subst, arith, List, None, length, length-append}
use Rattle.vq_split.specs.declared.queue.Part.{Part}
use Rattle.vq_split.specs.declared.queue.Table.{Table}
use Rattle.vq_split.specs.declared.walk.Stage.{Stage}
use Rattle.vq_split.specs.declared.walk.Stage.TheVariants.{Link}
use Rattle.vq_split.specs.Chain.{descriptor_flaw, most_parts}
use Rattle.vq_split.specs.Inside.{AreInside}
use Rattle.vq_split.specs.Walking.{IsEntry, IsStage, Walking}
use Rattle.vq_split.proofs.Inside.{entry_named, more_inside, plain_fine}
use Rattle.vq_split.proofs.walk.ChainWalk.described.Goals as goal

pub invariant_of-self : goal.invariant_of-self
invariant_of-self c =
    let w = c.self.inside in
    let none = subst (λ (parts : List Part). descriptor_flaw w.queue parts c.args.d ≡ None) c.as_slice.ensures.parts
    (sym c.descriptor_flaw.ensures ∙ c.in_default.is) in
    let stage : w.stage ≡ Link c.args.head c.requires.0 = ap (λ (x : Walking). x.stage) c.self.view_is ∙ c.requires.1 in
    let here = subst (λ (s : Stage). IsStage s w.queue w.parts) stage c.self.invariant.1 in
    let most = c.self.invariant.0.most in
    let few : length w.parts < most_parts = omega (arith, here.1, most) in (
      c.self.invariant.0,
      subst (λ (t : Table). IsEntry w.queue t 0 w.parts) (sym c.named-table.ensures)
          (entry_named w.queue w.parts c.args.d none (sym c.is_indirect.ensures ∙ c.if-is_indirect.true) few),
      c.self.invariant.2,
    )

pub invariant_of-self-then-has_next : goal.invariant_of-self-then-has_next
invariant_of-self-then-has_next c =
    let w = c.self.inside in
    let none = subst (λ (parts : List Part). descriptor_flaw w.queue parts c.args.d ≡ None) c.as_slice.ensures.parts
    (sym c.descriptor_flaw.ensures ∙ c.in_default.is) in
    let is = plain_fine w.queue w.parts c.args.d none (sym c.is_indirect.ensures ∙ c.if-is_indirect.false) in
    let more = sym c.has_next.ensures ∙ c.if-has_next.true in
    let room = is.1.room more in
    let longer = length-append w.parts (c.part_of-part.result ∷ []) in (
      c.self.invariant.0,
      (
        is.0 more,
        subst (λ (parts : List Part). length parts < w.queue.size) (sym c.push.ensures) (omega (arith, longer, room)),
      ),
      subst (λ (parts : List Part). AreInside w.queue.pages parts) (sym c.push.ensures)
          (subst (λ (part : Part). AreInside w.queue.pages (w.parts ++ part ∷ [])) (sym c.part_of-part.ensures)
          (more_inside w.queue.pages w.parts _ c.self.invariant.2 is.1.some is.1.inside)),
    )
