-- The rest has the bytes that the front hasn't.
use Rattle.std.proofs.Common.{◌≡◌, ◌∙◌, ◌-◌, ◌++◌, ℕ, ap, sym, subst, List, length}
use Rattle.vq_split.specs.Chain.{descriptor_of, read_bytes}
use Rattle.vq_split.specs.Walking.{IsStage, Walking}
use Rattle.vq_split.proofs.Steps.{front_short, one_front, rest_length}
use Rattle.vq_split.proofs.walk.ChainWalk.rest_came.Goals as goal

pub joined-requires-clause-front : goal.joined-requires-clause-front
joined-requires-clause-front c =
    front_short c.args.self.now c.in-EntryRest.head c.in-EntryRest.table c.in-EntryRest.at c.in-EntryRest.front
    (sym (ap (λ (x : Walking). x.stage) c.self.view_is) ∙ c.in-EntryRest.is)
    (subst (λ (x : Walking). IsStage x.stage x.queue x.parts) c.self.view_is c.self.invariant.1)

pub joined-requires-clause-rest : goal.joined-requires-clause-rest
joined-requires-clause-rest c =
    rest_length c.args.self.now c.in-EntryRest.head c.in-EntryRest.table c.in-EntryRest.at c.in-EntryRest.front
    (sym (ap (λ (x : Walking). x.stage) c.self.view_is) ∙ c.in-EntryRest.is)
    (subst (λ (x : Walking). IsStage x.stage x.queue x.parts) c.self.view_is c.self.invariant.1) c.args.reply.now c.requires

pub returns-in-EntryRest : goal.returns-in-EntryRest
returns-in-EntryRest c = λ head table at front is.
    let same = one_front _ head _ table _ at c.in-EntryRest.front front
    (sym c.in-EntryRest.is ∙ ap (λ (x : Walking). x.stage) c.self.view_is ∙ is) in
    subst (λ (bytes : List ℕ). c.joined.result ≡ descriptor_of (bytes ++ read_bytes (16 - length bytes) c.args.reply.now)) same
    c.joined.ensures

pub returns-in_default : goal.returns-in_default
returns-in_default c = λ head table at front is.
    absurd (c.in_default.not-EntryRest head table at front (ap (λ (x : Walking). x.stage) c.self.view_is ∙ is))
