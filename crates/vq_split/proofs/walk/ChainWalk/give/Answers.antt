-- A descriptor, or an entry, leads on in a walk that has room for it.
use Rattle.std.proofs.Common.{◌≡◌, ◌∙◌, ◌-◌, ℕ, ap, sym, subst, List, length}
use Rattle.vq_split.specs.declared.descriptor.Descriptor.{Descriptor}
use Rattle.vq_split.specs.declared.walk.Stage.{Stage}
use Rattle.vq_split.specs.declared.walk.Stage.TheVariants.{Entry, EntryRest}
use Rattle.vq_split.specs.Chain.{descriptor_of, described_by, entry_begun, entry_place, front_length, read_bytes}
use Rattle.vq_split.specs.Walking.{Walking, walk_left, IsStage, Told}
use Rattle.vq_split.proofs.Steps.{entry_led, told_entry, told_link, told_rest}
use Rattle.vq_split.proofs.walk.ChainWalk.give.Goals as goal

pub returns-in-Link-clause-told : goal.returns-in-Link-clause-told
returns-in-Link-clause-told c =
    let w = c.args.self.now in
    told_link w c.in-Link.head c.in-Link.at c.args.reply c.described.result (walk_left c.described.new.self)
    (sym (ap (λ (x : Walking). x.stage) c.self.view_is) ∙ c.in-Link.is)
    (subst (λ (x : Walking). IsStage x.stage x.queue x.parts) c.self.view_is c.self.invariant.1)
    (subst (λ (d : Descriptor). Told (described_by w.queue c.in-Link.head (w.queue.size - length w.parts - 1) w.parts
    d) c.described.result (walk_left c.described.new.self))
    (c.from_bytes-d.ensures ∙ ap descriptor_of (c.as_slice.ensures.bytes ∙ c.read_bytes.ensures))
    c.described.ensures.told)

pub returns-in-Entry-clause-told : goal.returns-in-Entry-clause-told
returns-in-Entry-clause-told c =
    let w = c.args.self.now in
    let e = c.in-Entry in
    let stage : w.stage ≡ Entry e.head e.table e.at = sym (ap (λ (x : Walking). x.stage) c.self.view_is) ∙ e.is in
    let staged = subst (λ (x : Walking). IsStage x.stage x.queue x.parts) c.self.view_is c.self.invariant.1 in
    let front = c.read_bytes-in-Entry.ensures
    ∙ ap (λ (n : ℕ). read_bytes n c.args.reply) (c.front_length-length.ensures.length ∙ ap front_length c.entry_place.ensures) in
    told_entry w e.head e.table e.at c.args.reply c.begun.result (walk_left c.begun.new.self) stage
    (subst (λ (s : Stage). IsStage s w.queue w.parts) stage staged)
    (subst (λ (bytes : List ℕ). Told (entry_begun (entry_place e.table e.at) bytes (entry_led w e.head e.table)) c.begun.result
    (walk_left c.begun.new.self)) front c.begun.ensures.told)

pub returns-in-EntryRest-clause-told : goal.returns-in-EntryRest-clause-told
returns-in-EntryRest-clause-told c =
    let w = c.args.self.now in
    let e = c.in-EntryRest in
    let stage : w.stage ≡ EntryRest e.head e.table e.at e.front = sym (ap (λ (x : Walking). x.stage) c.self.view_is) ∙ e.is in
    let staged = subst (λ (x : Walking). IsStage x.stage x.queue x.parts) c.self.view_is c.self.invariant.1 in
    let here = subst (λ (s : Stage). IsStage s w.queue w.parts) stage staged in
    told_rest w e.head e.table e.at e.front c.args.reply c.entered.result (walk_left c.entered.new.self) stage here.2
    (subst (λ (d : Descriptor). Told (entry_led w e.head e.table d) c.entered.result (walk_left c.entered.new.self))
    (c.rest_came-d.ensures e.head e.table e.at e.front stage) c.entered.ensures.told)
