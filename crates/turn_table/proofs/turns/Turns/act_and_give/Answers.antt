use Rattle.std.proofs.Common.{◌≤◌, ◌+◌, ◌^◌, ◌<◌, ℕ, ◌∙◌, subst, refl}
use Rattle.turn_table.specs.Rule.{before_of}
use Rattle.turn_table.proofs.Giving.{can_feed, entry_of, gives_there, none_of, noted_of, ready_of}
use Rattle.turn_table.proofs.turns.Turns.act_and_give.Goals as goal

pub act_there-entry-requires-clause-held : goal.act_there-entry-requires-clause-held
act_there-entry-requires-clause-held g c =
    let h = c.requires.turn.1 in
    let t = c.requires.turn.0 in
    (t.held, h.slot, subst (λ (n : ℕ). before_of n t.held ≤ 2 ^ 63 + 2 ^ 48) c.requires.round h.low, can_feed g.P.Fed.touch g.P.Fed.value g.P.Fed.made c.args.self.now.table.shared.key.parts c.args.post.place c.args.word (g.P.Fed.blanks c.args.pool.now) c.args.seat.now.me t h c.requires.fed)

pub store-requires : goal.store-requires
store-requires g c =
    let did = c.act_there-entry.ensures in (
      did.seat.0 ∙ c.requires.seat,
      c.requires.place,
      gives_there g.P.Fed.touch g.P.Fed.value g.P.Fed.made c.args.self.now.table.shared.key.parts _ _ c.args.post.place c.args.word _ c.args.self.now.round c.args.seat.now.me c.act_there-entry.new.seat.me c.requires.turn.0 c.act_there-entry.result c.args.post.actor c.args.op.now c.args.post.clock _ _ c.requires.turn.1 c.requires.round did.acted did.seat.2 c.requires.clock c.requires.room.0 c.requires.room.1
          (subst (λ (n : ℕ). c.args.post.place < n) c.args.self.now.sized c.requires.place) refl,
    )

pub returns-clause-seat : goal.returns-clause-seat
returns-clause-seat g c =
    let did = c.act_there-entry.ensures in
    let gave = c.store.ensures in
    ready_of g.P.Fed.touch g.P.Fed.value g.P.Fed.made c.args.self.now.table.shared.key.parts c.args.post.place c.args.word c.args.self.now.round c.args.seat.now.me c.act_there-entry.new.seat.me c.requires.turn.0 c.act_there-entry.result c.args.post.actor c.args.op.now c.args.post.clock _ _ c.requires.turn.1 did.acted
    c.args.self.now.table.shared.table_id _ did.seat.2 gave.2 (gave.0 ∙ did.seat.0 ∙ c.requires.seat) c.requires.round c.requires.room.0

pub returns-clause-noted : goal.returns-clause-noted
returns-clause-noted g c =
    let did = c.act_there-entry.ensures in
    noted_of g.P.Fed.touch g.P.Fed.value g.P.Fed.made c.args.self.now.table.shared.key.parts c.args.post.place c.args.word c.args.self.now.round c.args.seat.now.me c.act_there-entry.new.seat.me c.requires.turn.0 c.act_there-entry.result c.args.post.actor c.args.op.now c.args.post.clock _ _ c.requires.turn.1 did.acted
    did.seat.2 _ c.store.ensures.2

pub returns-clause-entry : goal.returns-clause-entry
returns-clause-entry g c =
    let h = c.requires.turn.1 in
    (h.first, h.opened, entry_of g.P.Fed.touch g.P.Fed.value g.P.Fed.made c.args.self.now.table.shared.key.parts c.args.post.place c.args.word c.args.self.now.round c.args.seat.now.me c.act_there-entry.new.seat.me c.requires.turn.0 c.act_there-entry.result c.args.post.actor c.args.op.now c.args.post.clock _ _ h c.act_there-entry.ensures.acted)

pub returns-clause-none : goal.returns-clause-none
returns-clause-none g c =
    none_of g.P.Fed.touch g.P.Fed.value g.P.Fed.made c.args.self.now.table.shared.key.parts c.args.post.place c.args.word c.args.self.now.round c.args.seat.now.me c.act_there-entry.new.seat.me c.requires.turn.0 c.act_there-entry.result c.args.post.actor c.args.op.now c.args.post.clock _ _ c.requires.turn.1 c.act_there-entry.ensures.acted
