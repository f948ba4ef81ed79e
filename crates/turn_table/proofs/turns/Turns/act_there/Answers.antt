use Rattle.std.proofs.Common.{◌∷◌, sym, ap, ◌∙◌}
use Rattle.atomic_table.specs.Table.{rest}
use Rattle.turn_table.proofs.turns.Turns.act_there.Goals as goal

pub slot_mut-held-requires : goal.slot_mut-held-requires
slot_mut-held-requires g c =
    let h = c.requires.held in
    (c.requires.seat, (h.0, h.1 ∙ ap (λ r. (c.args.post.place, h.0) ∷ r) (sym (ap rest h.1))))

pub returns-clause-acted : goal.returns-clause-acted
returns-clause-acted g c =
    let h = c.requires.held in
    let none = ap rest h.1 in
    record {
      before = c.slot_mut-held.result.now;
      after = c.act_on.new.held;
      found_is = c.slot_mut-held.ensures.value ∙ ap (λ r. (c.args.post.place, c.slot_mut-held.result.now) ∷ r) none;
      left_is = ap (λ r. (c.args.post.place, c.act_on.new.held) ∷ r) none;
      entry = c.act_on.ensures.entry;
      acted = c.act_on.ensures.acted;
      none = c.act_on.ensures.none;
      spent = c.act_on.ensures.spent;
    }
