use Rattle.std.proofs.Common.{◌<◌, ℕ, subst}
use Rattle.turn_table.proofs.Whole.{settles_all}
use Rattle.turn_table.proofs.turns.Turns.settle.Goals as goal

pub load-requires : goal.load-requires
load-requires g c =
    let r = c.requires.seat in
    (r.table_is, c.requires.some, settles_all g.P.Fed.touch g.P.Fed.value g.P.Fed.made c.args.self.now.table.shared.key.parts _ c.args.seat.now.id c.args.seat.now.me r.free c.requires.whole r.parts (subst (λ (n : ℕ). 0 < n) c.args.self.now.sized c.requires.some))
