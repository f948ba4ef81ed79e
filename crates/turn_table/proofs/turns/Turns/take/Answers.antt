use Rattle.std.proofs.Common.{rules, subst, ◌<◌, ℕ}
use Rattle.turn_table.proofs.Taking.{takes_turn}
use Rattle.turn_table.proofs.turns.Turns.take.Goals as goal

pub compare_exchange-found-requires : goal.compare_exchange-found-requires
compare_exchange-found-requires g c = (
  search rules,
  search rules,
  takes_turn g.P.Fed.touch g.P.Fed.value g.P.Fed.made c.args.self.now.table.shared.key.parts _ _ _ _ _ c.requires.free.0 c.requires.free.1 (subst (λ (n : ℕ). c.args.place < n) c.args.self.now.sized c.requires.place) c.requires.word.0,
)
