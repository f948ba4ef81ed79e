use Rattle.turn_table.proofs.Whole.{splits}
use Rattle.turn_table.proofs.turns.Turns.split.Goals as goal

pub split_seat-requires : goal.split_seat-requires
split_seat-requires g c =
    let r = c.requires.seat in
    (r.table_is, c.requires.some, splits g.P.Fed.touch g.P.Fed.value g.P.Fed.made c.args.self.now.table.shared.key.parts c.args.seat.now.id c.args.seat.now.me.0 r.free c.requires.bare.0 c.requires.bare.1)
