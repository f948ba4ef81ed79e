use Rattle.turn_table.proofs.Whole.{joins}
use Rattle.turn_table.proofs.turns.Turns.join.Goals as goal

pub join_seat-requires : goal.join_seat-requires
join_seat-requires g c =
    let r = c.requires.seat in
    let o = c.requires.other in
    (r.table_is, o.table_is, o.bare, c.requires.some, joins g.P.Fed.touch g.P.Fed.value g.P.Fed.made c.args.self.now.table.shared.key.parts c.args.seat.now.id c.args.seat.now.me.0 c.args.other.id c.args.other.me.0 _ r.free o.free r.parts)
