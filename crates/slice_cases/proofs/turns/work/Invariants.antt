use Rattle.std.proofs.Common.{◌≡◌, ◌≤◌, ◌<◌, length}
use Rattle.turn_table.specs.Steps.{IsReady}
use Rattle.slice_cases.proofs.turns.work.Given as goal

abbrev pub invariant-loop-act : goal.invariant-loop-act
invariant-loop-act g l = record {
  seat : IsReady l.turns.table.shared.table_id l.turns.round l.turner.seat;
  parts : l.turner.seat.me.0.parts ≡ l.fn.turner.seat.me.0.parts;
  few : length l.turner.seat.me.0.entries ≤ l._act;
  place : l.turner.place < l.turns.table.shared.table_id.words;
}
