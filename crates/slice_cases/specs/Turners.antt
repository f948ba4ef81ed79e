-- A hart that acts by turns, before it does so and afterwards.
use Rattle.std.specs.Prelude.{ℕ, ◌≡◌, ◌<◌, []}
use Rattle.atomic_table.specs.Seated.{TableId}
use Rattle.turn_table.specs.Steps.{IsReady}
use Rattle.slice_cases.specs.declared.turns.Turner.{Turner}

-- its place is in the table, and nothing was done with its seat
pub record CanWork (table : TableId) (n : ℕ) (turner : Turner) : Type 0 where
  pub ready : IsReady table n turner.seat
  pub bare : turner.seat.me.0.entries ≡ []
  pub place : turner.place < table.words

pub record HasWorked (table : TableId) (n : ℕ) (before after : Turner) : Type 0 where
  pub ready : IsReady table n after.seat
  pub parts : after.seat.me.0.parts ≡ before.seat.me.0.parts
