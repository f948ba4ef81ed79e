-- A gate and its passes.
use Rattle.std.specs.Prelude.{◌≡◌, List, All, length}
use Rattle.atomic_table.specs.Seated.{TableId}
use Rattle.pause_gate.specs.declared.steps.Counts.{Counts}
use Rattle.monitor_serving.specs.declared.gating.Gating.{Gating}

-- They are of this gate, and as many as turns may want: one for each of 32 harts, for the timer, for a device that acts in a slice, and for
-- who asks before each turn.
pub record ArePasses (gate : TableId) (passes : List (TableId × Counts)) : Type 0 where
  pub many : length passes ≡ 35
  pub serve : All (λ pass. pass.0 ≡ gate) passes

-- all passes are of the gate that is beside them
pub record IsGated (it : Gating) : Type 0 where
  pub reader : it.reader.0 ≡ it.gate
  pub passes : ArePasses it.gate it.steering.passes.items

-- and it is the same gate, with as many steps
pub record StaysGated (old new : Gating) : Type 0 where
  pub gate : new.gate ≡ old.gate
  pub steps : new.steps ≡ old.steps
  pub is : IsGated new
