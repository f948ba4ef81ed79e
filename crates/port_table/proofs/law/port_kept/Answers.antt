-- Each is a lemma on the state.
use Rattle.port_table.proofs.Kept.{configured_kept, new_kept, touch_kept}
use Rattle.port_table.proofs.law.port_kept.Goals as goal

pub returns : goal.returns
returns c = record { new = new_kept; touched = touch_kept; configured = configured_kept }
