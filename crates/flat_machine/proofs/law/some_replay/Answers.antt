use Rattle.flat_machine.specs.Widths.{HasWidths, IsSmallItem}
use Rattle.flat_machine.proofs.Small.{script_small}
use Rattle.flat_machine.proofs.SomeReplay.{replay_of}
use Rattle.flat_machine.proofs.Widths.{has_fields, item_widths, keeps_widths, new_widths}
use Rattle.flat_machine.proofs.law.some_replay.Goals as goal

pub returns : goal.returns
returns c script id saved calls are =
    replay_of HasWidths has_fields keeps_widths IsSmallItem item_widths script id saved calls (script_small script)
    (new_widths id saved calls are)
