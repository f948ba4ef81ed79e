-- One file behind its gate: a header, and pages behind it.
use Rattle.std.specs.Prelude.{ℕ, List, ◌++◌}
use Rattle.vm_outside.specs.Calls.{FileCall}
use Rattle.gate_file.specs.Gate.{open_calls}
use Rattle.snap_writer.specs.Create.{memory_calls}

-- it is closed, filled and synced, and then opened
abbrev pub saving_calls : List ℕ → List ℕ → List ℕ → List FileCall
saving_calls name head bytes = memory_calls name head bytes ++ open_calls name (head ++ bytes)
