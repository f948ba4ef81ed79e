-- The two files of a create as files behind gates.
use Rattle.std.specs.Prelude.{ℕ, List, [], ◌∷◌, ◌++◌}
use Rattle.gate_file.specs.Pairs.{Target}
use Rattle.snap_writer.specs.Create.{memory_writes}

abbrev pub memory_target : List ℕ → List ℕ → List ℕ → Target
memory_target memory head bytes = record { name = memory; writes = memory_writes head bytes; rest = head ++ bytes }

abbrev pub state_target : List ℕ → List ℕ → Target
state_target state body = record { name = state; writes = (1, body) ∷ []; rest = body }
