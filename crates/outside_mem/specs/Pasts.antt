-- What connections in memory are to give, and what passed on them.
use Rattle.std.specs.Prelude.{ℕ, true, List, [], ◌∷◌, map, take, drop}
use Rattle.serve_host.specs.Listening.{Ended, ended_of}
use Rattle.serve_host.specs.Passing.{ConnKnown}
use Rattle.outside_mem.specs.declared.memory_conn.MemoryCaller.{MemoryCaller}
use Rattle.outside_mem.specs.declared.passed.Passed.{Passed}
use Rattle.outside_mem.specs.declared.past.Past.{Past, Nothing, Conn'}

abbrev pub bytes_of : MemoryCaller → List ℕ
bytes_of caller = caller.bytes.items

-- what each of those that are to come will give
abbrev pub coming_in : List MemoryCaller → List (List ℕ)
coming_in callers = map bytes_of callers

abbrev pub gave_of : Passed → List ℕ
gave_of passed = take passed.at passed.bytes.items

abbrev pub took_of : Passed → List ℕ
took_of passed = passed.took.items

abbrev pub left_of : Passed → List ℕ
left_of passed = drop passed.at passed.bytes.items

-- what such a connection tells
abbrev pub conn_known : Passed → ℕ → ConnKnown
conn_known passed faults =
    record { health = record { tells = true; faults = faults }; gave = gave_of passed; took = took_of passed; left = left_of passed }

-- those that are over, the newest first
abbrev pub ended_in : Past → List Ended
ended_in Nothing = []
ended_in (Conn' passed faults p before) = ended_of (conn_known passed faults) ∷ ended_in before
