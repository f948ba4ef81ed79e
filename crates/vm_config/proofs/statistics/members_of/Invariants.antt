use Rattle.std.proofs.Common.{◌≡◌, drop, map}
use Rattle.serde_json.specs.View.{members_view}
use Rattle.vm_config.specs.Numbers.{and_numbers, numbered, row_of}
use Rattle.vm_config.proofs.statistics.members_of.Given as goal

-- what is left is added to what was
abbrev pub invariant-loop-row : goal.invariant-loop-row
invariant-loop-row l =
    and_numbers (map row_of (drop l.row-index l.rows)) (members_view l.members.entries) ≡ numbered (map row_of l.rows)
