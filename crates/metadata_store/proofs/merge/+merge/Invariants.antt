use Rattle.std.proofs.Common.{◌≡◌}
use Rattle.serde_json.specs.View.{members_view}
use Rattle.metadata_store.specs.MergePatch.{merge_members}
use Rattle.metadata_store.proofs.merge.+merge.Given as goal

-- what is left to merge makes of the members so far what all of it makes of the first
abbrev pub invariant-merge_members-loop-name : goal.invariant-merge_members-loop-name
invariant-merge_members-loop-name l =
    merge_members (members_view l.members.entries) (members_view l.name-iterator)
    ≡ merge_members (members_view l.initial.members.entries) (members_view l.changes.entries)
