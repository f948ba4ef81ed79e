use Rattle.std.proofs.Common.{◌≡◌, ◌++◌, false}
use Rattle.serde_json.specs.View.{members_view}
use Rattle.metadata_service.specs.Shown.{listing}
use Rattle.metadata_service.proofs.shown.listing.Given as goal

-- the text so far, and the lines of the members that are left
abbrev pub invariant-loop-key : goal.invariant-loop-key
invariant-loop-key l = listing false (members_view l.members.entries) ≡ l.text ++ listing l.later (members_view l.key-iterator)
