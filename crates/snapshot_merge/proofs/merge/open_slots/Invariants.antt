use Rattle.std.proofs.Common.{◌≡◌, ◌+◌, drop}
use Rattle.snapshot_merge.specs.Merges.{open_slots}
use Rattle.snapshot_merge.proofs.merge.open_slots.Given as goal

abbrev pub invariant-loop-slot : goal.invariant-loop-slot
invariant-loop-slot l = record {
  index : l.count ≡ l.slot-index;
  opened : l.count + open_slots (drop l.slot-index l.slots) ≡ open_slots l.slots;
}
