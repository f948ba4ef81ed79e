use Rattle.std.proofs.Common.{ap}
use Rattle.flat_guest.specs.Guest.{unwritten}
use Rattle.flat_machine.specs.Machine.{Machine}
use Rattle.flat_snapshot.specs.Carried.{carried_guest}
use Rattle.api_calls.specs.declared.call.SnapshotType.TheVariants as snapshot
use Rattle.snapshot_chain.proofs.Created.{copy_saved}
use Rattle.load_run.proofs.Alike.{same_words}
use Rattle.load_run.proofs.law.restored_shows_alike.Goals as goal

pub returns : goal.returns
returns c = λ first last savings base merged files k p m load own other full led is few first_text texts merges memory_there state_there leaves sound on timer reserved there shows_own shows_other.
    let loaded = c.merged_then_load.ensures.loads first last savings base merged files k p load full led few first_text texts merges memory_there state_there leaves in
    same_words c.hart_follows.ensures.one (unwritten last.guest) (carried_guest last.copy last.guest.memory.bytes) m p own other
    (c.goes_on_alike.ensures last.before.config last.guest last.copy _ _ sound is.is_copy (copy_saved snapshot.Diff last is) is.whole on timer reserved) there
    (ap (λ (q : Machine). q.guest) loaded) shows_own shows_other
