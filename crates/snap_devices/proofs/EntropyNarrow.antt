-- What is read of an entropy device has its widths.
use Rattle.std.specs.List.{All}
use Rattle.le_fields.specs.Fields.{IsByte}
use Rattle.queue_device.specs.declared.device.QueueRounds.{QueueRounds}
use Rattle.entropy_device.specs.declared.kind.Stage.{Stage}
use Rattle.entropy_device.specs.declared.kind.Stage.TheVariants as at
use Rattle.entropy_device.specs.Work.{IsSmallStage, Kept}
use Rattle.guest_devices.specs.declared.device.Device.TheVariants as kept
use Rattle.guest_devices.specs.Narrow.{IsNarrowKept}
use Rattle.snap_devices.specs.Devices.{device}
use Rattle.snap_devices.specs.Entropies.{entropy, entropy_fields, kind, kind_fields}
use Rattle.snap_devices.proofs.Narrow.{HoldsPhase}
use Rattle.snap_devices.proofs.NetNarrow.{limits_narrow}
use Rattle.snap_devices.proofs.RoundsNarrow.{AreAllHeld, place_narrow, rounds_narrow}

-- the bytes of a word that it holds
abbrev pub HoldsWord : Stage → Type 0
HoldsWord at.Rest = Unit {0}
HoldsWord (at.Draw len index to) = Unit {0}
HoldsWord (at.Write len index spill) = All IsByte spill.held

stage_narrow : (s : Stage) → HoldsWord s → IsSmallStage s
stage_narrow at.Rest bytes = tt
stage_narrow (at.Draw len index to) bytes = tt
stage_narrow (at.Write len index spill) bytes = bytes

abbrev pub HoldsEntropy : QueueRounds Kept → Type 0
HoldsEntropy e = HoldsWord e.kind.stage × AreAllHeld e.rounds × HoldsPhase e.phase

entropy_narrow : (e : QueueRounds Kept) → entropy.Fits e → HoldsEntropy e → IsNarrowKept (kept.Entropy e)
unfolding entropy entropy_fields kind kind_fields
entropy_narrow e own bytes = (
  rounds_narrow e.rounds own.0.0 bytes.1,
  place_narrow e.phase own.0.1.0 bytes.2,
  stage_narrow e.kind.stage bytes.0,
  λ yes. limits_narrow e.kind.own.limits own.0.1.1.0.0,
)

pub entropy_is : (e : QueueRounds Kept) → device.Fits (kept.Entropy e) → HoldsEntropy e → IsNarrowKept (kept.Entropy e)
unfolding device
entropy_is e own bytes = entropy_narrow e own.1.1 bytes
