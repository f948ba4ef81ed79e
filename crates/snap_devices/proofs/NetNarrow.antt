-- What is read of a network device has its widths.
use Rattle.std.proofs.Common.{◌≤◌, ℕ, nat_le, List, length}
use Rattle.std.specs.List.{All}
use Rattle.std.proofs.lemmas.Bool.{and_parts, leb-true}
use Rattle.le_fields.specs.Fields.{IsByte}
use Rattle.file_format.proofs.Fitting.{of64}
use Rattle.rate_gate.specs.Gate.{Buckets}
use Rattle.rate_gate.specs.Small.{AreSmallLimits}
use Rattle.queue_device.specs.declared.device.QueueRounds.{QueueRounds}
use Rattle.net_device.specs.declared.kind.Stage.{Stage}
use Rattle.net_device.specs.declared.kind.Stage.TheVariants as at
use Rattle.net_device.specs.Frames.{is_headed}
use Rattle.net_device.specs.Work.{IsSmallStage, IsSmallText, Kept}
use Rattle.guest_devices.specs.declared.device.Device.TheVariants as kept
use Rattle.guest_devices.specs.Narrow.{IsNarrowKept}
use Rattle.snap_devices.specs.Devices.{device}
use Rattle.snap_devices.specs.Limits.{limits}
use Rattle.snap_devices.specs.Nets.{kind, kind_fields, net, net_fields, stage as stage_format, text}
use Rattle.snap_devices.specs.Queues.{piece}
use Rattle.snap_devices.proofs.Narrow.{HoldsPhase, buckets_of}
use Rattle.snap_devices.proofs.RoundsNarrow.{AreAllHeld, place_narrow, rounds_narrow}

text_narrow : (bytes : List ℕ) → text.Fits bytes → All IsByte bytes → IsSmallText bytes
unfolding text
text_narrow bytes own all =
    let both = and_parts (nat_le (length bytes) 1526) (is_headed bytes) own.1 in
    (leb-true (length bytes) 1526 both.0, all, both.1)

piece_most : (bytes : List ℕ) → piece.Fits bytes → length bytes ≤ 64
unfolding piece
piece_most bytes own = leb-true (length bytes) 64 own.1

pub limits_narrow : (b : Buckets) → limits.Fits b → AreSmallLimits b
unfolding limits
limits_narrow b own = (buckets_of b.bandwidth own.0, buckets_of b.ops own.1)

-- the bytes of a piece that it sends
abbrev pub HoldsPiece : Stage → Type 0
HoldsPiece (at.Send sent skip from) = All IsByte sent
HoldsPiece s = Unit {0}

stage_narrow : (s : Stage) → stage_format.Fits s → HoldsPiece s → IsSmallStage s
unfolding stage_format
stage_narrow at.Rest own bytes = tt
stage_narrow (at.Take size index) own bytes = tt
stage_narrow (at.Receive from to) own bytes = tt
stage_narrow (at.Read skip from) own bytes = of64 skip own.1.1.0
stage_narrow (at.Send sent skip from) own bytes = (piece_most sent own.1.1.0, bytes, of64 skip own.1.1.1.0)
stage_narrow at.End own bytes = tt

-- what it holds are bytes
abbrev pub HoldsNet : QueueRounds Kept → Type 0
HoldsNet n = All IsByte n.kind.own.text × HoldsPiece n.kind.doing.stage × All IsByte n.kind.doing.bytes × AreAllHeld n.rounds
    × HoldsPhase n.phase

net_narrow : (n : QueueRounds Kept) → net.Fits n → HoldsNet n → IsNarrowKept (kept.Net n)
unfolding net net_fields kind kind_fields
net_narrow n own bytes = (
  rounds_narrow n.rounds own.0.0 bytes.3,
  place_narrow n.phase own.0.1.0 bytes.4,
  (stage_narrow n.kind.doing.stage own.0.1.1.0.1.1.1.0 bytes.1, text_narrow n.kind.doing.bytes own.0.1.1.0.1.1.1.1 bytes.2),
  λ yes. record {
    text = text_narrow n.kind.own.text own.0.1.1.0.0 bytes.0;
    rx = limits_narrow n.kind.own.rx own.0.1.1.0.1.0;
    tx = limits_narrow n.kind.own.tx own.0.1.1.0.1.1.0;
  },
)

pub net_is : (n : QueueRounds Kept) → device.Fits (kept.Net n) → HoldsNet n → IsNarrowKept (kept.Net n)
unfolding device
net_is n own bytes = net_narrow n own.1.1 bytes
