-- What is owed of each kind.
use Rattle.std.proofs.Common.{◌≡◌, ◌^◌, None, refl}
use Rattle.std.proofs.lemmas.Bool.{lt-ltb, ltb-true}
use Rattle.queue_device.specs.declared.lanes.Rounds.{Rounds}
use Rattle.queue_device.specs.declared.device.QueueRounds.{QueueRounds}
use Rattle.queue_device.specs.declared.phase.Phase.{Phase}
use Rattle.block_device.specs.declared.data.BlockData.{BlockData}
use Rattle.block_device.specs.declared.kind.BlockChange.TheVariants.{Limits, Sectors}
use Rattle.block_device.specs.declared.kind.BlockKind.{BlockKind}
use Rattle.block_device.specs.Working.{Working}
use Rattle.block_device.proofs.Owes.{owes}
use Rattle.block_device.proofs.Resuming.{resumes}
use Rattle.net_device.specs.declared.kind.NetChange.TheVariants.{Receives, Transmits}
use Rattle.net_device.specs.Net as nets
use Rattle.net_device.specs.Work as net_work
use Rattle.net_device.proofs.Net as net
use Rattle.net_device.proofs.Resuming as net_resuming
use Rattle.balloon_device.specs.declared.kind.BalloonChange.TheVariants.{Interval}
use Rattle.balloon_device.specs.declared.kind.Stage.{Stage}
use Rattle.balloon_device.specs.Balloon as balloons
use Rattle.balloon_device.specs.Work.{Kept}
use Rattle.balloon_device.proofs.Balloon as balloon
use Rattle.balloon_device.proofs.Resuming as balloon_resuming
use Rattle.vsock_device.specs.declared.data.Vsock.{Vsock as VsockData}
use Rattle.vsock_device.specs.declared.kind.Stage.{Stage as VsockStage}
use Rattle.vsock_device.specs.declared.kind.VsockKind.{VsockKind}
use Rattle.vsock_device.proofs.Owes as vsock
use Rattle.vsock_device.proofs.Resuming as vsock_resuming
use Rattle.entropy_device.specs.declared.kind.Stage.{Stage as EntropyStage}
use Rattle.entropy_device.specs.Entropy as entropies
use Rattle.entropy_device.specs.Work as entropy_work
use Rattle.entropy_device.proofs.Entropy as entropy
use Rattle.entropy_device.proofs.Resuming as entropy_resuming
use Rattle.guest_devices.specs.declared.change.DeviceChange.{DeviceChange}
use Rattle.guest_devices.specs.declared.change.DeviceChange.TheVariants as changes
use Rattle.guest_devices.specs.declared.device.Device.TheVariants as device
use Rattle.guest_devices.specs.Kinds.{Balloon, Block, Entropy, FitsChange, Kind, Net, Vsock, change_for}
use Rattle.guest_devices.specs.Sound.{KindLaws, LeavesFine}

-- ---- a block device

-- another size of its disk, or other limits
block_changed : (change : DeviceChange) → FitsChange change → LeavesFine Block (change_for change Block)
block_changed (changes.Block (Sectors sectors)) size = λ e was. (size, size)
block_changed (changes.Block (Limits bandwidth ops)) fits = λ e was. (was, was)
block_changed (changes.Net c) fits = tt
block_changed (changes.Balloon c) fits = tt

-- as its code keeps it
abbrev block_with : Phase → Rounds → BlockData → Working → QueueRounds BlockKind
block_with p r e g = record { rounds = r; kind = record { facts = e; work = g }; phase = p }

block_laws : KindLaws Block
block_laws = record {
  confines = owes;
  resumes = resumes;
  changed = block_changed;
  reset = tt;
  tested = λ e is. ltb-true e.sectors (2 ^ 64) is;
  tests = λ e fine. lt-ltb e.sectors (2 ^ 64) fine;
  held = λ p r e g is. (device.Block (block_with p r e g), refl);
}

-- ---- a network device

-- other limits
net_changed : (change : DeviceChange) → FitsChange change → LeavesFine Net (change_for change Net)
net_changed (changes.Net (Receives bandwidth ops)) fits = λ e was. (tt, tt)
net_changed (changes.Net (Transmits bandwidth ops)) fits = λ e was. (tt, tt)
net_changed (changes.Block c) fits = tt
net_changed (changes.Balloon c) fits = tt

abbrev net_with : Phase → Rounds → nets.Net → net_work.AtWork → QueueRounds net_work.Kept
net_with p r e g = record { rounds = r; kind = record { own = e; doing = g }; phase = p }

net_laws : KindLaws Net
net_laws = record {
  confines = net.owes;
  resumes = net_resuming.resumes;
  changed = net_changed;
  reset = tt;
  tested = λ e is. tt;
  tests = λ e fine. refl;
  held = λ p r e g is. (device.Net (net_with p r e g), refl);
}

-- ---- a vsock device

pub vsock_unchanged : (change : DeviceChange) → change_for change Vsock ≡ None
vsock_unchanged (changes.Block c) = refl
vsock_unchanged (changes.Net c) = refl
vsock_unchanged (changes.Balloon c) = refl

vsock_changed : (change : DeviceChange) → FitsChange change → LeavesFine Vsock (change_for change Vsock)
vsock_changed (changes.Block c) fits = tt
vsock_changed (changes.Net c) fits = tt
vsock_changed (changes.Balloon c) fits = tt

abbrev vsock_with : Phase → Rounds → VsockData → VsockStage → QueueRounds VsockKind
vsock_with p r e g = record { rounds = r; kind = record { own = e; stage = g }; phase = p }

vsock_laws : KindLaws Vsock
vsock_laws = record {
  confines = vsock.owes;
  resumes = vsock_resuming.resumes;
  changed = vsock_changed;
  reset = λ e was. (tt, tt);
  tested = λ e is. tt;
  tests = λ e fine. refl;
  held = λ p r e g is. (device.Vsock (vsock_with p r e g), refl);
}

-- ---- a balloon

-- another interval
balloon_changed : (change : DeviceChange) → FitsChange change → LeavesFine Balloon (change_for change Balloon)
balloon_changed (changes.Balloon (Interval seconds)) fits = λ e was. (tt, tt)
balloon_changed (changes.Block c) fits = tt
balloon_changed (changes.Net c) fits = tt

abbrev balloon_with : Phase → Rounds → balloons.Balloon → Stage → QueueRounds Kept
balloon_with p r e g = record { rounds = r; kind = record { own = e; stage = g }; phase = p }

balloon_laws : KindLaws Balloon
balloon_laws = record {
  confines = balloon.owes;
  resumes = balloon_resuming.resumes;
  changed = balloon_changed;
  reset = tt;
  tested = λ e is. tt;
  tests = λ e fine. refl;
  held = λ p r e g is. (device.Balloon (balloon_with p r e g), refl);
}

-- ---- an entropy device

pub entropy_unchanged : (change : DeviceChange) → change_for change Entropy ≡ None
entropy_unchanged (changes.Block c) = refl
entropy_unchanged (changes.Net c) = refl
entropy_unchanged (changes.Balloon c) = refl

entropy_changed : (change : DeviceChange) → FitsChange change → LeavesFine Entropy (change_for change Entropy)
entropy_changed (changes.Block c) fits = tt
entropy_changed (changes.Net c) fits = tt
entropy_changed (changes.Balloon c) fits = tt

abbrev entropy_with : Phase → Rounds → entropies.Entropy → EntropyStage → QueueRounds entropy_work.Kept
entropy_with p r e g = record { rounds = r; kind = record { own = e; stage = g }; phase = p }

entropy_laws : KindLaws Entropy
entropy_laws = record {
  confines = entropy.owes;
  resumes = entropy_resuming.resumes;
  changed = entropy_changed;
  reset = tt;
  tested = λ e is. tt;
  tests = λ e fine. refl;
  held = λ p r e g is. (device.Entropy (entropy_with p r e g), refl);
}

-- ---- each

pub laws : (k : Kind) → KindLaws k
laws Block = block_laws
laws Net = net_laws
laws Vsock = vsock_laws
laws Balloon = balloon_laws
laws Entropy = entropy_laws
