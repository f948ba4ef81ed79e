-- The host objects that devices ask: the disks, the links, the host's end of the vsock device, and words.
use Rattle.std.specs.Prelude.{ℕ, ◌≡◌, ◌-◌, Bool, true, false, if◌then◌else◌, nat_lt, List, Option, Some, None, length, option_map, slice_get}
use Rattle.api_calls.specs.declared.call.Drive.{Drive}
use Rattle.api_calls.specs.declared.interface.Interface.{Interface}
use Rattle.api_calls.specs.declared.vsock.Vsock.{Vsock}
use Rattle.vm_config.specs.declared.config.Config.{Config}
use Rattle.vm_config.specs.Drives.{in_order}
use Rattle.vm_types.specs.declared.op.OutOp.{OutOp}
use Rattle.vm_types.specs.declared.op.OutOp.TheVariants.{DiskFlush, DiskRead, DiskWrite, DrawWord, HostClose, HostDial, HostNext, HostSend, LinkEnd, LinkPart, LinkSend, LinkTake}
use Rattle.vm_types.specs.declared.reply.Reply.{Reply}
use Rattle.vm_host.specs.Devices.{ChangesAt}
use Rattle.vm_host.specs.Framing.{Drops, IsPiece, LinkKnown, SendsFrame, SendsPart, Takes, Wire}
use Rattle.vm_host.specs.Giving.{GivesWord, GuestWordsKnown}
use Rattle.vm_host.specs.Hosting.{Dials, Does, Happens, VsockKnown}
use Rattle.vm_host.specs.Hosting as hosting
use Rattle.vm_host.specs.Storing.{DiskKnown, FlushesDisk, IsPart, MayFlushDisk, MayWriteDisk, SameDisks, WritesDisk}
use Rattle.vm_host.specs.declared.attached.Attached.TheVariants as attached
use Rattle.vm_host.specs.declared.vsock_host.HostAct.TheVariants as done
use Rattle.vm_host.specs.declared.vsock_host.HostEvent.TheVariants as event
use Rattle.device_trace.specs.Acts.{is_disk_call}
use Rattle.monitor_machine.specs.Objects.{ObjectKind}

-- ---- disks

-- all but the files' names is as it was
pub record BesideDisks (old new : DiskKnown) : Type 0 where
  pub held : new.held ≡ old.held
  pub calls : new.calls ≡ old.calls

abbrev pub file_of : Config → ℕ → Option (List ℕ)
file_of config k = option_map (λ (drive : Drive). drive.path_on_host) (slice_get (in_order config.drives) k)

abbrev pub DiskHolds : ℕ → OutOp → Reply → DiskKnown → DiskKnown → Type 0
DiskHolds device (DiskRead sector part) (Reply.Bytes bytes) old new = IsPart (old.held device) sector part bytes × SameDisks old new
DiskHolds device (DiskWrite sector part bytes) Reply.Done old new = WritesDisk device sector part bytes old new
DiskHolds device (DiskWrite sector part bytes) reply old new = MayWriteDisk device sector part bytes old new
DiskHolds device DiskFlush Reply.Done old new = FlushesDisk device old new
DiskHolds device DiskFlush reply old new = MayFlushDisk device old new
DiskHolds device act reply old new = SameDisks old new

abbrev pub disks : ObjectKind DiskKnown
disks = record {
  health = λ disk. disk.health;
  names = λ disk. disk.files;
  configured = file_of;
  is_call = is_disk_call;
  Same = SameDisks;
  Beside = BesideDisks;
  Holds = DiskHolds;
}

-- ---- links

abbrev pub is_link_call : OutOp → Bool
is_link_call LinkTake = true
is_link_call (LinkPart index count) = true
is_link_call (LinkSend piece) = true
is_link_call LinkEnd = true
is_link_call act = false

pub record SameLinks (old new : LinkKnown) : Type 0 where
  pub sockets : new.sockets ≡ old.sockets
  pub wires : new.wires ≡ old.wires

-- all but the sockets' names is as it was
pub record BesideLinks (old new : LinkKnown) : Type 0 where
  pub wires : new.wires ≡ old.wires

-- the devices behind those of drives are those of interfaces
abbrev pub link_of : Config → ℕ → Option (List ℕ)
link_of config k =
    if nat_lt k (length config.drives) then None
    else option_map (λ (interface : Interface). interface.host_dev_name) (slice_get config.interfaces (k - length config.drives))

-- the device's wire changes so, and no socket's name
pub record Changes (device : ℕ) (Change : Wire → Wire → Type 0) (old new : LinkKnown) : Type 0 where
  pub sockets : new.sockets ≡ old.sockets
  pub wires : ChangesAt old.wires device new.wires Change

-- a frame was taken, and this is its length
pub record TakesOne (device count : ℕ) (old new : LinkKnown) : Type 0 where
  pub sockets : new.sockets ≡ old.sockets
  pub wires : Takes old.wires device new.wires (Some count)

abbrev pub LinkHolds : ℕ → OutOp → Reply → LinkKnown → LinkKnown → Type 0
LinkHolds device LinkTake (Reply.Frame count) old new = TakesOne device count old new
LinkHolds device (LinkPart index count) (Reply.Bytes bytes) old new =
    IsPiece (old.wires device).taken index count bytes × SameLinks old new
LinkHolds device (LinkSend piece) Reply.Done old new = Changes device (SendsPart piece) old new
LinkHolds device (LinkSend piece) reply old new = Changes device Drops old new
LinkHolds device LinkEnd Reply.Done old new = Changes device SendsFrame old new
LinkHolds device LinkEnd reply old new = Changes device Drops old new
LinkHolds device act reply old new = SameLinks old new

abbrev pub links : ObjectKind LinkKnown
links = record {
  health = λ link. link.health;
  names = λ link. link.sockets;
  configured = link_of;
  is_call = is_link_call;
  Same = SameLinks;
  Beside = BesideLinks;
  Holds = LinkHolds;
}

-- ---- the host's end of the vsock device

abbrev pub is_vsock_call : OutOp → Bool
is_vsock_call HostNext = true
is_vsock_call (HostDial port) = true
is_vsock_call (HostSend piece connection) = true
is_vsock_call (HostClose connection) = true
is_vsock_call act = false

-- all but the socket's name is as it was
pub record BesideVsock (old new : VsockKnown) : Type 0 where
  pub coming : new.coming ≡ old.coming
  pub answers : new.answers ≡ old.answers
  pub done : new.done ≡ old.done

-- there is one vsock device at most, whatever its number
abbrev pub socket_of : Config → ℕ → Option (List ℕ)
socket_of config k = option_map (λ (vsock : Vsock). vsock.uds_path) config.vsock

abbrev pub VsockHolds : ℕ → OutOp → Reply → VsockKnown → VsockKnown → Type 0
VsockHolds device HostNext (Reply.Opened connection) old new = Happens (event.New connection) old new
VsockHolds device HostNext (Reply.Received bytes connection) old new = Happens (event.Bytes connection bytes) old new
VsockHolds device HostNext (Reply.Ended connection) old new = Happens (event.Ended connection) old new
VsockHolds device (HostDial port) (Reply.Dialled connection) old new = Dials port old new (Some connection)
VsockHolds device (HostDial port) Reply.Nothing old new = Dials port old new None
VsockHolds device (HostSend bytes connection) Reply.Done old new = Does (done.Sent connection bytes) old new
VsockHolds device (HostClose connection) Reply.Done old new = Does (done.Closed connection) old new
VsockHolds device act reply old new = hosting.Rests old new

abbrev pub vsocks : ObjectKind VsockKnown
vsocks = record {
  health = λ vsock. vsock.health;
  names = λ vsock k. vsock.sockets;
  configured = socket_of;
  is_call = is_vsock_call;
  Same = hosting.Rests;
  Beside = BesideVsock;
  Holds = VsockHolds;
}

-- ---- words for entropy devices

abbrev pub is_word_call : OutOp → Bool
is_word_call DrawWord = true
is_word_call act = false

-- no device's words are attached by a name
pub record SameWords (old new : GuestWordsKnown) : Type 0 where
  pub left : new.left ≡ old.left

pub record GivesIt (device word : ℕ) (old new : GuestWordsKnown) : Type 0 where
  pub left : GivesWord device word old.left new.left

abbrev pub WordHolds : ℕ → OutOp → Reply → GuestWordsKnown → GuestWordsKnown → Type 0
WordHolds device DrawWord (Reply.Drawn word) old new = GivesIt device word old new
WordHolds device act reply old new = SameWords old new

abbrev pub words : ObjectKind GuestWordsKnown
words = record {
  health = λ words. words.health;
  names = λ words k. attached.Nothing;
  configured = λ config k. None;
  is_call = is_word_call;
  Same = SameWords;
  Beside = SameWords;
  Holds = WordHolds;
}

-- ---- all of them

-- what is known of each
pub record DevicesKnown : Type 0 where
  pub disk : DiskKnown
  pub link : LinkKnown
  pub vsock : VsockKnown
  pub words : GuestWordsKnown
