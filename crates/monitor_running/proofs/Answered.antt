-- The object of one kind answered, and the others were not asked.
use Rattle.std.proofs.Common.{◌≡◌, ℕ, true, false, refl, sym, ap, ◌∙◌, subst, Option, Some, None}
use Rattle.vm_types.specs.declared.op.Op.{Op}
use Rattle.vm_types.specs.declared.op.OutOp.{OutOp}
use Rattle.vm_types.specs.declared.op.OutOp.TheVariants.{DiskFlush, DiskRead, DiskWrite, DrawWord, HostClose, HostDial, HostNext, HostSend, LinkEnd, LinkPart, LinkSend, LinkTake}
use Rattle.vm_types.specs.declared.reply.Reply.{Reply}
use Rattle.vm_host.specs.Framing.{LinkKnown}
use Rattle.vm_host.specs.Giving.{GuestWordsKnown}
use Rattle.vm_host.specs.Hosting.{VsockKnown}
use Rattle.vm_host.specs.Storing.{DiskKnown}
use Rattle.vm_host.specs.Telling.{ClockKnown}
use Rattle.device_trace.specs.Acts.{is_disk_call}
use Rattle.monitor_machine.specs.Kinds.{DevicesKnown, disks, is_link_call, is_vsock_call, is_word_call, links, vsocks, words}
use Rattle.monitor_running.specs.Devices.{IsGiven, IsGivenBy}
use Rattle.monitor_running.specs.Asked.{HostKnown}
use Rattle.monitor_running.specs.Objects.{TurnKnown, with_devices, with_host}
use Rattle.monitor_running.proofs.KindLaws.{disks_law, links_law, vsocks_law, words_law}
use Rattle.monitor_running.proofs.OneKind.{asks_not, asks_own}

-- ---- no call is of two kinds

disk_is_no_link : (act : OutOp) → is_disk_call act ≡ true → is_link_call act ≡ false
disk_is_no_link LinkTake is = cc
disk_is_no_link (LinkPart index count) is = cc
disk_is_no_link (LinkSend piece) is = cc
disk_is_no_link LinkEnd is = cc
disk_is_no_link act is = refl

disk_is_no_vsock : (act : OutOp) → is_disk_call act ≡ true → is_vsock_call act ≡ false
disk_is_no_vsock HostNext is = cc
disk_is_no_vsock (HostDial port) is = cc
disk_is_no_vsock (HostSend piece connection) is = cc
disk_is_no_vsock (HostClose connection) is = cc
disk_is_no_vsock act is = refl

link_is_no_disk : (act : OutOp) → is_link_call act ≡ true → is_disk_call act ≡ false
link_is_no_disk (DiskRead sector part) is = cc
link_is_no_disk (DiskWrite sector part piece) is = cc
link_is_no_disk DiskFlush is = cc
link_is_no_disk act is = refl

link_is_no_vsock : (act : OutOp) → is_link_call act ≡ true → is_vsock_call act ≡ false
link_is_no_vsock HostNext is = cc
link_is_no_vsock (HostDial port) is = cc
link_is_no_vsock (HostSend piece connection) is = cc
link_is_no_vsock (HostClose connection) is = cc
link_is_no_vsock act is = refl

vsock_is_no_disk : (act : OutOp) → is_vsock_call act ≡ true → is_disk_call act ≡ false
vsock_is_no_disk (DiskRead sector part) is = cc
vsock_is_no_disk (DiskWrite sector part piece) is = cc
vsock_is_no_disk DiskFlush is = cc
vsock_is_no_disk act is = refl

vsock_is_no_link : (act : OutOp) → is_vsock_call act ≡ true → is_link_call act ≡ false
vsock_is_no_link LinkTake is = cc
vsock_is_no_link (LinkPart index count) is = cc
vsock_is_no_link (LinkSend piece) is = cc
vsock_is_no_link LinkEnd is = cc
vsock_is_no_link act is = refl

-- a call for a word is of no other kind
disk_is_no_word : (act : OutOp) → is_disk_call act ≡ true → is_word_call act ≡ false
disk_is_no_word DrawWord is = cc
disk_is_no_word act is = refl

link_is_no_word : (act : OutOp) → is_link_call act ≡ true → is_word_call act ≡ false
link_is_no_word DrawWord is = cc
link_is_no_word act is = refl

vsock_is_no_word : (act : OutOp) → is_vsock_call act ≡ true → is_word_call act ≡ false
vsock_is_no_word DrawWord is = cc
vsock_is_no_word act is = refl

word_is_no_disk : (act : OutOp) → is_word_call act ≡ true → is_disk_call act ≡ false
word_is_no_disk DrawWord is = refl
word_is_no_disk act is = cc

word_is_no_link : (act : OutOp) → is_word_call act ≡ true → is_link_call act ≡ false
word_is_no_link DrawWord is = refl
word_is_no_link act is = cc

word_is_no_vsock : (act : OutOp) → is_word_call act ≡ true → is_vsock_call act ≡ false
word_is_no_vsock DrawWord is = refl
word_is_no_vsock act is = cc

-- ---- what one kind gives is given

pub of_disk : (k : ℕ) (act : OutOp) (given : Option Reply) (old : DevicesKnown) (disk : DiskKnown)
    → IsGivenBy disks k (Op.Out act) old.disk given disk → IsGiven k (Op.Out act) old given (record old { disk = disk })
of_disk k act None old disk it = ap (λ (d : DiskKnown). record old { disk = d }) it
of_disk k act (Some r) old disk it = (
  it.1,
  it.2,
  record {
    disk = asks_own disks disks_law act k r old.disk disk it.0 it.3;
    link = asks_not links links_law act k r old.link old.link (disk_is_no_link act it.0) refl;
    vsock = asks_not vsocks vsocks_law act k r old.vsock old.vsock (disk_is_no_vsock act it.0) refl;
    words = asks_not words words_law act k r old.words old.words (disk_is_no_word act it.0) refl;
  },
)

pub of_link : (k : ℕ) (act : OutOp) (given : Option Reply) (old : DevicesKnown) (link : LinkKnown)
    → IsGivenBy links k (Op.Out act) old.link given link → IsGiven k (Op.Out act) old given (record old { link = link })
of_link k act None old link it = ap (λ (l : LinkKnown). record old { link = l }) it
of_link k act (Some r) old link it = (
  it.1,
  it.2,
  record {
    disk = asks_not disks disks_law act k r old.disk old.disk (link_is_no_disk act it.0) refl;
    link = asks_own links links_law act k r old.link link it.0 it.3;
    vsock = asks_not vsocks vsocks_law act k r old.vsock old.vsock (link_is_no_vsock act it.0) refl;
    words = asks_not words words_law act k r old.words old.words (link_is_no_word act it.0) refl;
  },
)

pub of_vsock : (k : ℕ) (act : OutOp) (given : Option Reply) (old : DevicesKnown) (vsock : VsockKnown)
    → IsGivenBy vsocks k (Op.Out act) old.vsock given vsock → IsGiven k (Op.Out act) old given (record old { vsock = vsock })
of_vsock k act None old vsock it = ap (λ (v : VsockKnown). record old { vsock = v }) it
of_vsock k act (Some r) old vsock it = (
  it.1,
  it.2,
  record {
    disk = asks_not disks disks_law act k r old.disk old.disk (vsock_is_no_disk act it.0) refl;
    link = asks_not links links_law act k r old.link old.link (vsock_is_no_link act it.0) refl;
    vsock = asks_own vsocks vsocks_law act k r old.vsock vsock it.0 it.3;
    words = asks_not words words_law act k r old.words old.words (vsock_is_no_word act it.0) refl;
  },
)

pub of_words : (k : ℕ) (act : OutOp) (given : Option Reply) (old : DevicesKnown) (left : GuestWordsKnown)
    → IsGivenBy words k (Op.Out act) old.words given left → IsGiven k (Op.Out act) old given (record old { words = left })
of_words k act None old left it = ap (λ (w : GuestWordsKnown). record old { words = w }) it
of_words k act (Some r) old left it = (
  it.1,
  it.2,
  record {
    disk = asks_not disks disks_law act k r old.disk old.disk (word_is_no_disk act it.0) refl;
    link = asks_not links links_law act k r old.link old.link (word_is_no_link act it.0) refl;
    vsock = asks_not vsocks vsocks_law act k r old.vsock old.vsock (word_is_no_vsock act it.0) refl;
    words = asks_own words words_law act k r old.words left it.0 it.3;
  },
)

-- ---- the clock and the objects of devices were lent, and given back

pub host_given : (k : ℕ) (op : Op) (given : Option Reply) (was now : TurnKnown) (lent back : HostKnown) → lent ≡ was.host
    → now ≡ with_host was back → IsGiven k op lent.devices given back.devices → IsGiven k op was.host.devices given now.host.devices
host_given k op given was now lent back from set it =
    subst (λ (x : TurnKnown). IsGiven k op was.host.devices given x.host.devices) (sym set)
    (subst (λ (h : HostKnown). IsGiven k op h.devices given back.devices) from it)

-- the clock was asked nothing
pub host_beside : (was now : TurnKnown) (lent back : HostKnown) → lent ≡ was.host → now ≡ with_host was back → back.clock ≡ lent.clock
    → now ≡ with_devices was now.host.devices
host_beside was now lent back from set same =
    subst (λ (x : TurnKnown). x ≡ with_devices was x.host.devices) (sym set)
    (ap (λ (c : ClockKnown). with_host was (record { clock = c; devices = back.devices })) (same ∙ ap (λ (h : HostKnown). h.clock) from))
