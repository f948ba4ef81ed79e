-- The kinds of objects that devices ask: that nothing passed, and then a call.
use Rattle.std.proofs.Common.{◌≡◌, ℕ, refl, sym, ap, ◌∙◌, subst, Option, Some, None, List, [], ◌∷◌, ◌++◌}
use Rattle.vm_types.specs.declared.op.OutOp.{OutOp}
use Rattle.vm_types.specs.declared.op.OutOp.TheVariants.{DiskFlush, DiskRead, DiskWrite, DrawWord, HostClose, HostDial, HostNext, HostSend, LinkEnd, LinkPart, LinkSend, LinkTake}
use Rattle.vm_types.specs.declared.reply.Reply.{Reply}
use Rattle.vm_host.specs.declared.attached.Attached.{Attached}
use Rattle.vm_host.specs.declared.disk.DiskCall.{DiskCall}
use Rattle.vm_host.specs.declared.disk.DiskCall.TheVariants as call
use Rattle.vm_host.specs.declared.vsock_host.HostAct.{HostAct}
use Rattle.vm_host.specs.declared.vsock_host.HostAct.TheVariants as done
use Rattle.vm_host.specs.declared.vsock_host.HostEvent.{HostEvent}
use Rattle.vm_host.specs.declared.vsock_host.HostEvent.TheVariants as event
use Rattle.vm_host.specs.Devices.{ChangesAt}
use Rattle.vm_host.specs.Framing.{Drops, IsPiece, LinkKnown, SendsFrame, SendsPart, Takes, Wire}
use Rattle.vm_host.specs.Giving.{GivesWord, GuestWordsKnown}
use Rattle.vm_host.specs.Hosting.{Dials, Does, Happens, IsAnswered, VsockKnown}
use Rattle.vm_host.specs.Hosting as hosting
use Rattle.vm_host.specs.Storing.{DiskKnown, IsMade, IsPart, MayBeMade, SameDisks, WritesPart}
use Rattle.monitor_machine.specs.Kinds.{Changes, DiskHolds, LinkHolds, SameLinks, SameWords, VsockHolds, WordHolds, disks, links, vsocks, words}
use Rattle.monitor_machine.specs.Objects.{ObjectKind}

-- of a kind: nothing passed where nothing was done, and where nothing passed twice; then all beside the names is as it was, and so are
-- the names, which a call leaves too; and a call behind that is the same call
pub record KindLaw {K : Type 0} (kind : ObjectKind K) : Type 0 where
  pub none : (a : K) → kind.Same a a
  pub more : (a b c : K) → kind.Same a b → kind.Same b c → kind.Same a c
  pub beside : (a b : K) → kind.Same a b → kind.Beside a b
  pub named : (a b : K) → kind.Same a b → kind.names b ≡ kind.names a
  pub called : (k : ℕ) (act : OutOp) (reply : Reply) (a b : K) → kind.Holds k act reply a b → kind.names b ≡ kind.names a
  pub later : (k : ℕ) (act : OutOp) (reply : Reply) (a b c : K) → kind.Same a b → kind.Holds k act reply b c → kind.Holds k act reply a c

-- ---- disks

disks_more : (a b c : DiskKnown) → SameDisks a b → SameDisks b c → SameDisks a c
disks_more a b c first behind = record {
  files = behind.files ∙ first.files;
  held = behind.held ∙ first.held;
  calls = behind.calls ∙ first.calls;
}

disk_called : (k : ℕ) (act : OutOp) (reply : Reply) (old new : DiskKnown) → DiskHolds k act reply old new → new.files ≡ old.files
disk_called k (DiskRead sector part) (Reply.Bytes bytes) old new holds = holds.1.files
disk_called k (DiskRead sector part) reply old new holds = holds.files
disk_called k (DiskWrite sector part bytes) Reply.Done old new holds = holds.files
disk_called k (DiskWrite sector part bytes) reply old new holds = holds.files
disk_called k DiskFlush Reply.Done old new holds = holds.files
disk_called k DiskFlush reply old new holds = holds.files
disk_called k act reply old new holds = holds.files

disk_later : (k : ℕ) (act : OutOp) (reply : Reply) (a b c : DiskKnown) → SameDisks a b → DiskHolds k act reply b c → DiskHolds k act reply a c
disk_later k (DiskRead sector part) (Reply.Bytes bytes) a b c same holds =
    (subst (λ (h : ℕ → List ℕ). IsPart (h k) sector part bytes) same.held holds.0, disks_more a b c same holds.1)
disk_later k (DiskRead sector part) reply a b c same holds = disks_more a b c same holds
disk_later k (DiskWrite sector part bytes) Reply.Done a b c same holds = record {
  files = holds.files ∙ same.files;
  held = subst (λ (h : ℕ → List ℕ). ChangesAt h k c.held (WritesPart sector part bytes)) same.held holds.held;
  calls = subst (λ (l : List DiskCall). IsMade l (call.Wrote k sector part bytes) c.calls) same.calls holds.calls;
}
disk_later k (DiskWrite sector part bytes) reply a b c same holds = record {
  files = holds.files ∙ same.files;
  held = subst (λ (h : ℕ → List ℕ). ChangesAt h k c.held (λ before after. Unit {0})) same.held holds.held;
  calls = subst (λ (l : List DiskCall). MayBeMade l (call.Wrote k sector part bytes) c.calls) same.calls holds.calls;
}
disk_later k DiskFlush Reply.Done a b c same holds = record {
  files = holds.files ∙ same.files;
  held = holds.held ∙ same.held;
  calls = subst (λ (l : List DiskCall). IsMade l (call.Flushed k) c.calls) same.calls holds.calls;
}
disk_later k DiskFlush reply a b c same holds = record {
  files = holds.files ∙ same.files;
  held = holds.held ∙ same.held;
  calls = subst (λ (l : List DiskCall). MayBeMade l (call.Flushed k) c.calls) same.calls holds.calls;
}
disk_later k act reply a b c same holds = disks_more a b c same holds

pub disks_law : KindLaw disks
disks_law = record {
  none = λ a. record { files = refl; held = refl; calls = refl };
  more = disks_more;
  beside = λ a b same. record { held = same.held; calls = same.calls };
  named = λ a b same. same.files;
  called = disk_called;
  later = disk_later;
}

-- ---- links

links_more : (a b c : LinkKnown) → SameLinks a b → SameLinks b c → SameLinks a c
links_more a b c first behind =
    record { sockets = behind.sockets ∙ first.sockets; wires = behind.wires ∙ first.wires }

link_called : (k : ℕ) (act : OutOp) (reply : Reply) (old new : LinkKnown) → LinkHolds k act reply old new → new.sockets ≡ old.sockets
link_called k LinkTake (Reply.Frame count) old new holds = holds.sockets
link_called k LinkTake reply old new holds = holds.sockets
link_called k (LinkPart index count) (Reply.Bytes bytes) old new holds = holds.1.sockets
link_called k (LinkPart index count) reply old new holds = holds.sockets
link_called k (LinkSend piece) Reply.Done old new holds = holds.sockets
link_called k (LinkSend piece) reply old new holds = holds.sockets
link_called k LinkEnd Reply.Done old new holds = holds.sockets
link_called k LinkEnd reply old new holds = holds.sockets
link_called k act reply old new holds = holds.sockets

changes_later : (k : ℕ) (Change : Wire → Wire → Type 0) (a b c : LinkKnown) → SameLinks a b → Changes k Change b c → Changes k Change a c
changes_later k Change a b c same changes = record {
  sockets = changes.sockets ∙ same.sockets;
  wires = subst (λ (w : ℕ → Wire). ChangesAt w k c.wires Change) same.wires changes.wires;
}

link_later : (k : ℕ) (act : OutOp) (reply : Reply) (a b c : LinkKnown) → SameLinks a b → LinkHolds k act reply b c → LinkHolds k act reply a c
link_later k LinkTake (Reply.Frame count) a b c same holds = record {
  sockets = holds.sockets ∙ same.sockets;
  wires = subst (λ (w : ℕ → Wire). Takes w k c.wires (Some count)) same.wires holds.wires;
}
link_later k LinkTake reply a b c same holds = links_more a b c same holds
link_later k (LinkPart index count) (Reply.Bytes bytes) a b c same holds =
    (subst (λ (w : ℕ → Wire). IsPiece (w k).taken index count bytes) same.wires holds.0, links_more a b c same holds.1)
link_later k (LinkPart index count) reply a b c same holds = links_more a b c same holds
link_later k (LinkSend piece) Reply.Done a b c same holds = changes_later k (SendsPart piece) a b c same holds
link_later k (LinkSend piece) reply a b c same holds = changes_later k Drops a b c same holds
link_later k LinkEnd Reply.Done a b c same holds = changes_later k SendsFrame a b c same holds
link_later k LinkEnd reply a b c same holds = changes_later k Drops a b c same holds
link_later k act reply a b c same holds = links_more a b c same holds

pub links_law : KindLaw links
links_law = record {
  none = λ a. record { sockets = refl; wires = refl };
  more = links_more;
  beside = λ a b same. record { wires = same.wires };
  named = λ a b same. same.sockets;
  called = link_called;
  later = link_later;
}

-- ---- the host's end of the vsock device

vsocks_more : (a b c : VsockKnown) → hosting.Rests a b → hosting.Rests b c → hosting.Rests a c
vsocks_more a b c first behind = record {
  sockets = behind.sockets ∙ first.sockets;
  coming = behind.coming ∙ first.coming;
  answers = behind.answers ∙ first.answers;
  done = behind.done ∙ first.done;
}

-- every device's is the one that there is
one_name : (a b : VsockKnown) → b.sockets ≡ a.sockets → vsocks.names b ≡ vsocks.names a
one_name a b same = ap {B = ℕ → Attached} (λ (name : Attached) (k : ℕ). name) same

vsock_called : (k : ℕ) (act : OutOp) (reply : Reply) (old new : VsockKnown) → VsockHolds k act reply old new → new.sockets ≡ old.sockets
vsock_called k HostNext (Reply.Opened connection) old new holds = holds.sockets
vsock_called k HostNext (Reply.Received bytes connection) old new holds = holds.sockets
vsock_called k HostNext (Reply.Ended connection) old new holds = holds.sockets
vsock_called k HostNext reply old new holds = holds.sockets
vsock_called k (HostDial port) (Reply.Dialled connection) old new holds = holds.sockets
vsock_called k (HostDial port) Reply.Nothing old new holds = holds.sockets
vsock_called k (HostDial port) reply old new holds = holds.sockets
vsock_called k (HostSend bytes connection) Reply.Done old new holds = holds.sockets
vsock_called k (HostSend bytes connection) reply old new holds = holds.sockets
vsock_called k (HostClose connection) Reply.Done old new holds = holds.sockets
vsock_called k (HostClose connection) reply old new holds = holds.sockets
vsock_called k act reply old new holds = holds.sockets

happens_later : (happened : HostEvent) (a b c : VsockKnown) → hosting.Rests a b → Happens happened b c → Happens happened a c
happens_later happened a b c same happens = record {
  sockets = happens.sockets ∙ same.sockets;
  coming = sym same.coming ∙ happens.coming;
  answers = happens.answers ∙ same.answers;
  done = happens.done ∙ same.done;
}

dials_later : (port : ℕ) (answer : Option ℕ) (a b c : VsockKnown) → hosting.Rests a b → Dials port b c answer → Dials port a c answer
dials_later port answer a b c same dials = record {
  sockets = dials.sockets ∙ same.sockets;
  coming = dials.coming ∙ same.coming;
  answered = subst (λ (l : List (Option ℕ)). IsAnswered l answer c.answers) same.answers dials.answered;
  done = dials.done ∙ ap (λ (l : List HostAct). l ++ done.Dialled port answer ∷ []) same.done;
}

does_later : (what : HostAct) (a b c : VsockKnown) → hosting.Rests a b → Does what b c → Does what a c
does_later what a b c same does = record {
  sockets = does.sockets ∙ same.sockets;
  coming = does.coming ∙ same.coming;
  answers = does.answers ∙ same.answers;
  done = does.done ∙ ap (λ (l : List HostAct). l ++ what ∷ []) same.done;
}

vsock_later : (k : ℕ) (act : OutOp) (reply : Reply) (a b c : VsockKnown) → hosting.Rests a b → VsockHolds k act reply b c
    → VsockHolds k act reply a c
vsock_later k HostNext (Reply.Opened connection) a b c same holds = happens_later (event.New connection) a b c same holds
vsock_later k HostNext (Reply.Received bytes connection) a b c same holds = happens_later (event.Bytes connection bytes) a b c same holds
vsock_later k HostNext (Reply.Ended connection) a b c same holds = happens_later (event.Ended connection) a b c same holds
vsock_later k HostNext reply a b c same holds = vsocks_more a b c same holds
vsock_later k (HostDial port) (Reply.Dialled connection) a b c same holds = dials_later port (Some connection) a b c same holds
vsock_later k (HostDial port) Reply.Nothing a b c same holds = dials_later port None a b c same holds
vsock_later k (HostDial port) reply a b c same holds = vsocks_more a b c same holds
vsock_later k (HostSend bytes connection) Reply.Done a b c same holds = does_later (done.Sent connection bytes) a b c same holds
vsock_later k (HostSend bytes connection) reply a b c same holds = vsocks_more a b c same holds
vsock_later k (HostClose connection) Reply.Done a b c same holds = does_later (done.Closed connection) a b c same holds
vsock_later k (HostClose connection) reply a b c same holds = vsocks_more a b c same holds
vsock_later k act reply a b c same holds = vsocks_more a b c same holds

pub vsocks_law : KindLaw vsocks
vsocks_law = record {
  none = λ a. record { sockets = refl; coming = refl; answers = refl; done = refl };
  more = vsocks_more;
  beside = λ a b same. record { coming = same.coming; answers = same.answers; done = same.done };
  named = λ a b same. one_name a b same.sockets;
  called = λ k act reply a b holds. one_name a b (vsock_called k act reply a b holds);
  later = vsock_later;
}

-- ---- words

words_more : (a b c : GuestWordsKnown) → SameWords a b → SameWords b c → SameWords a c
words_more a b c first behind = record { left = behind.left ∙ first.left }

word_later : (k : ℕ) (act : OutOp) (reply : Reply) (a b c : GuestWordsKnown) → SameWords a b → WordHolds k act reply b c → WordHolds k act reply a c
word_later k DrawWord (Reply.Drawn word) a b c same holds =
    record { left = subst (λ (left : ℕ → ℕ → ℕ). GivesWord k word left c.left) same.left holds.left }
word_later k DrawWord reply a b c same holds = words_more a b c same holds
word_later k act reply a b c same holds = words_more a b c same holds

pub words_law : KindLaw words
words_law = record {
  none = λ a. record { left = refl };
  more = words_more;
  beside = λ a b same. same;
  named = λ a b same. refl;
  called = λ k act reply a b holds. refl;
  later = word_later;
}
