-- A vsock device (VIRTIO 1.2, 5.10): its queues are rx, tx and that of events (5.10.2).
use Rattle.std.specs.Prelude.{ℕ, nat_le, not, ◌&&◌, Bool, true, false, if◌then◌else◌, Option, Some, None, is_some, List, [], length, replicate}
use Rattle.vm_types.specs.declared.op.Op.TheVariants.{Out}
use Rattle.vm_types.specs.declared.op.OutOp.{OutOp}
use Rattle.vm_types.specs.declared.op.OutOp.TheVariants.{HostClose, HostDial, HostNext, HostSend}
use Rattle.device_trace.specs.Traces.{Rules}
use Rattle.vq_split.specs.declared.queue.Part.{Part}
use Rattle.dev_core.specs.Pieces.{put_all, readable, total, writable}
use Rattle.queue_device.specs.declared.lanes.Which.{Which}
use Rattle.queue_device.specs.declared.lanes.Which.TheVariants.{First, Second, Third}
use Rattle.queue_device.specs.Acting.{Acting, Comes, performing}
use Rattle.queue_device.specs.Chains.{Chain, Taken}
use Rattle.queue_device.specs.Lanes.{new_rounds}
use Rattle.queue_device.specs.Rounds.{queue_rules}
use Rattle.queue_device.specs.Service.{Queued, Service}
use Rattle.vsock_device.specs.declared.data.InHand.{InHand}
use Rattle.vsock_device.specs.declared.data.InHand.TheVariants as hand
use Rattle.vsock_device.specs.declared.data.Vsock.{Vsock}
use Rattle.vsock_device.specs.declared.data.VsockChange.{VsockChange}
use Rattle.vsock_device.specs.declared.packet.Packet.{Packet}
use Rattle.vsock_device.specs.Data.{delivered, new_data, waiting}
use Rattle.vsock_device.specs.Guest.{transmitted}
use Rattle.vsock_device.specs.Host.{happened}
use Rattle.vsock_device.specs.Packets.{packet_bytes}
use Rattle.vsock_device.specs.Reset.{resetting}

-- ---- what is received

abbrev pub text_of : ℕ → InHand → List ℕ
text_of guest_cid (hand.Receives p) = packet_bytes guest_cid p
text_of guest_cid in_hand = []

-- where the chain is too short nothing is written, and what waits goes on waiting
abbrev pub received : List ℕ → List Part → Vsock → Acting Vsock (Option ℕ)
received text parts e =
    if nat_le (length text) (total parts)
    then performing (put_all text parts) e (λ f left. Comes (delivered f) (Some (length text)))
    else Comes e (Some 0)

-- ---- events

-- VIRTIO_VSOCK_EVENT_TRANSPORT_RESET (5.10.6.7)
abbrev pub transport_reset : List ℕ
transport_reset = replicate 4 0

abbrev pub told : Vsock → Vsock
told e = record e { reset_due = false }

abbrev pub event_told : List Part → Vsock → Acting Vsock (Option ℕ)
event_told parts e =
    if nat_le 4 (total parts) then performing (put_all transport_reset parts) e (λ f left. Comes (told f) (Some 4))
    else Comes e (Some 0)

-- ---- the device

abbrev pub served_by : Which → Chain → Vsock → Acting Vsock (Option ℕ)
served_by First c e = received (text_of e.guest_cid e.in_hand) (writable c.parts) e
served_by Second c e = transmitted (readable c.parts) e
served_by Third c e = event_told (writable c.parts) e

-- A chain to receive into is wanted while something waits, and one for an event while one does, both without a kick. No chain is
-- transmitted while something waits for the guest.
abbrev pub wanted_by : Which → Bool → Vsock → Bool
wanted_by First is_kicked e = is_some (waiting e)
wanted_by Second is_kicked e = is_kicked && not (is_some (waiting e))
wanted_by Third is_kicked e = e.reset_due

abbrev pub receives : Option Packet → InHand
receives None = hand.Free
receives (Some p) = hand.Receives p

-- what a chain receives is settled when it is begun
abbrev pub begun_by : Which → Vsock → InHand
begun_by First e = receives (waiting e)
begun_by Second e = hand.Unjudged
begun_by Third e = hand.Free

-- all parts of a chain are kept, and nothing is read of it before it may be served
abbrev pub kept_of : List Part → Taken
kept_of parts = record { parts = parts; got = record { bytes = []; parts = [] } }

-- the host is asked while neither an answer nor bytes of the host wait for the guest
abbrev pub vsock : Service Vsock
vsock = record {
  last = Third;
  may_ask = true;
  asks = λ e. not (is_some e.answer) && not (is_some e.held);
  question = λ e. Out HostNext;
  answer = λ e reply. happened reply e;
  wants_chain = wanted_by;
  begun = λ k e. record e { in_hand = begun_by k e };
  take = λ k parts e. Comes e (Some (kept_of parts));
  is_taken = λ k parts got. true;
  is_timed = λ k c e. false;
  passes = λ k c now e. Some e;
  serve = served_by;
  over = λ k e. record e { in_hand = hand.Free };
  reset = λ e. new_data e.guest_cid;
}

-- of host objects it asks the vsock host alone
abbrev pub is_host_call : OutOp → Bool
is_host_call HostNext = true
is_host_call (HostDial port) = true
is_host_call (HostSend bytes host) = true
is_host_call (HostClose host) = true
is_host_call call = false

abbrev pub vsock_rules : Rules (Queued Vsock) VsockChange
vsock_rules = queue_rules vsock resetting

abbrev pub new_vsock : ℕ → ℕ → ℕ → Queued Vsock
new_vsock port pages guest_cid = record { rounds = new_rounds port pages; own = new_data guest_cid }
