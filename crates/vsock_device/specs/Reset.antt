-- A reset of the connections, which comes from outside, in whatever state the device is.
use Rattle.std.specs.Prelude.{ℕ, ◌==◌, ◌&&◌, Bool, true, not, Option, Some, None, is_some, [], length}
use Rattle.vm_types.specs.declared.op.Op.{Op}
use Rattle.vm_types.specs.declared.op.Op.TheVariants.{Out, Read}
use Rattle.vm_types.specs.declared.op.OutOp.{OutOp}
use Rattle.vm_types.specs.declared.op.OutOp.TheVariants.{HostClose, HostDial, HostSend}
use Rattle.vm_types.specs.declared.reply.Reply.{Reply}
use Rattle.vm_types.specs.declared.reply.Reply.TheVariants.{AccessFault, Failed}
use Rattle.device_trace.specs.Traces.{Changing}
use Rattle.vsock_device.specs.declared.data.InHand.{InHand}
use Rattle.vsock_device.specs.declared.data.InHand.TheVariants as hand
use Rattle.vsock_device.specs.declared.data.Vsock.{Vsock}
use Rattle.vsock_device.specs.declared.data.VsockChange.{VsockChange}
use Rattle.vsock_device.specs.declared.data.VsockChange.TheVariants.{Reset}
use Rattle.vsock_device.specs.declared.packet.Head.{Head}

-- a packet that isn't judged yet will be of no connection
abbrev pub hand_reset : InHand → InHand
hand_reset hand.Unjudged = hand.Orphaned
hand_reset in_hand = in_hand

-- one that was judged, and whose chain isn't given back, counts as one of no connection
abbrev pub answer_reset : InHand → Option Head
answer_reset (hand.Judged refusal) = refusal
answer_reset in_hand = None

-- the data that have these, and no connection
abbrev pub unconnected : ℕ → ℕ → Option Head → InHand → Bool → Vsock
unconnected guest_cid next_port answer in_hand reset_due = record {
  guest_cid = guest_cid;
  next_port = next_port;
  connections = [];
  answer = answer;
  held = None;
  in_hand = in_hand;
  reset_due = reset_due;
}

-- they are such data, as all are behind a reset
abbrev pub is_unconnected : Vsock → Bool
is_unconnected e = (length e.connections == 0) && not (is_some e.held)

-- All connections are gone, and what waited for the guest with them. It is to be told so by an event. The host isn't told.
abbrev pub reset : Vsock → Vsock
reset e = unconnected e.guest_cid e.next_port (answer_reset e.in_hand) (hand_reset e.in_hand) true

abbrev pub changed : VsockChange → Vsock → Vsock
changed Reset e = reset e

-- what such a packet still asks of the host is left out, and so is the reading of the bytes that it carries
abbrev pub call_cut : OutOp → Option Reply
call_cut (HostDial port) = Some Failed
call_cut (HostSend bytes host) = Some Failed
call_cut (HostClose host) = Some Failed
call_cut call = None

abbrev pub act_cut : Op → Option Reply
act_cut (Out call) = call_cut call
act_cut (Read at len) = Some AccessFault
act_cut op = None

abbrev pub cut_by : InHand → Op → Option Reply
cut_by (hand.Judged refusal) op = act_cut op
cut_by in_hand op = None

abbrev pub resetting : Changing Vsock VsockChange
resetting = record { between = changed; inside = changed; cut = λ c e op. cut_by e.in_hand op }
