-- A network device (VIRTIO 1.2, 5.1): its queue 0 receives, and its queue 1 transmits (5.1.2).
use Rattle.std.specs.Prelude.{ℕ, ◌-◌, ◌==◌, nat_le, not, ◌&&◌, Bool, true, false, if◌then◌else◌, Option, Some, None, option_map, List, [], length}
use Rattle.vm_types.specs.declared.op.Op.TheVariants.{Out}
use Rattle.vm_types.specs.declared.op.OutOp.{OutOp}
use Rattle.vm_types.specs.declared.op.OutOp.TheVariants.{LinkTake, LinkPart, LinkSend, LinkEnd}
use Rattle.vm_types.specs.declared.reply.Reply.{Reply}
use Rattle.vm_types.specs.declared.reply.Reply.TheVariants.{Frame}
use Rattle.device_trace.specs.Traces.{Rules, setting}
use Rattle.vq_split.specs.declared.queue.Part.{Part}
use Rattle.dev_core.specs.Pieces.{put_all, readable, total, writable}
use Rattle.rate_gate.specs.Gate.{Buckets, gate_passes, is_limited, with_buckets}
use Rattle.queue_device.specs.declared.lanes.Which.{Which}
use Rattle.queue_device.specs.declared.lanes.Which.TheVariants.{First, Second, Third}
use Rattle.queue_device.specs.Acting.{Acting, Comes, performing}
use Rattle.queue_device.specs.Chains.{Chain, Taken}
use Rattle.queue_device.specs.Lanes.{new_rounds}
use Rattle.queue_device.specs.Rounds.{queue_rules}
use Rattle.queue_device.specs.Service.{Queued, Service}
use Rattle.net_device.specs.declared.kind.NetChange.{NetChange}
use Rattle.net_device.specs.declared.kind.NetChange.TheVariants.{Receives, Transmits}
use Rattle.net_device.specs.Frames.{header_size, is_frame, sending_all, sent_length, taken_frame}

-- What waits for the driver, the header and a frame, or no byte; and the limits of what is received and of what is transmitted.
pub record Net : Type 0 where
  pub text : List ℕ
  pub rx : Buckets
  pub tx : Buckets

-- the API gives it other buckets
abbrev pub limited : NetChange → Net → Net
limited (Receives bandwidth ops) e = record e { rx = with_buckets e.rx bandwidth ops }
limited (Transmits bandwidth ops) e = record e { tx = with_buckets e.tx bandwidth ops }

-- ---- the link

-- the frame is gone, in a chain or dropped
abbrev pub emptied : Net → Net
emptied e = record e { text = [] }

-- all of a frame came, or it is gone
abbrev pub received : Net → Option (List ℕ) → Acting Net Bool
received e None = Comes e false
received e (Some text) = Comes (record e { text = text }) true

-- the pieces of its frame are taken at once; there is none that waits then
abbrev pub answered_by : Reply → Net → Acting Net Bool
answered_by (Frame length) e = performing (taken_frame length) (emptied e) received
answered_by reply e = Comes e false

-- ---- what is received

abbrev pub frame_waits : Net → Bool
frame_waits e = not (length e.text == 0)

-- a chain has room for the header and the frame; what can be read of it is ignored
abbrev pub has_room : Chain → Net → Bool
has_room c e = nat_le (length e.text) (total (writable c.parts))

-- A frame that goes into a chain waits no longer. Where the chain is too short the frame is dropped, and nothing is written.
abbrev pub received_by : Chain → Net → Acting Net (Option ℕ)
received_by c e =
    if has_room c e
    then performing (put_all e.text (writable c.parts)) (emptied e) (λ f left. Comes f (Some (length e.text)))
    else Comes (emptied e) (Some 0)

-- ---- what is transmitted

-- one of another length is dropped: nothing of it is read
abbrev pub transmitted_by : Chain → Net → Acting Net (Option ℕ)
transmitted_by c e =
    if is_frame (sent_length c.parts)
    then performing (sending_all header_size (readable c.parts)) e (λ f done. Comes f (Some 0))
    else Comes e (Some 0)

-- ---- limits: a frame needs as many bytes as it has, and waits for them; one that is dropped needs none and asks no time

abbrev pub timed_by : Which → Chain → Net → Bool
timed_by First c e = has_room c e && is_limited e.rx
timed_by Second c e = is_frame (sent_length c.parts) && is_limited e.tx
timed_by Third c e = false

abbrev pub passes_by : Which → Chain → ℕ → Net → Option Net
passes_by First c now e =
    option_map (λ (limits : Buckets). record e { rx = limits }) (gate_passes e.rx (length e.text - header_size) now)
passes_by Second c now e = option_map (λ (limits : Buckets). record e { tx = limits }) (gate_passes e.tx (sent_length c.parts) now)
passes_by Third c now e = Some e

-- ---- the device

-- a chain to receive into is wanted while a frame waits, without a kick
abbrev pub wanted_by : Which → Bool → Net → Bool
wanted_by First is_kicked e = frame_waits e
wanted_by Second is_kicked e = is_kicked
wanted_by Third is_kicked e = false

-- all parts of a chain are kept, and nothing is read of it before it may be served
abbrev pub kept_of : List Part → Taken
kept_of parts = record { parts = parts; got = record { bytes = []; parts = [] } }

abbrev pub served_by : Which → Chain → Net → Acting Net (Option ℕ)
served_by First c e = received_by c e
served_by Second c e = transmitted_by c e
served_by Third c e = Comes e (Some 0)

abbrev pub net : Service Net
net = record {
  last = Second;
  may_ask = true;
  asks = λ e. not (frame_waits e);
  question = λ e. Out LinkTake;
  answer = λ e reply. answered_by reply e;
  wants_chain = wanted_by;
  begun = λ k e. e;
  take = λ k parts e. Comes e (Some (kept_of parts));
  is_taken = λ k parts got. true;
  is_timed = timed_by;
  passes = passes_by;
  serve = served_by;
  over = λ k e. e;
  reset = emptied;
}

-- of host objects it asks its link alone
abbrev pub is_link_call : OutOp → Bool
is_link_call LinkTake = true
is_link_call (LinkPart index length) = true
is_link_call (LinkSend piece) = true
is_link_call LinkEnd = true
is_link_call act = false

abbrev pub net_rules : Rules (Queued Net) NetChange
net_rules = queue_rules net (setting limited)

abbrev pub new_net : ℕ → ℕ → Buckets → Buckets → Queued Net
new_net port pages rx tx = record { rounds = new_rounds port pages; own = record { text = []; rx = rx; tx = tx } }
