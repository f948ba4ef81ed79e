-- Whole sequences of a network device's acts.
use Rattle.std.specs.Prelude.{ℕ, ◌+◌, Bool, true, false, Some, None, List, [], ◌∷◌, ◌++◌, replicate}
use Rattle.vm_types.specs.declared.op.Op.{Op}
use Rattle.vm_types.specs.declared.op.Op.TheVariants.{Read, Write, Port, Board, Out}
use Rattle.vm_types.specs.declared.op.BoardOp.TheVariants.{RaiseLine, Time}
use Rattle.vm_types.specs.declared.op.OutOp.TheVariants.{LinkTake, LinkPart, LinkSend, LinkEnd}
use Rattle.vm_types.specs.declared.op.PortOp.TheVariants.{Look, Interrupt}
use Rattle.vm_types.specs.declared.port_look.QueueShown.{QueueShown}
use Rattle.vm_types.specs.declared.reply.Reply.{Reply}
use Rattle.vm_types.specs.declared.reply.Reply.TheVariants.{Bytes, Done, Failed, Frame, Nothing, Word}
use Rattle.device_trace.specs.Traces.{Item, Did}
use Rattle.rate_gate.specs.Gate.{Buckets}
use Rattle.token_bucket.specs.Kept.{Kept}
use Rattle.queue_device.specs.declared.lanes.Due.TheVariants as due
use Rattle.queue_device.specs.declared.lanes.Lane.{Lane}
use Rattle.queue_device.specs.Lanes.{new_lane}
use Rattle.queue_device.specs.Service.{Queued}
use Rattle.net_device.specs.declared.kind.NetChange.{NetChange}
use Rattle.net_device.specs.Frames.{header}
use Rattle.net_device.specs.Net.{Net, new_net}

-- 64 bytes in 1,000 ns, of which none is left at this moment
abbrev pub bucket_at : ℕ → Kept
bucket_at moment = record { rate = record { size = 64; refill = 1000 }; burst = 0; owes = 64000; moment = moment }

abbrev pub limits_at : ℕ → Buckets
limits_at moment = record { bandwidth = Some (bucket_at moment); ops = None }

abbrev pub no_limits : Buckets
no_limits = record { bandwidth = None; ops = None }

abbrev pub start : Buckets → Buckets → Queued Net
start rx tx = new_net 3 1024 rx tx

-- a lane of which one chain was given back
abbrev pub used_lane : Lane
used_lane = record new_lane { next = 1; used = 1 }

abbrev pub finish : Lane → Lane → Buckets → Buckets → Queued Net
finish first second rx tx = record {
  rounds = record {
    first = first;
    second = second;
    third = new_lane;
    pages = 1024;
    port = 3;
    due = due.Look;
    is_busy = false;
  };
  own = record { text = []; rx = rx; tx = tx };
}

abbrev pub did : Op → Reply → Item NetChange
did op reply = Did (record { op = op; reply = reply })

-- ---- rounds

-- a queue of four descriptors, whose tables stand from this place on
abbrev pub queue_at : ℕ → Bool → QueueShown
queue_at place is_kicked = record {
  descriptors = place;
  available = place + 0x100;
  used = place + 0x200;
  size = 4;
  is_ready = true;
  is_kicked = is_kicked;
}

abbrev pub no_queue : QueueShown
no_queue = record { descriptors = 0; available = 0; used = 0; size = 0; is_ready = false; is_kicked = false }

-- a look, by which the queue to transmit was kicked or wasn't
abbrev pub looks : Bool → Item NetChange
looks is_kicked = did (Port 3 Look) (Reply.Port (record {
  first = queue_at 0x80002000 false;
  second = queue_at 0x80003000 is_kicked;
  third = no_queue;
  accepted = record { indirect = false; event_index = false };
  status = 15;
  was_reset = false;
}))

-- the link has no frame
abbrev pub no_frame : Item NetChange
no_frame = did (Out LinkTake) Nothing

abbrev pub time_told : ℕ → Item NetChange
time_told now = did (Board Time) (Word now)

abbrev pub waited : Item NetChange
waited = did Op.Idle Done

-- nothing is left to do
abbrev pub rests : List (Item NetChange)
rests = looks false ∷ no_frame ∷ waited ∷ []

-- ---- chains of one part of fewer than 256 bytes, which is at 0x80001000

-- the available index of the queue at this place is 1
abbrev pub index_read : ℕ → Item NetChange
index_read place = did (Read (place + 0x102) 2) (Bytes (1 ∷ 0 ∷ []))

-- the chain has the head 0, and its part is writable or readable
abbrev pub chain_read : ℕ → ℕ → ℕ → List (Item NetChange)
chain_read place len flags =
    index_read place ∷ did (Read (place + 0x104) 2) (Bytes (0 ∷ 0 ∷ []))
    ∷ did (Read place 16) (Bytes (0 ∷ 0x10 ∷ 0 ∷ 0x80 ∷ 0 ∷ 0 ∷ 0 ∷ 0 ∷ len ∷ 0 ∷ 0 ∷ 0 ∷ flags ∷ 0 ∷ 0 ∷ 0 ∷ []))
    ∷ []

abbrev pub to_receive : ℕ → List (Item NetChange)
to_receive len = chain_read 0x80002000 len 2

abbrev pub to_transmit : ℕ → List (Item NetChange)
to_transmit len = chain_read 0x80003000 len 0

-- it is given back with fewer than 256 bytes
abbrev pub given_back : ℕ → ℕ → List (Item NetChange)
given_back place len =
    did (Write (place + 0x204) (0 ∷ 0 ∷ 0 ∷ 0 ∷ len ∷ 0 ∷ 0 ∷ 0 ∷ [])) Done
    ∷ did (Write (place + 0x202) (1 ∷ 0 ∷ [])) Done
    ∷ did (Port 3 (Interrupt 1)) Done
    ∷ did (Board RaiseLine) Done
    ∷ []

-- ---- what is received

-- a frame of 14 bytes
abbrev pub frame_taken : List (Item NetChange)
frame_taken = did (Out LinkTake) (Frame 14) ∷ did (Out (LinkPart 0 14)) (Bytes (replicate 14 7)) ∷ []

abbrev pub received : List (Item NetChange)
received =
    looks false ∷ frame_taken ++ to_receive 64
    ++ did (Write 0x80001000 (header ++ replicate 14 7)) Done ∷ given_back 0x80002000 26 ++ rests

-- the chain has 25 bytes
abbrev pub too_short : List (Item NetChange)
too_short = looks false ∷ frame_taken ++ to_receive 25 ++ given_back 0x80002000 0 ++ rests

-- the second piece of a frame of 100 bytes fails
abbrev pub lost : List (Item NetChange)
lost =
    looks false ∷ did (Out LinkTake) (Frame 100) ∷ did (Out (LinkPart 0 64)) (Bytes (replicate 64 7))
    ∷ did (Out (LinkPart 1 36)) Failed ∷ waited ∷ []

-- ---- what is transmitted

-- a header of 12 bytes and a frame of 64, in pieces
abbrev pub frame_sent : List (Item NetChange)
frame_sent =
    did (Read 0x80001000 64) (Bytes (replicate 64 7))
    ∷ did (Out (LinkSend (replicate 52 7))) Done
    ∷ did (Read 0x80001040 12) (Bytes (replicate 12 8))
    ∷ did (Out (LinkSend (replicate 12 8))) Done
    ∷ did (Out LinkEnd) Done
    ∷ []

abbrev pub transmitted : List (Item NetChange)
transmitted =
    looks true ∷ no_frame ∷ to_transmit 76 ++ time_told 0 ∷ waited
    ∷ looks false ∷ no_frame ∷ time_told 1000 ∷ frame_sent ++ given_back 0x80003000 0 ++ index_read 0x80003000 ∷ rests

-- a frame of 13 bytes
abbrev pub dropped : List (Item NetChange)
dropped = looks true ∷ no_frame ∷ to_transmit 25 ++ given_back 0x80003000 0 ++ index_read 0x80003000 ∷ rests
