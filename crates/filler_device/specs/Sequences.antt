-- Whole sequences of a filler's acts, in which a chain waits for its limit.
use Rattle.std.specs.Prelude.{ℕ, ◌+◌, Bool, true, false, Some, None, List, [], ◌∷◌, ◌++◌, replicate}
use Rattle.vm_types.specs.declared.op.Op.{Op}
use Rattle.vm_types.specs.declared.op.Op.TheVariants.{Read, Write, Port, Board}
use Rattle.vm_types.specs.declared.op.BoardOp.TheVariants.{RaiseLine, Time}
use Rattle.vm_types.specs.declared.op.PortOp.TheVariants.{Look, Interrupt}
use Rattle.vm_types.specs.declared.port_look.QueueShown.{QueueShown}
use Rattle.vm_types.specs.declared.reply.Reply.{Reply}
use Rattle.vm_types.specs.declared.reply.Reply.TheVariants.{Bytes, Done, Word}
use Rattle.device_trace.specs.Traces.{Item, Did, Changed}
use Rattle.rate_gate.specs.Gate.{Buckets}
use Rattle.token_bucket.specs.Kept.{Kept}
use Rattle.queue_device.specs.declared.lanes.Due.TheVariants as due
use Rattle.queue_device.specs.declared.lanes.Lane.{Lane}
use Rattle.queue_device.specs.Lanes.{new_lane}
use Rattle.queue_device.specs.Service.{Queued}
use Rattle.filler_device.specs.declared.kind.FillerChange.{FillerChange}
use Rattle.filler_device.specs.declared.kind.FillerChange.TheVariants.{Limits}
use Rattle.filler_device.specs.Filler.{Filler, new_filler, no_bytes}

-- 64 bytes in 1,000 ns, of which none is left at this moment
abbrev pub bucket_at : ℕ → Kept
bucket_at moment = record { rate = record { size = 64; refill = 1000 }; burst = 0; owes = 64000; moment = moment }

abbrev pub limits_at : ℕ → Buckets
limits_at moment = record { bandwidth = Some (bucket_at moment); ops = None }

abbrev pub no_limits : Buckets
no_limits = record { bandwidth = None; ops = None }

abbrev pub start : Queued Filler
start = new_filler 3 1024 (limits_at 0)

-- a lane of which one chain was given back
abbrev pub used_lane : Lane
used_lane = record new_lane { next = 1; used = 1 }

-- one of which the chain that was taken waits
abbrev pub waiting_lane : Lane
waiting_lane = record new_lane {
  next = 1;
  is_kicked = true;
  waiting = Some (record {
    queue = record { descriptors = 0x80002000; available = 0x80002100; used = 0x80002200; size = 4; pages = 1024; accepted = record { indirect = false; event_index = false } };
    head = 0;
    parts = record { at = 0x80001000; len = 64; writable = true } ∷ [];
    got = no_bytes;
  });
}

abbrev pub finish : Lane → Lane → ℕ → Buckets → Queued Filler
finish first second byte limits = record {
  rounds = record {
    first = first;
    second = second;
    third = new_lane;
    pages = 1024;
    port = 3;
    due = due.Look;
    is_busy = false;
  };
  own = record { byte = byte; limits = limits };
}

abbrev pub did : Op → Reply → Item FillerChange
did op reply = Did (record { op = op; reply = reply })

-- a queue of four descriptors, whose tables stand from this place on
abbrev pub queue_at : ℕ → Bool → QueueShown
queue_at place is_kicked = record {
  descriptors = place;
  available = place + 0x100;
  used = place + 0x200;
  size = 4;
  is_ready = true;
  is_kicked = is_kicked;
}

abbrev pub no_queue : QueueShown
no_queue = record { descriptors = 0; available = 0; used = 0; size = 0; is_ready = false; is_kicked = false }

-- a look, by which queues were kicked
abbrev pub looks : Bool → Bool → Item FillerChange
looks first second = did (Port 3 Look) (Reply.Port (record {
  first = queue_at 0x80002000 first;
  second = queue_at 0x80003000 second;
  third = no_queue;
  accepted = record { indirect = false; event_index = false };
  status = 15;
  was_reset = false;
}))

-- the available index of the queue at this place is 1
abbrev pub index_read : ℕ → Item FillerChange
index_read place = did (Read (place + 0x102) 2) (Bytes (1 ∷ 0 ∷ []))

-- its ring names the head 0
abbrev pub head_read : ℕ → Item FillerChange
head_read place = did (Read (place + 0x104) 2) (Bytes (0 ∷ 0 ∷ []))

-- the chain of the first queue is one writable part, 64 bytes from 0x80001000 on
abbrev pub first_chain : List (Item FillerChange)
first_chain =
    index_read 0x80002000 ∷ head_read 0x80002000
    ∷ did (Read 0x80002000 16)
    (Bytes (0 ∷ 0x10 ∷ 0 ∷ 0x80 ∷ 0 ∷ 0 ∷ 0 ∷ 0 ∷ 64 ∷ 0 ∷ 0 ∷ 0 ∷ 2 ∷ 0 ∷ 0 ∷ 0 ∷ []))
    ∷ []

abbrev pub time_told : ℕ → Item FillerChange
time_told now = did (Board Time) (Word now)

abbrev pub waited : Item FillerChange
waited = did Op.Idle Done

-- the chain with the head 0 is given back with fewer than 256 bytes, and its queue is found empty
abbrev pub given_back : ℕ → ℕ → List (Item FillerChange)
given_back place len =
    did (Write (place + 0x204) (0 ∷ 0 ∷ 0 ∷ 0 ∷ len ∷ 0 ∷ 0 ∷ 0 ∷ [])) Done
    ∷ did (Write (place + 0x202) (1 ∷ 0 ∷ [])) Done
    ∷ did (Port 3 (Interrupt 1)) Done
    ∷ did (Board RaiseLine) Done
    ∷ index_read place
    ∷ []

-- the first chain is filled with this byte; nothing is left to do then
abbrev pub first_served : ℕ → List (Item FillerChange)
first_served byte =
    did (Write 0x80001000 (replicate 64 byte)) Done ∷ given_back 0x80002000 64 ++ looks false false ∷ waited ∷ []

abbrev pub first_waits : List (Item FillerChange)
first_waits = looks true false ∷ first_chain ++ time_told 0 ∷ waited ∷ []

-- it waits until its bytes have flowed in
abbrev pub until_its_time : List (Item FillerChange)
until_its_time = first_waits ++ looks false false ∷ time_told 1000 ∷ first_served 0

-- it goes on without a question for guest time once the API has taken the limit away, here while that is wanted
abbrev pub until_unlimited : List (Item FillerChange)
until_unlimited = first_waits ++ looks false false ∷ Changed (Limits (Some None) None) ∷ first_served 0

-- where the API gives it a limit again before that, guest time is asked
abbrev pub until_limited : List (Item FillerChange)
until_limited =
    first_waits
    ++ looks false false ∷ Changed (Limits (Some None) None) ∷ Changed (Limits (Some (Some (bucket_at 0))) None)
    ∷ time_told 1000 ∷ first_served 0

-- the driver resets the device meanwhile
abbrev pub until_reset : List (Item FillerChange)
until_reset =
    first_waits
    ++ did (Port 3 Look) (Reply.Port
    (record { first = no_queue; second = no_queue; third = no_queue; accepted = record { indirect = false; event_index = false }; status = 0; was_reset = true }))
    ∷ waited ∷ []

-- a chain of the second queue goes on meanwhile, one readable part of one byte, which is 7
abbrev pub with_second : List (Item FillerChange)
with_second =
    looks true true ∷ first_chain ++ time_told 0
    ∷ index_read 0x80003000 ∷ head_read 0x80003000
    ∷ did (Read 0x80003000 16)
    (Bytes (0 ∷ 0x18 ∷ 0 ∷ 0x80 ∷ 0 ∷ 0 ∷ 0 ∷ 0 ∷ 1 ∷ 0 ∷ 0 ∷ 0 ∷ 0 ∷ 0 ∷ 0 ∷ 0 ∷ []))
    ∷ did (Read 0x80001800 1) (Bytes (7 ∷ []))
    ∷ given_back 0x80003000 0
