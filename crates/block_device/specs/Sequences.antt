-- Whole sequences of a block device's acts, in which a chain waits for its limit.
use Rattle.std.specs.Prelude.{ℕ, ◌+◌, ◌*◌, Bool, true, false, Some, None, List, [], ◌∷◌, ◌++◌, replicate}
use Rattle.vm_types.specs.declared.op.Op.{Op}
use Rattle.vm_types.specs.declared.op.Op.TheVariants.{Read, Write, Port, Board, Out}
use Rattle.vm_types.specs.declared.op.BoardOp.TheVariants.{RaiseLine, Time}
use Rattle.vm_types.specs.declared.op.OutOp.TheVariants.{DiskRead}
use Rattle.vm_types.specs.declared.op.PortOp.TheVariants.{Look, Interrupt}
use Rattle.vm_types.specs.declared.port_look.QueueShown.{QueueShown}
use Rattle.vm_types.specs.declared.reply.Reply.{Reply}
use Rattle.vm_types.specs.declared.reply.Reply.TheVariants.{Bytes, Done, Word}
use Rattle.device_trace.specs.Traces.{Item, Did, Changed}
use Rattle.rate_gate.specs.Gate.{Buckets}
use Rattle.token_bucket.specs.Kept.{Kept}
use Rattle.queue_device.specs.declared.lanes.Due.TheVariants as due
use Rattle.queue_device.specs.declared.lanes.Lane.{Lane}
use Rattle.queue_device.specs.Lanes.{new_lane}
use Rattle.queue_device.specs.Service.{Queued}
use Rattle.block_device.specs.declared.data.BlockData.{BlockData}
use Rattle.block_device.specs.declared.kind.BlockChange.{BlockChange}
use Rattle.block_device.specs.declared.kind.BlockChange.TheVariants.{Limits, Sectors}
use Rattle.block_device.specs.Block.{new_block}

-- 512 bytes in 1,000 ns, of which so much is owed at this moment: 512,000 to a bucket that is empty
abbrev pub bucket_at : ℕ → ℕ → Kept
bucket_at owes moment = record { rate = record { size = 512; refill = 1000 }; burst = 0; owes = owes; moment = moment }

abbrev pub limits_at : ℕ → Buckets
limits_at moment = record { bandwidth = Some (bucket_at 512000 moment); ops = None }

abbrev pub no_limits : Buckets
no_limits = record { bandwidth = None; ops = None }

abbrev pub data_with : ℕ → Buckets → BlockData
data_with sectors limits =
    record { sectors = sectors; drive_id = replicate 20 0; is_read_only = false; limits = limits }

-- a disk of one sector
abbrev pub start : Queued BlockData
start = new_block 3 1024 (data_with 1 (limits_at 0))

-- ---- where it stands at the end

-- a lane of which one chain was given back
abbrev pub used_lane : Lane
used_lane = record new_lane { next = 1; used = 1 }

-- one of which the chain that was taken waits; what was read of it is the header of an IN from sector 0
abbrev pub waiting_lane : Lane
waiting_lane = record new_lane {
  next = 1;
  is_kicked = true;
  waiting = Some (record {
    queue = record { descriptors = 0x80002000; available = 0x80002100; used = 0x80002200; size = 4; pages = 1024; accepted = record { indirect = false; event_index = false } };
    head = 0;
    parts = record { at = 0x80001100; len = 512; writable = true } ∷ record { at = 0x80001300; len = 1; writable = true } ∷ [];
    got = record { bytes = replicate 16 0; parts = [] };
  });
}

abbrev pub finish : Lane → ℕ → Buckets → Queued BlockData
finish lane sectors limits = record {
  rounds = record {
    first = lane;
    second = new_lane;
    third = new_lane;
    pages = 1024;
    port = 3;
    due = due.Look;
    is_busy = false;
  };
  own = data_with sectors limits;
}

-- ---- what it does

abbrev pub did : Op → Reply → Item BlockChange
did op reply = Did (record { op = op; reply = reply })

abbrev pub no_queue : QueueShown
no_queue = record { descriptors = 0; available = 0; used = 0; size = 0; is_ready = false; is_kicked = false }

-- a look at a queue of four descriptors, by which it was kicked or wasn't
abbrev pub looks : Bool → Item BlockChange
looks is_kicked = did (Port 3 Look) (Reply.Port (record {
  first = record {
    descriptors = 0x80002000;
    available = 0x80002100;
    used = 0x80002200;
    size = 4;
    is_ready = true;
    is_kicked = is_kicked;
  };
  second = no_queue;
  third = no_queue;
  accepted = record { indirect = false; event_index = false };
  status = 15;
  was_reset = false;
}))

abbrev pub waited : Item BlockChange
waited = did Op.Idle Done

abbrev pub time_told : ℕ → Item BlockChange
time_told now = did (Board Time) (Word now)

-- the available index is 1
abbrev pub index_read : Item BlockChange
index_read = did (Read 0x80002102 2) (Bytes (1 ∷ 0 ∷ []))

-- a descriptor below 0x80002000 + 64, by two bytes of its place in page 0x80001, two of its length, its flags and its next
abbrev pub descriptor_read : ℕ → ℕ → List ℕ → ℕ → ℕ → Item BlockChange
descriptor_read number place len flags next =
    did (Read (0x80002000 + 16 * number) 16)
    (Bytes (0 ∷ place ∷ 0 ∷ 0x80 ∷ 0 ∷ 0 ∷ 0 ∷ 0 ∷ len ++ 0 ∷ 0 ∷ flags ∷ 0 ∷ next ∷ 0 ∷ []))

-- a chain of three parts: the header, 512 bytes for a sector, and a byte for the status; and its header, an IN from sector 0
abbrev pub chain_read : List (Item BlockChange)
chain_read =
    index_read
    ∷ did (Read 0x80002104 2) (Bytes (0 ∷ 0 ∷ []))
    ∷ descriptor_read 0 0x10 (16 ∷ 0 ∷ []) 1 1
    ∷ descriptor_read 1 0x11 (0 ∷ 2 ∷ []) 3 2
    ∷ descriptor_read 2 0x13 (1 ∷ 0 ∷ []) 2 0
    ∷ did (Read 0x80001000 16) (Bytes (replicate 16 0))
    ∷ []

-- one unit of the sector
abbrev pub unit_read : ℕ → List (Item BlockChange)
unit_read unit =
    did (Out (DiskRead 0 unit)) (Bytes (replicate 64 unit))
    ∷ did (Write (0x80001100 + 64 * unit) (replicate 64 unit)) Done
    ∷ []

-- the chain is given back with this status and so many bytes written, by two bytes, and its queue is found empty
abbrev pub given_back : ℕ → ℕ → ℕ → List (Item BlockChange)
given_back status low high =
    did (Write 0x80001300 (status ∷ [])) Done
    ∷ did (Write 0x80002204 (0 ∷ 0 ∷ 0 ∷ 0 ∷ low ∷ high ∷ 0 ∷ 0 ∷ [])) Done
    ∷ did (Write 0x80002202 (1 ∷ 0 ∷ [])) Done
    ∷ did (Port 3 (Interrupt 1)) Done
    ∷ did (Board RaiseLine) Done
    ∷ index_read
    ∷ looks false
    ∷ waited
    ∷ []

-- the sector is read; nothing is left to do then
abbrev pub served : List (Item BlockChange)
served =
    unit_read 0 ++ unit_read 1 ++ unit_read 2 ++ unit_read 3 ++ unit_read 4 ++ unit_read 5 ++ unit_read 6 ++ unit_read 7
    ++ given_back 0 1 2

-- ---- the sequences

abbrev pub first_waits : List (Item BlockChange)
first_waits = looks true ∷ chain_read ++ time_told 0 ∷ waited ∷ []

-- it waits until its bytes have flowed in, and asks guest time once an attempt
abbrev pub until_its_time : List (Item BlockChange)
until_its_time = first_waits ++ looks false ∷ time_told 999 ∷ waited ∷ looks false ∷ time_told 1000 ∷ served

-- it goes on without a question for guest time once the API has taken the limit away, here while that is wanted
abbrev pub until_unlimited : List (Item BlockChange)
until_unlimited = first_waits ++ looks false ∷ Changed (Limits (Some None) None) ∷ served

-- where the API gives it another bucket, which is full, it is judged by that at once
abbrev pub until_another : List (Item BlockChange)
until_another =
    first_waits ++ looks false ∷ Changed (Limits (Some (Some (bucket_at 0 0))) None) ∷ time_told 0 ∷ served

-- it is judged by the size of the disk when it passes, here one that was made smaller: IOERR
abbrev pub until_smaller : List (Item BlockChange)
until_smaller =
    first_waits ++ looks false ∷ Changed (Sectors 0) ∷ time_told 1000 ∷ given_back 1 1 0

-- the chains behind it wait for it, whatever is kicked
abbrev pub until_kicked : List (Item BlockChange)
until_kicked = first_waits ++ looks true ∷ time_told 0 ∷ waited ∷ []

-- the driver resets the device meanwhile: the chain is gone, and the limits stay
abbrev pub until_reset : List (Item BlockChange)
until_reset =
    first_waits
    ++ did (Port 3 Look) (Reply.Port
    (record { first = no_queue; second = no_queue; third = no_queue; accepted = record { indirect = false; event_index = false }; status = 0; was_reset = true }))
    ∷ waited ∷ []
