-- Whole sequences of a balloon's acts.
use Rattle.std.specs.Prelude.{ℕ, zero, suc, ◌+◌, Bool, true, false, List, [], ◌∷◌, ◌++◌, replicate}
use Rattle.vm_types.specs.declared.op.Op.{Op}
use Rattle.vm_types.specs.declared.op.Op.TheVariants.{Read, Write, Port, Board}
use Rattle.vm_types.specs.declared.op.BoardOp.TheVariants.{RaiseLine, Time}
use Rattle.vm_types.specs.declared.op.PortOp.TheVariants.{Break, Interrupt, Look}
use Rattle.vm_types.specs.declared.port_look.QueueShown.{QueueShown}
use Rattle.vm_types.specs.declared.reply.Reply.{Reply}
use Rattle.vm_types.specs.declared.reply.Reply.TheVariants.{Bytes, Done, Word}
use Rattle.device_trace.specs.Traces.{Item, Did, Changed}
use Rattle.le_fields.specs.Fields.{bytes_of}
use Rattle.queue_device.specs.declared.lanes.Due.TheVariants as due
use Rattle.queue_device.specs.declared.lanes.Lane.{Lane}
use Rattle.queue_device.specs.Lanes.{new_lane}
use Rattle.queue_device.specs.Service.{Queued}
use Rattle.balloon_device.specs.declared.kind.BalloonChange.{BalloonChange}
use Rattle.balloon_device.specs.declared.kind.BalloonChange.TheVariants.{Interval}
use Rattle.balloon_device.specs.declared.statistics.Statistics.{Statistics}
use Rattle.balloon_device.specs.Balloon.{Balloon, new_balloon}
use Rattle.balloon_device.specs.Statistics.{no_statistics, with_value}

-- a balloon at port 3 of a guest of 1,024 pages, whose statistics have an interval of two seconds
abbrev pub start : Queued Balloon
start = new_balloon 3 1024 2

-- a lane of which one chain was given back, and one whose chain broke it
abbrev pub used_lane : Lane
used_lane = record new_lane { next = 1; used = 1 }

abbrev pub broken_lane : Lane
broken_lane = record new_lane { next = 1; is_kicked = true }

-- its own data, by the interval, the last moment and what was told
abbrev pub own_of : ℕ → ℕ → Statistics → Balloon
own_of interval last told = record { interval = interval; last = last; statistics = told }

-- it has nothing to do, and looks next
abbrev pub finish : Lane → Lane → Lane → Balloon → Queued Balloon
finish first second third own = record {
  rounds = record {
    first = first;
    second = second;
    third = third;
    pages = 1024;
    port = 3;
    due = due.Look;
    is_busy = false;
  };
  own = own;
}

abbrev pub did : Op → Reply → Item BalloonChange
did op reply = Did (record { op = op; reply = reply })

-- a queue of four descriptors, whose tables stand from this place on
abbrev pub queue_at : ℕ → Bool → QueueShown
queue_at place is_kicked = record {
  descriptors = place;
  available = place + 0x100;
  used = place + 0x200;
  size = 4;
  is_ready = true;
  is_kicked = is_kicked;
}

-- a look, by which queues were kicked
abbrev pub looks : Bool → Bool → Bool → Item BalloonChange
looks first second third = did (Port 3 Look) (Reply.Port (record {
  first = queue_at 0x80002000 first;
  second = queue_at 0x80003000 second;
  third = queue_at 0x80004000 third;
  accepted = record { indirect = false; event_index = false };
  status = 15;
  was_reset = false;
}))

-- the available index of the queue at this place is 1
abbrev pub index_read : ℕ → Item BalloonChange
index_read place = did (Read (place + 0x102) 2) (Bytes (1 ∷ 0 ∷ []))

-- its ring names the head 0
abbrev pub head_read : ℕ → Item BalloonChange
head_read place = did (Read (place + 0x104) 2) (Bytes (0 ∷ 0 ∷ []))

-- the descriptor 0 of the queue at this place: readable bytes, the last ones of a chain
abbrev pub last_part : ℕ → ℕ → Item BalloonChange
last_part place len = did (Read place 16) (Bytes (bytes_of 8 0x80001000 ++ bytes_of 4 len ++ 0 ∷ 0 ∷ 0 ∷ 0 ∷ []))

-- readable bytes, behind which those of the descriptor 1 follow, the last ones
abbrev pub two_parts : ℕ → ℕ → ℕ → List (Item BalloonChange)
two_parts place first second =
    did (Read place 16) (Bytes (bytes_of 8 0x80001000 ++ bytes_of 4 first ++ 1 ∷ 0 ∷ 1 ∷ 0 ∷ []))
    ∷ did (Read (place + 16) 16) (Bytes (bytes_of 8 0x80001100 ++ bytes_of 4 second ++ 0 ∷ 0 ∷ 0 ∷ 0 ∷ []))
    ∷ []

abbrev pub time_told : ℕ → Item BalloonChange
time_told now = did (Board Time) (Word now)

abbrev pub waited : Item BalloonChange
waited = did Op.Idle Done

-- the chain with the head 0 is given back, no byte of which was written, and its queue is found empty
abbrev pub given_back : ℕ → List (Item BalloonChange)
given_back place =
    did (Write (place + 0x204) (0 ∷ 0 ∷ 0 ∷ 0 ∷ 0 ∷ 0 ∷ 0 ∷ 0 ∷ [])) Done
    ∷ did (Write (place + 0x202) (1 ∷ 0 ∷ [])) Done
    ∷ did (Port 3 (Interrupt 1)) Done
    ∷ did (Board RaiseLine) Done
    ∷ index_read place
    ∷ []

-- a round that gave a chain back is followed by a look, and one that found nothing by a wait
abbrev pub nothing_left : List (Item BalloonChange)
nothing_left = looks false false false ∷ waited ∷ []

-- so many writes of 64 zeros from an address on
abbrev pub zeros_written : ℕ → ℕ → List (Item BalloonChange)
zeros_written zero at = []
zeros_written (suc count) at = did (Write at (replicate 64 0)) Done ∷ zeros_written count (at + 64)

-- one page is inflated, that of the number 0x80009
abbrev pub one_inflated : List (Item BalloonChange)
one_inflated =
    looks true false false ∷ index_read 0x80002000 ∷ head_read 0x80002000 ∷ last_part 0x80002000 4
    ∷ did (Read 0x80001000 4) (Bytes (bytes_of 4 0x80009))
    ∷ zeros_written 64 0x80009000 ++ given_back 0x80002000 ++ nothing_left

-- a list in two parts, of 6 bytes and of 2: the second number ends in the second part, and the first page is zeroed before that is
-- read
abbrev pub split_inflated : List (Item BalloonChange)
split_inflated =
    looks true false false ∷ index_read 0x80002000 ∷ head_read 0x80002000 ∷ two_parts 0x80002000 6 2
    ++ did (Read 0x80001000 6) (Bytes (bytes_of 4 0x80009 ++ 0x0a ∷ 0 ∷ []))
    ∷ zeros_written 64 0x80009000
    ++ did (Read 0x80001100 2) (Bytes (8 ∷ 0 ∷ []))
    ∷ zeros_written 64 0x8000a000 ++ given_back 0x80002000 ++ nothing_left

-- pages outside RAM are skipped: one below it, and the one behind its last
abbrev pub none_inflated : List (Item BalloonChange)
none_inflated =
    looks true false false ∷ index_read 0x80002000 ∷ head_read 0x80002000 ∷ last_part 0x80002000 8
    ∷ did (Read 0x80001000 8) (Bytes (bytes_of 4 0x7ffff ++ bytes_of 4 0x80400))
    ∷ given_back 0x80002000 ++ nothing_left

-- a list of 6 bytes is broken, which the port says, and no byte of it is read
abbrev pub broken_list : List (Item BalloonChange)
broken_list =
    looks true false false ∷ index_read 0x80002000 ∷ head_read 0x80002000 ∷ last_part 0x80002000 6
    ∷ did (Port 3 Break) (Word 1) ∷ did (Board RaiseLine) Done ∷ waited ∷ []

-- a page is taken back
abbrev pub one_deflated : List (Item BalloonChange)
one_deflated =
    looks false true false ∷ index_read 0x80003000 ∷ head_read 0x80003000 ∷ last_part 0x80003000 4
    ∷ given_back 0x80003000 ++ nothing_left

-- a chain of one entry of statistics is kept: total memory, the tag 5, is 4,194,304 bytes
abbrev pub statistics_kept : List (Item BalloonChange)
statistics_kept =
    looks false false true ∷ index_read 0x80004000 ∷ head_read 0x80004000 ∷ last_part 0x80004000 10
    ∷ time_told 0 ∷ waited ∷ []

abbrev pub total_memory : Statistics
total_memory = with_value 5 4194304 no_statistics

-- it is read, and given back
abbrev pub statistics_read : List (Item BalloonChange)
statistics_read = did (Read 0x80001000 10) (Bytes (bytes_of 2 5 ++ bytes_of 8 4194304)) ∷ given_back 0x80004000 ++ nothing_left

-- when the interval is over, and not a nanosecond before
abbrev pub until_its_time : List (Item BalloonChange)
until_its_time =
    statistics_kept ++ looks false false false ∷ time_told 1999999999 ∷ waited ∷ looks false false false ∷ time_told 2000000000
    ∷ statistics_read

-- the API sets the interval to a second meanwhile
abbrev pub until_sooner : List (Item BalloonChange)
until_sooner =
    statistics_kept ++ Changed (Interval 1) ∷ looks false false false ∷ time_told 1000000000 ∷ statistics_read
