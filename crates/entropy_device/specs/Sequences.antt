-- Whole sequences of an entropy device's acts.
use Rattle.std.specs.Prelude.{ℕ, true, false, Some, None, List, [], ◌∷◌, ◌++◌}
use Rattle.vm_types.specs.declared.op.Op.{Op}
use Rattle.vm_types.specs.declared.op.Op.TheVariants.{Board, Out, Port, Read, Write}
use Rattle.vm_types.specs.declared.op.BoardOp.TheVariants.{RaiseLine, Time}
use Rattle.vm_types.specs.declared.op.OutOp.TheVariants.{DrawWord}
use Rattle.vm_types.specs.declared.op.PortOp.TheVariants.{Break, Interrupt, Look}
use Rattle.vm_types.specs.declared.port_look.QueueShown.{QueueShown}
use Rattle.vm_types.specs.declared.reply.Reply.{Reply}
use Rattle.vm_types.specs.declared.reply.Reply.TheVariants.{Bytes, Done, Drawn, Failed, Word}
use Rattle.device_trace.specs.Traces.{Did, Item}
use Rattle.rate_gate.specs.Gate.{Buckets}
use Rattle.token_bucket.specs.Kept.{Kept}
use Rattle.queue_device.specs.declared.lanes.Due.TheVariants as due
use Rattle.queue_device.specs.declared.lanes.Lane.{Lane}
use Rattle.queue_device.specs.Lanes.{new_lane}
use Rattle.queue_device.specs.Service.{Queued}
use Rattle.entropy_device.specs.declared.kind.EntropyChange.{EntropyChange}
use Rattle.entropy_device.specs.Entropy.{Entropy, new_entropy}

-- ten bytes in 1,000 ns, of which none is left at this moment
abbrev pub bucket_at : ℕ → Kept
bucket_at moment = record { rate = record { size = 10; refill = 1000 }; burst = 0; owes = 10000; moment = moment }

abbrev pub limits_at : ℕ → Buckets
limits_at moment = record { bandwidth = Some (bucket_at moment); ops = None }

abbrev pub no_limits : Buckets
no_limits = record { bandwidth = None; ops = None }

abbrev pub start : Buckets → Queued Entropy
start limits = new_entropy 3 1024 limits

-- a lane of which one chain was given back
abbrev pub used_lane : Lane
used_lane = record new_lane { next = 1; used = 1 }

abbrev pub finish : Lane → Buckets → Queued Entropy
finish first limits = record {
  rounds = record {
    first = first;
    second = new_lane;
    third = new_lane;
    pages = 1024;
    port = 3;
    due = due.Look;
    is_busy = false;
  };
  own = record { limits = limits };
}

-- the chain that broke the queue was taken, and is never given back
abbrev pub broken : Buckets → Queued Entropy
broken limits = finish (record new_lane { next = 1; is_kicked = true }) limits

abbrev pub did : Op → Reply → Item EntropyChange
did op reply = Did (record { op = op; reply = reply })

-- a queue of four descriptors
abbrev pub requests : QueueShown
requests = record {
  descriptors = 0x80002000;
  available = 0x80002100;
  used = 0x80002200;
  size = 4;
  is_ready = true;
  is_kicked = true;
}

abbrev pub no_queue : QueueShown
no_queue = record { descriptors = 0; available = 0; used = 0; size = 0; is_ready = false; is_kicked = false }

abbrev pub looks : Item EntropyChange
looks = did (Port 3 Look) (Reply.Port (record {
  first = requests;
  second = no_queue;
  third = no_queue;
  accepted = record { indirect = false; event_index = false };
  status = 15;
  was_reset = false;
}))

-- the available index is 1
abbrev pub index_read : Item EntropyChange
index_read = did (Read 0x80002102 2) (Bytes (1 ∷ 0 ∷ []))

-- the chain of ten bytes from 0x80001000 on, with these flags
abbrev pub chain_read : ℕ → List (Item EntropyChange)
chain_read flags =
    index_read ∷ did (Read 0x80002104 2) (Bytes (0 ∷ 0 ∷ []))
    ∷ did (Read 0x80002000 16)
    (Bytes (0 ∷ 0x10 ∷ 0 ∷ 0x80 ∷ 0 ∷ 0 ∷ 0 ∷ 0 ∷ 10 ∷ 0 ∷ 0 ∷ 0 ∷ flags ∷ 0 ∷ 0 ∷ 0 ∷ []))
    ∷ []

abbrev pub first_word : List (Item EntropyChange)
first_word =
    did (Out DrawWord) (Drawn 0x1122334455667788)
    ∷ did (Write 0x80001000 (0x88 ∷ 0x77 ∷ 0x66 ∷ 0x55 ∷ 0x44 ∷ 0x33 ∷ 0x22 ∷ 0x11 ∷ [])) Done ∷ []

abbrev pub second_word : List (Item EntropyChange)
second_word = did (Out DrawWord) (Drawn 0xab) ∷ did (Write 0x80001008 (0xab ∷ 0 ∷ [])) Done ∷ []

abbrev pub waited : Item EntropyChange
waited = did Op.Idle Done

-- a look that shows no kick any more, and nothing to do
abbrev pub looks_again : Item EntropyChange
looks_again = did (Port 3 Look) (Reply.Port (record {
  first = record requests { is_kicked = false };
  second = no_queue;
  third = no_queue;
  accepted = record { indirect = false; event_index = false };
  status = 15;
  was_reset = false;
}))

-- the chain is given back with so many bytes, the queue is found empty, and nothing is left to do then
abbrev pub given_back : ℕ → List (Item EntropyChange)
given_back len =
    did (Write 0x80002204 (0 ∷ 0 ∷ 0 ∷ 0 ∷ len ∷ 0 ∷ 0 ∷ 0 ∷ [])) Done
    ∷ did (Write 0x80002202 (1 ∷ 0 ∷ [])) Done
    ∷ did (Port 3 (Interrupt 1)) Done
    ∷ did (Board RaiseLine) Done
    ∷ index_read ∷ looks_again ∷ waited ∷ []

abbrev pub filled : List (Item EntropyChange)
filled = looks ∷ chain_read 2 ++ first_word ++ second_word ++ given_back 10

-- the second word fails
abbrev pub failing : List (Item EntropyChange)
failing = looks ∷ chain_read 2 ++ first_word ++ did (Out DrawWord) Failed ∷ given_back 8

abbrev pub time_told : ℕ → Item EntropyChange
time_told now = did (Board Time) (Word now)

abbrev pub waits : List (Item EntropyChange)
waits =
    looks ∷ chain_read 2 ++ time_told 0 ∷ waited ∷ looks_again ∷ time_told 1000 ∷ first_word ++ second_word ++ given_back 10

-- the chain has a part to read
abbrev pub refused : List (Item EntropyChange)
refused = looks ∷ chain_read 0 ++ did (Port 3 Break) (Word 1) ∷ did (Board RaiseLine) Done ∷ waited ∷ []
