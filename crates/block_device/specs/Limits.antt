-- What comes to the gate of a block device, by its trace.
use Rattle.std.specs.Prelude.{ℕ, ◌++◌, if◌then◌else◌, Option, Some, None, List, [], ◌∷◌}
use Rattle.device_trace.specs.Script.{Script, data_of}
use Rattle.device_trace.specs.States.{changed_at, stepped}
use Rattle.device_trace.specs.Traces.{Item, Did, Changed}
use Rattle.rate_gate.specs.Gate.{Buckets, gate_takes}
use Rattle.rate_gate.specs.Lives.{GateEvent, Passed, Replaced}
use Rattle.queue_device.specs.declared.lanes.Which.{Which}
use Rattle.queue_device.specs.Chains.{Chain}
use Rattle.queue_device.specs.Rounds.{time_of}
use Rattle.queue_device.specs.Service.{Queued}
use Rattle.queue_device.specs.Timing.{timed_chain}
use Rattle.block_device.specs.declared.data.BlockData.{BlockData}
use Rattle.block_device.specs.declared.kind.BlockChange.{BlockChange}
use Rattle.block_device.specs.declared.kind.BlockChange.TheVariants.{Limits, Sectors}
use Rattle.block_device.specs.Block.{block, block_rules, headed, need_of}

-- the buckets of what is left
abbrev pub limits_of : Script (Queued BlockData) → Buckets
limits_of t = (data_of t).own.limits

-- the request of the chain for which guest time was asked passes by now, or waits on
abbrev pub asked_event : Option (Which × Chain) → Buckets → ℕ → List GateEvent
asked_event (Some (k, c)) gate now =
    if gate_takes gate (need_of (headed c.parts c.got)) now then Passed (need_of (headed c.parts c.got)) now ∷ [] else []
asked_event None gate now = []

abbrev pub changed_event : BlockChange → List GateEvent
changed_event (Limits bandwidth ops) = Replaced bandwidth ops ∷ []
changed_event (Sectors sectors) = []

-- what the items bring, from what is left on, the newest first: requests that pass at a moment, and other buckets
abbrev pub gate_events : Script (Queued BlockData) → List (Item BlockChange) → List GateEvent → List GateEvent
gate_events t [] older = older
gate_events t (Did s ∷ items) older =
    gate_events (stepped block_rules t s.reply) items
    (asked_event (timed_chain block t) (limits_of t) (time_of s.reply) ++ older)
gate_events t (Changed c ∷ items) older = gate_events (changed_at block_rules c t) items (changed_event c ++ older)
