-- What comes to the gate of an entropy device, by its trace.
use Rattle.std.specs.Prelude.{ℕ, ◌++◌, if◌then◌else◌, Option, Some, None, List, [], ◌∷◌}
use Rattle.device_trace.specs.Script.{Script, data_of}
use Rattle.device_trace.specs.States.{changed_at, stepped}
use Rattle.device_trace.specs.Traces.{Item, Did, Changed}
use Rattle.rate_gate.specs.Gate.{Buckets, gate_takes}
use Rattle.rate_gate.specs.Lives.{GateEvent, Passed}
use Rattle.queue_device.specs.declared.lanes.Which.{Which}
use Rattle.queue_device.specs.Chains.{Chain}
use Rattle.queue_device.specs.Rounds.{time_of}
use Rattle.queue_device.specs.Service.{Queued}
use Rattle.queue_device.specs.Timing.{timed_chain}
use Rattle.entropy_device.specs.declared.kind.EntropyChange.{EntropyChange}
use Rattle.entropy_device.specs.Entropy.{Entropy, entropy, entropy_rules}
use Rattle.entropy_device.specs.Words.{filled_length}

-- the buckets of what is left
abbrev pub limits_of : Script (Queued Entropy) → Buckets
limits_of t = (data_of t).own.limits

-- The chain for which guest time was asked passes by now, or waits on. It needs as many bytes as it is filled with (VIRTIO 1.2, 5.4.6).
abbrev pub asked_event : Option (Which × Chain) → Buckets → ℕ → List GateEvent
asked_event (Some (k, c)) gate now =
    if gate_takes gate (filled_length c.parts) now then Passed (filled_length c.parts) now ∷ [] else []
asked_event None gate now = []

-- What the items bring, from what is left on, the newest first: chains that pass at a moment. The API gives no other buckets.
abbrev pub gate_events : Script (Queued Entropy) → List (Item EntropyChange) → List GateEvent → List GateEvent
gate_events t [] older = older
gate_events t (Did s ∷ items) older =
    gate_events (stepped entropy_rules t s.reply) items
    (asked_event (timed_chain entropy t) (limits_of t) (time_of s.reply) ++ older)
gate_events t (Changed c ∷ items) older = gate_events (changed_at entropy_rules c t) items older
