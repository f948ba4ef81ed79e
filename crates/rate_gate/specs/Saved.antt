-- What a gate has to keep of its past, and a gate that goes on from there.
use Rattle.std.specs.Prelude.{◌≡◌, Option, Some, None, option_map}
use Rattle.token_bucket.specs.declared.state.State.{State}
use Rattle.token_bucket.specs.Rate.{Rate}
use Rattle.token_bucket.specs.Kept.{Kept, kept_at, saved_of}
use Rattle.rate_gate.specs.declared.state.GateState.{GateState}
use Rattle.rate_gate.specs.Gate.{Buckets}

-- the saved form of each bucket
abbrev pub gate_saved : Buckets → GateState
gate_saved gate =
    record {
      bandwidth = option_map saved_of gate.bandwidth;
      ops = option_map saved_of gate.ops;
    }

-- a bucket goes on from its saved form; one that has none stays
abbrev pub bucket_at : Option Kept → Option State → Option Kept
bucket_at None state = None
bucket_at (Some kept) None = Some kept
bucket_at (Some kept) (Some state) = Some (kept_at kept.rate state)

-- as fast as the gate is, whatever it kept before
abbrev pub gate_at : Buckets → GateState → Buckets
gate_at gate state =
    record {
      bandwidth = bucket_at gate.bandwidth state.bandwidth;
      ops = bucket_at gate.ops state.ops;
    }

abbrev pub rate_in : Option Kept → Option Rate
rate_in bucket = option_map (λ kept. kept.rate) bucket

-- two gates have the same buckets, as fast as each other
pub record HaveSameRates (gate other : Buckets) : Type 0 where
  pub bandwidth_rate : rate_in gate.bandwidth ≡ rate_in other.bandwidth
  pub ops_rate : rate_in gate.ops ≡ rate_in other.ops
