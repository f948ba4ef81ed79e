-- What comes to the gate of an entropy device may come to it, and leaves the buckets that the device then has.
use Rattle.std.proofs.Common.{◌≡◌, ℕ, refl, sym, ap, subst, ◌∙◌, ◌++◌, Bool, true, false, if◌then◌else◌, Option, Some, None, option_map, List, [], ◌∷◌}
use Rattle.std.specs.Prelude.{unwrap_or}
use Rattle.vm_types.specs.declared.op.Op.{Op}
use Rattle.vm_types.specs.Fits.{Fits}
use Rattle.device_trace.specs.Script.{Script, Ends, Asks, data_of}
use Rattle.device_trace.specs.States.{Leads, changed_at, stepped, wants}
use Rattle.device_trace.specs.Traces.{Item, Did, Changed, setting}
use Rattle.rate_gate.specs.Gate.{Buckets, gate_takes, gate_took}
use Rattle.rate_gate.specs.Lives.{GateEvent, MayCome, Passed, gate_after}
use Rattle.queue_device.specs.declared.lanes.Which.{Which}
use Rattle.queue_device.specs.Chains.{Chain}
use Rattle.queue_device.specs.Rounds.{time_of}
use Rattle.queue_device.specs.Service.{Queued}
use Rattle.queue_device.specs.Timing.{passed_by, timed_chain}
use Rattle.queue_device.proofs.Owning.{Left, step_moves}
use Rattle.entropy_device.specs.declared.kind.EntropyChange.{EntropyChange}
use Rattle.entropy_device.specs.Entropy.{Entropy, entropy, entropy_rules, unchanged}
use Rattle.entropy_device.specs.Words.{filled_length}
use Rattle.entropy_device.proofs.Limits.{Same, leaves}
use Rattle.entropy_limits.specs.Limits.{asked_event, gate_events, limits_of}

-- events that came to this gate, and what they left
record Came (gate : Buckets) (events : List GateEvent) (now : Buckets) : Type 0 where
  may : MayCome gate events
  after : gate_after gate events ≡ now

abbrev with_limits : Buckets → Entropy
with_limits limits = record { limits = limits }

-- a chain that is told at a guest time
passed_is : (test : Bool) (gate : Buckets) (older : List GateEvent) (e : Entropy) (need now : ℕ)
    → gate_takes e.limits need now ≡ test → Came gate older e.limits
    → Came gate ((if test then Passed need now ∷ [] else []) ++ older)
    (unwrap_or (option_map with_limits (if test then Some (gate_took e.limits need now) else None)) e).limits
passed_is true gate older e need now is came =
    record {
      may = (ap (λ (b : Buckets). gate_takes b need now) came.after ∙ is, came.may);
      after = ap (λ (b : Buckets). gate_took b need now) came.after;
    }
passed_is false gate older e need now is came = came

asked_is : (o : Option (Which × Chain)) (gate : Buckets) (older : List GateEvent) (e : Entropy) (now : ℕ)
    → Came gate older e.limits → Came gate (asked_event o e.limits now ++ older) (passed_by entropy o now e).limits
asked_is (Some (k, c)) gate older e now came =
    let need = filled_length c.parts in
    passed_is (gate_takes e.limits need now) gate older e need now refl came
asked_is None gate older e now came = came

moved : (gate b c : Buckets) (events : List GateEvent) → c ≡ b → Came gate events b → Came gate events c
moved gate b c events is came = record { may = came.may; after = came.after ∙ sym is }

unchanged_is : (c : EntropyChange) (t : Script (Queued Entropy)) → limits_of (changed_at entropy_rules c t) ≡ limits_of t
unchanged_is c (Ends d) = refl
unchanged_is c (Asks d op on) = refl

unchanged_left : (c : EntropyChange) (t : Script (Queued Entropy)) → Left entropy Same leaves t
    → Left entropy Same leaves (changed_at entropy_rules c t)
unchanged_left c (Ends d) left = refl
unchanged_left c (Asks d op on) left = (refl, left.1)

gate_came : (gate : Buckets) (t u : Script (Queued Entropy)) (items : List (Item EntropyChange)) (older : List GateEvent)
    → Left entropy Same leaves t → Came gate older (limits_of t) → Leads entropy_rules t items u
    → Came gate (gate_events t items older) (limits_of u)
gate_came gate t u [] older left came leads = subst (λ (x : Script (Queued Entropy)). Came gate older (limits_of x)) leads came
gate_came gate t u (Did s ∷ items) older left came leads =
    let fit : Fits (wants entropy_rules t) s.reply = subst (λ (op : Op). Fits op s.reply) leads.0 leads.1 in
    let on = step_moves entropy Same leaves (setting unchanged) t s.reply left fit in
    gate_came gate (stepped entropy_rules t s.reply) u items
    (asked_event (timed_chain entropy t) (limits_of t) (time_of s.reply) ++ older) on.1
    (moved gate _ _ _ on.0 (asked_is (timed_chain entropy t) gate older (data_of t).own (time_of s.reply) came)) leads.2
gate_came gate t u (Changed c ∷ items) older left came leads =
    gate_came gate (changed_at entropy_rules c t) u items older (unchanged_left c t left)
    (moved gate _ _ _ (unchanged_is c t) came) leads

pub new_came : (d : Queued Entropy) (u : Script (Queued Entropy)) (items : List (Item EntropyChange))
    → Leads entropy_rules (Ends d) items u
    → MayCome d.own.limits (gate_events (Ends d) items []) × (gate_after d.own.limits (gate_events (Ends d) items []) ≡ limits_of u)
new_came d u items leads =
    let came = gate_came d.own.limits (Ends d) u items [] refl (record { may = tt; after = refl }) leads in
    (came.may, came.after)
