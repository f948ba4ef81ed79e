-- What comes to the gate of a block device may come to it, and leaves the buckets that the device then has.
use Rattle.std.proofs.Common.{◌≡◌, ℕ, nat_lt, refl, sym, ap, subst, ◌∙◌, ◌++◌, Bool, true, false, if◌then◌else◌, Option, Some, None, option_map, List, [], ◌∷◌, length}
use Rattle.std.specs.Prelude.{unwrap_or}
use Rattle.vm_types.specs.declared.op.Op.{Op}
use Rattle.vm_types.specs.declared.reply.Reply.{Reply}
use Rattle.vm_types.specs.Fits.{Fits}
use Rattle.device_trace.specs.Doing.{Doing, Gives, Wants, led}
use Rattle.device_trace.specs.Script.{Script, Ends, Asks, data_of}
use Rattle.device_trace.specs.States.{Leads, changed_at, stepped, wants}
use Rattle.device_trace.specs.Traces.{Item, Did, Changed, setting}
use Rattle.vq_split.specs.declared.queue.Part.{Part}
use Rattle.dev_core.specs.declared.collect.Collect.{Collect}
use Rattle.dev_core.specs.Collecting.{collect_left}
use Rattle.dev_core.specs.Pieces.{collect_all, readable, writable}
use Rattle.rate_gate.specs.Gate.{Buckets, gate_takes, gate_took, with_buckets}
use Rattle.rate_gate.specs.Lives.{GateEvent, MayCome, Passed, gate_after}
use Rattle.queue_device.specs.declared.lanes.Which.{Which}
use Rattle.queue_device.specs.Acting.{Acting, Comes, performing}
use Rattle.queue_device.specs.Chains.{Chain, Taken}
use Rattle.queue_device.specs.Owning.{ActingMoves, HandLeaves, Leaves}
use Rattle.queue_device.specs.Rounds.{time_of}
use Rattle.queue_device.specs.Service.{Queued}
use Rattle.queue_device.specs.Timing.{passed_by, timed_chain}
use Rattle.queue_device.proofs.Owning.{Left, step_moves}
use Rattle.block_device.specs.declared.data.BlockData.{BlockData}
use Rattle.block_device.specs.declared.kind.BlockChange.{BlockChange}
use Rattle.block_device.specs.declared.kind.BlockChange.TheVariants.{Limits, Sectors}
use Rattle.block_device.specs.Block.{block, block_rules, changed, headed, is_short, need_of, request_of, served, taken}
use Rattle.block_device.specs.Limits.{asked_event, changed_event, gate_events, limits_of}
use Rattle.block_device.specs.declared.work.BlockStage.{BlockStage}
use Rattle.block_device.specs.declared.work.BlockStage.TheVariants as at
use Rattle.block_device.specs.Service.{service}
use Rattle.block_device.specs.Serving.{serving_left}
use Rattle.block_device.specs.Working.{Working, hand_of, serving_at, taking_at}

-- ---- the limits stay, but where a request passes

abbrev pub Same : BlockData → BlockData → Type 0
Same e f = f.limits ≡ e.limits

performed : {A B : Type 0} (t : Doing A) (e : BlockData) (more : A → B)
    → ActingMoves Same e (performing t e (λ f a. Comes f (more a)))
performed (Gives a) e more = refl
performed (Wants op on) e more = (refl, λ f reply fit. performed (on reply) f more)

either : {B : Type 0} (test : Bool) (e : BlockData) (a : B) (t : Acting BlockData B) → ActingMoves Same e t
    → ActingMoves Same e (if test then Comes e a else t)
either true e a t moves = refl
either false e a t moves = moves

take_leaves : (parts : List Part) (e : BlockData) → ActingMoves Same e (taken parts e)
unfolding taken
take_leaves parts e =
    either (is_short parts) e None
    (performing (collect_all 16 [] (readable parts)) e (λ f got. Comes f (Some (headed (writable parts) got))))
    (performed (collect_all 16 [] (readable parts)) e (λ got. Some (headed (writable parts) got)))

serve_leaves : (t : Taken) (e : BlockData) → ActingMoves Same e (served t e)
unfolding served
serve_leaves t e =
    either (nat_lt (length t.got.bytes) 16) e None (performing (service (request_of t e)) e (λ f used. Comes f (Some used)))
    (performed (service (request_of t e)) e (λ used. Some used))

pub leaves : Leaves block Same
leaves = record {
  same = λ e. refl;
  again = λ e f g first second. second ∙ first;
  answer = λ e reply. refl;
  begun = λ k e. refl;
  take = λ k parts e. take_leaves parts e;
  serve = λ k c e. serve_leaves (headed c.parts c.got) e;
  over = λ k e. refl;
  reset = λ e. refl;
}

-- and of the work that is begun

taking_leaves : (s : BlockStage) (from : Collect) (to : List Part) (e : BlockData) (reply : Reply)
    → ActingMoves Same e (taking_at s from to e reply)
taking_leaves at.Rest from to e reply = refl
taking_leaves at.Header from to e reply = performed (led (collect_left 16 from) reply) e (λ got. Some (headed to got))
taking_leaves (at.Serve status stage) from to e reply = refl

serving_leaves : (s : BlockStage) (from : Collect) (to : List Part) (e : BlockData) (reply : Reply)
    → ActingMoves Same e (serving_at s from to e reply)
serving_leaves at.Rest from to e reply = refl
serving_leaves at.Header from to e reply = refl
serving_leaves (at.Serve status stage) from to e reply =
    performed (led (serving_left stage from to status) reply) e (λ used. Some used)

pub hand_leaves : (w : Working) → HandLeaves Same (hand_of w)
hand_leaves w = record {
  answering = λ e reply. refl;
  taking = taking_leaves w.stage w.from w.to;
  serving = serving_leaves w.stage w.from w.to;
}

-- ---- what comes to the gate

-- events that came to this gate, and what they left
record Came (gate : Buckets) (events : List GateEvent) (now : Buckets) : Type 0 where
  may : MayCome gate events
  after : gate_after gate events ≡ now

-- a request that is told at a guest time
passed_is : (test : Bool) (gate : Buckets) (older : List GateEvent) (e : BlockData) (need now : ℕ)
    → gate_takes e.limits need now ≡ test → Came gate older e.limits
    → Came gate ((if test then Passed need now ∷ [] else []) ++ older)
    (unwrap_or (option_map (λ (limits : Buckets). record e { limits = limits }) (if test then Some (gate_took e.limits need now) else None)) e).limits
passed_is true gate older e need now is came =
    record {
      may = (ap (λ (b : Buckets). gate_takes b need now) came.after ∙ is, came.may);
      after = ap (λ (b : Buckets). gate_took b need now) came.after;
    }
passed_is false gate older e need now is came = came

asked_is : (o : Option (Which × Chain)) (gate : Buckets) (older : List GateEvent) (e : BlockData) (now : ℕ)
    → Came gate older e.limits → Came gate (asked_event o e.limits now ++ older) (passed_by block o now e).limits
asked_is (Some (k, c)) gate older e now came =
    let need = need_of (headed c.parts c.got) in
    passed_is (gate_takes e.limits need now) gate older e need now refl came
asked_is None gate older e now came = came

moved : (gate b c : Buckets) (events : List GateEvent) → c ≡ b → Came gate events b → Came gate events c
moved gate b c events is came = record { may = came.may; after = came.after ∙ sym is }

change_is : (c : BlockChange) (gate : Buckets) (older : List GateEvent) (e : BlockData) → Came gate older e.limits
    → Came gate (changed_event c ++ older) (changed c e).limits
change_is (Sectors sectors) gate older e came = came
change_is (Limits bandwidth ops) gate older e came =
    record { may = came.may; after = ap (λ (b : Buckets). with_buckets b bandwidth ops) came.after }

changed_is : (c : BlockChange) (t : Script (Queued BlockData)) → limits_of (changed_at block_rules c t) ≡ (changed c (data_of t).own).limits
changed_is c (Ends d) = refl
changed_is c (Asks d op on) = refl

changed_left : (c : BlockChange) (t : Script (Queued BlockData)) → Left block Same leaves t
    → Left block Same leaves (changed_at block_rules c t)
changed_left c (Ends d) left = refl
changed_left c (Asks d op on) left = (refl, left.1)

gate_came : (gate : Buckets) (t u : Script (Queued BlockData)) (items : List (Item BlockChange)) (older : List GateEvent)
    → Left block Same leaves t → Came gate older (limits_of t) → Leads block_rules t items u
    → Came gate (gate_events t items older) (limits_of u)
gate_came gate t u [] older left came leads = subst (λ (x : Script (Queued BlockData)). Came gate older (limits_of x)) leads came
gate_came gate t u (Did s ∷ items) older left came leads =
    let fit : Fits (wants block_rules t) s.reply = subst (λ (op : Op). Fits op s.reply) leads.0 leads.1 in
    let on = step_moves block Same leaves (setting changed) t s.reply left fit in
    gate_came gate (stepped block_rules t s.reply) u items
    (asked_event (timed_chain block t) (limits_of t) (time_of s.reply) ++ older) on.1
    (moved gate _ _ _ on.0 (asked_is (timed_chain block t) gate older (data_of t).own (time_of s.reply) came)) leads.2
gate_came gate t u (Changed c ∷ items) older left came leads =
    gate_came gate (changed_at block_rules c t) u items (changed_event c ++ older) (changed_left c t left)
    (moved gate _ _ _ (changed_is c t) (change_is c gate older (data_of t).own came)) leads

pub new_came : (d : Queued BlockData) (u : Script (Queued BlockData)) (items : List (Item BlockChange))
    → Leads block_rules (Ends d) items u
    → MayCome d.own.limits (gate_events (Ends d) items []) × (gate_after d.own.limits (gate_events (Ends d) items []) ≡ limits_of u)
new_came d u items leads =
    let came = gate_came d.own.limits (Ends d) u items [] refl (record { may = tt; after = refl }) leads in
    (came.may, came.after)
