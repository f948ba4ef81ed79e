-- Who asks a host object: the timer its clock, and a device what those of its kind do.
use Rattle.std.proofs.Common.{◌≡◌, ℕ, Bool, true, false, cond, refl, sym, ap, ◌∙◌, subst, List, [], ◌∷◌, Option, Some, None, slice_get, ◌⊎◌, inl, inr}
use Rattle.vm_types.specs.declared.ids.ActorId.{ActorId}
use Rattle.vm_types.specs.declared.ids.PlaceId.{PlaceId}
use Rattle.vm_types.specs.declared.entry.Entry.{Entry}
use Rattle.vm_types.specs.declared.entry.Step.{Step}
use Rattle.vm_types.specs.declared.op.Op.{Op}
use Rattle.vm_types.specs.declared.op.OutOp.{OutOp}
use Rattle.vm_types.specs.declared.op.OutOp.TheVariants.{Clock}
use Rattle.vm_types.specs.declared.reply.Reply.{Reply}
use Rattle.vm_types.specs.Fits.{out_fits}
use Rattle.vm_types.specs.Ids.{of_actor, same_actor}
use Rattle.script_text.specs.declared.item.Item.TheVariants as item
use Rattle.rv_supervisor.specs.declared.regs.Regs.{Regs}
use Rattle.hart_trace.specs.Asks.{is_host_op}
use Rattle.hart_trace.specs.States.{hart_wants}
use Rattle.hart_trace.proofs.Asks.{never_host}
use Rattle.hart_trace.proofs.Traces as hart_traces
use Rattle.timer_trace.specs.States.{wants_by}
use Rattle.timer_trace.proofs.Traces as timer_traces
use Rattle.guest_devices.specs.Devices.{FlatDevice}
use Rattle.guest_devices.specs.Kinds.{Balloon, Block, Entropy, Kind, Net, Vsock, calls_of}
use Rattle.guest_devices.proofs.Soundness.{want_host}
use Rattle.flat_guest.specs.Given.{Event}
use Rattle.flat_guest.specs.Guest.{Guest, Wants, WantsFrom, WantsOf, layout_of, whole_pages}
use Rattle.flat_guest.specs.Places.{place_of}
use Rattle.flat_guest.specs.Sound.{IsSound}
use Rattle.flat_guest.proofs.Soundness.{sound_next}
use Rattle.monitor_running.specs.Waiting.{takes_turn}
use Rattle.flat_guest.specs.Steps.{Answers, FlatStep}
use Rattle.slice_runner.specs.Slices.{Leads, answer_in, answers_of, event_of}
use Rattle.serve_host.specs.Events.{event_items, host_reply, item_by, item_of}
use Rattle.flat_trace.specs.Events.{answer_by, answers_in}

-- the timer asks its clock and nothing else
pub record IsAsking (e : Entry) (act : OutOp) : Type 0 where
  pub actor : e.actor ≡ ActorId.Timer
  pub act_is : act ≡ Clock
  pub answer : ℕ
  pub reply : e.reply ≡ Reply.Word answer

asks_clock : (due : Option ℕ) (act : OutOp) → Op.Out act ≡ wants_by due → act ≡ Clock
asks_clock None act is = cc
asks_clock (Some due) act is = cc

no_hart : (start : Option Regs) (steps : List Step) (act : OutOp) → WantsFrom start steps (Op.Out act) → ⊥
no_hart None steps act wants = absurd wants
no_hart (Some start) steps act wants =
    let hart = hart_traces.some_hart start steps (record { op = Op.Out act; reply = wants.0 } ∷ wants.1, wants.2, wants.3) in
    let same = hart_traces.wants_only start steps hart.0 (Op.Out act) hart.1 wants in
    let never : is_host_op (hart_wants hart.0) ≡ false = never_host hart.0 in
    let asks : true ≡ is_host_op (hart_wants hart.0) = ap is_host_op same in
    differ (asks ∙ never)
  where
    differ : true ≡ false → ⊥
    differ is = cc

-- a hart asks no host object
pub hart_asks : (g : Guest) (k : ℕ) (act : OutOp) → Wants g (ActorId.Hart k) (Op.Out act) → ⊥
hart_asks g k act wants = no_hart (slice_get g.starts k) (g.steps (ActorId.Hart k)) act wants

-- an actor that takes turns asks the clock alone
pub turn_asks : (g : Guest) (actor : ActorId) (act : OutOp) → takes_turn g actor ≡ true → Wants g actor (Op.Out act)
    → (actor ≡ ActorId.Timer) × (act ≡ Clock)
turn_asks g ActorId.Timer act turn wants =
    let steps = g.steps ActorId.Timer in
    let t = timer_traces.some_timer steps (record { op = Op.Out act; reply = wants.0 } ∷ wants.1, wants.2) in
    let same = timer_traces.wants_only steps t.0 (Op.Out act) t.1 wants in
    (refl, asks_clock t.0.due act same)
turn_asks g (ActorId.Hart k) act turn wants = absurd (hart_asks g k act wants)
turn_asks g (ActorId.Device k) act turn wants = cc

-- the call of a device of some kind
abbrev pub IsKinds : OutOp → Type 0
IsKinds act = (kind : Kind) × (calls_of kind act ≡ true)

no_clock : (kind : Kind) → calls_of kind Clock ≡ true → ⊥
no_clock Block calls = cc
no_clock Net calls = cc
no_clock Vsock calls = cc
no_clock Entropy calls = cc
no_clock Balloon calls = cc

device_asks : (g : Guest) (k : ℕ) (o : Option FlatDevice) (act : OutOp) → IsSound g → slice_get g.devices k ≡ o
    → WantsOf o (Op.Out act) → IsKinds act
device_asks g k None act sound is wants = absurd wants
device_asks g k (Some d) act sound is wants =
    let own = sound.devices_on.each k d is in
    (d.kind, want_host k (whole_pages g.memory) d (Op.Out act) own wants)

abbrev pub Asks : ActorId → OutOp → Type 0
Asks actor act =
    ((actor ≡ ActorId.Timer) × (act ≡ Clock)) ⊎ ((k : ℕ) × (actor ≡ ActorId.Device k) × IsKinds act)

who_asks : (g : Guest) (actor : ActorId) (act : OutOp) → IsSound g → Wants g actor (Op.Out act) → Asks actor act
who_asks g ActorId.Timer act sound wants = inl (turn_asks g ActorId.Timer act refl wants)
who_asks g (ActorId.Hart k) act sound wants = absurd (hart_asks g k act wants)
who_asks g (ActorId.Device k) act sound wants =
    inr (k, refl, device_asks g k (slice_get g.devices k) act sound refl wants)

fits_word : (reply : Reply) → out_fits Clock reply ≡ true → (n : ℕ) × (reply ≡ Reply.Word n)
fits_word (Reply.Word n) fits = (n, refl)
fits_word reply fits = cc

-- a device asks its host object, which replies what fits
pub record IsDeviceCall (e : Entry) (act : OutOp) : Type 0 where
  pub number : ℕ
  pub actor : e.actor ≡ ActorId.Device number
  pub call : IsKinds act
  pub fits : out_fits act e.reply ≡ true

-- the reply to what is asked of a host object fits
out_fit : (g : Guest) (event : Event) (e : Entry) (h : Guest) (act : OutOp) → FlatStep g event e h → e.op ≡ Op.Out act
    → out_fits act e.reply ≡ true
out_fit g event e h act step is =
    let there : e.place ≡ place_of (layout_of g) (Op.Out act) = step.place ∙ ap (λ (o : Op). place_of (layout_of g) o) is in
    let answers : Answers (place_of (layout_of g) (Op.Out act)) g e.actor (Op.Out act) event.given e.reply =
    subst (λ (o : Op). Answers (place_of (layout_of g) (Op.Out act)) g e.actor o event.given e.reply) is
    (subst (λ (p : PlaceId). Answers p g e.actor e.op event.given e.reply) there step.answer) in
    answers.1

asking_by : (e : Entry) (act : OutOp) → out_fits act e.reply ≡ true → Asks e.actor act → IsAsking e act ⊎ IsDeviceCall e act
asking_by e act fits (inl who) =
    let word = fits_word e.reply (subst (λ (a : OutOp). out_fits a e.reply ≡ true) who.1 fits) in
    inl (record { actor = who.0; act_is = who.1; answer = word.0; reply = word.1 })
asking_by e act fits (inr who) = inr (record { number = who.0; actor = who.1; call = who.2; fits = fits })

pub is_asking : (g : Guest) (event : Event) (e : Entry) (h : Guest) (act : OutOp) → IsSound g → FlatStep g event e h
    → e.op ≡ Op.Out act → IsAsking e act ⊎ IsDeviceCall e act
is_asking g event e h act sound step is =
    asking_by e act (out_fit g event e h act step is)
    (who_asks g e.actor act sound (subst (λ (o : Op). Wants g e.actor o) is step.want))

-- the clock is asked by the timer
clock_by : (e : Entry) → IsAsking e Clock ⊎ IsDeviceCall e Clock → IsAsking e Clock
clock_by e (inl asking) = asking
clock_by e (inr own) = absurd (no_clock own.call.0 own.call.1)

pub clock_asking : (g : Guest) (event : Event) (e : Entry) (h : Guest) → IsSound g → FlatStep g event e h
    → e.op ≡ Op.Out Clock → IsAsking e Clock
clock_asking g event e h sound step is = clock_by e (is_asking g event e h Clock sound step is)

-- and the items tell what the clock answered the timer
plain_at : (e : Entry) (b : Bool) (es : List Entry) → answer_in e.op e.reply (answers_of es) ≡ answers_of es
    → answers_of es ≡ answers_of (cond b (e ∷ es) es)
plain_at e true es none = sym none
plain_at e false es none = refl

-- the timer's clock
asked_at : (e : Entry) (act : OutOp) (b : Bool) (es : List Entry) → e.op ≡ Op.Out act → same_actor e.actor ActorId.Timer ≡ b
    → IsAsking e act → answer_by (item_by (Op.Out act) e.actor e.reply) (answers_of es) ≡ answers_of (cond b (e ∷ es) es)
asked_at e act true es is mine a =
    let more = answers_of es in
    let told : answer_by (item_by (Op.Out act) e.actor e.reply) more ≡ a.answer ∷ more =
    ap (λ (k : ActorId). answer_by (item.Reply k (host_reply e.reply)) more) a.actor
    ∙ ap (λ (r : Reply). answer_by (item.Reply ActorId.Timer (host_reply r)) more) a.reply in
    let asked : answer_in e.op e.reply more ≡ a.answer ∷ more =
    ap (λ (o : Op). answer_in o e.reply more) (is ∙ ap (λ (b : OutOp). Op.Out b) a.act_is)
    ∙ ap (λ (r : Reply). answer_in (Op.Out Clock) r more) a.reply in
    told ∙ sym asked
asked_at e act false es is mine a =
    let both : true ≡ false = sym (ap (λ (x : ActorId). same_actor x ActorId.Timer) a.actor) ∙ mine in cc

-- and another's host object
told_at : (e : Entry) (act : OutOp) (b : Bool) (es : List Entry) → same_actor e.actor ActorId.Timer ≡ b
    → IsDeviceCall e act → answer_by (item_by (Op.Out act) e.actor e.reply) (answers_of es) ≡ answers_of (cond b (e ∷ es) es)
told_at e act true es mine d =
    let both : false ≡ true = sym (ap (λ (x : ActorId). same_actor x ActorId.Timer) d.actor) ∙ mine in cc
told_at e act false es mine d = ap (λ (k : ActorId). answer_by (item.Reply k (host_reply e.reply)) (answers_of es)) d.actor

out_at : (e : Entry) (act : OutOp) (b : Bool) (es : List Entry) → e.op ≡ Op.Out act → same_actor e.actor ActorId.Timer ≡ b
    → IsAsking e act ⊎ IsDeviceCall e act
    → answer_by (item_by (Op.Out act) e.actor e.reply) (answers_of es) ≡ answers_of (cond b (e ∷ es) es)
out_at e act b es is mine (inl asking) = asked_at e act b es is mine asking
out_at e act b es is mine (inr own) = told_at e act b es mine own

answer_at : (e : Entry) (op : Op) (b : Bool) (es : List Entry) → e.op ≡ op → same_actor e.actor ActorId.Timer ≡ b
    → ((act : OutOp) → e.op ≡ Op.Out act → IsAsking e act ⊎ IsDeviceCall e act)
    → answer_by (item_by op e.actor e.reply) (answers_of es) ≡ answers_of (cond b (e ∷ es) es)
answer_at e (Op.Out act) b es is mine asking = out_at e act b es is mine (asking act is)
answer_at e (Op.Read at len) b es is mine asking = plain_at e b es (ap (λ (o : Op). answer_in o e.reply (answers_of es)) is)
answer_at e (Op.Write at piece) b es is mine asking = plain_at e b es (ap (λ (o : Op). answer_in o e.reply (answers_of es)) is)
answer_at e (Op.Amo at value kind wide) b es is mine asking = plain_at e b es (ap (λ (o : Op). answer_in o e.reply (answers_of es)) is)
answer_at e (Op.Lr at wide) b es is mine asking = plain_at e b es (ap (λ (o : Op). answer_in o e.reply (answers_of es)) is)
answer_at e (Op.Sc at value wide) b es is mine asking = plain_at e b es (ap (λ (o : Op). answer_in o e.reply (answers_of es)) is)
answer_at e (Op.Port port act) b es is mine asking = plain_at e b es (ap (λ (o : Op). answer_in o e.reply (answers_of es)) is)
answer_at e (Op.Board act) b es is mine asking = plain_at e b es (ap (λ (o : Op). answer_in o e.reply (answers_of es)) is)
answer_at e Op.Idle b es is mine asking = plain_at e b es (ap (λ (o : Op). answer_in o e.reply (answers_of es)) is)

pub answers_same : (es : List Entry) (g h : Guest) → IsSound g → Leads g es h
    → answers_in (event_items es) ≡ answers_of (of_actor ActorId.Timer es)
answers_same [] g h sound leads = refl
answers_same (e ∷ es) g h sound leads =
    ap (answer_by (item_of e)) (answers_same es leads.0 h (sound_next g (event_of e) e leads.0 sound leads.1) leads.2)
    ∙ answer_at e e.op (same_actor e.actor ActorId.Timer) (of_actor ActorId.Timer es) refl refl
    (λ act is. is_asking g (event_of e) e leads.0 act sound leads.1 is)
