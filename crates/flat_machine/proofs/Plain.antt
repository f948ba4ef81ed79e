-- A machine without devices keeps nothing of them.
use Rattle.std.proofs.Common.{◌≡◌, ℕ, refl, sym, ap, subst, ◌∙◌, List, [], ◌∷◌, length, map, arith, Option, Some, None, Result, Ok, Err}
use Rattle.refusals.specs.declared.refusal.Refusal.{Refusal}
use Rattle.http_stream.specs.Stream.{Connection}
use Rattle.http_stream.specs.declared.request.Next.{Next}
use Rattle.http_stream.specs.Conversation.{Conversation, arrived}
use Rattle.http_stream.specs.Sent.{sent}
use Rattle.script_text.specs.declared.item.Item.{Item}
use Rattle.script_text.specs.declared.item.Item.TheVariants as item
use Rattle.api_calls.specs.declared.call.SnapshotCreate.{SnapshotCreate}
use Rattle.api_calls.specs.declared.call.ApiCall.{ApiCall}
use Rattle.api_calls.specs.declared.call.ApiCall.TheVariants as call
use Rattle.responses.specs.Responses.{Response}
use Rattle.guest_devices.specs.declared.device.Device.{Device}
use Rattle.guest_devices.specs.Devices.{FlatDevice, device_reset}
use Rattle.flat_guest.specs.Guest.{Guest}
use Rattle.flat_snapshot.specs.Copies.{AreKept}
use Rattle.flat_machine.specs.Between.{GoesOn}
use Rattle.flat_machine.specs.Items.{ItemStep, Talks}
use Rattle.flat_machine.specs.Outcome.{KeepNone, Outcome, kept_by}
use Rattle.flat_machine.specs.Outcome.Outcome.{Answered, Failed, NoMemory}
use Rattle.flat_machine.specs.Machine.{Machine, devices_of}
use Rattle.flat_machine.specs.Requests.{Creates, LeavesBy, RequestStep, allowed}
use Rattle.flat_machine.specs.Run.{Act, AllKeepNone, Run}
use Rattle.flat_machine.proofs.Between.{conversation_on, request_on, run_on}

of_none : (kept : List Device) → AreKept kept [] → kept ≡ []
of_none [] are = refl
of_none (it ∷ kept) are = absurd are

create_keeps : (guest : Option Guest) (m : Machine) (it : SnapshotCreate) (kept : List Device) (n : Machine) → devices_of guest ≡ []
    → Creates guest m it kept n → kept ≡ []
create_keeps None m it kept n none x = x.0
create_keeps (Some g) m it kept n none (copy, of, tells, saved, is) =
    sym tells ∙ of_none copy.devices (subst (λ (l : List FlatDevice). AreKept copy.devices (map device_reset l)) none of.2)

result_keeps : (r : Result ApiCall Refusal) (m : Machine) (kept : List Device) (n : Machine) → devices_of m.guest ≡ [] → LeavesBy m r kept n
    → kept ≡ []
result_keeps (Ok (call.CreateSnapshot it)) m kept n none x = create_keeps m.guest m it kept n none x
result_keeps (Ok it) m kept n none x = x.0
result_keeps (Err why) m kept n none x = x.0

pub keeps_nothing : (m n : Machine) (kept : List Device) (given : Next) (said : List Response) → devices_of m.guest ≡ []
    → RequestStep (Answered kept) given m said n → kept ≡ []
keeps_nothing m n kept given said none step = result_keeps (allowed m given) m kept n none step.1

-- ---- over a run

empty_by : (xs ys : List FlatDevice) → length ys ≡ length xs → ys ≡ [] → xs ≡ []
empty_by [] ys same none = refl
empty_by (x ∷ xs) ys same none = let nothing : length ys ≡ 0 = ap length none in absurd (omega (arith, same, nothing))

-- a machine has none that has none later, as one that has started keeps as many
none_before : (guest : Option Guest) (m n : Machine) → m.guest ≡ guest → ((g : Guest) → m.guest ≡ Some g → GoesOn g m n)
    → devices_of n.guest ≡ [] → devices_of guest ≡ []
none_before None m n own on none = refl
none_before (Some g) m n own on none =
    let later = on g own in empty_by g.devices later.guest.devices later.devices (ap devices_of (sym later.there) ∙ none)

outcome_none : (how : Outcome) (given : Next) (m : Machine) (said : List Response) (n : Machine) → devices_of m.guest ≡ []
    → RequestStep how given m said n → kept_by how ≡ []
outcome_none (Answered kept) given m said n none step = keeps_nothing m n kept given said none step
outcome_none (Failed left) given m said n none step = refl
outcome_none NoMemory given m said n none step = refl

conversation_none : (outcomes : List Outcome) (c d : Connection) (m n : Machine) (t : List Response) → devices_of n.guest ≡ []
    → Conversation RequestStep outcomes c m t d n → KeepNone outcomes
conversation_none [] c d m n t none talk = tt
conversation_none (how ∷ outcomes) c d m n t none (given, after, first, mid, rest, takes, step, more, text) =
    let late = none_before mid.guest mid n refl (λ g there. conversation_on outcomes after d mid n rest g there more) none in
    let early = none_before m.guest m mid refl (λ g there. request_on g how given m first mid there step) late in
    (outcome_none how given m first mid early step, conversation_none outcomes after d mid n rest none more)

talks_none : (bytes : List ℕ) (outcomes : List Outcome) (m n : Machine) (t : List Response) → devices_of n.guest ≡ []
    → Talks bytes outcomes m t n → KeepNone outcomes
talks_none bytes outcomes m n t none (after, mid, talk, is) =
    conversation_none outcomes (arrived m.connection bytes) after m mid t (ap (λ (k : Machine). devices_of k.guest) (sym is) ∙ none) talk

quiet_none : (outcomes : List Outcome) → outcomes ≡ [] → KeepNone outcomes
quiet_none outcomes is = subst KeepNone (sym is) tt

item_none : (it : Item) (outcomes : List Outcome) (m n : Machine) (t : List ℕ) → devices_of n.guest ≡ [] → ItemStep it outcomes m t n
    → KeepNone outcomes
item_none (item.Bytes bytes) outcomes m n t none x = talks_none bytes outcomes m n x.0 none x.1
item_none (item.Api method path body) outcomes m n t none x = talks_none (sent method path body) outcomes m n x.0 none x.1
item_none it outcomes m n t none x = quiet_none outcomes x.0

pub run_none : (acts : List Act) (m n : Machine) (t : List ℕ) → Run acts m t n → devices_of n.guest ≡ [] → AllKeepNone acts
run_none [] m n t x none = tt
run_none (act ∷ acts) m n t (first, mid, rest, step, more, text) none =
    let late = none_before mid.guest mid n refl (λ g there. run_on acts mid n rest g there more) none in
    (item_none act.item act.outcomes m mid first late step, run_none acts mid n rest more none)
