-- A machine that is ready answers each request.
use Rattle.std.proofs.Common.{◌≡◌, ℕ, zero, suc, true, false, refl, List, [], ◌∷◌, Option, Some, None, Result, Ok, Err}
use Rattle.std.specs.Prelude.{IsTrue}
use Rattle.refusals.specs.declared.refusal.Refusal.{Refusal}
use Rattle.serde_json.specs.Data.{Data}
use Rattle.metadata_store.specs.Store.{patched, put}
use Rattle.http_stream.specs.declared.request.Next.{Next}
use Rattle.http_stream.specs.Stream.{Connection}
use Rattle.http_stream.specs.Conversation.{Conversation, arrived}
use Rattle.http_stream.proofs.ConversationLemmas.{each, some_conversation}
use Rattle.api_calls.specs.declared.call.SnapshotCreate.{SnapshotCreate}
use Rattle.api_calls.specs.declared.call.SnapshotLoad.{SnapshotLoad}
use Rattle.api_calls.specs.declared.call.VmState.TheVariants.{Paused, Resumed}
use Rattle.vm_config.specs.Devices.{balloon_device}
use Rattle.vm_config.specs.Texts.{Told}
use Rattle.api_calls.specs.declared.call.ApiCall.{ApiCall}
use Rattle.api_calls.specs.declared.call.ApiCall.TheVariants as call
use Rattle.api_rules.specs.declared.answer.Answer.{Answer}
use Rattle.api_rules.specs.Answers.{accepted, refused}
use Rattle.responses.specs.Responses.{Response}
use Rattle.guest_devices.specs.declared.device.Device.{Device}
use Rattle.file_format.specs.Identities.{is_numbered}
use Rattle.flat_guest.specs.Changes.{reset_guest}
use Rattle.flat_guest.specs.Guest.{Guest}
use Rattle.flat_snapshot.specs.Found.{Snapshot, found}
use Rattle.flat_machine.specs.Outcome.{AreAnswered, Outcome}
use Rattle.flat_machine.specs.Outcome.Outcome.{Answered}
use Rattle.flat_machine.specs.Items.{TalkLines, response_lines}
use Rattle.flat_machine.specs.Machine.{Machine, phase_of}
use Rattle.flat_machine.specs.Ready.{HasFields, Ready}
use Rattle.flat_machine.specs.Requests.{AnswersBy, Creates, LeavesBy, Responds, Restores, RequestStep, Stores, allowed, carried, configured, created, disk_of, halted, image_of, next_identity, parent_in, patched_balloon, patched_drive, patched_interface, patched_statistics, respond, started_from}
use Rattle.flat_machine.proofs.Numbered.{create_numbered}
use Rattle.flat_machine.proofs.Ready.{can_be_copied, request_ready}
use Rattle.flat_machine.proofs.Telling.{tells_some}

-- ---- what a call leaves

-- the machine answers, and keeps something of its devices
abbrev AnsweredStep : Unit {0} → Next → Machine → List Response → Machine → Type 0
AnsweredStep how given m text n = (kept : List Device) × RequestStep (Answered kept) given m text n

-- a call leaves something, with something kept of the devices
abbrev Left : (List Device → Machine → Type 0) → Type 0
Left Leaves = (kept : List Device) × (n : Machine) × Leaves kept n

-- a create of a copy whose numbers fit, which passes each other test of a state file
some_create : (guest : Option Guest) (m : Machine) (it : SnapshotCreate) → m.guest ≡ guest → IsTrue (is_numbered (next_identity m)) → Ready m
    → HasFields m → Left (Creates guest m it)
some_create None m it there own ready fields = ([], m, (refl, refl))
some_create (Some g) m it there own ready fields =
    let has = fields g there own in
    let can = can_be_copied m ready g has.0 there has.1 in (
      has.0.devices,
      created m (reset_guest g) it.files (parent_in m it) has.0,
      (has.0, has.1, refl, record { fits = has.2; valid = can.0; numbered = own }, refl),
    )

some_load : (it : Result Snapshot Refusal) (m : Machine) (load : SnapshotLoad) → (n : Machine) × Restores it m load n
some_load (Ok it) m load = (carried m load it, refl)
some_load (Err why) m load = (m, refl)

some_store : (due : Result Data Refusal) (m : Machine) → (n : Machine) × Stores due m n
some_store (Ok kept) m = (record m { metadata = kept }, refl)
some_store (Err why) m = (m, refl)

some_change : (it : ApiCall) (m : Machine) (given : Next) → allowed m given ≡ Ok it → Ready m → HasFields m → Left (LeavesBy m (Ok it))
some_change (call.PatchDrive patch) m given is ready fields = ([], configured (patched_drive m patch) (call.PatchDrive patch), (refl, refl))
some_change (call.PatchInterface patch) m given is ready fields =
    ([], configured (patched_interface m patch) (call.PatchInterface patch), (refl, refl))
some_change (call.PatchBalloon patch) m given is ready fields = ([], configured (patched_balloon m patch) (call.PatchBalloon patch), (refl, refl))
some_change (call.PatchStatistics patch) m given is ready fields =
    ([], configured (patched_statistics m patch) (call.PatchStatistics patch), (refl, refl))
some_change (call.PutMetadata body) m given is ready fields = let left = some_store (put body) m in ([], left.0, (refl, left.1))
some_change (call.PatchMetadata patch) m given is ready fields = let left = some_store (patched m.metadata patch) m in ([], left.0, (refl, left.1))
some_change call.InstanceStart m given is ready fields = ([], configured (started_from (image_of m) (disk_of m) m) call.InstanceStart, (refl, refl))
some_change (call.PatchVm Paused) m given is ready fields = ([], record m { guest = halted m.paused m.guest; paused = true }, (refl, refl))
some_change (call.PatchVm Resumed) m given is ready fields = ([], record m { paused = false }, (refl, refl))
some_change (call.CreateSnapshot it) m given is ready fields =
    some_create m.guest m it refl (create_numbered m given it is ready.next) ready fields
some_change (call.LoadSnapshot load) m given is ready fields = let left = some_load (found m.saved load.files) m load in ([], left.0, (refl, left.1))
some_change (call.Get part) m given is ready fields = ([], m, (refl, refl))
some_change it m given is ready fields = ([], configured m it, (refl, refl))

some_result : (made : Result ApiCall Refusal) (m : Machine) (given : Next) → allowed m given ≡ made → Ready m → HasFields m
    → Left (LeavesBy m made)
some_result (Ok it) m given is ready fields = some_change it m given is ready fields
some_result (Err why) m given is ready fields = ([], m, (refl, refl))

-- ---- what is due is answered

-- by what there is to tell
some_answer : (made : Result ApiCall Refusal) (m : Machine) → Ready m → (answer : Answer) × AnswersBy m made answer
some_answer (Ok it) m ready =
    let says = tells_some m.config m.paused m.guest (balloon_device m.config) ready.guest in
    let told : Told =
    record { id = m.id; phase = phase_of m; config = m.config; metadata = m.metadata; statistics = says.0 } in
    let answer : Answer = accepted it told in (
      answer,
      (told, record { id_is = refl; phase_is = refl; config_is = refl; metadata_is = refl; statistics_is = says.1 }, refl),
    )
some_answer (Err why) m ready = (refused why, refl)

-- where each is answered by the machine, with something kept each time
answered_each : (count : ℕ) (c d : Connection) (m n : Machine) (text : List Response)
    → Conversation AnsweredStep (each count tt) c m text d n
    → (outcomes : List Outcome) × AreAnswered outcomes × Conversation RequestStep outcomes c m text d n
answered_each zero c d m n text talk = ([], tt, talk)
answered_each (suc count) c d m n text (given, after, first, mid, rest, takes, (kept, step), more, is) =
    let others = answered_each count after d mid n rest more in
    (Answered kept ∷ others.0, others.1, (given, after, first, mid, rest, takes, step, others.2, is))

-- all that the connection gives with these bytes
pub record Said (bytes : List ℕ) (m : Machine) : Type 0 where
  pub outcomes : List Outcome
  pub text : List ℕ
  pub next : Machine
  pub talk : TalkLines bytes outcomes m text next
  pub good : AreAnswered outcomes

-- where a fact of machines gives that there is such a copy, and each request that is answered keeps it
module _ (Narrow : Machine → Type 0) (fields : (m : Machine) → Ready m → Narrow m → HasFields m)
    (keeps : (kept : List Device) (given : Next) (m : Machine) (said : List Response) (n : Machine) → Ready m → Narrow m
    → RequestStep (Answered kept) given m said n → Narrow n) where
  some_request : (given : Next) (m : Machine) → Ready m × Narrow m
      → (said : List Response) × (n : Machine) × AnsweredStep tt given m said n × (Ready n × Narrow n)
  some_request given m good =
      let left = some_result (allowed m given) m given refl good.0 (fields m good.0 good.1) in
      let answer = some_answer (allowed m given) m good.0 in
      let said : List Response = respond given answer.0 in
      let responds : Responds m given said = (answer.0, answer.1, refl) in
      let step : RequestStep (Answered left.0) given m said left.1 = (responds, left.2) in (
        said,
        left.1,
        (left.0, step),
        (request_ready (Answered left.0) given m said left.1 good.0 step, keeps left.0 given m said left.1 good.0 good.1 step),
      )

  pub some_talk : (bytes : List ℕ) (m : Machine) → Ready m → Narrow m → Said bytes m
  some_talk bytes m ready narrow =
      let all =
      some_conversation AnsweredStep tt (λ (q : Machine). Ready q × Narrow q) some_request (arrived m.connection bytes) m (ready, narrow) in
      let said = answered_each all.0 (arrived m.connection bytes) all.2 m all.3 all.1 all.4 in record {
        outcomes = said.0;
        text = response_lines all.1;
        next = record all.3 { connection = all.2 };
        talk = (all.1, (all.2, all.3, said.2, refl), refl);
        good = said.1;
      }
