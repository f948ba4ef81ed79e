-- Requests, items and runs are determined.
use Rattle.std.proofs.Common.{◌≡◌, ◌≢◌, Bool, true, false, MatchBool, refl, sym, ap, subst, ◌∙◌, List, [], ◌∷◌, ◌++◌, length, take, Option, Some, None, Result, Ok, Err, ℕ, ◌+◌, slice_get}
use Rattle.std.specs.FinMap.{get}
use Rattle.std.specs.Str.{bytes_eq}
use Rattle.std.proofs.lemmas.Slice.Eq.{bytes_eq-Decides}
use Rattle.vm_types.specs.Saved.{Saved}
use Rattle.gate_file.proofs.Inserts.{same_saved}
use Rattle.api_rules.specs.Ids.{spent}
use Rattle.api_calls.specs.declared.call.SnapshotFiles.{SnapshotFiles}
use Rattle.vm_types.specs.declared.ids.ActorId.{ActorId}
use Rattle.vm_types.specs.declared.ids.ActorId.TheVariants.{Hart as HartId}
use Rattle.vm_types.specs.declared.entry.Step.{Step}
use Rattle.vm_types.specs.declared.op.Op.{Op}
use Rattle.vm_types.specs.declared.reply.Reply.{Reply}
use Rattle.guest_memory.specs.Ram.{is_ram}
use Rattle.rv_supervisor.specs.declared.regs.Regs.{Regs}
use Rattle.flat_guest.specs.Given.{Given}
use Rattle.hart_trace.specs.Asks.{is_host_op}
use Rattle.hart_trace.specs.States.{Hart}
use Rattle.hart_trace.specs.Shown.{register_of}
use Rattle.hart_trace.proofs.OneHart.{one_hart}
use Rattle.http_stream.specs.Conversation.{IsDetermined, arrived}
use Rattle.http_stream.specs.Sent.{sent}
use Rattle.http_stream.specs.declared.request.Next.{Next}
use Rattle.http_stream.proofs.ConversationLemmas.{one_conversation}
use Rattle.script_text.specs.declared.item.Item.{Item}
use Rattle.script_text.specs.declared.item.Item.TheVariants as item
use Rattle.script_text.specs.declared.output.Misfit.TheVariants as misfit
use Rattle.script_text.specs.Output.{register_line}
use Rattle.responses.specs.Responses.{Response}
use Rattle.guest_devices.specs.declared.device.Device.{Device}
use Rattle.flat_guest.specs.Changes.{reset_guest}
use Rattle.flat_guest.specs.Guest.{Guest, is_actor}
use Rattle.flat_guest.specs.Steps.{is_given}
use Rattle.flat_guest.proofs.Determined.{same_after, several_made, several_one, wants_one}
use Rattle.flat_machine.specs.Given.{reply_given}
use Rattle.flat_machine.specs.Outcome.{AreAnswered, Left, Outcome, kept_in}
use Rattle.flat_machine.specs.Outcome.Outcome.{Answered, Failed, NoMemory}
use Rattle.flat_machine.specs.Machine.{Machine, running}
use Rattle.flat_machine.specs.Items.{Answers, ItemStep, MemoryLine, Misfits, Moves, RegisterLine, Replies, RepliesLine, ShowsFrom, StepsLine, TalkLines, Talks, response_lines, steps_text}
use Rattle.snap_state.specs.declared.copy.StateCopy.{StateCopy}
use Rattle.api_calls.specs.declared.call.SnapshotCreate.{SnapshotCreate}
use Rattle.api_calls.specs.declared.call.SnapshotLoad.{SnapshotLoad}
use Rattle.flat_snapshot.specs.Found.{Snapshot, found}
use Rattle.flat_snapshot.proofs.Copied.{same_copy}
use Rattle.flat_machine.specs.Requests.{AnswersBy, CreateFails, Creates, Fails, LeavesBy, Responds, Restores, RequestStep, Stores, TellsOf, allowed, calls_in, created, parent_in, respond}
use Rattle.serde_json.specs.Data.{Data}
use Rattle.metadata_store.specs.Store.{patched, put}
use Rattle.vm_config.specs.Devices.{balloon_device}
use Rattle.vm_config.specs.Texts.{Told}
use Rattle.api_calls.specs.declared.call.ApiCall.{ApiCall}
use Rattle.api_calls.specs.declared.call.ApiCall.TheVariants as call
use Rattle.api_rules.specs.declared.answer.Answer.{Answer}
use Rattle.api_rules.specs.Answers.{accepted}
use Rattle.api_calls.specs.declared.call.VmState.TheVariants.{Paused, Resumed}
use Rattle.refusals.specs.declared.refusal.Refusal.{Refusal}
use Rattle.flat_machine.specs.Run.{Act, Run}
use Rattle.flat_machine.proofs.Allowed.{same_call}
use Rattle.flat_machine.proofs.Telling.{tells_one}

-- one text and one machine
abbrev Same : List ℕ → List ℕ → Machine → Machine → Type 0
Same t u n k = (t ≡ u) × (n ≡ k)

-- what equations say
both : {s t u : List ℕ} {m n k : Machine} → (t ≡ s) × (n ≡ m) → (u ≡ s) × (k ≡ m) → Same t u n k
both x y = (x.0 ∙ sym y.0, x.1 ∙ sym y.1)

-- ---- requests

pub creates_one : (guest : Option Guest) (m : Machine) (it : SnapshotCreate) (kept : List Device) (n k : Machine)
    → Creates guest m it kept n → Creates guest m it kept k → n ≡ k
creates_one None m it kept n k x y = x.1 ∙ sym y.1
creates_one (Some g) m it kept n k (copy, of, tells, saved, is) (other, same, says, kept_too, be) =
    is
    ∙ ap (λ (c : StateCopy). created m (reset_guest g) it.files (parent_in m it) c)
    (same_copy m.config (reset_guest g) copy other (tells ∙ sym says) of same)
    ∙ sym be

loads_one : (it : Result Snapshot Refusal) (m : Machine) (load : SnapshotLoad) (n k : Machine) → Restores it m load n → Restores it m load k → n ≡ k
loads_one (Ok it) m load n k x y = x ∙ sym y
loads_one (Err why) m load n k x y = x ∙ sym y

stores_one : (due : Result Data Refusal) (m n k : Machine) → Stores due m n → Stores due m k → n ≡ k
stores_one (Ok kept) m n k x y = x ∙ sym y
stores_one (Err why) m n k x y = x ∙ sym y

-- two files that agree under both names of a create, and elsewhere with the files before it
one_text : (files : SnapshotFiles) (old a b : Saved) → get a files.mem_file_path ≡ get b files.mem_file_path
    → get a files.snapshot_path ≡ get b files.snapshot_path
    → ((q : List ℕ) → q ≢ files.mem_file_path → q ≢ files.snapshot_path → get a q ≡ get old q)
    → ((q : List ℕ) → q ≢ files.mem_file_path → q ≢ files.snapshot_path → get b q ≡ get old q)
    → (q : List ℕ) → get a q ≡ get b q
one_text files old a b memory state first second q = by_memory (bytes_eq q files.mem_file_path) refl
  where
    at : (name : List ℕ) → q ≡ name → get a name ≡ get b name → get a q ≡ get b q
    at name is same = subst (λ (t : List ℕ). get a t ≡ get b t) (sym is) same

    is_other : (name : List ℕ) → bytes_eq q name ≡ false → q ≢ name
    is_other name nay is = let bad : true ≡ false = sym ((bytes_eq-Decides q name).1 is) ∙ nay in cc

    by_state : (t : Bool) → bytes_eq q files.snapshot_path ≡ t → q ≢ files.mem_file_path → get a q ≡ get b q
    by_state true is other = at files.snapshot_path ((bytes_eq-Decides q files.snapshot_path).0 is) state
    by_state false nay other =
        first q other (is_other files.snapshot_path nay) ∙ sym (second q other (is_other files.snapshot_path nay))

    by_memory : (t : Bool) → bytes_eq q files.mem_file_path ≡ t → get a q ≡ get b q
    by_memory true is = at files.mem_file_path ((bytes_eq-Decides q files.mem_file_path).0 is) memory
    by_memory false nay = by_state (bytes_eq q files.snapshot_path) refl (is_other files.mem_file_path nay)

create_fails_one : (guest : Option Guest) (m : Machine) (it : SnapshotCreate) (left : Left) (n k : Machine) → CreateFails guest m it left n
    → CreateFails guest m it left k → n ≡ k
create_fails_one None m it left n k x y = absurd x
create_fails_one (Some g) m it left n k x y =
    let one = same_copy m.config (reset_guest g) x.copy y.copy (x.tells ∙ sym y.tells) x.is_copy y.is_copy in
    let calls : n.calls ≡ k.calls =
    x.begun ∙ ap (λ (c : StateCopy). m.calls ++ take left.begun (calls_in m (reset_guest g) it c)) one ∙ sym y.begun in
    let saved : n.saved ≡ k.saved =
    same_saved n.saved k.saved
    (one_text it.files m.saved n.saved k.saved (x.memory ∙ sym y.memory) (x.state ∙ sym y.state) x.others y.others) in
    x.leaves ∙ (λ i. record m { saved = saved i; calls = calls i; ids = spent (m.ids.next + 1) m.ids }) ∙ sym y.leaves

result_one : (r : Result ApiCall Refusal) (m : Machine) (kept : List Device) (n k : Machine) → LeavesBy m r kept n → LeavesBy m r kept k
    → n ≡ k
result_one (Ok (call.PutMetadata body)) m kept n k x y = stores_one (put body) m n k x.1 y.1
result_one (Ok (call.PatchMetadata patch)) m kept n k x y = stores_one (patched m.metadata patch) m n k x.1 y.1
result_one (Ok (call.CreateSnapshot it)) m kept n k x y = creates_one m.guest m it kept n k x y
result_one (Ok (call.LoadSnapshot load)) m kept n k x y = loads_one (found m.saved load.files) m load n k x.1 y.1
result_one (Ok (call.PatchVm Paused)) m kept n k x y = x.1 ∙ sym y.1
result_one (Ok (call.PatchVm Resumed)) m kept n k x y = x.1 ∙ sym y.1
result_one (Ok it) m kept n k x y = x.1 ∙ sym y.1
result_one (Err why) m kept n k x y = x.1 ∙ sym y.1

fails_one : (it : ApiCall) (m : Machine) (left : Left) (n k : Machine) → Fails m it left n → Fails m it left k → n ≡ k
fails_one (call.PatchDrive patch) m left n k x y = x.3 ∙ sym y.3
fails_one call.InstanceStart m left n k x y = x.1 ∙ sym y.1
fails_one (call.CreateSnapshot it) m left n k x y = create_fails_one m.guest m it left n k x y
fails_one (call.LoadSnapshot load) m left n k x y = x.1 ∙ sym y.1
fails_one it m left n k x y = absurd x

told_one : (m : Machine) (a b : Told) → TellsOf m a → TellsOf m b → a ≡ b
told_one m a b x y = λ i. record {
  id = (x.id_is ∙ sym y.id_is) i;
  phase = (x.phase_is ∙ sym y.phase_is) i;
  config = (x.config_is ∙ sym y.config_is) i;
  metadata = (x.metadata_is ∙ sym y.metadata_is) i;
  statistics = tells_one m.guest (balloon_device m.config) a.statistics b.statistics x.statistics_is y.statistics_is i;
}

answer_one : (r : Result ApiCall Refusal) (m : Machine) (a b : Answer) → AnswersBy m r a → AnswersBy m r b → a ≡ b
answer_one (Ok it) m a b (told, tells, is) (other, says, be) =
    is ∙ ap (accepted it) (told_one m told other tells says) ∙ sym be
answer_one (Err why) m a b is be = is ∙ sym be

responds_one : (m : Machine) (given : Next) (t u : List Response) → Responds m given t → Responds m given u → t ≡ u
responds_one m given t u (answer, by, is) (other, also, be) =
    is ∙ ap (respond given) (answer_one (allowed m given) m answer other by also) ∙ sym be

request_one : IsDetermined RequestStep
request_one (Answered kept) given m t u n k x y =
    (responds_one m given t u x.0 y.0, result_one (allowed m given) m kept n k x.1 y.1)
request_one (Failed left) given m t u n k (it, asks, fails, is) (other, asked, failed, be) =
    let same = same_call other it (sym asked ∙ asks) in
    (is ∙ sym be, fails_one it m left n k fails (subst (λ (c : ApiCall). Fails m c left k) same failed))
request_one NoMemory given m t u n k x y = (x.0 ∙ sym y.0, x.1 ∙ sym y.1)

pub talks_one : (bytes : List ℕ) (outcomes : List Outcome) (m n k : Machine) (t u : List Response) → Talks bytes outcomes m t n
    → Talks bytes outcomes m u k → (t ≡ u) × (n ≡ k)
talks_one bytes outcomes m n k t u (d, mid, talk, leaves) (e, other, talks, left) =
    let same = one_conversation RequestStep outcomes (arrived m.connection bytes) d e m mid other t u request_one talk talks in
    (same.0, leaves ∙ (λ j. record (same.2 j) { connection = same.1 j }) ∙ sym left)

lines_one : (bytes : List ℕ) (outcomes : List Outcome) (m n k : Machine) (t u : List ℕ) → TalkLines bytes outcomes m t n
    → TalkLines bytes outcomes m u k → Same t u n k
lines_one bytes outcomes m n k t u (said, talk, is) (other, talks, be) =
    let same = talks_one bytes outcomes m n k said other talk talks in
    (is ∙ ap response_lines same.0 ∙ sym be, same.1)

-- requests that the machine answers went alike where they kept the same
pub answered_alike : (outcomes others : List Outcome) → AreAnswered outcomes → AreAnswered others → kept_in outcomes ≡ kept_in others
    → outcomes ≡ others
answered_alike [] [] good fine same = refl
answered_alike [] (other ∷ others) good fine same = absurd cc
answered_alike (outcome ∷ outcomes) [] good fine same = absurd cc
answered_alike (Answered kept ∷ outcomes) (Answered other ∷ others) good fine same =
    let first : kept ≡ other = cc in
    let rest : kept_in outcomes ≡ kept_in others = cc in
    let alike = answered_alike outcomes others good fine rest in
    λ j. Answered (first j) ∷ alike j
answered_alike (Failed left ∷ outcomes) (other ∷ others) good fine same = absurd good
answered_alike (NoMemory ∷ outcomes) (other ∷ others) good fine same = absurd good
answered_alike (Answered kept ∷ outcomes) (Failed left ∷ others) good fine same = absurd fine
answered_alike (Answered kept ∷ outcomes) (NoMemory ∷ others) good fine same = absurd fine

-- ---- events, and what is shown

moves_one : (g : Guest) (actor : ActorId) (count : ℕ) (m n k : Machine) (t u : List ℕ) → Moves g actor count m t n
    → Moves g actor count m u k → Same t u n k
moves_one g actor count m n k t u x y =
    let ends : x.end ≡ y.end = several_one g x.end y.end actor count x.entries y.entries x.made y.made in
    let made : length x.entries ≡ length y.entries = several_made g x.end y.end actor count x.entries y.entries x.made y.made in (
      x.writes ∙ (λ i. steps_text count (made i) (ends i).board.off) ∙ sym y.writes,
      x.leaves ∙ ap (λ (h : Guest). record m { guest = Some h }) ends ∙ sym y.leaves,
    )

-- either way there is one
one_by : {A B C D : Type 0} {t u : List ℕ} {n k : Machine} (there : Bool) → (A → C → Same t u n k)
    → (B → D → Same t u n k) → MatchBool there A B → MatchBool there C D → Same t u n k
one_by true there none x y = there x y
one_by false there none x y = none x y

steps_one : (guest : Option Guest) (actor : ActorId) (count : ℕ) (m n k : Machine) (t u : List ℕ)
    → StepsLine guest actor count m t n → StepsLine guest actor count m u k → Same t u n k
steps_one None actor count m n k t u x y = both x y
steps_one (Some g) actor count m n k t u x y =
    one_by (is_actor g actor) (moves_one g actor count m n k t u) both x y

answers_one : (g : Guest) (actor : ActorId) (given : Given) (m n k : Machine) (t u : List ℕ)
    → Answers g actor given m t n → Answers g actor given m u k → Same t u n k
answers_one g actor given m n k t u x y =
    let ends : x.end ≡ y.end = same_after g x.end y.end (record { actor = actor; given = given }) x.entry y.entry x.step y.step in (
      x.quiet ∙ sym y.quiet,
      x.leaves ∙ ap (λ (h : Guest). record m { guest = Some h }) ends ∙ sym y.leaves,
    )

reply_one : (g : Guest) (actor : ActorId) (given : Given) (m n k : Machine) (t u : List ℕ)
    → Replies g actor given m t n → Replies g actor given m u k → Same t u n k
reply_one g actor given m n k t u (op, wants, x) (other, want, y) =
    let same : other ≡ op = wants_one g actor other op want wants in
    one_by (is_host_op op) (one_by (is_given op given) (answers_one g actor given m n k t u) both) both x
    (subst (λ (o : Op). MatchBool (is_host_op o)
    (MatchBool (is_given o given) (Answers g actor given m u k) (Misfits misfit.Unfit m u k))
    (Misfits misfit.NotWaiting m u k)) same y)

replies_one : (guest : Option Guest) (actor : ActorId) (given : Given) (m n k : Machine) (t u : List ℕ)
    → RepliesLine guest actor given m t n → RepliesLine guest actor given m u k → Same t u n k
replies_one None actor given m n k t u x y = both x y
replies_one (Some g) actor given m n k t u x y =
    one_by (is_actor g actor) (reply_one g actor given m n k t u) both x y

shows_one : (start : Option Regs) (steps : List Step) (number : ℕ) (t u : List ℕ) → ShowsFrom start steps number t
    → ShowsFrom start steps number u → t ≡ u
shows_one None steps number t u x y = absurd x
shows_one (Some start) steps number t u (h, leads, is) (q, to, be) =
    is ∙ ap (λ (r : Hart). register_line (register_of r number)) (one_hart start steps h q leads to) ∙ sym be

register_one : (guest : Option Guest) (hart number : ℕ) (m n k : Machine) (t u : List ℕ)
    → RegisterLine guest hart number m t n → RegisterLine guest hart number m u k → Same t u n k
register_one None hart number m n k t u x y = both x y
register_one (Some g) hart number m n k t u x y =
    one_by (is_actor g (HartId hart))
    (λ a b. (shows_one (slice_get g.starts hart) (g.steps (HartId hart)) number t u a.0 b.0, a.1 ∙ sym b.1)) both x y

memory_one : (guest : Option Guest) (at len : ℕ) (m n k : Machine) (t u : List ℕ) → MemoryLine guest at len m t n
    → MemoryLine guest at len m u k → Same t u n k
memory_one None at len m n k t u x y = both x y
memory_one (Some g) at len m n k t u x y = one_by (is_ram (length g.memory.bytes) at len) both both x y

-- ---- items and runs

pub item_one : (it : Item) (outcomes : List Outcome) (m n k : Machine) (t u : List ℕ) → ItemStep it outcomes m t n
    → ItemStep it outcomes m u k → Same t u n k
item_one (item.Bytes bytes) outcomes m n k t u x y = lines_one bytes outcomes m n k t u x y
item_one (item.Api method path body) outcomes m n k t u x y = lines_one (sent method path body) outcomes m n k t u x y
item_one item.Nothing outcomes m n k t u x y = both x.1 y.1
item_one (item.File name content) outcomes m n k t u x y = both x.1 y.1
item_one (item.Lineage lineage) outcomes m n k t u x y = both x.1 y.1
item_one item.Connect outcomes m n k t u x y = both x.1 y.1
item_one (item.Step actor count) outcomes m n k t u x y = steps_one (running m) actor count m n k t u x.1 y.1
item_one (item.Reply actor reply) outcomes m n k t u x y = replies_one (running m) actor (reply_given reply) m n k t u x.1 y.1
item_one item.Console outcomes m n k t u x y = both x.1 y.1
item_one (item.Register hart number) outcomes m n k t u x y = register_one m.guest hart number m n k t u x.1 y.1
item_one (item.Memory at len) outcomes m n k t u x y = memory_one m.guest at len m n k t u x.1 y.1

pub run_one : (acts : List Act) (m n k : Machine) (t u : List ℕ) → Run acts m t n → Run acts m u k → Same t u n k
run_one [] m n k t u x y = (x.0 ∙ sym y.0, sym x.1 ∙ y.1)
run_one (act ∷ acts) m n k t u x y =
    let first = item_one act.item act.outcomes m x.1 y.1 x.0 y.0 x.3 y.3 in
    let rest = run_one acts y.1 n k x.2 y.2 (subst (λ (q : Machine). Run acts q x.2 n) first.1 x.4) y.4 in
    (x.5 ∙ ap (λ (s : List ℕ). s ++ x.2) first.0 ∙ ap (λ (s : List ℕ). y.0 ++ s) rest.0 ∙ sym y.5, rest.1)

pub run_text : (acts : List Act) (m n k : Machine) (t u : List ℕ) → Run acts m t n → Run acts m u k → t ≡ u
run_text acts m n k t u x y = (run_one acts m n k t u x y).0

pub run_after : (acts : List Act) (m n k : Machine) (t u : List ℕ) → Run acts m t n → Run acts m u k → n ≡ k
run_after acts m n k t u x y = (run_one acts m n k t u x y).1
