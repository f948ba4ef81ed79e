-- A create that is due does what the machine does.
use Rattle.std.specs.Prelude.{IfErr, IfOk}
use Rattle.std.proofs.Common.{◌≡◌, ◌≢◌, ◌<◌, ℕ, ◌+◌, ◌-◌, List, [], ◌∷◌, ◌++◌, length, take, Option, Some, None, Ok, Err, Result, refl, sym, ap, subst, ◌∙◌, arith}
use Rattle.std.proofs.lemmas.List.{append-nil, length-append, take_at}
use Rattle.std.specs.FinMap.{get, insert}
use Rattle.vm_types.specs.Causes.{Rose}
use Rattle.vm_types.specs.declared.identity.Identity.{Identity}
use Rattle.api_calls.specs.declared.call.SnapshotCreate.{SnapshotCreate}
use Rattle.api_calls.specs.declared.call.SnapshotFiles.{SnapshotFiles}
use Rattle.vm_types.specs.Saved.{Saved}
use Rattle.vm_outside.specs.Calls.{FileCall, MakesFront}
use Rattle.vm_outside.specs.Known.{FilesKnown, Tells}
use Rattle.vm_outside.specs.declared.failed.Failed.{Failed}
use Rattle.refusals.specs.declared.refusal.Refusal.{Refusal}
use Rattle.refusals.specs.declared.refusal.Refusal.TheVariants as refusal
use Rattle.http_stream.specs.declared.request.Next.{Next}
use Rattle.http_stream.specs.declared.request.Next.TheVariants as next
use Rattle.http_stream.specs.declared.request.Request.{Request}
use Rattle.api_calls.specs.Call.{◌>>=◌}
use Rattle.vm_config.specs.declared.config.Config.{Config}
use Rattle.api_calls.specs.declared.call.ApiCall.{ApiCall}
use Rattle.api_calls.specs.declared.call.ApiCall.TheVariants as call
use Rattle.api_rules.specs.declared.ids.Ids.{Ids}
use Rattle.api_rules.specs.Answers.{no_content, refused}
use Rattle.api_rules.specs.Ids.{based, spent}
use Rattle.responses.specs.declared.form.ResponseForm.{ResponseForm}
use Rattle.responses.specs.Responses.{Response, written_as}
use Rattle.guest_memory.specs.Memory.{Memory}
use Rattle.guest_pages.specs.Pages.{flat_of}
use Rattle.guest_devices.specs.declared.device.Device.{Device}
use Rattle.flat_guest.specs.Changes.{reset_guest}
use Rattle.flat_guest.specs.Guest.{Guest, unwritten}
use Rattle.flat_snapshot.specs.Copies.{IsCopyOf}
use Rattle.flat_snapshot.specs.Files.{calls_of, head_of, saved_pages, state_body}
use Rattle.snap_writer.specs.Create.{create_calls}
use Rattle.snap_writer.specs.Create as writes
use Rattle.snap_writer.specs.Selected.{selected}
use Rattle.file_format.specs.Versions.{current_version}
use Rattle.snap_state.specs.Files.{IsSaved}
use Rattle.monitor_plans.specs.Headings.{numbers_in}
use Rattle.flat_machine.specs.Machine.{Machine}
use Rattle.flat_machine.specs.Outcome as flat
use Rattle.flat_machine.specs.Requests.{CreateFails, Creates, RequestStep, by_contents, calls_in, created, decided, next_identity, parent_in, parent_of, respond}
use Rattle.vm_world.specs.Worlds.{IsWorld, WorldValue}
use Rattle.monitor_plans.specs.Creating.{CreateGives}
use Rattle.monitor_plans.specs.declared.creating.Creation.{Creation}
use Rattle.monitor_plans.specs.declared.plan.Plan.TheVariants as plan
use Rattle.monitor_plans.specs.declared.plan.Task.{Task}
use Rattle.monitor_plans.specs.declared.plan.Task.TheVariants as task
use Rattle.create_end.specs.Saved.{IsSavedWorld}
use Rattle.monitor_machine.specs.declared.machine.LiveMachine.{LiveMachine}
use Rattle.monitor_machine.specs.declared.outcome.Outcome.{Outcome}
use Rattle.monitor_machine.specs.Plans.{IsCreate, IsCreated, IsTask, TaskKeepsReady, failed_after, told_of}
use Rattle.monitor_machine.specs.Replying.{Replies, open_response}
use Rattle.monitor_machine.specs.State.{IsGuestBy, IsMachine}
use Rattle.monitor_machine.specs.Telling.{TellsOwn}
use Rattle.monitor_machine.proofs.Standing.{world_saved}
use Rattle.monitor_machine.proofs.Leaving.{answered, tells_is}

-- the world of a live machine is the guest of the machine
world_is : (live : Option WorldValue) (w : WorldValue) (guest : Option Guest) (g : Guest) → IsGuestBy live guest → live ≡ Some w
    → guest ≡ Some g → IsWorld w g
world_is live w guest g is one there =
    subst (λ (o : Option Guest). IsGuestBy (Some w) o) there (subst (λ (o : Option WorldValue). IsGuestBy o guest) one is)

some_world : (live : Option WorldValue) (w : WorldValue) (guest : Option Guest) → IsGuestBy live guest → live ≡ Some w
    → (g : Guest) × (guest ≡ Some g) × IsWorld w g
some_world live w None is one = absurd (subst (λ (o : Option WorldValue). IsGuestBy o None) one is)
some_world live w (Some g) is one = (g, refl, subst (λ (o : Option WorldValue). IsGuestBy o (Some g)) one is)

-- What comes of a create is a create of the machine's guest. What is kept of the devices is one for each machine that it was.
pub create_task : (made : Task) (live : LiveMachine) (w : WorldValue) (it : SnapshotCreate) (parent : Option Identity) (identity : Identity)
    → live.guest ≡ Some w → parent ≡ parent_of it.snapshot_type live.ids.base
    → identity ≡ record { lineage = live.ids.lineage; number = live.ids.next } → CreateGives made live.config parent identity w it.files
    → (kept : List Device) × ((known : FilesKnown) (m : Machine) → IsMachine live known m → (given : Next)
    → decided m given ≡ Ok (call.CreateSnapshot it) → IsTask made m given kept)
create_task (task.Plan plan.NoMemory) live w it parent identity there since own gives = ([], λ known m is given asks. tt)
create_task (task.Plan (plan.Refused why)) live w it parent identity there since own gives = absurd gives
create_task (task.Plan (plan.Changes c)) live w it parent identity there since own gives = absurd gives
create_task (task.Plan (plan.Drives drives)) live w it parent identity there since own gives = absurd gives
create_task (task.Plan (plan.Interfaces interfaces)) live w it parent identity there since own gives = absurd gives
create_task (task.Plan (plan.Resizes r)) live w it parent identity there since own gives = absurd gives
create_task (task.Plan (plan.Stores kept)) live w it parent identity there since own gives = absurd gives
create_task (task.Plan (plan.Starts guest)) live w it parent identity there since own gives = absurd gives
create_task (task.Plan (plan.Restores r)) live w it parent identity there since own gives = absurd gives
create_task (task.Plan plan.FilesFailed) live w it parent identity there since own gives = absurd gives
create_task (task.Create c) live w it parent identity there since own gives = (
  gives.copy.devices,
  λ known m is given asks.
      let guest = some_world live.guest w m.guest is.own.guest_is there in
      let since_is : parent ≡ parent_in m it = since ∙ ap (λ (i : Ids). parent_of it.snapshot_type i.base) is.own.ids_is in
      let own_is : identity ≡ next_identity m =
      own ∙ (λ i. record { lineage = (is.own.ids_is i).lineage; number = (is.own.ids_is i).next }) in
      record {
        it = it;
        asks = asks;
        names_is = gives.names_is;
        guest = guest.0;
        there = guest.1;
        copy = gives.copy;
        copied = subst (λ (k : Config). IsCopyOf k (reset_guest guest.0) gives.copy) is.own.config_is (gives.copied guest.0 guest.2);
        kept_is = refl;
        saved = subst (λ (k : Identity). IsSaved current_version (record { identity = k; copy = gives.copy })) own_is gives.saved;
        identity_is = gives.identity_is ∙ own_is;
        next_is = gives.next_is ∙ ap (λ (k : Identity). k.number + 1) own_is;
        head_is = gives.head_is guest.0 guest.2 ∙ (λ i. head_of (since_is i) (own_is i) gives.copy.pages guest.0);
        pages_are = gives.pages_are guest.0 guest.2 ∙ ap (λ (p : Option Identity). saved_pages p gives.copy.pages guest.0) since_is;
        body_is = gives.body_is ∙ ap (λ (k : Identity). state_body k gives.copy) own_is;
      },
)

-- and a machine that is ready stays so by it
pub create_keeps : (made : Task) (live : LiveMachine) (config : Config) (parent : Option Identity) (identity : Identity) (w : WorldValue)
    (names : SnapshotFiles) → identity.number ≡ live.ids.next → CreateGives made config parent identity w names → TaskKeepsReady made live
create_keeps (task.Plan plan.NoMemory) live config parent identity w names next gives = (tt, tt, tt)
create_keeps (task.Plan (plan.Refused why)) live config parent identity w names next gives = absurd gives
create_keeps (task.Plan (plan.Changes c)) live config parent identity w names next gives = absurd gives
create_keeps (task.Plan (plan.Drives drives)) live config parent identity w names next gives = absurd gives
create_keeps (task.Plan (plan.Interfaces interfaces)) live config parent identity w names next gives = absurd gives
create_keeps (task.Plan (plan.Resizes r)) live config parent identity w names next gives = absurd gives
create_keeps (task.Plan (plan.Stores kept)) live config parent identity w names next gives = absurd gives
create_keeps (task.Plan (plan.Starts guest)) live config parent identity w names next gives = absurd gives
create_keeps (task.Plan (plan.Restores r)) live config parent identity w names next gives = absurd gives
create_keeps (task.Plan plan.FilesFailed) live config parent identity w names next gives = absurd gives
create_keeps (task.Create c) live config parent identity w names next gives = (
  ap (λ (i : Identity). i.number) gives.identity_is ∙ next,
  gives.next_is ∙ ap (λ (i : Identity). i.number + 1) (sym gives.identity_is),
)

-- ---- what a create left where a call on the files failed

-- as many calls were begun as were made since
abbrev pub left_by : SnapshotFiles → List Device → FilesKnown → FilesKnown → flat.Left
left_by names kept known left = record {
  kept = kept;
  begun = length left.calls - length known.calls;
  memory = get left.saved names.mem_file_path;
  state = get left.saved names.snapshot_path;
}

some_left : (calls : List FileCall) → calls ≢ [] → 0 < length calls
some_left [] never = absurd (never refl)
some_left (call ∷ calls) never = omega arith

module _ (script before now : List FileCall) (part : MakesFront script before now) where
  since : length now - length before ≡ length part.done
  since =
      let many : length now ≡ length before + length part.done = ap length part.calls ∙ length-append before part.done in
      omega (arith, many)

  front_lacks : length now - length before < length script
  front_lacks =
      let many : length script ≡ length part.done + length part.rest = ap length (sym part.parts) ∙ length-append part.done part.rest in
      let some = some_left part.rest part.lacks in
      let made = since in omega (arith, many, some, made)

  front_begun : now ≡ before ++ take (length now - length before) script
  front_begun =
      part.calls
      ∙ ap (λ (l : List FileCall). before ++ l)
      (sym (ap (take (length now - length before)) (sym part.parts) ∙ take_at part.done part.rest (length now - length before) (sym since)))

-- ---- its calls

-- a Reset changes nothing of what is written of the memory
head_reset : (parent : Option Identity) (identity : Identity) (pages : ℕ) (g : Guest)
    → head_of parent identity pages (reset_guest g) ≡ head_of parent identity pages g
head_reset None identity pages g = refl
head_reset (Some parent) identity pages g = refl

pages_reset : (parent : Option Identity) (pages : ℕ) (g : Guest) → saved_pages parent pages (reset_guest g) ≡ saved_pages parent pages g
pages_reset None pages g = refl
pages_reset (Some parent) pages g = refl

-- the bytes of the pages that are written
abbrev pub written_of : Creation → WorldValue → List ℕ
written_of c w = selected (numbers_in c.numbers) (flat_of w.pages).bytes

module _ (c : Creation) (live : LiveMachine) (w : WorldValue) (known left : FilesKnown) (m : Machine) (given : Next) (kept : List Device)
    (there : live.guest ≡ Some w) (is : IsMachine live known m) (due : IsCreate c m given kept) where
  here : IsWorld w due.guest
  here = world_is live.guest w m.guest due.guest is.own.guest_is there due.there

  abbrev files : SnapshotFiles
  files = due.it.files

  abbrev parent : Option Identity
  parent = parent_in m due.it

  head_is : c.head ≡ head_of parent (next_identity m) due.copy.pages (reset_guest due.guest)
  head_is = due.head_is ∙ sym (head_reset parent (next_identity m) due.copy.pages due.guest)

  pages_are : written_of c w ≡ saved_pages parent due.copy.pages (reset_guest due.guest)
  pages_are =
      ap (λ (k : Memory). selected (numbers_in c.numbers) k.bytes) here.memory_is ∙ due.pages_are
      ∙ sym (pages_reset parent due.copy.pages due.guest)

  -- what was written of the world is what is written of the guest
  calls_are : create_calls c.names.mem_file_path c.head (written_of c w) c.names.snapshot_path c.body
      ≡ calls_of files.mem_file_path files.snapshot_path parent (next_identity m) due.copy (reset_guest due.guest)
  calls_are = λ i.
      create_calls (due.names_is i).mem_file_path (head_is i) (pages_are i) (due.names_is i).snapshot_path (due.body_is i)

  abbrev end : Machine
  end = created m (reset_guest due.guest) files parent due.copy

  saved_is : (after : LiveMachine) → IsCreated c live after → IsGuestBy after.guest (Some (unwritten (reset_guest due.guest)))
  saved_is after left =
      world_saved w after.guest due.guest here (subst (λ (o : Option WorldValue). IsSavedWorld o after.guest) there left.0)

  pub create_does : (after : LiveMachine) → IsCreated c live after → TellsOwn live
      → writes.Creates c.names.mem_file_path c.head (written_of c w) c.names.snapshot_path c.body known left
      → RequestStep (flat.Outcome.Answered kept) given m (respond given no_content) end × IsMachine after left end
  create_does after leaves tells wrote = (
    answered live known m end given (Ok (call.CreateSnapshot due.it)) no_content kept
        (ap (λ (r : Result ApiCall Refusal). r >>= by_contents m) due.asks) (told_of live, tells_is live m tells is.own, refl)
        (subst (λ (o : Option Guest). Creates o m due.it kept end) (sym due.there) (due.copy, due.copied, due.kept_is, due.saved, refl)),
    subst (λ (l : LiveMachine). IsMachine l left end) (sym leaves.1)
        (record {
          own = record {
            id_is = is.own.id_is;
            ids_is = λ i. record {
              lineage = (is.own.ids_is i).lineage;
              base = Some (due.identity_is i);
              next = due.next_is i;
            };
            config_is = is.own.config_is;
            metadata_is = is.own.metadata_is;
            guest_is = saved_is after leaves;
            paused_is = is.own.paused_is;
          };
          files = record {
            saved_is = wrote.saved ∙ (λ i. insert (insert (is.files.saved_is i) (due.names_is i).mem_file_path
                (1 ∷ head_is i ++ pages_are i)) (due.names_is i).snapshot_path (1 ∷ due.body_is i));
            calls_is = wrote.calls ∙ (λ i. is.files.calls_is i ++ calls_are i);
          };
        }),
  )

  -- so many of its calls were begun, and not all
  front : writes.CreatesPart c.names.mem_file_path c.head (written_of c w) c.names.snapshot_path c.body known left
      → MakesFront (calls_in m (reset_guest due.guest) due.it due.copy) known.calls left.calls
  front part = subst (λ (script : List FileCall). MakesFront script known.calls left.calls) calls_are part.calls

  abbrev stopped : Machine
  stopped = record m { saved = left.saved; calls = left.calls; ids = spent (m.ids.next + 1) m.ids }

  pub create_fails : writes.CreatesPart c.names.mem_file_path c.head (written_of c w) c.names.snapshot_path c.body known left
      → RequestStep (flat.Outcome.Failed (left_by c.names kept known left)) given m (respond given (refused refusal.OutsideFailed)) stopped
      × IsMachine (failed_after c live) left stopped
  create_fails part = (
    (
      call.CreateSnapshot due.it,
      due.asks,
      subst (λ (o : Option Guest). CreateFails o m due.it (left_by c.names kept known left) stopped) (sym due.there)
          (record {
            copy = due.copy;
            is_copy = due.copied;
            tells = due.kept_is;
            saved = due.saved;
            lacks = front_lacks (calls_in m (reset_guest due.guest) due.it due.copy) known.calls left.calls (front part);
            begun =
                front_begun (calls_in m (reset_guest due.guest) due.it due.copy) known.calls left.calls (front part)
                ∙ ap (λ (l : List FileCall). l ++ take (length left.calls - length known.calls) (calls_in m (reset_guest due.guest) due.it due.copy))
                is.files.calls_is;
            memory = ap (λ (f : SnapshotFiles). get left.saved f.mem_file_path) (sym due.names_is);
            state = ap (λ (f : SnapshotFiles). get left.saved f.snapshot_path) (sym due.names_is);
            others = λ name nm ns.
                part.others name (λ e. nm (e ∙ ap (λ (f : SnapshotFiles). f.mem_file_path) due.names_is))
                (λ e. ns (e ∙ ap (λ (f : SnapshotFiles). f.snapshot_path) due.names_is))
                ∙ ap (λ (s : Saved). get s name) is.files.saved_is;
            leaves = refl;
          }),
      refl,
    ),
    record {
      own = record {
        id_is = is.own.id_is;
        ids_is = λ i. record {
          lineage = (is.own.ids_is i).lineage;
          base = (is.own.ids_is i).base;
          next = due.next_is i;
        };
        config_is = is.own.config_is;
        metadata_is = is.own.metadata_is;
        guest_is = is.own.guest_is;
        paused_is = is.own.paused_is;
      };
      files = record { saved_is = refl; calls_is = refl };
    },
  )

-- files that were called by names, bytes and pages that are these
pub same_create : (memory head state body m h s b : List ℕ) (pages g : List ℕ) (known left : FilesKnown) → memory ≡ m
    → head ≡ h → pages ≡ g → state ≡ s → body ≡ b → writes.Creates memory head pages state body known left
    → writes.Creates m h g s b known left
same_create memory head state body m h s b pages g known left em eh eg es eb wrote = record {
  saved = wrote.saved
      ∙ (λ i. insert (insert known.saved (em i) (1 ∷ eh i ++ eg i)) (es i) (1 ∷ eb i));
  calls = wrote.calls ∙ (λ i. known.calls ++ create_calls (em i) (eh i) (eg i) (es i) (eb i));
}

pub same_part : (memory head state body m h s b : List ℕ) (pages g : List ℕ) (known left : FilesKnown) → memory ≡ m
    → head ≡ h → pages ≡ g → state ≡ s → body ≡ b → writes.CreatesPart memory head pages state body known left
    → writes.CreatesPart m h g s b known left
same_part memory head state body m h s b pages g known left em eh eg es eb part = record {
  others = λ name nm ns. part.others name (λ e. nm (e ∙ em)) (λ e. ns (e ∙ es));
  calls = subst (λ (script : List FileCall). MakesFront script known.calls left.calls)
      (λ i. create_calls (em i) (eh i) (eg i) (es i) (eb i)) part.calls;
}

-- the end of a create leaves this of the machine
pub ended_done : (c : Creation) (live : LiveMachine) (written : Result (Unit {0}) Failed) (ids : Ids) (guest : Option WorldValue) (v : Unit {0})
    → written ≡ Ok v → IfOk written (λ _. (ids ≡ based c.identity c.next live.ids) × IsSavedWorld live.guest guest)
    → IsCreated c live (record live { ids = ids; guest = guest })
ended_done c live written ids guest v is ends =
    let left = subst (λ (r : Result (Unit {0}) Failed). IfOk r (λ _. (ids ≡ based c.identity c.next live.ids) × IsSavedWorld live.guest guest)) is ends in
    (left.1, λ i. record live { ids = left.0 i; guest = guest })

pub ended_failed : (c : Creation) (live : LiveMachine) (written : Result (Unit {0}) Failed) (ids : Ids) (guest : Option WorldValue) (why : Failed)
    → written ≡ Err why → IfErr written (λ _. (ids ≡ spent c.next live.ids) × (guest ≡ live.guest))
    → record live { ids = ids; guest = guest } ≡ failed_after c live
ended_failed c live written ids guest why is ends =
    let left = subst (λ (r : Result (Unit {0}) Failed). IfErr r (λ _. (ids ≡ spent c.next live.ids) × (guest ≡ live.guest))) is ends in
    λ i. record live { ids = left.0 i; guest = left.1 i }

-- what is due is answered so
module _ (form : ResponseForm) (c : Creation) (live after : LiveMachine) (w : WorldValue) (text written : List ℕ) (known left : FilesKnown) (request : Request)
    (kept : List Device) (there : live.guest ≡ Some w)
    (due : Tells known.health → (m : Machine) → IsMachine live known m → IsCreate c m (next.Request request) kept) where
  abbrev given : Next
  given = next.Request request

  -- one response, and nothing behind it
  alone : (response : Response) → written ≡ text ++ written_as form response → written ≡ text ++ (written_as form response ++ [])
  alone response is = is ∙ ap (λ (l : List ℕ). text ++ l) (sym (append-nil (written_as form response)))

  pub is_written : TellsOwn live → IsCreated c live after → written ≡ text ++ written_as form (open_response no_content) → left.health.faults ≡ known.health.faults
      → (Tells known.health
      → writes.Creates c.names.mem_file_path c.head (written_of c w) c.names.snapshot_path c.body known left)
      → Replies form given Outcome.Answered live after text written known left
  is_written tells leaves writes faults wrote = record {
    cause = faults;
    outcome = flat.Outcome.Answered kept;
    went_as = (kept, refl);
    responses = respond given no_content;
    writes = alone (open_response no_content) writes;
    went = λ told m is.
        let does = create_does c live w known left m given kept there is (due told m is) after leaves tells (wrote told) in
        (end c live w known left m given kept there is (due told m is), does.0, does.1);
  }

  pub is_unwritten : after ≡ failed_after c live → written ≡ text ++ written_as form (open_response (refused refusal.OutsideFailed))
      → Rose known.health.faults left.health.faults
      → (Tells known.health
      → writes.CreatesPart c.names.mem_file_path c.head (written_of c w) c.names.snapshot_path c.body known left)
      → Replies form given Outcome.Failed live after text written known left
  is_unwritten leaves writes rose part = record {
    cause = rose;
    outcome = flat.Outcome.Failed (left_by c.names kept known left);
    went_as = (left_by c.names kept known left, refl);
    responses = respond given (refused refusal.OutsideFailed);
    writes = alone (open_response (refused refusal.OutsideFailed)) writes;
    went = λ told m is.
        let does = create_fails c live w known left m given kept there is (due told m is) (part told) in (
          stopped c live w known left m given kept there is (due told m is),
          does.0,
          subst (λ (l : LiveMachine). IsMachine l left (stopped c live w known left m given kept there is (due told m is))) (sym leaves) does.1,
        );
  }
