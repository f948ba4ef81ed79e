-- What a plan answers and leaves is what the machine does.
use Rattle.std.proofs.Common.{◌≡◌, ℕ, Bool, true, false, not, refl, sym, ap, subst, List, [], Option, Some, None, Ok, Err, Result}
use Rattle.std.specs.Prelude.{is_none, is_some}
use Rattle.std.specs.FinMap.{get}
use Rattle.vm_types.specs.Saved.{Saved}
use Rattle.serde_json.specs.Data.{Data}
use Rattle.refusals.specs.declared.refusal.Refusal.{Refusal}
use Rattle.http_stream.specs.declared.request.Next.{Next}
use Rattle.vm_outside.specs.Known.{FilesKnown}
use Rattle.api_calls.specs.declared.call.VmState.TheVariants.{Paused, Resumed}
use Rattle.metadata_store.specs.Store.{put}
use Rattle.vm_config.specs.declared.config.Config.{Config}
use Rattle.api_calls.specs.declared.call.ApiCall.{ApiCall}
use Rattle.api_calls.specs.declared.call.ApiCall.TheVariants as call
use Rattle.api_rules.specs.Table.{changed, reads_files, takes_memory}
use Rattle.vm_config.specs.Drives.{device_of}
use Rattle.vm_config.specs.Texts.{Told}
use Rattle.api_rules.specs.declared.answer.Answer.{Answer}
use Rattle.api_rules.specs.Answers.{accepted, no_content}
use Rattle.guest_devices.specs.declared.device.Device.{Device}
use Rattle.guest_devices.specs.Kinds.{sectors_change}
use Rattle.flat_guest.specs.Guest.{Guest}
use Rattle.flat_machine.specs.Outcome as flat
use Rattle.flat_machine.specs.Machine.{Machine}
use Rattle.flat_machine.specs.Limits.{limits_told}
use Rattle.flat_snapshot.specs.Found.{Snapshot}
use Rattle.flat_machine.specs.Requests.{AnswersBy, Fails, LeavesBy, RequestStep, Restores, Stores, TellsOf, allowed, carried, configured, disk_of}
use Rattle.flat_machine.specs.Requests.{halted, patched_drive, relimited, resized, respond, sectors_of, shows_by, started_from}
use Rattle.vm_world.specs.Worlds.{WorldValue}
use Rattle.vm_world.proofs.Events.{restarted}
use Rattle.monitor_plans.specs.declared.drive_changes.Resize.{Resize}
use Rattle.monitor_plans.specs.declared.plan.Plan.{Plan}
use Rattle.monitor_plans.specs.declared.plan.Plan.TheVariants as plan
use Rattle.monitor_machine.specs.declared.machine.LiveMachine.{LiveMachine}
use Rattle.monitor_machine.specs.Plans.{IsAnotherFile, IsKept, IsPlan, PlanLeaves, TakesChange, TakesFile, answer_of, halted_world, is_plain, paused_by, plan_outcome, told_of, world_by}
use Rattle.monitor_machine.specs.declared.outcome.Outcome.{Outcome}
use Rattle.monitor_machine.specs.declared.outcome.Outcome.TheVariants.{Answered, Failed, NoMemory}
use Rattle.monitor_machine.specs.Replying.{WentAs}
use Rattle.monitor_machine.specs.State.{IsGuestBy, IsLive, IsMachine}
use Rattle.monitor_machine.specs.Telling.{Relimits, Resizes, TellsChange, TellsOwn}
use Rattle.monitor_machine.proofs.Deciding.{phase_is}
use Rattle.monitor_machine.proofs.Telling.{change_at, relimits_at, tells_at, told_guest}

-- what there is to tell of it is what there is to tell of the machine
pub tells_is : (live : LiveMachine) (m : Machine) → TellsOwn live → IsLive live m → TellsOf m (told_of live)
tells_is live m tells own = record {
  id_is = own.id_is;
  phase_is = phase_is live m own;
  config_is = own.config_is;
  metadata_is = own.metadata_is;
  statistics_is = tells m own;
}

-- how what writes no snapshot went
abbrev pub outcome_of : Outcome → flat.Outcome
outcome_of Answered = flat.Outcome.Answered []
outcome_of Failed = flat.Outcome.Failed flat.nothing_left
outcome_of NoMemory = flat.Outcome.NoMemory

pub as_it_went : (how : Outcome) → WentAs how (outcome_of how)
as_it_went Answered = ([], refl)
as_it_went Failed = (flat.nothing_left, refl)
as_it_went NoMemory = refl

abbrev pub Does : Plan → Machine → Next → Answer → LiveMachine → FilesKnown → Type 0
Does it m given answer after known =
    (n : Machine) × RequestStep (outcome_of (plan_outcome it)) given m (respond given answer) n
    × IsMachine after known n

-- an answer of the machine, which leaves n
pub answered : (live : LiveMachine) (known : FilesKnown) (m n : Machine) (given : Next) (made : Result ApiCall Refusal) (answer : Answer)
    (kept : List Device) → allowed m given ≡ made → AnswersBy m made answer → LeavesBy m made kept n
    → RequestStep (flat.Outcome.Answered kept) given m (respond given answer) n
answered live known m n given made answer kept asks is leaves = (
  (answer, subst (λ (r : Result ApiCall Refusal). AnswersBy m r answer) (sym asks) is, refl),
  subst (λ (r : Result ApiCall Refusal). LeavesBy m r kept n) (sym asks) leaves,
)

-- what a call other than a start leaves
abbrev pub guest_by : ApiCall → Bool → Option Guest → Option Guest
guest_by (call.PatchVm Paused) paused guest = halted paused guest
guest_by it paused guest = guest

abbrev plainly : Machine → ApiCall → Machine
plainly m it = record m {
  config = changed m.config it;
  guest = told_guest it m.config (guest_by it m.paused m.guest);
  paused = paused_by it m.paused;
}

halted_is : (paused : Bool) (w : Option WorldValue) (g : Option Guest) → IsGuestBy w g
    → IsGuestBy (halted_world paused w) (halted paused g)
halted_is true w g is = is
halted_is false None None is = is
halted_is false (Some w) (Some g) is = restarted w g is
halted_is false (Some w) None is = absurd is
halted_is false None (Some g) is = absurd is

pub left_is : (it : ApiCall) (paused : Bool) (w : Option WorldValue) (g : Option Guest) → IsGuestBy w g
    → IsGuestBy (world_by it paused w) (guest_by it paused g)
left_is (call.PatchVm Paused) paused w g is = halted_is paused w g is
left_is (call.PatchVm Resumed) paused w g is = is
left_is it paused w g is = is

-- a drive whose file stays tells its device no size
not_resized : (path : Option (List ℕ)) (number : Option ℕ) (saved : Saved) (g : Option Guest) → is_none path ≡ true
    → resized path number saved g ≡ g
not_resized None number saved g none = refl
not_resized (Some path) number saved g none = cc

plain_leaves : (m : Machine) (it : ApiCall) → is_plain it ≡ true → LeavesBy m (Ok it) [] (plainly m it)
plain_leaves m (call.PutDrive drive) plain = cc
plain_leaves m (call.PatchDrive patch) plain =
    let number : Option ℕ = device_of m.config.drives patch.drive_id in
    let same = not_resized patch.path_on_host number m.saved m.guest plain in (
      refl,
      λ i. record m {
        config = changed m.config (call.PatchDrive patch);
        guest = relimited limits_told patch.rate_limiter number (sym same i);
      },
    )
plain_leaves m (call.PutInterface interface) plain = cc
plain_leaves m (call.PutMetadata body) plain = cc
plain_leaves m (call.PatchMetadata patch) plain = cc
plain_leaves m call.InstanceStart plain = cc
plain_leaves m (call.PatchVm Paused) plain = (refl, refl)
plain_leaves m (call.PatchVm Resumed) plain = (refl, refl)
plain_leaves m (call.CreateSnapshot files) plain = cc
plain_leaves m (call.LoadSnapshot load) plain = cc
plain_leaves m it plain = (refl, refl)

-- and takes no memory
plain_free : (it : ApiCall) → is_plain it ≡ true → takes_memory it ≡ false
plain_free (call.PutDrive drive) plain = cc
plain_free (call.PutInterface interface) plain = cc
plain_free it plain = refl

-- what a call leaves of the world is what it leaves of the guest
changes_at : (it : ApiCall) (live after : LiveMachine) (m : Machine) → IsLive live m → TakesChange it live after
    → IsGuestBy after.guest (plainly m it).guest
changes_at it live after m own takes =
    change_at it m.config (world_by it live.paused live.guest) after.guest (guest_by it m.paused m.guest)
    (subst (λ (b : Bool). IsGuestBy (world_by it live.paused live.guest) (guest_by it b m.guest)) own.paused_is
    (left_is it live.paused live.guest m.guest own.guest_is))
    (subst (λ (c : Config). TellsChange it c (world_by it live.paused live.guest) after.guest) own.config_is takes.world)

-- where a drive has another file its device is told of its size in both
resizes_at : (path : Option (List ℕ)) (name : List ℕ) (number : Option ℕ) (sectors : ℕ) (saved : Saved) (w v : Option WorldValue) (g : Option Guest)
    → path ≡ Some name → sectors ≡ sectors_of (get saved name) → IsGuestBy w g → Resizes number sectors w v
    → IsGuestBy v (resized path number saved g)
resizes_at path name number sectors saved w v g named size is tells =
    subst (λ (o : Option (List ℕ)). IsGuestBy v (resized o number saved g)) (sym named)
    (tells_at number (sectors_change (sectors_of (get saved name))) (shows_by (sectors_change (sectors_of (get saved name)))) w v g is
    (subst (λ (n : ℕ). Resizes number n w v) size tells))

-- and of its limits
refiles_at : (r : Resize) (live after : LiveMachine) (m : Machine) (given : Next) → IsLive live m → IsAnotherFile r m given → TakesFile r live after
    → IsGuestBy after.guest (patched_drive m r.patch).guest
refiles_at r live after m given own asks leaves =
    let number : Option ℕ = device_of m.config.drives r.patch.drive_id in
    relimits_at limits_told r.patch.rate_limiter number leaves.mid after.guest (resized r.patch.path_on_host number m.saved m.guest)
    (resizes_at r.patch.path_on_host asks.path number r.sectors m.saved live.guest leaves.mid m.guest asks.path_is asks.sectors_is own.guest_is
    (subst (λ (o : Option ℕ). Resizes o r.sectors live.guest leaves.mid) asks.device_is leaves.world))
    (subst (λ (o : Option ℕ). Relimits limits_told r.patch.rate_limiter o leaves.mid after.guest) asks.device_is leaves.limits)

-- what is stored leaves the machine with it
keeps : (it : ApiCall) (m : Machine) (told : Told) (kept : Data) → IsKept kept m it
    → LeavesBy m (Ok it) [] (record m { metadata = kept }) × (accepted it told ≡ no_content)
keeps (call.PutMetadata body) m told kept is =
    ((refl, subst (λ (due : Result Data Refusal). Stores due m (record m { metadata = kept })) (sym is) refl), refl)
keeps (call.PatchMetadata patch) m told kept is =
    ((refl, subst (λ (due : Result Data Refusal). Stores due m (record m { metadata = kept })) (sym is) refl), refl)
keeps it m told kept is = absurd is

-- a start, a load or another file for a drive leaves the files as they were
given_path : (path : Option (List ℕ)) → is_some path ≡ true → (name : List ℕ) × (path ≡ Some name)
given_path None given = cc
given_path (Some name) given = (name, refl)

fails_alone : (it : ApiCall) (m : Machine) → reads_files it ≡ true → Fails m it flat.nothing_left m
fails_alone (call.PatchDrive patch) m reads =
    let named = given_path patch.path_on_host reads in
    (named.0, named.1, refl, refl)
fails_alone call.InstanceStart m reads = (refl, refl)
fails_alone (call.LoadSnapshot load) m reads = (refl, refl)
fails_alone it m reads = cc

-- what comes of a plan that leaves this
pub plan_does : (it : Plan) (live after : LiveMachine) (known : FilesKnown) (m : Machine) (given : Next) → IsMachine live known m
    → TellsOwn live → IsPlan it m given → PlanLeaves it live after → Does it m given (answer_of it live) after known
plan_does (plan.Refused why) live after known m given is tells asks leaves = (
  m,
  answered live known m m given (Err why) _ [] asks refl (refl, refl),
  subst (λ (l : LiveMachine). IsMachine l known m) (sym leaves) is,
)
plan_does (plan.Changes it) live after known m given is tells (asks, plain) leaves =
    let takes = leaves (plain_free it plain) in (
      plainly m it,
      answered live known m (plainly m it) given (Ok it) _ [] asks (told_of live, tells_is live m tells is.own, refl) (plain_leaves m it plain),
      subst (λ (l : LiveMachine). IsMachine l known (plainly m it)) (sym takes.rest) (record {
        own = record {
          id_is = is.own.id_is;
          ids_is = is.own.ids_is;
          config_is = ap (λ (k : Config). changed k it) is.own.config_is;
          metadata_is = is.own.metadata_is;
          guest_is = changes_at it live after m is.own takes;
          paused_is = ap (λ (b : Bool). paused_by it b) is.own.paused_is;
        };
        files = record { saved_is = is.files.saved_is; calls_is = is.files.calls_is };
      }),
    )
plan_does (plan.Drives drives) live after known m given is tells (drive, asks, put) leaves =
    let n : Machine = configured m (call.PutDrive drive) in (
      n,
      answered live known m n given (Ok (call.PutDrive drive)) _ [] asks (told_of live, tells_is live m tells is.own, refl) (refl, refl),
      subst (λ (l : LiveMachine). IsMachine l known n) (sym leaves) (record {
        own = record {
          id_is = is.own.id_is;
          ids_is = is.own.ids_is;
          config_is = λ i. record (is.own.config_is i) { drives = put i; configured = true };
          metadata_is = is.own.metadata_is;
          guest_is = is.own.guest_is;
          paused_is = is.own.paused_is;
        };
        files = record { saved_is = is.files.saved_is; calls_is = is.files.calls_is };
      }),
    )
plan_does (plan.Interfaces interfaces) live after known m given is tells (interface, asks, put) leaves =
    let n : Machine = configured m (call.PutInterface interface) in (
      n,
      answered live known m n given (Ok (call.PutInterface interface)) _ [] asks (told_of live, tells_is live m tells is.own, refl) (refl, refl),
      subst (λ (l : LiveMachine). IsMachine l known n) (sym leaves) (record {
        own = record {
          id_is = is.own.id_is;
          ids_is = is.own.ids_is;
          config_is = λ i. record (is.own.config_is i) { interfaces = put i; configured = true };
          metadata_is = is.own.metadata_is;
          guest_is = is.own.guest_is;
          paused_is = is.own.paused_is;
        };
        files = record { saved_is = is.files.saved_is; calls_is = is.files.calls_is };
      }),
    )
plan_does (plan.Resizes r) live after known m given is tells asks leaves =
    let it : ApiCall = call.PatchDrive r.patch in
    let n : Machine = configured (patched_drive m r.patch) it in (
      n,
      answered live known m n given (Ok it) _ [] asks.asks (told_of live, tells_is live m tells is.own, refl) (refl, refl),
      subst (λ (l : LiveMachine). IsMachine l known n) (sym leaves.rest) (record {
        own = record {
          id_is = is.own.id_is;
          ids_is = is.own.ids_is;
          config_is = ap (λ (k : Config). changed k it) is.own.config_is;
          metadata_is = is.own.metadata_is;
          guest_is = refiles_at r live after m given is.own asks leaves;
          paused_is = is.own.paused_is;
        };
        files = record { saved_is = is.files.saved_is; calls_is = is.files.calls_is };
      }),
    )
plan_does (plan.Stores kept) live after known m given is tells (it, asks, stores) leaves =
    let left = keeps it m (told_of live) kept stores in (
      record m { metadata = kept },
      answered live known m (record m { metadata = kept }) given (Ok it) _ [] asks (told_of live, tells_is live m tells is.own, sym left.1) left.0,
      subst (λ (l : LiveMachine). IsMachine l known (record m { metadata = kept })) (sym leaves) (record {
        own = record {
          id_is = is.own.id_is;
          ids_is = is.own.ids_is;
          config_is = is.own.config_is;
          metadata_is = refl;
          guest_is = is.own.guest_is;
          paused_is = is.own.paused_is;
        };
        files = record { saved_is = is.files.saved_is; calls_is = is.files.calls_is };
      }),
    )
plan_does (plan.Starts w) live after known m given is tells (asks, image, there, world) leaves =
    let n : Machine = configured (started_from (Some image) (disk_of m) m) call.InstanceStart in (
      n,
      answered live known m n given (Ok call.InstanceStart) _ [] asks (told_of live, tells_is live m tells is.own, refl)
          (refl, ap (λ (o : Option (List ℕ)). configured (started_from o (disk_of m) m) call.InstanceStart) (sym there)),
      subst (λ (l : LiveMachine). IsMachine l known n) (sym leaves) (record {
        own = record {
          id_is = is.own.id_is;
          ids_is = is.own.ids_is;
          config_is = ap (λ (k : Config). changed k call.InstanceStart) is.own.config_is;
          metadata_is = is.own.metadata_is;
          guest_is = world;
          paused_is = refl;
        };
        files = record { saved_is = is.files.saved_is; calls_is = is.files.calls_is };
      }),
    )
plan_does (plan.Restores r) live after known m given is tells asks leaves =
    let n : Machine = carried m asks.load asks.it in (
      n,
      answered live known m n given (Ok (call.LoadSnapshot asks.load)) _ [] asks.asks
          (told_of live, tells_is live m tells is.own, refl)
          (refl, subst (λ (f : Result Snapshot Refusal). Restores f m asks.load n) (sym asks.there) refl),
      subst (λ (l : LiveMachine). IsMachine l known n) (sym leaves) (record {
        own = record {
          id_is = is.own.id_is;
          ids_is = λ i. record {
            lineage = (is.own.ids_is i).lineage;
            base = Some (asks.goes_on.identity_is i);
            next = asks.goes_on.next_is i;
          };
          config_is = asks.goes_on.config_is;
          metadata_is = refl;
          guest_is = asks.goes_on.guest_is;
          paused_is = ap not asks.resumes_is;
        };
        files = record { saved_is = is.files.saved_is; calls_is = is.files.calls_is };
      }),
    )
plan_does plan.FilesFailed live after known m given is tells (it, asks, reads) leaves = (
  m,
  (it, asks, fails_alone it m reads, refl),
  subst (λ (l : LiveMachine). IsMachine l known m) (sym leaves) is,
)
plan_does plan.NoMemory live after known m given is tells asks leaves =
    (m, (refl, refl), subst (λ (l : LiveMachine). IsMachine l known m) (sym leaves) is)
