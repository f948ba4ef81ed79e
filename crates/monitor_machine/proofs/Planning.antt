-- What a plan is of what the machine allows.
use Rattle.std.proofs.Common.{◌≡◌, ℕ, Bool, true, refl, sym, ap, subst, ◌∙◌, List, Option, Some, None, Ok, Err, Result, if◌then◌else◌}
use Rattle.std.specs.Prelude.{is_none, is_some}
use Rattle.std.specs.FinMap.{get}
use Rattle.vm_types.specs.Saved.{Saved}
use Rattle.serde_json.specs.Data.{Data}
use Rattle.refusals.specs.declared.refusal.Refusal.{Refusal}
use Rattle.refusals.specs.declared.refusal.Refusal.TheVariants as refusal
use Rattle.http_stream.specs.declared.request.Next.{Next}
use Rattle.vm_outside.specs.Known.{FilesKnown}
use Rattle.api_calls.specs.declared.call.Drive.{Drive}
use Rattle.api_calls.specs.declared.call.DrivePatch.{DrivePatch}
use Rattle.api_calls.specs.declared.interface.Interface.{Interface}
use Rattle.api_calls.specs.declared.call.SnapshotCreate.{SnapshotCreate}
use Rattle.api_calls.specs.declared.call.SnapshotLoad.{SnapshotLoad}
use Rattle.api_calls.specs.Call.{◌>>=◌}
use Rattle.metadata_store.specs.Store.{patched as merged, put}
use Rattle.vm_config.specs.declared.config.Config.{Config}
use Rattle.api_calls.specs.declared.call.ApiCall.{ApiCall}
use Rattle.api_calls.specs.declared.call.ApiCall.TheVariants as call
use Rattle.vm_config.specs.Drives.{device_of}
use Rattle.api_rules.specs.Table.{unless}
use Rattle.flat_guest.specs.Start.{started}
use Rattle.flat_machine.specs.Machine.{Machine}
use Rattle.flat_snapshot.specs.Found.{Snapshot}
use Rattle.flat_machine.specs.Requests.{allowed, by_contents, decided, disk_of}
use Rattle.flat_machine.specs.Requests.{devices_from, file_refusal, image_of, loads_from, start_refusal}
use Rattle.vm_world.specs.Worlds.{IsWorld, WorldValue}
use Rattle.monitor_plans.specs.declared.plan.Plan.{Plan}
use Rattle.monitor_plans.specs.declared.plan.Plan.TheVariants as plan
use Rattle.monitor_plans.specs.InterfaceChanges.{InterfacesGive}
use Rattle.monitor_plans.specs.DriveChanges.{DrivesGive, PatchGives}
use Rattle.monitor_plans.specs.Restoring.{RestoreGives}
use Rattle.monitor_plans.specs.Starting.{StartGives, disk_in, image_in}
use Rattle.monitor_plans.specs.Storing.{StoreGives}
use Rattle.monitor_machine.specs.declared.machine.LiveMachine.{LiveMachine}
use Rattle.monitor_machine.specs.Plans.{IsPlan, is_plain}
use Rattle.monitor_machine.specs.State.{IsMachine}

pub refused_plan : (m : Machine) (given : Next) (why : Refusal) → decided m given ≡ Err why → IsPlan (plan.Refused why) m given
refused_plan m given why is = ap (λ (r : Result ApiCall Refusal). r >>= by_contents m) is

-- where no other file is given none is missing
no_refusal : (path : Option (List ℕ)) (saved : Saved) → is_none path ≡ true → file_refusal path saved ≡ None
no_refusal None saved none = refl
no_refusal (Some path) saved none = cc

plain_change : (m : Machine) (it : ApiCall) → is_plain it ≡ true → by_contents m it ≡ Ok it
plain_change m (call.PutDrive drive) plain = cc
plain_change m (call.PatchDrive patch) plain =
    ap (λ (o : Option Refusal). unless o (Ok (call.PatchDrive patch))) (no_refusal patch.path_on_host m.saved plain)
plain_change m (call.PutInterface interface) plain = cc
plain_change m (call.PutMetadata body) plain = cc
plain_change m (call.PatchMetadata patch) plain = cc
plain_change m call.InstanceStart plain = cc
plain_change m (call.CreateSnapshot files) plain = cc
plain_change m (call.LoadSnapshot load) plain = cc
plain_change m it plain = refl

pub changes_plan : (m : Machine) (given : Next) (it : ApiCall) → decided m given ≡ Ok it → is_plain it ≡ true → IsPlan (plan.Changes it) m given
changes_plan m given it is plain = (ap (λ (r : Result ApiCall Refusal). r >>= by_contents m) is ∙ plain_change m it plain, plain)

-- one that is none of these
pub plain_left : (it : ApiCall) → ((drive : Drive) → it ≡ call.PutDrive drive → ⊥) → ((patch : DrivePatch) → it ≡ call.PatchDrive patch → ⊥)
    → ((interface : Interface) → it ≡ call.PutInterface interface → ⊥) → ((body : Data) → it ≡ call.PutMetadata body → ⊥)
    → ((patch : Data) → it ≡ call.PatchMetadata patch → ⊥) → (it ≡ call.InstanceStart → ⊥)
    → ((create : SnapshotCreate) → it ≡ call.CreateSnapshot create → ⊥) → ((load : SnapshotLoad) → it ≡ call.LoadSnapshot load → ⊥)
    → is_plain it ≡ true
plain_left (call.PutDrive drive) drives files nets puts patches starts creates loads = absurd (drives drive refl)
plain_left (call.PatchDrive patch) drives files nets puts patches starts creates loads = absurd (files patch refl)
plain_left (call.PutInterface interface) drives files nets puts patches starts creates loads = absurd (nets interface refl)
plain_left (call.PutMetadata body) drives files nets puts patches starts creates loads = absurd (puts body refl)
plain_left (call.PatchMetadata patch) drives files nets puts patches starts creates loads = absurd (patches patch refl)
plain_left call.InstanceStart drives files nets puts patches starts creates loads = absurd (starts refl)
plain_left (call.CreateSnapshot create) drives files nets puts patches starts creates loads = absurd (creates create refl)
plain_left (call.LoadSnapshot load) drives files nets puts patches starts creates loads = absurd (loads load refl)
plain_left it drives files nets puts patches starts creates loads = refl

-- ---- metadata

-- what is put
pub put_plan : (it : Plan) (body : Data) (m : Machine) (given : Next) → decided m given ≡ Ok (call.PutMetadata body)
    → StoreGives it (put body) → IsPlan it m given
put_plan (plan.Refused why) body m given asks gives =
    ap (λ (r : Result ApiCall Refusal). r >>= by_contents m) asks
    ∙ ap (λ (r : Result Data Refusal). r >>= λ kept. Ok (call.PutMetadata body)) gives
put_plan (plan.Changes c) body m given asks gives = absurd gives
put_plan (plan.Drives drives) body m given asks gives = absurd gives
put_plan (plan.Interfaces interfaces) body m given asks gives = absurd gives
put_plan (plan.Resizes r) body m given asks gives = absurd gives
put_plan (plan.Stores kept) body m given asks gives = (
  call.PutMetadata body,
  ap (λ (r : Result ApiCall Refusal). r >>= by_contents m) asks
      ∙ ap (λ (r : Result Data Refusal). r >>= λ kept. Ok (call.PutMetadata body)) gives,
  gives,
)
put_plan (plan.Starts w) body m given asks gives = absurd gives
put_plan (plan.Restores r) body m given asks gives = absurd gives
put_plan plan.FilesFailed body m given asks gives = absurd gives
put_plan plan.NoMemory body m given asks gives = tt

-- and what is merged
pub patch_plan : (it : Plan) (stored patch : Data) (m : Machine) (given : Next) → stored ≡ m.metadata
    → decided m given ≡ Ok (call.PatchMetadata patch) → StoreGives it (merged stored patch) → IsPlan it m given
patch_plan it stored patch m given same asks gives =
    by_kind it (subst (λ (d : Data). StoreGives it (merged d patch)) same gives)
  where
    contents : allowed m given ≡ by_contents m (call.PatchMetadata patch)
    contents = ap (λ (r : Result ApiCall Refusal). r >>= by_contents m) asks

    goes : Result Data Refusal → Result ApiCall Refusal
    goes due = due >>= λ kept. Ok (call.PatchMetadata patch)

    by_kind : (it : Plan) → StoreGives it (merged m.metadata patch) → IsPlan it m given
    by_kind (plan.Refused why) gives = contents ∙ ap goes gives
    by_kind (plan.Changes c) gives = absurd gives
    by_kind (plan.Drives drives) gives = absurd gives
    by_kind (plan.Interfaces interfaces) gives = absurd gives
    by_kind (plan.Resizes r) gives = absurd gives
    by_kind (plan.Stores kept) gives = (call.PatchMetadata patch, contents ∙ ap goes gives, gives)
    by_kind (plan.Starts w) gives = absurd gives
    by_kind (plan.Restores r) gives = absurd gives
    by_kind plan.FilesFailed gives = absurd gives
    by_kind plan.NoMemory gives = tt

-- ---- drives

pub drives_plan : (it : Plan) (drive : Drive) (live : LiveMachine) (m : Machine) (given : Next) → live.config ≡ m.config
    → decided m given ≡ Ok (call.PutDrive drive) → DrivesGive it live.config drive → IsPlan it m given
drives_plan it drive live m given same asks gives = by_kind it (subst (λ (c : Config). DrivesGive it c drive) same gives)
  where
    by_kind : (it : Plan) → DrivesGive it m.config drive → IsPlan it m given
    by_kind (plan.Refused why) gives = absurd gives
    by_kind (plan.Changes c) gives = absurd gives
    by_kind (plan.Drives drives) gives = (drive, ap (λ (r : Result ApiCall Refusal). r >>= by_contents m) asks, gives)
    by_kind (plan.Interfaces interfaces) gives = absurd gives
    by_kind (plan.Resizes r) gives = absurd gives
    by_kind (plan.Stores kept) gives = absurd gives
    by_kind (plan.Starts w) gives = absurd gives
    by_kind (plan.Restores r) gives = absurd gives
    by_kind plan.FilesFailed gives = absurd gives
    by_kind plan.NoMemory gives = tt

-- ---- interfaces

pub interfaces_plan : (it : Plan) (interface : Interface) (live : LiveMachine) (m : Machine) (given : Next) → live.config ≡ m.config
    → decided m given ≡ Ok (call.PutInterface interface) → InterfacesGive it live.config interface → IsPlan it m given
interfaces_plan it interface live m given same asks gives = by_kind it (subst (λ (c : Config). InterfacesGive it c interface) same gives)
  where
    by_kind : (it : Plan) → InterfacesGive it m.config interface → IsPlan it m given
    by_kind (plan.Refused why) gives = absurd gives
    by_kind (plan.Changes c) gives = absurd gives
    by_kind (plan.Drives drives) gives = absurd gives
    by_kind (plan.Interfaces interfaces) gives = (interface, ap (λ (r : Result ApiCall Refusal). r >>= by_contents m) asks, gives)
    by_kind (plan.Resizes r) gives = absurd gives
    by_kind (plan.Stores kept) gives = absurd gives
    by_kind (plan.Starts w) gives = absurd gives
    by_kind (plan.Restores r) gives = absurd gives
    by_kind plan.FilesFailed gives = absurd gives
    by_kind plan.NoMemory gives = tt

-- ---- another file of a drive

-- a file that is there is no reason to refuse it
file_there : (path : Option (List ℕ)) (name : List ℕ) (saved : Saved) → path ≡ Some name → is_some (get saved name) ≡ true
    → file_refusal path saved ≡ None
file_there path name saved is there =
    ap (λ (o : Option (List ℕ)). file_refusal o saved) is
    ∙ ap (λ (b : Bool). if b then None else Some refusal.NoSuchFile) there

plain_patch : (path : Option (List ℕ)) → path ≡ None → is_none path ≡ true
plain_patch path none = ap (λ (o : Option (List ℕ)). is_none o) none

pub refile_plan : (it : Plan) (patch : DrivePatch) (live : LiveMachine) (known : FilesKnown) (m : Machine) (given : Next)
    → IsMachine live known m → decided m given ≡ Ok (call.PatchDrive patch) → PatchGives it live.config patch known.saved
    → IsPlan it m given
refile_plan it patch live known m given is asks gives =
    by_kind it (subst (λ (s : Saved). PatchGives it m.config patch s) is.files.saved_is
    (subst (λ (c : Config). PatchGives it c patch known.saved) is.own.config_is gives))
  where
    by_refusal : (o : Option Refusal) → file_refusal patch.path_on_host m.saved ≡ o
        → allowed m given ≡ unless o (Ok (call.PatchDrive patch))
    by_refusal o is =
        ap (λ (r : Result ApiCall Refusal). r >>= by_contents m) asks
        ∙ ap (λ (o : Option Refusal). unless o (Ok (call.PatchDrive patch))) is

    by_kind : (it : Plan) → PatchGives it m.config patch m.saved → IsPlan it m given
    by_kind (plan.Refused why) gives = by_refusal (Some why) gives
    by_kind (plan.Changes c) (same, none) =
        subst (λ (x : ApiCall). IsPlan (plan.Changes x) m given) (sym same)
        (by_refusal None (no_refusal patch.path_on_host m.saved (plain_patch patch.path_on_host none)), plain_patch patch.path_on_host none)
    by_kind (plan.Drives drives) gives = absurd gives
    by_kind (plan.Interfaces interfaces) gives = absurd gives
    by_kind (plan.Resizes r) gives = record {
      asks = by_refusal None (file_there patch.path_on_host gives.path m.saved gives.path_is gives.there)
          ∙ ap (λ (p : DrivePatch). Ok (call.PatchDrive p)) (sym gives.patch_is);
      path = gives.path;
      path_is = ap (λ (p : DrivePatch). p.path_on_host) gives.patch_is ∙ gives.path_is;
      device_is = gives.device_is ∙ ap (λ (p : DrivePatch). device_of m.config.drives p.drive_id) (sym gives.patch_is);
      sectors_is = gives.sectors_is;
    }
    by_kind (plan.Stores kept) gives = absurd gives
    by_kind (plan.Starts w) gives = absurd gives
    by_kind (plan.Restores r) gives = absurd gives
    by_kind plan.FilesFailed gives = (call.PatchDrive patch, asks, gives)
    by_kind plan.NoMemory gives = tt

-- ---- a start and a load

-- the machine that has what the monitor has
image_is : (live : LiveMachine) (known : FilesKnown) (m : Machine) → IsMachine live known m
    → image_in live.config known.saved ≡ image_of m
image_is live known m is =
    ap (λ (c : Config). image_in c known.saved) is.own.config_is ∙ ap (λ (s : Saved). image_in m.config s) is.files.saved_is

refusal_is : (live : LiveMachine) (known : FilesKnown) (m : Machine) → IsMachine live known m
    → start_refusal live.config known.saved ≡ start_refusal m.config m.saved
refusal_is live known m is =
    ap (λ (c : Config). start_refusal c known.saved) is.own.config_is ∙ ap (λ (s : Saved). start_refusal m.config s) is.files.saved_is

loads_same : (live : LiveMachine) (known : FilesKnown) (m : Machine) (w : WorldValue) (image : List ℕ) → IsMachine live known m
    → IsWorld w (started live.config.machine.vcpu_count live.config.machine.mem_size_mib
    (loads_from live.config image (disk_in live.config known.saved)) (devices_from live.config known.saved))
    → IsWorld w (started m.config.machine.vcpu_count m.config.machine.mem_size_mib (loads_from m.config image (disk_of m))
    (devices_from m.config m.saved))
loads_same live known m w image is world =
    subst (λ (s : Saved). IsWorld w (started m.config.machine.vcpu_count m.config.machine.mem_size_mib
    (loads_from m.config image (disk_in m.config s)) (devices_from m.config s))) is.files.saved_is
    (subst (λ (c : Config). IsWorld w (started c.machine.vcpu_count c.machine.mem_size_mib
    (loads_from c image (disk_in c known.saved)) (devices_from c known.saved))) is.own.config_is world)

pub start_plan : (it : Plan) (live : LiveMachine) (known : FilesKnown) (m : Machine) (given : Next) → IsMachine live known m
    → decided m given ≡ Ok call.InstanceStart → StartGives it live.config known.saved → IsPlan it m given
start_plan (plan.Refused why) live known m given is asks gives =
    ap (λ (r : Result ApiCall Refusal). r >>= by_contents m) asks
    ∙ ap (λ (o : Option Refusal). unless o (Ok call.InstanceStart)) (sym (refusal_is live known m is) ∙ gives)
start_plan (plan.Changes it) live known m given is asks gives = absurd gives
start_plan (plan.Drives drives) live known m given is asks gives = absurd gives
start_plan (plan.Interfaces interfaces) live known m given is asks gives = absurd gives
start_plan (plan.Resizes r) live known m given is asks gives = absurd gives
start_plan (plan.Stores kept) live known m given is asks gives = absurd gives
start_plan (plan.Starts w) live known m given is asks (none, image, there, world) = (
  ap (λ (r : Result ApiCall Refusal). r >>= by_contents m) asks
      ∙ ap (λ (o : Option Refusal). unless o (Ok call.InstanceStart)) (sym (refusal_is live known m is) ∙ none),
  image,
  sym (image_is live known m is) ∙ there,
  loads_same live known m w image is world,
)
start_plan (plan.Restores r) live known m given is asks gives = absurd gives
start_plan plan.FilesFailed live known m given is asks gives = (call.InstanceStart, asks, refl)
start_plan plan.NoMemory live known m given is asks gives = tt

pub restore_plan : (it : Plan) (load : SnapshotLoad) (live : LiveMachine) (known : FilesKnown) (m : Machine) (given : Next)
    → IsMachine live known m → decided m given ≡ Ok (call.LoadSnapshot load) → RestoreGives it load known.saved → IsPlan it m given
restore_plan it load live known m given is asks gives =
    by_kind it (subst (λ (s : Saved). RestoreGives it load s) is.files.saved_is gives)
  where
    files : allowed m given ≡ by_contents m (call.LoadSnapshot load)
    files = ap (λ (r : Result ApiCall Refusal). r >>= by_contents m) asks

    goes : Result Snapshot Refusal → Result ApiCall Refusal
    goes found = found >>= λ snapshot. Ok (call.LoadSnapshot load)

    by_kind : (it : Plan) → RestoreGives it load m.saved → IsPlan it m given
    by_kind (plan.Refused why) gives = files ∙ ap goes gives
    by_kind (plan.Changes c) gives = absurd gives
    by_kind (plan.Drives drives) gives = absurd gives
    by_kind (plan.Interfaces interfaces) gives = absurd gives
    by_kind (plan.Resizes r) gives = absurd gives
    by_kind (plan.Stores kept) gives = absurd gives
    by_kind (plan.Starts w) gives = absurd gives
    by_kind (plan.Restores r) (it, there, goes_on, resumes) = record {
      load = load;
      asks = files ∙ ap goes there;
      it = it;
      there = there;
      goes_on = goes_on;
      resumes_is = resumes;
    }
    by_kind plan.FilesFailed gives = (call.LoadSnapshot load, asks, refl)
    by_kind plan.NoMemory gives = tt
