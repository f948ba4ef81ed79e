-- What the API takes is as a state file has it, and stays so with every call that is allowed.
use Rattle.std.proofs.Common.{◌≡◌, ◌≤◌, ◌*◌, ◌^◌, ℕ, Bool, true, false, ◌&&◌, nat_le, if◌then◌else◌, refl, sym, subst, ◌∙◌, ◌<◌, List, length, replicate, Option, Some, None, Ok, arith}
use Rattle.std.specs.Prelude.{IsTrue, is_none, nat_lt, unwrap_or}
use Rattle.std.specs.Str.{is_utf8}
use Rattle.std.proofs.lemmas.Bool.{and_from, and_parts, le-leb, leb-false, leb-true, lt-ltb, ltb-false}
use Rattle.std.proofs.lemmas.List.{length-replicate}
use Rattle.refusals.specs.declared.refusal.Refusal.{Refusal}
use Rattle.http_stream.specs.declared.request.Request.{Request}
use Rattle.guest_memory.specs.Ram.{page_size}
use Rattle.api_calls.specs.declared.call.ApiCall.{ApiCall}
use Rattle.api_calls.specs.declared.call.ApiCall.TheVariants as call
use Rattle.api_calls.specs.declared.balloon.Balloon.{Balloon}
use Rattle.api_calls.specs.declared.balloon.BalloonPatch.{BalloonPatch}
use Rattle.api_calls.specs.declared.balloon.StatisticsPatch.{StatisticsPatch}
use Rattle.api_calls.specs.declared.call.BootSource.{BootSource}
use Rattle.api_calls.specs.declared.call.Drive.{Drive}
use Rattle.api_calls.specs.declared.call.MachineConfig.{MachineConfig}
use Rattle.api_calls.specs.declared.entropy.Entropy.{Entropy}
use Rattle.api_calls.specs.declared.interface.Interface.{Interface}
use Rattle.api_calls.specs.declared.vsock.Vsock.{Vsock}
use Rattle.api_calls.specs.Call.{call_of}
use Rattle.api_calls.specs.Form.{holds, is_path, is_short_text}
use Rattle.api_calls.proofs.Asked.{IsAsked, asked_is}
use Rattle.api_calls.proofs.Ranges.{IsWithin}
use Rattle.vm_config.specs.declared.config.Config.{Config}
use Rattle.vm_config.specs.declared.config.Phase.{Phase}
use Rattle.vm_config.specs.Changes.{default_config, with_amount, with_fields, with_interval}
use Rattle.vm_config.specs.Devices.{count_in, device_count}
use Rattle.api_rules.specs.declared.ids.Ids.{Ids}
use Rattle.api_rules.specs.Table.{amount_of, changed, decision, is_beyond, misplaced, own_refusal, unless, when_allowed}
use Rattle.devtree.specs.Machine.{args_by}
use Rattle.snap_state.specs.Valid.{are_paths, has_room, is_balloon, is_machine, is_source, is_valid, is_vsock}
use Rattle.snap_state.specs.Sections.{entropy_in}
use Rattle.snap_state.specs.declared.copy.StateCopy.{StateCopy}
use Rattle.flat_snapshot.specs.Carried.{carried_config}
use Rattle.flat_snapshot.specs.Copies.{source_of}
use Rattle.flat_snapshot.specs.Ready.{IsConfigured}
use Rattle.flat_snapshot.proofs.CarriedReady.{carried_ready}
use Rattle.flat_machine.specs.Machine.{Machine, phase_of}
use Rattle.flat_machine.specs.Ready.{IsFitting, IsHeld, IsSourceBy, IsTaken}
use Rattle.flat_machine.proofs.Allowed.{IsAllowed, not_refused, same_call}
use Rattle.flat_machine.proofs.Drives.{length-patched, patch_told, put_told}
use Rattle.flat_machine.proofs.Interfaces.{interface_put, limits_patched, many_patched}
use Rattle.flat_machine.proofs.Mmds.{mmds_given, mmds_patched, mmds_put}

-- ---- within bounds

pub record IsBounded (config : Config) : Type 0 where
  pub mib : config.machine.mem_size_mib ≤ 4096
  pub harts : config.machine.vcpu_count ≤ 32
  pub args : length (args_by config.boot_source) ≤ 2048
  pub drives : device_count config ≤ 16

machine_is : (m : MachineConfig) → IsWithin 1 32 m.vcpu_count → IsWithin 4 4096 m.mem_size_mib → is_machine m ≡ true
machine_is m harts mib =
    and_from _ (nat_le m.mem_size_mib 4096)
    (and_from _ (nat_le 4 m.mem_size_mib)
    (and_from (nat_le 1 m.vcpu_count) (nat_le m.vcpu_count 32) (le-leb 1 m.vcpu_count harts.0) (le-leb m.vcpu_count 32 harts.1))
    (le-leb 4 m.mem_size_mib mib.0)) (le-leb m.mem_size_mib 4096 mib.1)

machine_within : (m : MachineConfig) → is_machine m ≡ true → IsWithin 1 32 m.vcpu_count × IsWithin 4 4096 m.mem_size_mib
machine_within m is =
    let large = and_parts _ (nat_le m.mem_size_mib 4096) is in
    let some = and_parts _ (nat_le 4 m.mem_size_mib) large.0 in
    let harts = and_parts (nat_le 1 m.vcpu_count) (nat_le m.vcpu_count 32) some.0 in (
      (leb-true 1 m.vcpu_count harts.0, leb-true m.vcpu_count 32 harts.1),
      (leb-true 4 m.mem_size_mib some.1, leb-true m.mem_size_mib 4096 large.1),
    )

args_few : (source : Option BootSource) → IsSourceBy source → length (args_by source) ≤ 2048
args_few None taken = omega arith
args_few (Some source) taken =
    leb-true (length source.boot_args) 2048
    (and_parts (nat_le (length source.boot_args) 2048) (is_utf8 source.boot_args) (and_parts _ (is_short_text 2048 source.boot_args) taken).1).0

pub bounded : (config : Config) → IsTaken config → IsBounded config
bounded config taken =
    let within = machine_within config.machine taken.machine in record {
      mib = within.1.1;
      harts = within.0.1;
      args = args_few config.boot_source taken.source;
      drives = leb-true (device_count config) 16 taken.room;
    }

-- ---- what is asked

first_row : (first second : Bool) (why because : Refusal) → (if first then Some why else (if second then Some because else None)) ≡ None
    → first ≡ false
first_row true second why because none = absurd cc
first_row false second why because none = refl

second_row : (first second : Bool) (why because : Refusal) → (if first then Some why else (if second then Some because else None)) ≡ None
    → second ≡ false
second_row true second why because none = absurd cc
second_row false true why because none = absurd cc
second_row false false why because none = refl

-- the only row of a table
only_row : (first : Bool) (why : Refusal) → (if first then Some why else None) ≡ None → first ≡ false
only_row true why none = absurd cc
only_row false why none = refl

-- what isn't beyond the memory
within : (mib amount : ℕ) → is_beyond mib amount ≡ false → amount ≤ mib
within mib amount nay = ltb-false mib amount nay

-- a balloon whose interval is as it was, in a machine with more memory or with less
amount_fits : (mib old : ℕ) (balloon : Option Balloon) → amount_of balloon ≤ mib → holds (is_balloon old) balloon ≡ true
    → holds (is_balloon mib) balloon ≡ true
amount_fits mib old None fits was = refl
amount_fits mib old (Some b) fits was =
    let parts = and_parts (nat_le b.amount_mib old) (nat_lt b.stats_polling_interval_s (2 ^ 16)) was in
    and_from _ _ (le-leb b.amount_mib mib fits) parts.1

-- one that takes another amount, and one that has another interval
amount_patched : (mib : ℕ) (patch : BalloonPatch) (balloon : Option Balloon) → patch.amount_mib ≤ mib → holds (is_balloon mib) balloon ≡ true
    → holds (is_balloon mib) (with_amount patch balloon) ≡ true
amount_patched mib patch None fits was = refl
amount_patched mib patch (Some b) fits was =
    let parts = and_parts (nat_le b.amount_mib mib) (nat_lt b.stats_polling_interval_s (2 ^ 16)) was in
    and_from _ _ (le-leb patch.amount_mib mib fits) parts.1

interval_patched : (mib : ℕ) (patch : StatisticsPatch) (balloon : Option Balloon) → patch.stats_polling_interval_s < 2 ^ 16
    → holds (is_balloon mib) balloon ≡ true → holds (is_balloon mib) (with_interval patch balloon) ≡ true
interval_patched mib patch None fits was = refl
interval_patched mib patch (Some b) fits was =
    let parts = and_parts (nat_le b.amount_mib mib) (nat_lt b.stats_polling_interval_s (2 ^ 16)) was in
    and_from _ _ parts.0 (lt-ltb patch.stats_polling_interval_s (2 ^ 16) fits)

-- a patched balloon is as many devices
amount_room : (drives : List Drive) (interfaces : List Interface) (vsock : Option Vsock) (patch : BalloonPatch) (balloon : Option Balloon) (entropy : Option Entropy)
    → has_room drives interfaces vsock (with_amount patch balloon) entropy ≡ has_room drives interfaces vsock balloon entropy
amount_room drives interfaces vsock patch None entropy = refl
amount_room drives interfaces vsock patch (Some b) entropy = refl

interval_room : (drives : List Drive) (interfaces : List Interface) (vsock : Option Vsock) (patch : StatisticsPatch) (balloon : Option Balloon) (entropy : Option Entropy)
    → has_room drives interfaces vsock (with_interval patch balloon) entropy ≡ has_room drives interfaces vsock balloon entropy
interval_room drives interfaces vsock patch None entropy = refl
interval_room drives interfaces vsock patch (Some b) entropy = refl

-- there is room for a balloon where there is one, or room for one device more
balloon_room : (drives : List Drive) (interfaces : List Interface) (vsock : Option Vsock) (new : Balloon) (old : Option Balloon) (entropy : Option Entropy)
    → has_room drives interfaces vsock old entropy ≡ true → (is_none old && nat_le 16 (count_in drives interfaces vsock old entropy)) ≡ false
    → has_room drives interfaces vsock (Some new) entropy ≡ true
balloon_room drives interfaces vsock new None entropy fits room =
    let less = leb-false 16 (count_in drives interfaces vsock None entropy) room in
    le-leb (count_in drives interfaces vsock (Some new) entropy) 16 (omega (arith, less))
balloon_room drives interfaces vsock new (Some b) entropy fits room = fits

-- and so for a vsock device
vsock_room : (drives : List Drive) (interfaces : List Interface) (new : Vsock) (old : Option Vsock) (balloon : Option Balloon) (entropy : Option Entropy)
    → has_room drives interfaces old balloon entropy ≡ true → (is_none old && nat_le 16 (count_in drives interfaces old balloon entropy)) ≡ false
    → has_room drives interfaces (Some new) balloon entropy ≡ true
vsock_room drives interfaces new None balloon entropy fits room =
    let less = leb-false 16 (count_in drives interfaces None balloon entropy) room in
    le-leb (count_in drives interfaces (Some new) balloon entropy) 16 (omega (arith, less))
vsock_room drives interfaces new (Some v) balloon entropy fits room = fits

-- and for an entropy device
entropy_room : (drives : List Drive) (interfaces : List Interface) (vsock : Option Vsock) (balloon : Option Balloon) (new : Entropy) (old : Option Entropy)
    → has_room drives interfaces vsock balloon old ≡ true → (is_none old && nat_le 16 (count_in drives interfaces vsock balloon old)) ≡ false
    → has_room drives interfaces vsock balloon (Some new) ≡ true
entropy_room drives interfaces vsock balloon new None fits room =
    let less = leb-false 16 (count_in drives interfaces vsock balloon None) room in
    le-leb (count_in drives interfaces vsock balloon (Some new)) 16 (omega (arith, less))
entropy_room drives interfaces vsock balloon new (Some e) fits room = fits

cid_fits : (v : Vsock) → IsWithin 3 4294967294 v.guest_cid → is_path v.uds_path ≡ true → is_vsock v ≡ true
cid_fits v within named =
    let most = within.1 in
    and_from _ _ (and_from _ _ (le-leb 3 v.guest_cid within.0) (lt-ltb v.guest_cid 4294967295 (omega (arith, most)))) named

paths_are : (path : Option (List ℕ)) → holds is_path path ≡ true → are_paths path ≡ true
paths_are None is = refl
paths_are (Some path) is = is

given_within : (o : Option ℕ) (n least most : ℕ) → IsWithin least most n → ((k : ℕ) → o ≡ Some k → IsWithin least most k)
    → IsWithin least most (unwrap_or o n)
given_within None n least most old new = old
given_within (Some k) n least most old new = new k refl

module _ (p : Phase) (config : Config) (ids : Ids) (taken : IsTaken config) where
  call_fits : (c : ApiCall) → IsAsked c → own_refusal p config ids c ≡ None → IsFitting config c
  call_fits (call.PutBootSource source) asked own =
      and_from _ (is_short_text 2048 source.boot_args)
      (and_from (is_path source.kernel_image_path) (are_paths source.initrd_path) asked.0 (paths_are source.initrd_path asked.1))
      (and_from (nat_le (length source.boot_args) 2048) (is_utf8 source.boot_args) (le-leb (length source.boot_args) 2048 asked.2) asked.3)
  call_fits (call.PutDrive drive) asked own =
      put_told drive config.drives config.interfaces config.vsock config.balloon config.entropy taken.drives taken.room (and_from _ _ (and_from _ _ asked.0 asked.1) asked.2)
      (first_row _ _ _ _ own) (second_row _ _ _ _ own)
  call_fits (call.PatchDrive patch) asked own = (asked.1, asked.2)
  call_fits (call.PutInterface interface) asked own =
      let put = interface_put config.drives interface config.interfaces config.vsock config.balloon config.entropy taken.interfaces taken.room
      (and_from _ _ (and_from _ _ (and_from _ _ (and_from _ _ asked.0 asked.1) asked.2) asked.3.0) asked.3.1)
      (only_row _ _ own) in
      (put.0, put.1, mmds_put interface config.interfaces config.mmds taken.mmds)
  call_fits (call.PatchInterface patch) asked own = asked.1
  call_fits (call.PutMachineConfig machine) asked own = (
    machine_is machine asked.0 asked.1,
    amount_fits machine.mem_size_mib config.machine.mem_size_mib config.balloon (within _ _ (only_row _ _ own)) taken.balloon,
  )
  call_fits (call.PatchMachineConfig patch) asked own =
      let old = machine_within config.machine taken.machine in (
        machine_is (with_fields patch config.machine) (given_within patch.vcpu_count config.machine.vcpu_count 1 32 old.0 asked.0)
            (given_within patch.mem_size_mib config.machine.mem_size_mib 4 4096 old.1 asked.1),
        amount_fits (with_fields patch config.machine).mem_size_mib config.machine.mem_size_mib config.balloon
            (within _ _ (only_row _ _ own)) taken.balloon,
      )
  call_fits (call.PutVsock vsock) asked own = (
    cid_fits vsock asked.0 asked.1,
    vsock_room config.drives config.interfaces vsock config.vsock config.balloon config.entropy taken.room (only_row _ _ own),
  )
  call_fits (call.PutBalloon balloon) asked own = (
    and_from _ _ (le-leb balloon.amount_mib config.machine.mem_size_mib (within _ _ (first_row _ _ _ _ own)))
        (lt-ltb balloon.stats_polling_interval_s (2 ^ 16) asked),
    balloon_room config.drives config.interfaces config.vsock balloon config.balloon config.entropy taken.room (second_row _ _ _ _ own),
  )
  call_fits (call.PutEntropy entropy) asked own = (
    asked,
    entropy_room config.drives config.interfaces config.vsock config.balloon entropy config.entropy taken.room (only_row _ _ own),
  )
  call_fits (call.PatchBalloon patch) asked own = within config.machine.mem_size_mib patch.amount_mib (second_row _ _ _ _ own)
  call_fits (call.PatchStatistics patch) asked own = asked
  call_fits (call.PutMmdsConfig mmds) asked own = mmds_given config.interfaces mmds asked.0 asked.1 (only_row _ _ own)
  call_fits it asked own = tt

  -- a call that isn't refused
  pub asked_fits : (request : Request) (c : ApiCall) → call_of request ≡ Ok c → own_refusal p config ids c ≡ None → IsFitting config c
  asked_fits request c is own = call_fits c (asked_is request c is) own

  pub decided_fits : (request : Request) (c it : ApiCall) → call_of request ≡ Ok c → decision p config ids c ≡ Ok it → IsFitting config it
  decided_fits request c it is asks =
      let own : Option Refusal = own_refusal p config ids c in
      let placed = not_refused (misplaced (when_allowed c) p) (unless own (Ok c)) it asks in
      let known = not_refused own (Ok c) it placed.1 in
      subst (λ (x : ApiCall). IsFitting config x) (same_call c it known.1) (asked_fits request c is known.0)

pub allowed_fits : (m : Machine) (it : ApiCall) → IsTaken m.config → IsAllowed m it → IsFitting m.config it
allowed_fits m it taken known = asked_fits (phase_of m) m.config m.ids taken known.request it known.call_is known.own

-- what is marked as configured
same_taken : (config : Config) → IsTaken config → IsTaken (record config { configured = true })
same_taken config taken = record {
  source = taken.source;
  drives = taken.drives;
  interfaces = taken.interfaces;
  vsock = taken.vsock;
  mmds = taken.mmds;
  machine = taken.machine;
  balloon = taken.balloon;
  entropy = taken.entropy;
  room = taken.room;
}

-- with another machine
machine_taken : (config : Config) (machine : MachineConfig) → IsTaken config → IsHeld machine config.balloon
    → IsTaken (record config { machine = machine; configured = true })
machine_taken config machine taken fit = record {
  source = taken.source;
  drives = taken.drives;
  interfaces = taken.interfaces;
  vsock = taken.vsock;
  mmds = taken.mmds;
  machine = fit.0;
  balloon = fit.1;
  entropy = taken.entropy;
  room = taken.room;
}

pub changed_taken : (config : Config) (it : ApiCall) → IsTaken config → IsFitting config it → IsTaken (changed config it)
changed_taken config (call.PutBootSource source) taken fit = record {
  source = fit;
  drives = taken.drives;
  interfaces = taken.interfaces;
  vsock = taken.vsock;
  mmds = taken.mmds;
  machine = taken.machine;
  balloon = taken.balloon;
  entropy = taken.entropy;
  room = taken.room;
}
changed_taken config (call.PutDrive drive) taken fit = record {
  source = taken.source;
  drives = fit.0;
  interfaces = taken.interfaces;
  vsock = taken.vsock;
  mmds = taken.mmds;
  machine = taken.machine;
  balloon = taken.balloon;
  entropy = taken.entropy;
  room = fit.1;
}
changed_taken config (call.PatchDrive patch) taken fit = record {
  source = taken.source;
  drives = patch_told patch config.drives taken.drives fit.0 fit.1;
  interfaces = taken.interfaces;
  vsock = taken.vsock;
  mmds = taken.mmds;
  machine = taken.machine;
  balloon = taken.balloon;
  entropy = taken.entropy;
  room =
      let many = length-patched patch config.drives in
      le-leb (device_count (changed config (call.PatchDrive patch))) 16 (omega (arith, many, leb-true (device_count config) 16 taken.room));
}
changed_taken config (call.PutInterface interface) taken fit = record {
  source = taken.source;
  drives = taken.drives;
  interfaces = fit.0;
  vsock = taken.vsock;
  mmds = fit.2;
  machine = taken.machine;
  balloon = taken.balloon;
  entropy = taken.entropy;
  room = fit.1;
}
changed_taken config (call.PatchInterface patch) taken fit = record {
  source = taken.source;
  drives = taken.drives;
  interfaces = limits_patched patch config.interfaces taken.interfaces fit.0 fit.1;
  vsock = taken.vsock;
  mmds = mmds_patched patch config.interfaces config.mmds taken.mmds;
  machine = taken.machine;
  balloon = taken.balloon;
  entropy = taken.entropy;
  room =
      let many = many_patched patch config.interfaces in
      le-leb (device_count (changed config (call.PatchInterface patch))) 16
      (omega (arith, many, leb-true (device_count config) 16 taken.room));
}
changed_taken config (call.PutMachineConfig machine) taken fit = machine_taken config machine taken fit
changed_taken config (call.PatchMachineConfig patch) taken fit = machine_taken config (with_fields patch config.machine) taken fit
changed_taken config (call.PutVsock vsock) taken fit = record {
  source = taken.source;
  drives = taken.drives;
  interfaces = taken.interfaces;
  vsock = fit.0;
  mmds = taken.mmds;
  machine = taken.machine;
  balloon = taken.balloon;
  entropy = taken.entropy;
  room = fit.1;
}
changed_taken config (call.PutBalloon balloon) taken fit = record {
  source = taken.source;
  drives = taken.drives;
  interfaces = taken.interfaces;
  vsock = taken.vsock;
  mmds = taken.mmds;
  machine = taken.machine;
  balloon = fit.0;
  entropy = taken.entropy;
  room = fit.1;
}
changed_taken config (call.PutEntropy entropy) taken fit = record {
  source = taken.source;
  drives = taken.drives;
  interfaces = taken.interfaces;
  vsock = taken.vsock;
  mmds = taken.mmds;
  machine = taken.machine;
  balloon = taken.balloon;
  entropy = fit.0;
  room = fit.1;
}
changed_taken config (call.PatchBalloon patch) taken fit = record {
  source = taken.source;
  drives = taken.drives;
  interfaces = taken.interfaces;
  vsock = taken.vsock;
  mmds = taken.mmds;
  machine = taken.machine;
  balloon = amount_patched config.machine.mem_size_mib patch config.balloon fit taken.balloon;
  entropy = taken.entropy;
  room = amount_room config.drives config.interfaces config.vsock patch config.balloon config.entropy ∙ taken.room;
}
changed_taken config (call.PatchStatistics patch) taken fit = record {
  source = taken.source;
  drives = taken.drives;
  interfaces = taken.interfaces;
  vsock = taken.vsock;
  mmds = taken.mmds;
  machine = taken.machine;
  balloon = interval_patched config.machine.mem_size_mib patch config.balloon fit taken.balloon;
  entropy = taken.entropy;
  room = interval_room config.drives config.interfaces config.vsock patch config.balloon config.entropy ∙ taken.room;
}
changed_taken config (call.PutMmdsConfig mmds) taken fit = record {
  source = taken.source;
  drives = taken.drives;
  interfaces = taken.interfaces;
  vsock = taken.vsock;
  mmds = fit;
  machine = taken.machine;
  balloon = taken.balloon;
  entropy = taken.entropy;
  room = taken.room;
}
changed_taken config call.InstanceStart taken fit = same_taken config taken
changed_taken config (call.LoadSnapshot load) taken fit = same_taken config taken
changed_taken config it taken fit = taken

-- ---- with what is booted

source_taken : (source : Option BootSource) → is_source (source_of source) ≡ true → IsSourceBy source
source_taken None is = tt
source_taken (Some source) is = is

pub configured_taken : (config : Config) → IsConfigured config → IsTaken config
configured_taken config is = record {
  source = source_taken config.boot_source is.source;
  drives = is.drives;
  interfaces = is.interfaces;
  vsock = is.vsock;
  mmds = is.mmds;
  machine = is.machine;
  balloon = is.balloon;
  entropy = is.entropy;
  room = is.room;
}

pub taken_configured : (config : Config) (source : BootSource) → config.boot_source ≡ Some source → IsTaken config → IsConfigured config
taken_configured config source there taken = record {
  source =
      subst (λ (o : Option BootSource). is_source (source_of o) ≡ true) (sym there)
      (subst (λ (o : Option BootSource). IsSourceBy o) there taken.source);
  drives = taken.drives;
  interfaces = taken.interfaces;
  vsock = taken.vsock;
  mmds = taken.mmds;
  machine = taken.machine;
  balloon = taken.balloon;
  entropy = taken.entropy;
  room = taken.room;
}

-- ---- at first, and behind a load

pub default_taken : IsTaken default_config
default_taken =
    record { source = tt; drives = refl; interfaces = refl; vsock = refl; mmds = refl; machine = refl; balloon = refl; entropy = refl; room = refl }

-- what goes on from a copy that a file can have; its bytes don't matter
pub carried_taken : (tracking : Bool) (copy : StateCopy) → IsTrue (is_valid copy) → IsTaken (carried_config tracking copy.configuration (entropy_in copy.sections))
carried_taken tracking copy valid =
    let bytes : List ℕ = replicate (page_size * copy.pages) 0 in
    configured_taken (carried_config tracking copy.configuration (entropy_in copy.sections))
    (carried_ready copy bytes tracking valid (length-replicate {A = ℕ} (page_size * copy.pages) 0)).configured
