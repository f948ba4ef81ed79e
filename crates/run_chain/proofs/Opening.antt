-- What the opening of a run's script leaves: a machine that has started, and its full snapshot.
use Rattle.std.proofs.Common.{◌≡◌, ◌+◌, ◌∙◌, ℕ, true, false, refl, sym, ap, subst, List, [], ◌∷◌, ◌++◌, length, codes, Option, Some, None, Ok, arith}
use Rattle.std.specs.Prelude.{option_map}
use Rattle.std.specs.Fmt.{decimal, digits}
use Rattle.std.specs.FinMap.{get, insert}
use Rattle.vm_types.specs.Saved.{Saved, nothing_saved}
use Rattle.vm_types.specs.declared.ids.ActorId.TheVariants.{Hart}
use Rattle.gate_file.proofs.Inserts.{got_there}
use Rattle.http_stream.specs.Conversation.{new_connection}
use Rattle.script_text.specs.declared.item.Item.TheVariants as item
use Rattle.api_calls.specs.declared.call.ApiCall.{ApiCall}
use Rattle.api_calls.specs.declared.call.ApiCall.TheVariants as call
use Rattle.api_calls.specs.declared.call.BootSource.{BootSource}
use Rattle.api_calls.specs.declared.call.MachineConfig.{MachineConfig}
use Rattle.api_calls.specs.declared.call.SnapshotCreate.{SnapshotCreate}
use Rattle.api_calls.specs.declared.call.SnapshotType.TheVariants as snapshot
use Rattle.api_calls.specs.declared.call.VmState.TheVariants.{Paused, Resumed}
use Rattle.vm_config.specs.Changes.{default_config}
use Rattle.vm_config.specs.declared.config.Config.{Config}
use Rattle.vm_config.specs.declared.config.Phase.{Phase}
use Rattle.vm_config.specs.declared.config.Phase.TheVariants as phase
use Rattle.refusals.specs.declared.refusal.Refusal.{Refusal}
use Rattle.api_rules.specs.declared.actions.InitrdFile.TheVariants as initrd
use Rattle.api_rules.specs.Table.{boot_refusal, changed, decision, unless}
use Rattle.load_gen.specs.Load.{boot, configure, create_full, image, load_items, opening, pause, resume, rounds, rounds_of, start}
use Rattle.flat_guest.specs.Guest.{Guest}
use Rattle.flat_guest.specs.Start.{started}
use Rattle.flat_machine.specs.Machine.{Machine, new_machine, phase_by, phase_of}
use Rattle.flat_machine.specs.Requests.{by_contents, configured, devices_from, disk_of, image_by, image_of, loads_from, start_refusal, started_from}
use Rattle.snapshot_chain.specs.Chains.{Saving, identity_of, memory_text, state_text}
use Rattle.run_chain.specs.Asked.{boot_body, configure_body, create_body, pause_body, resume_body, start_body}
use Rattle.run_chain.proofs.Acts.{Does, DoesOne, IsLed, does_first, does_front, does_none, new_led, one_led}
use Rattle.run_chain.proofs.Asking.{boots, configures, creates, pauses, resumes, starts}
use Rattle.run_chain.proofs.Heard.{Heard, leaves_by}
use Rattle.run_chain.proofs.Lines.{IsOn, full_decided, pauses_on, resumes_guest, resumes_on, steps_on}
use Rattle.run_chain.proofs.Rounds.{AfterRounds, all_rounds, heard_of}
use Rattle.run_chain.proofs.Savings.{IsMade, made_create, on_after}

-- it has not started, and this is configured; it has no snapshot, and these files
record IsNew (config : Config) (saved : Saved) (m : Machine) : Type 0 where
  none : m.guest ≡ None
  config_is : m.config ≡ config
  next_is : m.ids.next ≡ 1
  base_is : m.ids.base ≡ None
  saved_is : m.saved ≡ saved
  empty : m.connection ≡ new_connection

early : (m : Machine) → m.guest ≡ None → phase_of m ≡ phase.NotStarted
early m none = ap (λ (o : Option Guest). phase_by o m.paused) none

-- ---- what is configured

abbrev source : BootSource
source = record { kernel_image_path = codes "k"; initrd_path = None; boot_args = [] }

abbrev machine : MachineConfig
machine = record { vcpu_count = 2; mem_size_mib = 4; track_dirty_pages = true }

abbrev booted : Config
booted = changed default_config (call.PutBootSource source)

abbrev whole : Config
whole = changed booted (call.PutMachineConfig machine)

-- a call that configures alone
configures_new : (c : ApiCall) (it : ApiCall) (config : Config) (saved : Saved) (m n : Machine) → IsNew config saved m → Heard c m n
    → decision (phase_of m) m.config m.ids c ≡ Ok it → by_contents m it ≡ Ok it
    → ((heard : Heard c m n) → heard.mid ≡ configured m it) → IsNew (changed config it) saved n
configures_new c it config saved m n new heard decides contents leaves =
    let is : n ≡ record (configured m it) { connection = new_connection } =
    heard.leaves ∙ ap (λ (q : Machine). record q { connection = new_connection }) (leaves heard) in
    record {
      none = ap (λ (q : Machine). q.guest) is ∙ new.none;
      config_is = ap (λ (q : Machine). q.config) is ∙ ap (λ (x : Config). changed x it) new.config_is;
      next_is = ap (λ (q : Machine). q.ids.next) is ∙ new.next_is;
      base_is = ap (λ (q : Machine). q.ids.base) is ∙ new.base_is;
      saved_is = ap (λ (q : Machine). q.saved) is ∙ new.saved_is;
      empty = ap (λ (q : Machine). q.connection) is;
    }

module _ (saved : Saved) (m n : Machine) where
  boots_new : IsNew default_config saved m → Heard (call.PutBootSource source) m n → IsNew booted saved n
  boots_new new heard =
      let p = early m new.none in
      let decides : decision (phase_of m) m.config m.ids (call.PutBootSource source) ≡ Ok (call.PutBootSource source) =
      ap (λ (x : Phase). decision x m.config m.ids (call.PutBootSource source)) p in
      configures_new (call.PutBootSource source) (call.PutBootSource source) default_config saved m n new heard decides refl
      (λ h. (leaves_by (call.PutBootSource source) m n (call.PutBootSource source) h decides refl).1)

  configures_on : IsNew booted saved m → Heard (call.PutMachineConfig machine) m n → IsNew whole saved n
  configures_on new heard =
      let p = early m new.none in
      let decides : decision (phase_of m) m.config m.ids (call.PutMachineConfig machine) ≡ Ok (call.PutMachineConfig machine) =
      ap (λ (x : Phase). decision x m.config m.ids (call.PutMachineConfig machine)) p
      ∙ ap (λ (c : Config). decision phase.NotStarted c m.ids (call.PutMachineConfig machine)) new.config_is in
      configures_new (call.PutMachineConfig machine) (call.PutMachineConfig machine) booted saved m n new heard decides refl
      (λ h. (leaves_by (call.PutMachineConfig machine) m n (call.PutMachineConfig machine) h decides refl).1)

-- ---- the start

module _ (saved : Saved) (m n : Machine) (new : IsNew whole saved m) (heard : Heard call.InstanceStart m n) (there : get saved (codes "k") ≡ Some image) where
  image_is : image_of m ≡ Some image
  image_is = ap (λ (c : Config). image_by c.boot_source m.saved) new.config_is ∙ ap (λ (f : Saved). get f (codes "k")) new.saved_is ∙ there

  start_decided : decision (phase_of m) m.config m.ids call.InstanceStart ≡ Ok call.InstanceStart
  start_decided =
      ap (λ (x : Phase). decision x m.config m.ids call.InstanceStart) (early m new.none)
      ∙ ap (λ (c : Config). decision phase.NotStarted c m.ids call.InstanceStart) new.config_is

  none_refused : start_refusal m.config m.saved ≡ None
  none_refused =
      ap (λ (c : Config). start_refusal c m.saved) new.config_is
      ∙ ap (λ (f : Saved). start_refusal whole f) new.saved_is
      ∙ ap (λ (o : Option (List ℕ)). boot_refusal whole (option_map length o) initrd.Unnamed true) there

  start_contents : by_contents m call.InstanceStart ≡ Ok call.InstanceStart
  start_contents = ap (λ (o : Option Refusal). unless o (Ok call.InstanceStart)) none_refused

  starts_on : IsOn false 1 None saved n
  starts_on =
      let left = leaves_by call.InstanceStart m n call.InstanceStart heard start_decided start_contents in
      let is : n ≡ record (configured (started_from (Some image) (disk_of m) m) call.InstanceStart) { connection = new_connection } =
      heard.leaves
      ∙ ap (λ (q : Machine). record q { connection = new_connection }) left.1
      ∙ ap (λ (o : Option (List ℕ)). record (configured (started_from o (disk_of m) m) call.InstanceStart) { connection = new_connection }) image_is in
      record {
        guest =
            started m.config.machine.vcpu_count m.config.machine.mem_size_mib (loads_from m.config image (disk_of m))
            (devices_from m.config m.saved);
        there = ap (λ (q : Machine). q.guest) is;
        stands = ap (λ (q : Machine). q.paused) is;
        tracked =
            ap (λ (q : Machine). q.config.machine.track_dirty_pages) is
            ∙ ap (λ (c : Config). c.machine.track_dirty_pages) new.config_is;
        next_is = ap (λ (q : Machine). q.ids.next) is ∙ new.next_is;
        base_is = ap (λ (q : Machine). q.ids.base) is ∙ new.base_is;
        empty = ap (λ (q : Machine). q.connection) is;
        saved_is = ap (λ (q : Machine). q.saved) is ∙ new.saved_is;
      }

-- ---- the lines of the opening

-- which machine there is after the start, and the lines behind it
module _ (id : List ℕ) (number : ℕ) (n : Machine) where
  abbrev files : Saved
  files = insert nothing_saved (codes "k") image

  abbrev first : Machine
  first = new_machine id nothing_saved []

  abbrev it : SnapshotCreate
  it = record { files = record { snapshot_path = codes "s0"; mem_file_path = codes "m0" }; snapshot_type = snapshot.Full }

  record Begun (m : Machine) : Type 0 where
    on : IsOn true 1 None files m
    led : IsLed m
    rest : Does (create_full ∷ resume ∷ []) m n

  begun : Does (opening number) first n → (m : Machine) × Begun m
  begun does =
      let lineage = does_first (item.Lineage number) _ first n does in
      let file = does_first (item.File (codes "k") image) _ lineage.0 n lineage.2 in
      let boots_line = does_first boot _ file.0 n file.2 in
      let configures_line = does_first configure _ boots_line.0 n boots_line.2 in
      let starts_line = does_first start _ configures_line.0 n configures_line.2 in
      let steps = does_first (item.Step (Hart 0) 7) _ starts_line.0 n starts_line.2 in
      let pauses_line = does_first pause _ steps.0 n steps.2 in
      let led_lineage = one_led _ first lineage.0 lineage.1 (new_led id nothing_saved []) in
      let led_file = one_led _ lineage.0 file.0 file.1 led_lineage in
      let led_boot = one_led boot file.0 boots_line.0 boots_line.1 led_file in
      let led_configure = one_led configure boots_line.0 configures_line.0 configures_line.1 led_boot in
      let led_start = one_led start configures_line.0 starts_line.0 starts_line.1 led_configure in
      let led_steps = one_led _ starts_line.0 steps.0 steps.1 led_start in
      let is_lineage : lineage.0 ≡ record first { ids = record first.ids { lineage = number } } = lineage.1.step.1.1 in
      let is_file = file.1.step.1.1 in
      let new : IsNew default_config files file.0 = record {
        none = ap (λ (q : Machine). q.guest) is_file ∙ ap (λ (q : Machine). q.guest) is_lineage;
        config_is = ap (λ (q : Machine). q.config) is_file ∙ ap (λ (q : Machine). q.config) is_lineage;
        next_is = ap (λ (q : Machine). q.ids.next) is_file ∙ ap (λ (q : Machine). q.ids.next) is_lineage;
        base_is = ap (λ (q : Machine). q.ids.base) is_file ∙ ap (λ (q : Machine). q.ids.base) is_lineage;
        saved_is =
            ap (λ (q : Machine). q.saved) is_file
            ∙ ap (λ (q : Machine). insert q.saved (codes "k") image) is_lineage;
        empty = ap (λ (q : Machine). q.connection) is_file ∙ ap (λ (q : Machine). q.connection) is_lineage;
      } in
      let heard_boot =
      heard_of (codes "PUT") (codes "/boot-source") boot_body (call.PutBootSource source) file.0 boots_line.0 boots new.empty boots_line.1 in
      let with_boot = boots_new files file.0 boots_line.0 new heard_boot in
      let heard_configure =
      heard_of (codes "PUT") (codes "/machine-config") configure_body (call.PutMachineConfig machine) boots_line.0 configures_line.0
      configures with_boot.empty configures_line.1 in
      let with_machine = configures_on files boots_line.0 configures_line.0 with_boot heard_configure in
      let heard_start =
      heard_of (codes "PUT") (codes "/actions") start_body call.InstanceStart configures_line.0 starts_line.0 starts with_machine.empty
      starts_line.1 in
      let on =
      starts_on files configures_line.0 starts_line.0 with_machine heard_start (got_there nothing_saved (codes "k") image) in
      let on_steps = steps_on 1 None files starts_line.0 steps.0 _ _ steps.1.text on steps.1.step.1 in
      let heard_pause =
      heard_of (codes "PATCH") (codes "/vm") pause_body (call.PatchVm Paused) steps.0 pauses_line.0 pauses on_steps.empty pauses_line.1 in (
        pauses_line.0,
        record {
          on = pauses_on 1 None files steps.0 pauses_line.0 on_steps heard_pause;
          led = one_led pause steps.0 pauses_line.0 pauses_line.1 led_steps;
          rest = pauses_line.2;
        },
      )

  -- its full snapshot
  module _ (m : Machine) (at : Begun m) where
    creates_line : (mid : Machine) × DoesOne create_full m mid × Does (resume ∷ []) mid n
    creates_line = does_first create_full (resume ∷ []) m n at.rest

    made : IsMade it m creates_line.0
    made =
        made_create it 1 None files m creates_line.0 at.led creates_line.1.on at.on
        (heard_of (codes "PUT") (codes "/snapshot/create") create_body (call.CreateSnapshot it) m creates_line.0 creates at.on.empty creates_line.1)
        (full_decided m it 1 files (omega arith) None at.on refl)

    abbrev s : Saving
    s = made.saving

    after : IsOn true 2 (Some (identity_of s)) s.after.saved creates_line.0
    after =
        subst (λ (q : Machine). IsOn true 2 (Some (identity_of s)) s.after.saved q) (sym made.leaves)
        (on_after snapshot.Full s made.is 1 None files (subst (λ (q : Machine). IsOn true 1 None files q) (sym made.before_is) at.on))

    last_line : DoesOne resume creates_line.0 n
    last_line =
        let one = does_first resume [] creates_line.0 n creates_line.2 in
        subst (λ (q : Machine). DoesOne resume creates_line.0 q) (does_none one.0 n one.2) one.1

    resumed : Heard (call.PatchVm Resumed) creates_line.0 n
    resumed = heard_of (codes "PATCH") (codes "/vm") resume_body (call.PatchVm Resumed) creates_line.0 n resumes after.empty last_line

    on_now : IsOn false 2 (Some (identity_of s)) s.after.saved n
    on_now = resumes_on 2 (Some (identity_of s)) s.after.saved creates_line.0 n after resumed

    memory_now : get n.saved (codes "m0") ≡ memory_text s
    memory_now =
        ap (λ (f : Saved). get f (codes "m0")) on_now.saved_is
        ∙ ap (λ (a : SnapshotCreate). get s.after.saved a.files.mem_file_path) (sym made.asked_is)

    state_now : get n.saved (codes "s" ++ decimal 0) ≡ state_text s
    unfolding digits
    state_now =
        ap (λ (f : Saved). get f (codes "s0")) on_now.saved_is
        ∙ ap (λ (a : SnapshotCreate). get s.after.saved a.files.snapshot_path) (sym made.asked_is)

    by_begun : AfterRounds 0 n
    by_begun = record {
      first = s;
      savings = [];
      last = s;
      full = made.answered;
      leads = refl;
      many = refl;
      led = one_led resume creates_line.0 n last_line (one_led create_full m creates_line.0 creates_line.1 at.led);
      on = on_now;
      guest_is =
          resumes_guest 2 (Some (identity_of s)) s.after.saved creates_line.0 n after resumed
          ∙ ap (λ (q : Machine). q.guest) made.leaves;
      start = creates_line.0;
      left = (s.after.connection, made.leaves);
      acts = creates_line.2.acts;
      text = creates_line.2.text;
      ran = creates_line.2.ran;
      base_there = memory_now;
      diffs_there = refl;
      state_there = state_now;
    }

  pub opened : Does (opening number) first n → AfterRounds 0 n
  opened does = let at = begun does in by_begun at.0 at.1

-- ---- the whole script

pub script_leaves : (id : List ℕ) (number : ℕ) (n : Machine) → Does (load_items number) (new_machine id nothing_saved []) n
    → AfterRounds (rounds_of number) n
script_leaves id number n does =
    let parts = does_front (opening number) (rounds number (rounds_of number)) (new_machine id nothing_saved []) n does in
    all_rounds number (rounds_of number) (omega arith) parts.0 n (opened id number parts.0 parts.1) parts.2
