-- What is loaded is what the machine loads.
use Rattle.std.proofs.Common.{◌≡◌, ◌≤◌, ℕ, List, length, take, Option, Some, None, Bool, true, false, not, nat_le, refl, sym, subst, ◌∙◌, ap}
use Rattle.std.proofs.Math.Seq.{take-length}
use Rattle.std.specs.Prelude.{IfSome, is_none, option_map}
use Rattle.std.proofs.lemmas.Bool.{and_from, and_parts, le-leb}
use Rattle.std.specs.FinMap.{get}
use Rattle.vm_types.specs.Saved.{Saved}
use Rattle.vm_outside.specs.Filing.{IsReadAt}
use Rattle.api_calls.specs.declared.call.BootSource.{BootSource}
use Rattle.api_rules.specs.declared.actions.InitrdFile.{InitrdFile}
use Rattle.api_rules.specs.declared.actions.InitrdFile.TheVariants as initrd
use Rattle.api_rules.specs.Table.{boot_refusal, fits_by, is_missing, len_of}
use Rattle.refusals.specs.declared.refusal.Refusal.TheVariants as refusal
use Rattle.guest_memory.specs.Boot.{Loads, image_fits, initrd_fits, loads_fit, tree_size}
use Rattle.boot_loader.specs.Loading.{have_room}
use Rattle.vm_config.specs.declared.config.Config.{Config}
use Rattle.devtree.specs.declared.machine.InitrdPlace.{InitrdPlace}
use Rattle.devtree.specs.Machine.{tree_bytes}
use Rattle.devtree.proofs.Sizes.{tree_fits}
use Rattle.guest_devices.specs.declared.new_device.NewDevice.{NewDevice}
use Rattle.flat_guest.specs.Start.{started}
use Rattle.flat_machine.specs.Ready.{IsTaken}
use Rattle.flat_machine.proofs.Sizes.{fits_last}
use Rattle.flat_machine.proofs.Taken.{bounded}
use Rattle.flat_machine.specs.Requests.{devices_from, disk_by, file_by, have_files, image_by, initrd_name, loads_from, initrd_place, start_refusal}
use Rattle.vm_world.specs.Worlds.{IsWorld, WorldValue}
use Rattle.monitor_plans.specs.declared.plan.Plan.TheVariants as plan
use Rattle.monitor_plans.specs.Starting.{StartGives, disk_in, image_in}

pub loads_are : (config : Config) (image : List ℕ) (disk initrd : Option (List ℕ)) (place : Option InitrdPlace) (tree lent : List ℕ)
    (drives : List NewDevice) (w : WorldValue) → initrd ≡ disk → place ≡ initrd_place config.machine.mem_size_mib disk → tree ≡ tree_bytes config place → lent ≡ tree
    → IsWorld w (started config.machine.vcpu_count config.machine.mem_size_mib (record { image = image; initrd = initrd; tree = lent }) drives)
    → IsWorld w (started config.machine.vcpu_count config.machine.mem_size_mib (loads_from config image disk) drives)
loads_are config image disk initrd place tree lent drives w e p t l world =
    let tree_is : lent ≡ tree_bytes config (initrd_place config.machine.mem_size_mib disk) = l ∙ t ∙ ap (tree_bytes config) p in
    let same : ◌≡◌ {A = Loads} (record { image = image; initrd = initrd; tree = lent }) (loads_from config image disk) =
    (λ i. record { image = image; initrd = e i; tree = tree_is i }) in
    subst (λ (ls : Loads). IsWorld w (started config.machine.vcpu_count config.machine.mem_size_mib ls drives)) same world

-- a file of this many bytes is there
found : (g : Option (List ℕ)) (len : ℕ) (image : List ℕ) → Some len ≡ option_map length g → length image ≡ len
    → IsReadAt g 0 image → g ≡ Some image
found None len image e whole is = cc
found (Some content) len image e whole is =
    let long : length image ≡ length content = cc in
    ap Some (sym (is.1 ∙ ap (λ (n : ℕ). take n content) long ∙ take-length content))

-- a disk that is missing refuses
there : (config : Config) (len : ℕ) (file : InitrdFile) (drives : Bool) → None ≡ boot_refusal config (Some len) file drives
    → is_missing file ≡ false
there config len initrd.Unnamed drives clear = refl
there config len initrd.Missing drives clear = cc
there config len (initrd.There size) drives clear = refl

-- a start that nothing refuses, by what each call on the files gave
pub start_gives : (config : Config) (source : BootSource) (s0 s1 s2 s3 s4 : Saved) (path : List ℕ) (size : Option ℕ) (len : ℕ) (file : InitrdFile)
    (image lent : List ℕ) (disk : Option (List ℕ)) (drives given : List NewDevice) (have : Bool) (w : WorldValue)
    → config.boot_source ≡ Some source → path ≡ source.kernel_image_path
    → size ≡ option_map length (get s0 path) → size ≡ Some len → s1 ≡ s0 → s2 ≡ s1 → s3 ≡ s2 → s4 ≡ s3 → file ≡ file_by source.initrd_path s1
    → drives ≡ devices_from config s2 → have ≡ have_files config.drives s2
    → None ≡ boot_refusal config (Some len) file have → length image ≡ len → IsReadAt (get s3 path) 0 image
    → (file ≡ file_by source.initrd_path s4 → is_missing file ≡ false → disk ≡ disk_by source.initrd_path s4) → lent ≡ image → given ≡ drives
    → IsWorld w (started config.machine.vcpu_count config.machine.mem_size_mib (loads_from config lent disk) given) → StartGives (plan.Starts w) config s0
start_gives config source s0 s1 s2 s3 s4 path size len file image lent disk drives given have w eq pe sz sl e1 e2 e3 e4 fe de he clear whole im dk le ge wd =
    let size_is : size ≡ option_map length (image_in config s0) =
    sz
    ∙ ap (λ (p : List ℕ). option_map length (get s0 p)) pe
    ∙ ap (λ (b : Option BootSource). option_map length (image_by b s0)) (sym eq) in
    let file_is : file ≡ file_by (initrd_name config.boot_source) s0 =
    fe ∙ ap (file_by source.initrd_path) e1 ∙ ap (λ (b : Option BootSource). file_by (initrd_name b) s0) (sym eq) in
    let have_is : have ≡ have_files config.drives s0 = he ∙ ap (have_files config.drives) (e2 ∙ e1) in
    let none : start_refusal config s0 ≡ None =
    sym (
    clear
    ∙ ap (λ (o : Option ℕ). boot_refusal config o file have) (sym sl ∙ size_is)
    ∙ ap (λ (f : InitrdFile). boot_refusal config (option_map length (image_in config s0)) f have) file_is
    ∙ ap (boot_refusal config (option_map length (image_in config s0)) (file_by (initrd_name config.boot_source) s0)) have_is) in
    let missing : is_missing file ≡ false = there config len file have clear in
    let sized : Some len ≡ option_map length (get s3 path) =
    sym sl ∙ sz ∙ ap (λ (s : Saved). option_map length (get s path)) (sym (e3 ∙ e2 ∙ e1)) in
    let image_is : image_in config s0 ≡ Some image =
    ap (λ (b : Option BootSource). image_by b s0) eq
    ∙ ap (λ (p : List ℕ). get s0 p) (sym pe)
    ∙ ap (λ (s : Saved). get s path) (sym (e3 ∙ e2 ∙ e1))
    ∙ found (get s3 path) len image sized whole im in
    let disk_is : disk ≡ disk_in config s0 =
    dk (fe ∙ ap (file_by source.initrd_path) (sym (e4 ∙ e3 ∙ e2))) missing
    ∙ ap (λ (s : Saved). disk_by source.initrd_path s) (e4 ∙ e3 ∙ e2 ∙ e1)
    ∙ ap (λ (b : Option BootSource). disk_by (initrd_name b) s0) (sym eq) in
    let drives_is : given ≡ devices_from config s0 = ge ∙ de ∙ ap (devices_from config) (e2 ∙ e1) in
    let Made : List ℕ → Option (List ℕ) → List NewDevice → Type 0 = λ l d ds.
    IsWorld w (started config.machine.vcpu_count config.machine.mem_size_mib (loads_from config l d) ds) in (
      none,
      image,
      image_is,
      subst (λ (ds : List NewDevice). Made image (disk_in config s0) ds) drives_is
          (subst (λ (d : Option (List ℕ)). Made image d given) disk_is
          (subst (λ (l : List ℕ). Made l disk given) le wd)),
    )

-- ---- what isn't refused fits

fits_with : (mib image : ℕ) (len : Option ℕ) (disk : Option (List ℕ)) → loads_fit mib image len ≡ true
    → IfSome disk (λ bytes. len ≡ Some (length bytes)) → loads_fit mib image (option_map length disk) ≡ true
fits_with mib image len None fits sized =
    and_from (image_fits mib image) true (and_parts (image_fits mib image) (initrd_fits mib image len) fits).0 refl
fits_with mib image len (Some bytes) fits sized = subst (λ (l : Option ℕ). loads_fit mib image l ≡ true) sized fits

pub fits_here : (config : Config) (len : ℕ) (file : InitrdFile) (have : Bool) (image lent : List ℕ) (disk : Option (List ℕ))
    → None ≡ boot_refusal config (Some len) file have → length image ≡ len → lent ≡ image
    → IfSome disk (λ bytes. len_of file ≡ Some (length bytes))
    → loads_fit config.machine.mem_size_mib (length lent) (option_map length disk) ≡ true
fits_here config len file have image lent disk clear sized same whole =
    let mib : ℕ = config.machine.mem_size_mib in
    let fits =
    fits_last (is_none (Some len)) (is_missing file) (not have) (fits_by (Some len) file mib) refusal.NoSuchFile refusal.NoSuchFile
    refusal.NoSuchFile refusal.DoesNotFit (sym clear) in
    subst (λ (n : ℕ). loads_fit mib n (option_map length disk) ≡ true) (sym (ap (λ (l : List ℕ). length l) same ∙ sized))
    (fits_with mib len (len_of file) disk fits whole)

-- and the tree of what the API takes has room
pub has_room : (config : Config) (loads : Loads) (image : List ℕ) (disk : Option (List ℕ)) (place : Option InitrdPlace) → IsTaken config
    → loads.image ≡ image → loads.initrd ≡ disk → loads.tree ≡ tree_bytes config place
    → loads_fit config.machine.mem_size_mib (length image) (option_map length disk) ≡ true
    → have_room config.machine.mem_size_mib loads ≡ true
has_room config loads image disk place taken i d t fits =
    let mib : ℕ = config.machine.mem_size_mib in
    let within = bounded config taken in
    let small : length loads.tree ≤ tree_size =
    subst (λ (l : List ℕ). length l ≤ tree_size) (sym t) (tree_fits config place within.args within.harts within.drives) in
    and_from (loads_fit mib (length loads.image) (option_map length loads.initrd)) (nat_le (length loads.tree) tree_size)
    (subst (λ (l : List ℕ). loads_fit mib (length l) (option_map length loads.initrd) ≡ true) (sym i)
    (subst (λ (o : Option (List ℕ)). loads_fit mib (length image) (option_map length o) ≡ true) (sym d) fits))
    (le-leb (length loads.tree) tree_size small)
