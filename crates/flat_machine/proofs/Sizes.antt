-- How much memory a start makes, how large the disks of its drives are, and that what isn't refused fits.
use Rattle.std.proofs.Common.{◌≡◌, ◌≤◌, ◌<◌, ℕ, ◌+◌, ◌-◌, ◌^◌, Bool, true, false, not, if◌then◌else◌, get_or, refl, subst, ◌∙◌, List, length, replicate, Option, Some, None, arith}
use Rattle.std.specs.Prelude.{is_none, option_map}
use Rattle.std.specs.FinMap.{get}
use Rattle.std.specs.List.{All}
use Rattle.std.proofs.lemmas.Bool.{and_parts, leb-true}
use Rattle.std.proofs.lemmas.List.{length-replicate}
use Rattle.std.proofs.lemmas.List.Elements.{All-map}
use Rattle.vm_types.specs.Saved.{Saved}
use Rattle.refusals.specs.declared.refusal.Refusal.{Refusal}
use Rattle.refusals.specs.declared.refusal.Refusal.TheVariants as refusal
use Rattle.vm_config.specs.declared.config.Config.{Config}
use Rattle.vm_config.specs.Devices.{Configured, devices_of, of_balloon, of_drive, of_entropy, of_interface, of_vsock}
use Rattle.api_rules.specs.Table.{fits_by, is_missing, len_of}
use Rattle.api_rules.specs.declared.actions.InitrdFile.{InitrdFile}
use Rattle.guest_memory.specs.Memory.{put_at}
use Rattle.guest_memory.specs.Ram.{ram_start}
use Rattle.guest_memory.specs.Boot.{Loads, boot_memory, bytes_of_mib, image_fits, image_offset, image_start, initrd_fits, initrd_start, laid, loads_fit, tree_size, tree_start, with_initrd}
use Rattle.guest_memory.proofs.Keeping.{put_long}
use Rattle.guest_devices.specs.Devices.{FitsNew}
use Rattle.devtree.proofs.Sizes.{tree_fits}
use Rattle.flat_machine.specs.Machine.{Machine}
use Rattle.flat_machine.specs.Requests.{disk_by, disk_of, device_from, devices_from, file_by, file_with, have_files, image_of, initrd_name, loads_from, initrd_place, sectors_of, start_refusal}
use Rattle.flat_machine.proofs.Taken.{IsBounded}

-- ---- memory

image_room : (size image n : ℕ) → n ≡ size → image_offset + image + tree_size ≤ size → image_offset + image ≤ n
image_room size image n whole room = omega (arith, whole, room)

initrd_room : (mib image len n : ℕ) → n ≡ bytes_of_mib mib → image_offset + image + tree_size ≤ bytes_of_mib mib
    → image_start + image ≤ initrd_start mib len → initrd_start mib len - ram_start + len ≤ n
initrd_room mib image len n whole room above = omega (arith, whole, room, above)

tree_room : (mib image len n : ℕ) → n ≡ bytes_of_mib mib → image_offset + image + tree_size ≤ bytes_of_mib mib → len ≤ tree_size
    → tree_start mib - ram_start + len ≤ n
tree_room mib image len n whole room small = omega (arith, whole, room, small)

length-initrd : (mib image : ℕ) (initrd : Option (List ℕ)) (bytes : List ℕ) → length bytes ≡ bytes_of_mib mib
    → image_offset + image + tree_size ≤ bytes_of_mib mib → initrd_fits mib image (option_map length initrd) ≡ true
    → length (with_initrd mib initrd bytes) ≡ length bytes
length-initrd mib image None bytes whole room low = refl
length-initrd mib image (Some initrd) bytes whole room low =
    let above = leb-true (image_start + image) (initrd_start mib (length initrd)) low in
    put_long bytes initrd (initrd_start mib (length initrd) - ram_start)
    (initrd_room mib image (length initrd) (length bytes) whole room above)

length-laid : (mib : ℕ) (loads : Loads) (bytes : List ℕ) → length bytes ≡ bytes_of_mib mib
    → loads_fit mib (length loads.image) (option_map length loads.initrd) ≡ true → length loads.tree ≤ tree_size
    → length (laid mib loads bytes) ≡ bytes_of_mib mib
length-laid mib loads bytes whole fit small =
    let len : ℕ = length loads.image in
    let fits = and_parts (image_fits mib len) (initrd_fits mib len (option_map length loads.initrd)) fit in
    let room = leb-true (image_offset + len + tree_size) (bytes_of_mib mib) fits.0 in
    let imaged : List ℕ = put_at bytes image_offset loads.image in
    let first = put_long bytes loads.image image_offset (image_room (bytes_of_mib mib) len (length bytes) whole room) ∙ whole in
    let filled : List ℕ = with_initrd mib loads.initrd imaged in
    let second = length-initrd mib len loads.initrd imaged first room fits.1 ∙ first in
    put_long filled loads.tree (tree_start mib - ram_start) (tree_room mib len (length loads.tree) (length filled) second room small)
    ∙ second

length-booted : (mib : ℕ) (loads : Loads) → loads_fit mib (length loads.image) (option_map length loads.initrd) ≡ true
    → length loads.tree ≤ tree_size → length (boot_memory mib loads).bytes ≡ bytes_of_mib mib
length-booted mib loads fit small =
    length-laid mib loads (replicate (bytes_of_mib mib) 0) (length-replicate {A = ℕ} (bytes_of_mib mib) 0) fit small

-- of what a start loads as it is configured
pub booted_size : (config : Config) (image : List ℕ) (disk : Option (List ℕ)) → IsBounded config
    → loads_fit config.machine.mem_size_mib (length image) (option_map length disk) ≡ true
    → length (boot_memory config.machine.mem_size_mib (loads_from config image disk)).bytes ≡ bytes_of_mib config.machine.mem_size_mib
booted_size config image disk within fit =
    length-booted config.machine.mem_size_mib (loads_from config image disk) fit
    (tree_fits config (initrd_place config.machine.mem_size_mib disk) within.args within.harts within.drives)

-- ---- disks

pub few_sectors : (file : Option (List ℕ)) → sectors_of file < 2 ^ 64
few_sectors None = omega arith
few_sectors (Some bytes) = omega arith

device_fits : (saved : Saved) (d : Configured) → FitsNew (device_from saved d)
device_fits saved (of_drive d) = few_sectors (get saved d.path_on_host)
device_fits saved (of_interface i) = tt
device_fits saved (of_vsock v) = tt
device_fits saved (of_balloon b) = tt
device_fits saved (of_entropy e) = tt

pub devices_fit : (config : Config) (saved : Saved) → All FitsNew (devices_from config saved)
devices_fit config saved =
    All-map FitsNew (device_from saved) (devices_of config) (λ k d lt. device_fits saved (get_or (devices_of config) k d))

-- ---- what isn't refused

-- what isn't refused by its files fits
pub fits_last : (first second third fits : Bool) (why because last late : Refusal)
    → (if first then Some why else (if second then Some because else (if third then Some last else (if not fits then Some late else None))))
    ≡ None → fits ≡ true
fits_last true second third fits why because last late none = absurd cc
fits_last false true third fits why because last late none = absurd cc
fits_last false false true fits why because last late none = absurd cc
fits_last false false false true why because last late none = refl
fits_last false false false false why because last late none = absurd cc

disk_len : (name : Option (List ℕ)) (saved : Saved) → len_of (file_by name saved) ≡ option_map length (disk_by name saved)
disk_len None saved = refl
disk_len (Some name) saved = by_file (get saved name)
  where
    by_file : (file : Option (List ℕ)) → len_of (file_with (option_map length file)) ≡ option_map length file
    by_file None = refl
    by_file (Some bytes) = refl

pub start_fits : (m : Machine) (image : List ℕ) → start_refusal m.config m.saved ≡ None → image_of m ≡ Some image
    → loads_fit m.config.machine.mem_size_mib (length image) (option_map length (disk_of m)) ≡ true
start_fits m image none there =
    let name : Option (List ℕ) = initrd_name m.config.boot_source in
    let file : InitrdFile = file_by name m.saved in
    let fits =
    fits_last (is_none (option_map length (image_of m))) (is_missing file) (not (have_files m.config.drives m.saved))
    (fits_by (option_map length (image_of m)) file m.config.machine.mem_size_mib) refusal.NoSuchFile refusal.NoSuchFile refusal.NoSuchFile
    refusal.DoesNotFit none in
    let known : loads_fit m.config.machine.mem_size_mib (length image) (len_of file) ≡ true
    = subst (λ (o : Option (List ℕ)). fits_by (option_map length o) file m.config.machine.mem_size_mib ≡ true) there fits in
    subst (λ (len : Option ℕ). loads_fit m.config.machine.mem_size_mib (length image) len ≡ true) (disk_len name m.saved) known
