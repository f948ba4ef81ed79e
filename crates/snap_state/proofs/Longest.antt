-- A state file has at most 2^29 bytes, by the rules of a copy.
use Rattle.std.proofs.Common.{◌≡◌, ℕ, zero, suc, ◌+◌, ◌*◌, ◌≤◌, ◌<◌, ◌^◌, Bool, true, false, ◌&&◌, ◌||◌, eqb, ltb, leb, if◌then◌else◌, List, [], ◌∷◌, ◌++◌, length, length-append, Option, Some, None, refl, sym, ap, arith, subst, codes}
use Rattle.std.proofs.lemmas.Bool.{and_parts, eqb-true, leb-true, ltb-true}
use Rattle.std.proofs.lemmas.Option.{option_and_then_some}
use Rattle.std.proofs.lemmas.Slice.Eq.{bytes_eq-Decides}
use Rattle.std.specs.List.{list_all, list_any}
use Rattle.std.specs.Str.{bytes_eq}
use Rattle.vm_types.specs.declared.identity.Identity.{Identity}
use Rattle.api_calls.specs.declared.call.CacheType.{CacheType}
use Rattle.api_calls.specs.declared.call.CacheType.TheVariants.{Unsafe, Writeback}
use Rattle.api_calls.specs.declared.call.Drive.{Drive}
use Rattle.api_calls.specs.declared.entropy.Entropy.{Entropy}
use Rattle.api_calls.specs.declared.interface.Interface.{Interface}
use Rattle.api_calls.specs.declared.mmds.MmdsConfig.{MmdsConfig}
use Rattle.metadata_store.specs.declared.version.MetadataVersion.{MetadataVersion}
use Rattle.metadata_store.specs.declared.version.MetadataVersion.TheVariants.{V1, V2}
use Rattle.api_calls.specs.declared.vsock.Vsock.{Vsock}
use Rattle.api_calls.specs.Addresses.{are_pairs, is_mac, is_small_mac}
use Rattle.api_calls.specs.Form.{holds, is_id, is_path, is_short_text}
use Rattle.api_calls.specs.Limits.{is_limiter}
use Rattle.vm_config.specs.Devices.{count_in}
use Rattle.vm_config.specs.Interfaces.{id_of_interface}
use Rattle.vm_config.specs.Named.{are_apart}
use Rattle.guest_devices.specs.Moments.{is_timely}
use Rattle.file_format.specs.Kinds.{fixed, flag, number16, number32, number64, text}
use Rattle.file_format.specs.Identities.{identity}
use Rattle.file_format.specs.Ends.{listed}
use Rattle.file_format.specs.Whole.{counted}
use Rattle.port_table.specs.declared.state.PortState.{PortState}
use Rattle.snap_devices.specs.Ports.{port}
use Rattle.snap_devices.specs.Devices.{device}
use Rattle.snap_state.specs.declared.board.SavedBoard.{SavedBoard}
use Rattle.snap_state.specs.declared.configuration.BootSource.{BootSource}
use Rattle.snap_state.specs.declared.configuration.Configuration.{Configuration}
use Rattle.snap_state.specs.declared.copy.Reservation.{Reservation}
use Rattle.snap_state.specs.declared.sections.Section.{Section}
use Rattle.snap_state.specs.declared.sections.Section.TheVariants as section
use Rattle.snap_state.specs.declared.copy.StateCopy.{StateCopy}
use Rattle.snap_state.specs.Boards.{board}
use Rattle.snap_state.specs.Configured as kept
use Rattle.snap_state.specs.Copies as copies
use Rattle.snap_state.specs.Drives as drives
use Rattle.snap_state.specs.Interfaces as interfaces
use Rattle.snap_state.specs.Limits as limits
use Rattle.snap_state.specs.Mmds as mmds
use Rattle.snap_state.specs.Sections.{are_sections, configured, entropy_in, is_offering, offering_bytes, sections_of}
use Rattle.file_format.specs.declared.version.Version.{Version}
use Rattle.file_format.specs.declared.version.Version.TheVariants.{One, Two}
use Rattle.snap_state.specs.Files as state
use Rattle.snap_harts.specs.Harts.{hart}
use Rattle.snap_harts.specs.HartStates.{hart_state}
use Rattle.snap_state.specs.Valid.{are_drives, are_interfaces, are_paths, has_devices, has_machine, has_room, is_balloon, is_before, is_board, is_drive, is_entropy, is_interface, is_machine, is_mmds, is_reserved, is_rising, is_source, is_valid, is_vsock, rises_from}
use Rattle.snap_state.proofs.HasDevices.{has_parts, many_devices, many_ports}
use Rattle.snap_state.proofs.Sectioned.{offering_short, section_most, sections_known, tagged_most}
use Rattle.snap_state.proofs.Texts.{address_short, args_short, id_short, ids_few, mmds_parts, path_short}
use Rattle.snap_state.proofs.Sizes.{device_within, hart_state_within, hart_within, port_within}
use Rattle.file_format.proofs.Within.{Within, any_within, within16, within32, within64, flag_within, zeros_within, constant_within, just_within, pair_within, made_within, passing_within, optional_most, optional_within, total, total-pass, list_within, each_within, counted_within, listed_within, bytes_within, text_within}

-- ---- the configuration

abbrev source_most : BootSource → ℕ
source_most b = (4 + length b.kernel_image_path) + (optional_most (λ path. 4 + length path) b.initrd_path + (4 + length b.boot_args))

source_within : Within kept.boot_source.reads source_most
unfolding kept.boot_source
source_within = made_within _ source_most (λ a. omega arith) (pair_within text_within (pair_within (optional_within text text_within) text_within))

cache_takes : (name : List ℕ) (first second : Bool) (left : List ℕ) (v : CacheType) (rest : List ℕ)
    → bytes_eq name (codes "Unsafe") ≡ first → bytes_eq name (codes "Writeback") ≡ second
    → (drives.only (if first then Some Unsafe else (if second then Some Writeback else None))).reads left ≡ Some (v, rest)
    → length name + length left ≤ 9 + length rest
cache_takes name true second left v rest is other reads =
    omega (arith, ap length ((bytes_eq-Decides name (codes "Unsafe")).0 is), (just_within Unsafe 0).at left v rest reads)
cache_takes name false true left v rest other is reads =
    omega (arith, ap length ((bytes_eq-Decides name (codes "Writeback")).0 is), (just_within Writeback 0).at left v rest reads)
cache_takes name false false left v rest other another reads = absurd cc

cache_within : Within drives.cache.reads (λ _. 13)
unfolding drives.cache
cache_within = record {
  at = λ given v rest is.
      option_and_then_some (λ (x : List ℕ × List ℕ). (drives.only (drives.cache_named x.0)).reads x.1) (text.reads given) (v, rest) is
      (λ x ex ey. omega (arith, text_within.at given x.0 x.1 ex, cache_takes x.0 _ _ x.1 v rest refl refl ey));
}

bucket_within : Within limits.bucket.reads (λ _. 25)
unfolding limits.bucket
bucket_within =
    made_within _ (λ _. 25) (λ a. omega arith) (pair_within within64 (pair_within within64 (any_within 8 number64 within64)))

limiter_within : Within limits.limiter.reads (λ _. 52)
unfolding limits.limiter
limiter_within =
    made_within _ (λ _. 52) (λ a. omega arith)
    (pair_within (any_within 25 limits.bucket bucket_within) (any_within 25 limits.bucket bucket_within))

abbrev drive_most : Drive → ℕ
drive_most d = (4 + length d.drive_id) + ((4 + length d.path_on_host) + 68)

drive_within : Within drives.drive.reads drive_most
unfolding drives.drive
drive_within =
    made_within _ drive_most (λ a. omega arith)
    (pair_within text_within (pair_within text_within (pair_within flag_within (pair_within flag_within (pair_within cache_within (any_within 52 limits.limiter limiter_within))))))

abbrev interface_most : Interface → ℕ
interface_most i = (4 + length i.iface_id) + ((4 + length i.host_dev_name) + (optional_most (λ mac. 4 + length mac) i.guest_mac + 106))

interface_within : Within interfaces.interface.reads interface_most
unfolding interfaces.interface
interface_within =
    made_within _ interface_most (λ a. omega arith)
    (pair_within text_within (pair_within text_within (pair_within (optional_within text text_within)
    (pair_within (any_within 52 limits.limiter limiter_within) (any_within 52 limits.limiter limiter_within)))))

version_takes : (name : List ℕ) (first second : Bool) (left : List ℕ) (v : MetadataVersion) (rest : List ℕ)
    → bytes_eq name (codes "V1") ≡ first → bytes_eq name (codes "V2") ≡ second
    → (mmds.only (if first then Some V1 else (if second then Some V2 else None))).reads left ≡ Some (v, rest)
    → length name + length left ≤ 2 + length rest
version_takes name true second left v rest is other reads =
    omega (arith, ap length ((bytes_eq-Decides name (codes "V1")).0 is), (just_within V1 0).at left v rest reads)
version_takes name false true left v rest other is reads =
    omega (arith, ap length ((bytes_eq-Decides name (codes "V2")).0 is), (just_within V2 0).at left v rest reads)
version_takes name false false left v rest other another reads = absurd cc

version_within : Within mmds.version.reads (λ _. 6)
unfolding mmds.version
version_within = record {
  at = λ given v rest is.
      option_and_then_some (λ (x : List ℕ × List ℕ). (mmds.only (mmds.version_named x.0)).reads x.1) (text.reads given) (v, rest) is
      (λ x ex ey. omega (arith, text_within.at given x.0 x.1 ex, version_takes x.0 _ _ x.1 v rest refl refl ey));
}

abbrev mmds_most : MmdsConfig → ℕ
mmds_most m = (4 + total (λ id. 4 + length id) m.network_interfaces) + (6 + (4 + length m.ipv4_address))

mmds_within : Within mmds.mmds.reads mmds_most
unfolding mmds.mmds
mmds_within =
    made_within _ mmds_most (λ a. omega arith) (pair_within (list_within text text_within) (pair_within version_within text_within))

abbrev vsock_most : Vsock → ℕ
vsock_most v = 8 + (4 + length v.uds_path)

vsock_within : Within kept.vsock.reads vsock_most
unfolding kept.vsock
vsock_within = made_within _ vsock_most (λ a. omega arith) (pair_within within64 text_within)

abbrev configuration_most : Configuration → ℕ
configuration_most c =
    (1
    + (source_most c.boot_source
    + ((4 + total drive_most c.drives) + ((4 + total interface_most c.interfaces) + optional_most vsock_most c.vsock))))
    + (36 + optional_most mmds_most c.mmds)

fixed_within : (expected : List ℕ) → Within (fixed expected).reads (λ _. length expected)
unfolding fixed
fixed_within expected = constant_within expected _ (length expected) (omega arith)

balloon_within : Within kept.balloon.reads (λ _. 17)
unfolding kept.balloon
balloon_within = made_within _ (λ _. 17) (λ a. omega arith) (pair_within within64 (pair_within flag_within within64))

configuration_within : Within kept.configuration.reads configuration_most
unfolding kept.configuration
configuration_within =
    made_within _ configuration_most (λ a. omega arith)
    (pair_within
    (pair_within (fixed_within (1 ∷ [])) (pair_within source_within (pair_within (list_within drives.drive drive_within)
    (pair_within (list_within interfaces.interface interface_within) (optional_within kept.vsock vsock_within)))))
    (pair_within within64 (pair_within within64 (pair_within (zeros_within 1)
    (pair_within flag_within (pair_within (any_within 17 kept.balloon balloon_within) (optional_within mmds.mmds mmds_within)))))))

-- ---- the copy

abbrev board_most : SavedBoard → ℕ
board_most b =
    2 + ((4 + 2 * length b.enables) + ((4 + 1 * length b.software) + ((4 + 8 * length b.deadlines) + ((4 + 17 * length b.states) + (4 + length b.console)))))

board_within : Within board.reads board_most
unfolding board
board_within =
    made_within _ board_most (λ a. omega arith)
    (pair_within within16
    (pair_within (each_within 2 number16 within16)
    (pair_within (each_within 1 flag flag_within)
    (pair_within (each_within 8 number64 within64)
    (pair_within (each_within 17 hart_state hart_state_within) bytes_within)))))

reservation_within : Within copies.reservation.reads (λ _. 12)
unfolding copies.reservation
reservation_within = made_within _ _ (λ a. omega arith) (pair_within within32 (pair_within within32 within32))

few_devices : Within copies.devices.reads (λ ds. 4 + 30722 * length ds)
unfolding copies.devices
few_devices =
    passing_within _ (λ ds. 4 + 30722 * length ds) (λ v is. omega arith)
    (each_within 30722 (listed device) (listed_within 30718 device device_within))

abbrev copy_most : StateCopy → ℕ
copy_most c =
    (configuration_most c.configuration + 13)
    + (board_most c.board
    + ((4 + 328 * length c.harts)
    + ((4 + 153 * length c.ports) + ((4 + 30722 * length c.devices) + ((4 + 12 * length c.reservations) + (4 + total section_most c.sections))))))

pub entropy_within : Within copies.entropy.reads (λ _. 53)
unfolding copies.entropy
entropy_within = made_within _ (λ _. 53) (λ a. omega arith) (any_within 52 limits.limiter limiter_within)

tagged_within : (tag : ℕ) → Within (copies.tagged tag).reads tagged_most
tagged_within zero = record { at = λ given v rest is. absurd cc }
tagged_within (suc zero) = made_within section.Offering tagged_most (λ a. omega arith) bytes_within
tagged_within (suc (suc zero)) = record { at = λ given v rest is. absurd cc }
tagged_within (suc (suc (suc zero))) = made_within section.Entropy tagged_most (λ a. omega arith) (counted_within 53 copies.entropy entropy_within)
tagged_within (suc (suc (suc (suc n)))) = record { at = λ given v rest is. absurd cc }

section_within : Within copies.section.reads section_most
unfolding copies.section
section_within = record {
  at = λ given v rest is.
      option_and_then_some (λ (x : ℕ × List ℕ). (copies.tagged x.0).reads x.1) (number32.reads given) (v, rest) is
      (λ x ex ey. omega (arith, within32.at given x.0 x.1 ex, (tagged_within x.0).at x.1 v rest ey));
}

sections_within : (v : Version) → Within (copies.sections_in v).reads (λ sections. 4 + total section_most sections)
unfolding copies.sections_in
sections_within One = record { at = λ given v rest is. omega (arith, (just_within [] 0).at given v rest is) }
sections_within Two = list_within copies.section section_within

copy_within : (v : Version) → Within (copies.state_copy v).reads copy_most
unfolding copies.state_copy
copy_within v =
    made_within _ copy_most (λ a. omega arith)
    (pair_within
    (pair_within configuration_within (pair_within within32 (pair_within flag_within within64)))
    (pair_within board_within
    (pair_within (each_within 328 hart hart_within)
    (pair_within (each_within 153 (counted port) (counted_within 149 port port_within))
    (pair_within few_devices (pair_within (each_within 12 copies.reservation reservation_within) (sections_within v)))))))

identity_within : Within identity.reads (λ _. 16)
unfolding identity
identity_within = made_within _ _ (λ a. omega arith) (pair_within within64 within64)

pub contents_within : (v : Version) → Within (state.contents v).reads (λ r. 4 + (16 + copy_most r.1.1))
contents_within v = pair_within within32 (pair_within identity_within (copy_within v))

-- ---- reservations: one for a page and a hart, in their order

-- where a reservation stands in that order, among those of 32 harts
abbrev key : Reservation → ℕ
key r = 32 * r.page + r.hart

is_in : (pages harts : ℕ) (r : Reservation) → is_reserved pages harts r ≡ true → (r.page < pages) × (r.hart < harts)
is_in pages harts r is =
    let first = and_parts (ltb r.page pages) (ltb r.hart harts) (and_parts _ _ (and_parts _ _ is).0).0 in
    (ltb-true _ _ first.0, ltb-true _ _ first.1)

before_by : (a b : Reservation) (lower same : Bool) → ltb a.page b.page ≡ lower → eqb a.page b.page ≡ same
    → (lower || (same && ltb a.hart b.hart)) ≡ true → a.hart < 32 → key a < key b
before_by a b true same is also before low = omega (arith, low, ltb-true a.page b.page is)
before_by a b false true is also before low = omega (arith, eqb-true a.page b.page also, ltb-true a.hart b.hart before)
before_by a b false false is also before low = absurd cc

rising_few : (pages harts : ℕ) → harts ≤ 32 → (a : Reservation) (others : List Reservation) → is_reserved pages harts a ≡ true
    → list_all (is_reserved pages harts) others ≡ true → rises_from a others ≡ true → key a + length others < 32 * pages
rising_few pages harts few a [] is all rises =
    let at = is_in pages harts a is in
    omega (arith, few, at.0, at.1)
rising_few pages harts few a (b ∷ others) is all rises =
    let here = is_in pages harts a is in
    let next = and_parts (is_reserved pages harts b) (list_all (is_reserved pages harts) others) all in
    let rest = and_parts (is_before a b) (rises_from b others) rises in
    omega (arith, before_by a b _ _ refl refl rest.0 (omega (arith, few, here.1)), rising_few pages harts few b others next.0 next.1 rest.1)

few_reservations : (pages harts : ℕ) → harts ≤ 32 → (rs : List Reservation) → list_all (is_reserved pages harts) rs ≡ true
    → is_rising rs ≡ true → length rs ≤ 32 * pages
few_reservations pages harts few [] all rises = omega arith
few_reservations pages harts few (a ∷ others) all rises =
    let first = and_parts (is_reserved pages harts a) (list_all (is_reserved pages harts) others) all in
    omega (arith, rising_few pages harts few a others first.0 first.1 rises)

-- ---- the other rules, part by part

paths_short : (path : Option (List ℕ)) → are_paths path ≡ true → optional_most (λ p. 4 + length p) path ≤ 4100
paths_short None is = omega arith
paths_short (Some path) is = omega (arith, path_short path is)

source_short : (b : BootSource) → is_source b ≡ true → source_most b ≤ 10251
source_short b is =
    let parts = and_parts _ (is_short_text 2048 b.boot_args) is in
    let paths = and_parts (is_path b.kernel_image_path) (are_paths b.initrd_path) parts.0 in
    omega (arith, args_short b is, path_short b.kernel_image_path paths.0, paths_short b.initrd_path paths.1)

drive_short : (d : Drive) → is_drive d ≡ true → drive_most d ≤ 4235
drive_short d is =
    let named = and_parts _ (holds is_limiter d.rate_limiter) is in
    let parts = and_parts (is_id d.drive_id) (is_path d.path_on_host) named.0 in
    omega (arith, id_short d.drive_id parts.0, path_short d.path_on_host parts.1)

drives_short : (ds : List Drive) → are_drives ds ≡ true → (length ds ≤ 16) × (total drive_most ds ≤ 4235 * length ds)
drives_short ds is =
    let parts = and_parts (leb (length ds) 16) (list_all is_drive ds) (and_parts _ _ (and_parts _ _ is).0).0 in
    (leb-true _ _ parts.0, total-pass drive_most is_drive 4235 drive_short ds parts.1)

mac_short : (mac : Option (List ℕ)) → holds is_small_mac mac ≡ true → optional_most (λ m. 4 + length m) mac ≤ 22
mac_short None is = omega arith
mac_short (Some mac) is =
    let long = and_parts (eqb (length mac) 17) (are_pairs mac) (and_parts (is_mac mac) _ is).0 in
    omega (arith, eqb-true _ _ long.0)

interface_short : (i : Interface) → is_interface i ≡ true → interface_most i ≤ 4295
interface_short i is =
    let sends = and_parts _ (holds is_limiter i.tx_rate_limiter) is in
    let receives = and_parts _ (holds is_limiter i.rx_rate_limiter) sends.0 in
    let address = and_parts _ (holds is_small_mac i.guest_mac) receives.0 in
    let parts = and_parts (is_id i.iface_id) (is_path i.host_dev_name) address.0 in
    omega (arith, id_short i.iface_id parts.0, path_short i.host_dev_name parts.1, mac_short i.guest_mac address.1)

interfaces_short : (is : List Interface) → are_interfaces is ≡ true → total interface_most is ≤ 4295 * length is
interfaces_short is all =
    let parts = and_parts (list_all is_interface is) (are_apart id_of_interface is) all in
    total-pass interface_most is_interface 4295 interface_short is parts.0

vsock_short : (v : Option Vsock) → holds is_vsock v ≡ true → optional_most vsock_most v ≤ 4108
vsock_short None is = omega arith
vsock_short (Some v) is = omega (arith, path_short v.uds_path (and_parts _ (is_path v.uds_path) is).1)

mmds_short : (interfaces : List Interface) (o : Option MmdsConfig) → holds (is_mmds interfaces) o ≡ true → optional_most mmds_most o ≤ 1118
mmds_short interfaces None is = omega arith
mmds_short interfaces (Some m) is =
    let own = mmds_parts interfaces m is in
    let few = ids_few m.network_interfaces own.ids in
    omega (
      arith,
      few.0,
      total-pass (λ (id : List ℕ). 4 + length id) is_id 68 (λ id named. omega (arith, id_short id named)) m.network_interfaces few.1,
      (address_short m.ipv4_address own.place).0,
    )

board_short : (harts : ℕ) (b : SavedBoard) → harts ≤ 32 → is_board harts b ≡ true → board_most b ≤ 5014
board_short harts b few is =
    let console = and_parts _ (leb (length b.console) 4096) is in
    let states = and_parts _ (eqb (length b.states) harts) console.0 in
    let deadlines = and_parts _ (eqb (length b.deadlines) harts) states.0 in
    let both = and_parts (eqb (length b.enables) harts) (eqb (length b.software) harts) deadlines.0 in
    omega (arith, few, leb-true _ _ console.1, eqb-true _ _ states.1, eqb-true _ _ deadlines.1, eqb-true _ _ both.0, eqb-true _ _ both.1)

machine_small : (c : StateCopy) → has_machine c c.configuration.machine ≡ true → (c.configuration.machine.vcpu_count ≤ 32) × (c.pages ≤ 1048576)
machine_small c is =
    let m = c.configuration.machine in
    let both = and_parts (is_machine m) (eqb c.pages (256 * m.mem_size_mib)) (and_parts _ _ is).0 in
    let most = and_parts _ (leb m.mem_size_mib 4096) both.0 in
    let least = and_parts _ (leb 4 m.mem_size_mib) most.0 in
    let harts = and_parts _ (leb m.vcpu_count 32) least.0 in
    (leb-true _ _ harts.1, omega (arith, eqb-true _ _ both.1, leb-true _ _ most.1))

devices_few : (c : StateCopy) → has_devices c ≡ true → has_room c.configuration.drives c.configuration.interfaces c.configuration.vsock c.configuration.balloon (entropy_in c.sections) ≡ true
    → (length c.ports ≤ 16) × (length c.devices ≤ 16) × (length c.configuration.interfaces ≤ 16)
devices_few c is room =
    let has = has_parts c is in
    let few = leb-true (count_in c.configuration.drives c.configuration.interfaces c.configuration.vsock c.configuration.balloon (entropy_in c.sections)) 16 room in
    let ports = many_ports c has in
    let devices = many_devices c has in
    (omega (arith, few, ports), omega (arith, few, devices), omega (arith, few))

-- ---- sections

sections_short : (ports : List PortState) (e : Option Entropy) → total section_most (sections_of ports e) ≤ 73 + length ports
sections_short ports e = by (list_any is_offering ports) e
  where
    by : (there : Bool) (o : Option Entropy)
        → total section_most ((if there then section.Offering (offering_bytes ports) ∷ [] else []) ++ configured o) ≤ 73 + length ports
    by true None = omega (arith, offering_short ports)
    by true (Some x) = omega (arith, offering_short ports)
    by false None = omega arith
    by false (Some x) = omega arith

known_short : (ports : List PortState) (sections : List Section) → are_sections ports sections ≡ true
    → total section_most sections ≤ 73 + length ports
known_short ports sections is =
    subst (λ (s : List Section). total section_most s ≤ 73 + length ports) (sym (sections_known ports sections is))
    (sections_short ports (entropy_in sections))

-- ---- all of it

copy_short : (c : StateCopy) → is_valid c ≡ true → copy_most c ≤ 536870784
unfolding is_valid
copy_short c is =
    let harts_there = c.configuration.machine.vcpu_count in
    let taken = and_parts _ (holds is_entropy (entropy_in c.sections)) is in
    let timely = and_parts _ (list_all (is_timely c.guest_time) c.devices) taken.0 in
    let known = and_parts _ (are_sections c.ports c.sections) timely.0 in
    let rising = and_parts _ (is_rising c.reservations) known.0 in
    let reserved = and_parts _ (list_all (is_reserved c.pages harts_there) c.reservations) rising.0 in
    let devices = and_parts _ (has_devices c) reserved.0 in
    let harts = and_parts _ _ devices.0 in
    let count = and_parts _ (eqb (length c.harts) harts_there) harts.0 in
    let boards = and_parts _ (is_board harts_there c.board) count.0 in
    let room = and_parts _ (has_room c.configuration.drives c.configuration.interfaces c.configuration.vsock c.configuration.balloon (entropy_in c.sections)) boards.0 in
    let balloons = and_parts _ (holds (is_balloon c.configuration.machine.mem_size_mib) c.configuration.balloon) room.0 in
    let machine = and_parts _ (has_machine c c.configuration.machine) balloons.0 in
    let given = and_parts _ (holds (is_mmds c.configuration.interfaces) c.configuration.mmds) machine.0 in
    let sockets = and_parts _ (holds is_vsock c.configuration.vsock) given.0 in
    let linked = and_parts _ (are_interfaces c.configuration.interfaces) sockets.0 in
    let configured = and_parts (is_source c.configuration.boot_source) (are_drives c.configuration.drives) linked.0 in
    let small = machine_small c machine.1 in
    let few = devices_few c devices.1 room.1 in
    let drives = drives_short c.configuration.drives configured.1 in
    omega (
      arith,
      source_short c.configuration.boot_source configured.0,
      drives.0,
      drives.1,
      small.0,
      small.1,
      interfaces_short c.configuration.interfaces linked.1,
      vsock_short c.configuration.vsock sockets.1,
      mmds_short c.configuration.interfaces c.configuration.mmds given.1,
      few.0,
      few.1,
      few.2,
      board_short harts_there c.board small.0 boards.1,
      eqb-true _ _ count.1,
      known_short c.ports c.sections known.1,
      few_reservations c.pages harts_there small.0 c.reservations reserved.1 rising.1,
    )

-- the length of a body fits 32 bits
pub body_short : (v : Version) (c : StateCopy) → (copies.state_copy v).Fits c → is_valid c ≡ true
    → length ((copies.state_copy v).bytes c) < 2 ^ 32
body_short v c fits valid =
    let body = (copies.state_copy v).bytes c in
    let takes = (copy_within v).at (body ++ []) c [] ((copies.state_copy v).again c [] fits) in
    omega (arith, takes, copy_short c valid, length-append {A = ℕ} body [])

-- what is behind gate and magic of a file that is accepted
pub accepted_short : (v : Version) (rest : List ℕ) (read : (ℕ × (Identity × StateCopy)) × List ℕ) → (state.contents v).reads rest ≡ Some read
    → state.is_accepted (length rest) (length read.1) read.0.0 read.0.1.0 read.0.1.1 ≡ true → length rest ≤ 536870804
accepted_short v rest read reads is =
    let valid = and_parts _ (is_valid read.0.1.1) is in
    let counted = and_parts (eqb (length read.1) 0) (eqb (read.0.0 + 20) (length rest)) (and_parts _ _ valid.0).0 in
    omega (arith, (contents_within v).at rest read.0 read.1 reads, copy_short read.0.1.1 valid.1, eqb-true _ _ counted.0)
