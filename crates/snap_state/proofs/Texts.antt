-- A configuration in the fields of a file: what the API takes fits.
use Rattle.std.proofs.Common.{◌≡◌, ◌≤◌, ◌<◌, ◌^◌, ℕ, ◌==◌, ◌&&◌, not, nat_le, nat_lt, Bool, true, false, refl, arith, List, [], ◌∷◌, length, codes, Option, Some, None}
use Rattle.std.specs.Prelude.{IsUtf8, count_by}
use Rattle.std.specs.List.{All, list_all, list_any}
use Rattle.std.specs.Str.{is_utf8}
use Rattle.std.specs.Char.{is_ascii_hexdigit}
use Rattle.std.proofs.lemmas.Bool.{and_parts, eqb-true, leb-true, ltb-true}
use Rattle.std.proofs.lemmas.List.Elements.{All-cons, All-nil}
use Rattle.std.proofs.lemmas.Str.{IsUtf8-from_ascii, is_utf8-from_IsUtf8}
use Rattle.std.proofs.lemmas.Str.Ascii.{IsAscii-from_all}
use Rattle.file_format.specs.Kinds.{fixed, number64, optional, text}
use Rattle.file_format.proofs.Fitting.{fits64, fits_flag, fits_list, fits_optional, fits_text, fits_zeros}
use Rattle.api_calls.specs.declared.balloon.Balloon.{Balloon}
use Rattle.api_calls.specs.declared.call.CacheType.{CacheType}
use Rattle.api_calls.specs.declared.call.CacheType.TheVariants.{Unsafe, Writeback}
use Rattle.api_calls.specs.declared.call.Drive.{Drive}
use Rattle.api_calls.specs.declared.call.MachineConfig.{MachineConfig}
use Rattle.api_calls.specs.declared.interface.Interface.{Interface}
use Rattle.api_calls.specs.declared.vsock.Vsock.{Vsock}
use Rattle.api_calls.specs.declared.limiter.BucketConfig.{BucketConfig}
use Rattle.api_calls.specs.declared.limiter.Limiter.{Limiter}
use Rattle.api_calls.specs.declared.mmds.MmdsConfig.{MmdsConfig}
use Rattle.metadata_store.specs.declared.version.MetadataVersion.{MetadataVersion}
use Rattle.metadata_store.specs.declared.version.MetadataVersion.TheVariants.{V1, V2}
use Rattle.api_calls.specs.Addresses.{are_digits, are_pairs, is_mac, is_metadata_address, is_small_mac}
use Rattle.api_calls.specs.Drives.{is_root}
use Rattle.api_calls.specs.Form.{are_ids, has_path_bytes, holds, is_address, is_id, is_id_byte, is_path, is_short_text}
use Rattle.api_calls.specs.Limits.{is_bucket, is_limiter}
use Rattle.guest_memory.specs.Reserved.{hart_limit}
use Rattle.port_table.specs.Window.{most_ports}
use Rattle.snap_state.specs.declared.configuration.BootSource.{BootSource}
use Rattle.snap_state.specs.declared.configuration.Configuration.{Configuration}
use Rattle.snap_state.specs.Configured.{balloon, boot_source, configuration, vsock}
use Rattle.snap_state.specs.Drives.{cache, drive}
use Rattle.snap_state.specs.Interfaces.{interface}
use Rattle.snap_state.specs.Limits.{bucket, limiter}
use Rattle.snap_state.specs.Mmds.{mmds, version}
use Rattle.snap_state.specs.Valid.{are_drives, are_interfaces, are_paths, is_balloon, is_drive, is_interface, is_machine, is_mmds, is_source, is_vsock}
use Rattle.vm_config.specs.Drives.{id_of_drive}
use Rattle.vm_config.specs.Interfaces.{has_interface, id_of_interface}
use Rattle.vm_config.specs.Named.{are_apart}

-- ---- texts

-- what is a text is UTF-8
pub and_utf8 : (b : Bool) (t : List ℕ) → IsUtf8 t → b ≡ (b && is_utf8 t)
and_utf8 b t text = rw (is_utf8-from_IsUtf8 t text) (and_true b)
  where
    and_true : (b : Bool) → b ≡ (b && true)
    and_true true = refl
    and_true false = refl

pub path_short : (t : List ℕ) → is_path t ≡ true → length t ≤ 4095
path_short t is =
    let bytes = (and_parts (has_path_bytes t) (is_utf8 t) is).0 in
    let p1 = and_parts _ (not (list_any (λ (b : ℕ). b == 0) t)) bytes in
    leb-true (length t) 4095 (and_parts (nat_lt 0 (length t)) (nat_le (length t) 4095) p1.0).1

path_fits : (t : List ℕ) → is_path t ≡ true → text.Fits t
path_fits t is =
    let short = path_short t is in
    fits_text t (omega (arith, short)) (and_parts (has_path_bytes t) (is_utf8 t) is).1

paths_fit : (o : Option (List ℕ)) → are_paths o ≡ true → (optional text).Fits o
paths_fit None is = fits_optional text None tt
paths_fit (Some t) is = fits_optional text (Some t) (path_fits t is)

id_ascii : (b : ℕ) → is_id_byte b ≡ true → b < 128
id_ascii b is = grind (arith, is)

pub all_ascii : (t : List ℕ) → list_all is_id_byte t ≡ true → All (λ (b : ℕ). b < 128) t
all_ascii [] is = All-nil (λ (b : ℕ). b < 128)
all_ascii (b ∷ t) is =
    let p = and_parts (is_id_byte b) (list_all is_id_byte t) is in
    All-cons (λ (b : ℕ). b < 128) b t (id_ascii b p.0) (all_ascii t p.1)

pub id_short : (t : List ℕ) → is_id t ≡ true → length t ≤ 64
id_short t is =
    let p1 = and_parts _ (list_all is_id_byte t) is in
    leb-true (length t) 64 (and_parts (nat_lt 0 (length t)) (nat_le (length t) 64) p1.0).1

id_fits : (t : List ℕ) → is_id t ≡ true → text.Fits t
id_fits t is =
    let short = id_short t is in
    let p1 = and_parts _ (list_all is_id_byte t) is in
    fits_text t (omega (arith, short)) (is_utf8-from_IsUtf8 t (IsUtf8-from_ascii t (IsAscii-from_all t (all_ascii t p1.1))))

-- ---- the limits of a drive

module _ (b : BucketConfig) (is : is_bucket b ≡ true) where
  pub bucket_parts : (b.size < 2 ^ 48) × (b.refill_time < 2 ^ 32) × (holds (λ (n : ℕ). nat_lt n (2 ^ 48)) b.one_time_burst ≡ true)
  bucket_parts =
      let p1 = and_parts _ (holds (λ (n : ℕ). nat_lt n (2 ^ 48)) b.one_time_burst) is in
      let p0 = and_parts (nat_lt b.size (2 ^ 48)) (nat_lt b.refill_time (2 ^ 32)) p1.0 in
      (ltb-true b.size (2 ^ 48) p0.0, ltb-true b.refill_time (2 ^ 32) p0.1, p1.1)

  bucket_fits : bucket.Fits b
  unfolding bucket
  bucket_fits =
      let size = bucket_parts.0 in
      let time = bucket_parts.1 in
      (fits64 b.size (omega (arith, size)), (fits64 b.refill_time (omega (arith, time)), burst_fits b.one_time_burst bucket_parts.2))
    where
      burst_fits : (o : Option ℕ) → holds (λ (n : ℕ). nat_lt n (2 ^ 48)) o ≡ true → (optional number64).Fits o
      burst_fits None small = fits_optional number64 None tt
      burst_fits (Some n) small =
          let few = ltb-true n (2 ^ 48) small in
          fits_optional number64 (Some n) (fits64 n (omega (arith, few)))

buckets_fit : (o : Option BucketConfig) → holds is_bucket o ≡ true → (optional bucket).Fits o
buckets_fit None is = fits_optional bucket None tt
buckets_fit (Some b) is = fits_optional bucket (Some b) (bucket_fits b is)

limiter_fits : (l : Limiter) → is_limiter l ≡ true → limiter.Fits l
unfolding limiter
limiter_fits l is =
    let p = and_parts (holds is_bucket l.bandwidth) (holds is_bucket l.ops) is in
    (buckets_fit l.bandwidth p.0, buckets_fit l.ops p.1)

pub limiters_fit : (o : Option Limiter) → holds is_limiter o ≡ true → (optional limiter).Fits o
limiters_fit None is = fits_optional limiter None tt
limiters_fit (Some l) is = fits_optional limiter (Some l) (limiter_fits l is)

-- ---- a drive

cache_fits : (it : CacheType) → cache.Fits it
unfolding cache
cache_fits Unsafe = (id_fits (codes "Unsafe") refl, refl)
cache_fits Writeback = (id_fits (codes "Writeback") refl, refl)

-- what a drive is asked
pub record IsDrive (d : Drive) : Type 0 where
  pub id : is_id d.drive_id ≡ true
  pub path : is_path d.path_on_host ≡ true
  pub limits : holds is_limiter d.rate_limiter ≡ true

pub drive_parts : (d : Drive) → is_drive d ≡ true → IsDrive d
drive_parts d is =
    let p1 = and_parts _ (holds is_limiter d.rate_limiter) is in
    let p0 = and_parts (is_id d.drive_id) (is_path d.path_on_host) p1.0 in
    record { id = p0.0; path = p0.1; limits = p1.1 }

drive_fits : (d : Drive) → is_drive d ≡ true → drive.Fits d
unfolding drive
drive_fits d is =
    let own = drive_parts d is in (
      id_fits d.drive_id own.id,
      (
        path_fits d.path_on_host own.path,
        (
          fits_flag d.is_root_device,
          (fits_flag d.is_read_only, (cache_fits d.cache_type, limiters_fit d.rate_limiter own.limits)),
        ),
      ),
    )

each_fits : (ds : List Drive) → list_all is_drive ds ≡ true → All drive.Fits ds
each_fits [] are = All-nil drive.Fits
each_fits (d ∷ ds) are =
    let p = and_parts (is_drive d) (list_all is_drive ds) are in
    All-cons drive.Fits d ds (drive_fits d p.0) (each_fits ds p.1)

pub record Drives (ds : List Drive) : Type 0 where
  pub few : length ds ≤ most_ports
  pub each : list_all is_drive ds ≡ true

pub drives_of : (ds : List Drive) → are_drives ds ≡ true → Drives ds
drives_of ds are =
    let d2 = and_parts _ (nat_le (count_by is_root ds) 1) are in
    let d1 = and_parts _ (are_apart id_of_drive ds) d2.0 in
    let d0 = and_parts (nat_le (length ds) most_ports) (list_all is_drive ds) d1.0 in
    record { few = leb-true _ _ d0.0; each = d0.1 }

-- ---- an interface

abbrev IsAsciiByte : ℕ → Type 0
IsAsciiByte b = b < 128

digit_ascii : (b : ℕ) → is_ascii_hexdigit b ≡ true → IsAsciiByte b
digit_ascii b is = grind (arith, is)

digits_ascii : (a b : ℕ) (t : List ℕ) → are_digits a b ≡ true → All IsAsciiByte t → All IsAsciiByte (a ∷ b ∷ t)
digits_ascii a b t are rest =
    let both = and_parts (is_ascii_hexdigit a) (is_ascii_hexdigit b) are in
    All-cons IsAsciiByte a (b ∷ t) (digit_ascii a both.0) (All-cons IsAsciiByte b t (digit_ascii b both.1) rest)

pairs_ascii : (t : List ℕ) → are_pairs t ≡ true → All IsAsciiByte t
pairs_ascii [] are = absurd (cc)
pairs_ascii (a ∷ []) are = absurd (cc)
pairs_ascii (a ∷ b ∷ []) are = digits_ascii a b [] are (All-nil IsAsciiByte)
pairs_ascii (a ∷ b ∷ c ∷ t) are =
    let more = and_parts _ (are_pairs t) are in
    let first = and_parts (are_digits a b) (c == 58) more.0 in
    let colon = eqb-true c 58 first.1 in
    digits_ascii a b (c ∷ t) first.0 (All-cons IsAsciiByte c t (omega (arith, colon)) (pairs_ascii t more.1))

macs_fit : (o : Option (List ℕ)) → holds is_small_mac o ≡ true → (optional text).Fits o
macs_fit None is = fits_optional text None tt
macs_fit (Some t) is =
    let mac = and_parts (length t == 17) (are_pairs t) (and_parts (is_mac t) _ is).0 in
    let long = eqb-true (length t) 17 mac.0 in
    fits_optional text (Some t)
    (fits_text t (omega (arith, long)) (is_utf8-from_IsUtf8 t (IsUtf8-from_ascii t (IsAscii-from_all t (pairs_ascii t mac.1)))))

-- what an interface is asked
pub record IsInterface (i : Interface) : Type 0 where
  pub id : is_id i.iface_id ≡ true
  pub link : is_path i.host_dev_name ≡ true
  pub mac : holds is_small_mac i.guest_mac ≡ true
  pub receives : holds is_limiter i.rx_rate_limiter ≡ true
  pub transmits : holds is_limiter i.tx_rate_limiter ≡ true

pub interface_parts : (i : Interface) → is_interface i ≡ true → IsInterface i
interface_parts i is =
    let p3 = and_parts _ (holds is_limiter i.tx_rate_limiter) is in
    let p2 = and_parts _ (holds is_limiter i.rx_rate_limiter) p3.0 in
    let p1 = and_parts _ (holds is_small_mac i.guest_mac) p2.0 in
    let p0 = and_parts (is_id i.iface_id) (is_path i.host_dev_name) p1.0 in
    record { id = p0.0; link = p0.1; mac = p1.1; receives = p2.1; transmits = p3.1 }

interface_fits : (i : Interface) → is_interface i ≡ true → interface.Fits i
unfolding interface
interface_fits i is =
    let own = interface_parts i is in (
      id_fits i.iface_id own.id,
      (
        path_fits i.host_dev_name own.link,
        (macs_fit i.guest_mac own.mac, (limiters_fit i.rx_rate_limiter own.receives, limiters_fit i.tx_rate_limiter own.transmits)),
      ),
    )

links_fit : (is : List Interface) → list_all is_interface is ≡ true → All interface.Fits is
links_fit [] are = All-nil interface.Fits
links_fit (i ∷ is) are =
    let p = and_parts (is_interface i) (list_all is_interface is) are in
    All-cons interface.Fits i is (interface_fits i p.0) (links_fit is p.1)

pub links_of : (is : List Interface) → are_interfaces is ≡ true → list_all is_interface is ≡ true
links_of is are = (and_parts (list_all is_interface is) (are_apart id_of_interface is) are).0

-- ---- all of it

pub args_short : (b : BootSource) → is_source b ≡ true → length b.boot_args ≤ 2048
args_short b is =
    leb-true _ _ (and_parts (nat_le (length b.boot_args) 2048) (is_utf8 b.boot_args) (and_parts _ (is_short_text 2048 b.boot_args) is).1).0

source_fits : (b : BootSource) → is_source b ≡ true → boot_source.Fits b
unfolding boot_source
source_fits b is =
    let p1 = and_parts _ (is_short_text 2048 b.boot_args) is in
    let p0 = and_parts (is_path b.kernel_image_path) (are_paths b.initrd_path) p1.0 in
    let short = args_short b is in (
      path_fits b.kernel_image_path p0.0,
      (
        paths_fit b.initrd_path p0.1,
        fits_text b.boot_args (omega (arith, short)) (and_parts _ (is_utf8 b.boot_args) p1.1).1,
      ),
    )

pub record Machine (m : MachineConfig) : Type 0 where
  pub harts : m.vcpu_count ≤ hart_limit
  pub mib : m.mem_size_mib ≤ 4096

pub machine_of : (m : MachineConfig) → is_machine m ≡ true → Machine m
machine_of m is =
    let large = and_parts _ (nat_le m.mem_size_mib 4096) is in
    let some = and_parts _ (nat_le 4 m.mem_size_mib) large.0 in
    let few = and_parts (nat_le 1 m.vcpu_count) (nat_le m.vcpu_count hart_limit) some.0 in
    record { harts = leb-true _ _ few.1; mib = leb-true _ _ large.1 }

vsock_fits : (v : Vsock) → is_vsock v ≡ true → vsock.Fits v
unfolding vsock
vsock_fits v is =
    let p1 = and_parts _ (is_path v.uds_path) is in
    let cid = ltb-true v.guest_cid 4294967295 (and_parts (nat_le 3 v.guest_cid) (nat_lt v.guest_cid 4294967295) p1.0).1 in
    (fits64 v.guest_cid (omega (arith, cid)), path_fits v.uds_path p1.1)

vsocks_fit : (o : Option Vsock) → holds is_vsock o ≡ true → (optional vsock).Fits o
vsocks_fit None is = fits_optional vsock None tt
vsocks_fit (Some v) is = fits_optional vsock (Some v) (vsock_fits v is)

-- ---- where metadata are given

version_fits : (it : MetadataVersion) → version.Fits it
unfolding version
version_fits V1 = (id_fits (codes "V1") refl, refl)
version_fits V2 = (id_fits (codes "V2") refl, refl)

-- what is asked of it
pub record IsMmds (interfaces : List Interface) (m : MmdsConfig) : Type 0 where
  pub ids : are_ids m.network_interfaces ≡ true
  pub there : list_all (has_interface interfaces) m.network_interfaces ≡ true
  pub place : is_address m.ipv4_address ≡ true

pub mmds_parts : (interfaces : List Interface) (m : MmdsConfig) → is_mmds interfaces m ≡ true → IsMmds interfaces m
mmds_parts interfaces m is =
    let p1 = and_parts _ (is_address m.ipv4_address) is in
    let p0 = and_parts (are_ids m.network_interfaces) (list_all (has_interface interfaces) m.network_interfaces) p1.0 in
    record { ids = p0.0; there = p0.1; place = p1.1 }

-- at most 16 of them
pub ids_few : (ids : List (List ℕ)) → are_ids ids ≡ true → (length ids ≤ 16) × (list_all is_id ids ≡ true)
ids_few ids are =
    let p1 = and_parts _ (list_all is_id ids) are in
    (leb-true (length ids) 16 (and_parts (nat_lt 0 (length ids)) (nat_le (length ids) 16) p1.0).1, p1.1)

-- at most 15 bytes
pub address_short : (t : List ℕ) → is_address t ≡ true → (length t ≤ 15) × (is_utf8 t ≡ true)
address_short t is =
    let short = and_parts (is_short_text 15 t) (is_metadata_address t) is in
    let both = and_parts (nat_le (length t) 15) (is_utf8 t) short.0 in
    (leb-true (length t) 15 both.0, both.1)

ids_fit : (ids : List (List ℕ)) → list_all is_id ids ≡ true → All text.Fits ids
ids_fit [] are = All-nil text.Fits
ids_fit (id ∷ ids) are =
    let p = and_parts (is_id id) (list_all is_id ids) are in
    All-cons text.Fits id ids (id_fits id p.0) (ids_fit ids p.1)

mmds_fits : (interfaces : List Interface) (m : MmdsConfig) → is_mmds interfaces m ≡ true → mmds.Fits m
unfolding mmds
mmds_fits interfaces m is =
    let own = mmds_parts interfaces m is in
    let few = ids_few m.network_interfaces own.ids in
    let place = address_short m.ipv4_address own.place in (
      fits_list text m.network_interfaces (omega (arith, few.0)) (ids_fit m.network_interfaces few.1),
      (version_fits m.version, fits_text m.ipv4_address (omega (arith, place.0)) place.1),
    )

mmds_fit : (interfaces : List Interface) (o : Option MmdsConfig) → holds (is_mmds interfaces) o ≡ true → (optional mmds).Fits o
mmds_fit interfaces None is = fits_optional mmds None tt
mmds_fit interfaces (Some m) is = fits_optional mmds (Some m) (mmds_fits interfaces m is)

balloon_fits : (mib : ℕ) (b : Balloon) → mib ≤ 4096 → is_balloon mib b ≡ true → balloon.Fits b
unfolding balloon
balloon_fits mib b few is =
    let p = and_parts (nat_le b.amount_mib mib) (nat_lt b.stats_polling_interval_s (2 ^ 16)) is in
    let amount = leb-true b.amount_mib mib p.0 in
    let interval = ltb-true b.stats_polling_interval_s (2 ^ 16) p.1 in (
      fits64 b.amount_mib (omega (arith, few, amount)),
      (fits_flag b.deflate_on_oom, fits64 b.stats_polling_interval_s (omega (arith, interval))),
    )

balloons_fit : (mib : ℕ) (o : Option Balloon) → mib ≤ 4096 → holds (is_balloon mib) o ≡ true → (optional balloon).Fits o
balloons_fit mib None few is = fits_optional balloon None tt
balloons_fit mib (Some b) few is = fits_optional balloon (Some b) (balloon_fits mib b few is)

front_fits : (fixed (1 ∷ [])).Fits tt
unfolding fixed
front_fits = refl

pub configuration_fits : (c : Configuration) → is_source c.boot_source ≡ true → are_drives c.drives ≡ true
    → are_interfaces c.interfaces ≡ true → length c.interfaces ≤ most_ports → holds is_vsock c.vsock ≡ true
    → holds (is_mmds c.interfaces) c.mmds ≡ true → is_machine c.machine ≡ true → holds (is_balloon c.machine.mem_size_mib) c.balloon ≡ true
    → configuration.Fits c
unfolding configuration
configuration_fits c source drives interfaces links sockets given machine balloons =
    let ds = drives_of c.drives drives in
    let few = ds.few in
    let m = machine_of c.machine machine in
    let harts = m.harts in
    let mib = m.mib in (
      (
        front_fits,
        (
          source_fits c.boot_source source,
          (
            fits_list drive c.drives (omega (arith, few)) (each_fits c.drives ds.each),
            (fits_list interface c.interfaces (omega (arith, links)) (links_fit c.interfaces (links_of c.interfaces interfaces)), vsocks_fit c.vsock sockets),
          ),
        ),
      ),
      (
        fits64 c.machine.vcpu_count (omega (arith, harts)),
        (
          fits64 c.machine.mem_size_mib (omega (arith, mib)),
          (
            fits_zeros 1,
            (
              fits_flag c.machine.track_dirty_pages,
              (balloons_fit c.machine.mem_size_mib c.balloon mib balloons, mmds_fit c.interfaces c.mmds given),
            ),
          ),
        ),
      ),
    )
