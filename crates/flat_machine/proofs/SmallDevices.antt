-- What is configured gives devices numbers of their widths: at a start, and by what a PATCH tells them.
use Rattle.std.proofs.Common.{◌≡◌, ◌≤◌, ◌<◌, ◌*◌, ◌+◌, ◌^◌, ◌++◌, ◌||◌, ℕ, zero, suc, nat_eq, nat_le, nat_lt, Bool, true, false, not, if◌then◌else◌, refl, List, [], ◌∷◌, drop, length, map, replicate, Option, Some, None, slice_get, arith, length-append}
use Rattle.std.specs.Prelude.{IfSome, option_and_then, option_map, unwrap_or}
use Rattle.std.specs.FinMap.{get}
use Rattle.std.specs.List.{All, filter, list_all}
use Rattle.std.proofs.lemmas.Bool.{and_from, and_parts, le-leb, lt-ltb, ltb-true}
use Rattle.std.proofs.lemmas.List.{length-replicate, length-take-le}
use Rattle.std.proofs.lemmas.List.Elements.{All-append, All-cons, All-drop, All-filter, All-map, All-nil, All-replicate, All-take}
use Rattle.vm_types.specs.Saved.{Saved}
use Rattle.le_fields.specs.Fields.{IsByte, bytes_of}
use Rattle.le_fields.proofs.Values.{all_bytes}
use Rattle.file_format.proofs.Fitting.{every}
use Rattle.token_bucket.specs.Kept.{Kept}
use Rattle.token_bucket.specs.Rate.{rate_of}
use Rattle.port_table.specs.declared.state.PortState.{PortState}
use Rattle.api_calls.specs.declared.balloon.Balloon.{Balloon}
use Rattle.api_calls.specs.declared.call.Drive.{Drive}
use Rattle.api_calls.specs.declared.entropy.Entropy.{Entropy}
use Rattle.api_calls.specs.declared.interface.Interface.{Interface}
use Rattle.api_calls.specs.declared.interface.InterfacePatch.{InterfacePatch}
use Rattle.api_calls.specs.declared.limiter.BucketConfig.{BucketConfig}
use Rattle.api_calls.specs.declared.limiter.Limiter.{Limiter}
use Rattle.api_calls.specs.declared.vsock.Vsock.{Vsock}
use Rattle.api_calls.specs.Drives.{is_root}
use Rattle.api_calls.specs.Form.{holds, is_id_byte, is_path}
use Rattle.api_calls.specs.Limits.{is_bucket, is_limiter}
use Rattle.vm_config.specs.declared.config.Config.{Config}
use Rattle.vm_config.specs.Devices.{Configured, balloon_devices, devices_of, entropy_devices, lone_devices, of_balloon, of_drive, of_entropy, of_interface, of_vsock, vsock_devices}
use Rattle.vm_config.specs.Drives.{in_order}
use Rattle.rate_gate.specs.Small.{AreSmallLimits, AreSmallOthers, IsSmallBucket}
use Rattle.vsock_device.specs.Small.{IsSmallConnection}
use Rattle.balloon_device.proofs.SmallEntries.{none_small}
use Rattle.guest_devices.specs.declared.change.DeviceChange.{DeviceChange}
use Rattle.guest_devices.specs.declared.new_device.NewDevice.TheVariants as kinds
use Rattle.guest_devices.specs.Kinds.{FitsChange, IsSmallChange, sectors_change}
use Rattle.guest_devices.specs.Narrow.{IsNarrowNew}
use Rattle.flat_guest.specs.Guest.{Guest}
use Rattle.flat_guest.specs.Narrow as narrow
use Rattle.flat_guest.proofs.Savable.{AreShown, get_all}
use Rattle.flat_guest.specs.Savable.{IsSizedPort}
use Rattle.flat_guest.proofs.Widths.{widths_told}
use Rattle.snap_state.specs.Valid.{is_balloon, is_drive, is_entropy, is_interface, is_vsock}
use Rattle.snap_state.proofs.Texts.{all_ascii, bucket_parts, drive_parts, drives_of, interface_parts, links_of}
use Rattle.flat_machine.specs.Balloon.{interval_told, new_balloon, target_in, target_of}
use Rattle.flat_machine.specs.Entropy.{new_entropy}
use Rattle.flat_machine.specs.Interfaces.{new_net}
use Rattle.flat_machine.specs.Vsock.{new_vsock}
use Rattle.flat_machine.specs.Limits.{bucket_of, limits_of, limits_told, receives_told, transmits_told}
use Rattle.flat_machine.specs.Ready.{IsTaken}
use Rattle.flat_machine.specs.Requests.{device_from, devices_from, drive_from, relimited, resized, retargeted, retimed, sectors_of, shows_by, told_at}
use Rattle.flat_machine.specs.Widths.{WidthsBy}
use Rattle.flat_machine.proofs.Sizes.{few_sectors}

-- ---- limits

some_of : (n : ℕ) → nat_eq n 0 ≡ false → 0 < n
some_of zero is = absurd cc
some_of (suc n) is = omega arith

-- a new one
abbrev bucket_with : ℕ → ℕ → ℕ → Kept
bucket_with size burst ms = record { rate = rate_of size ms; burst = burst; owes = 0; moment = 0 }

with_small : (size burst ms : ℕ) → 0 < size → size < 2 ^ 48 → ms < 2 ^ 32 → burst < 2 ^ 64 → IsSmallBucket (bucket_with size burst ms)
with_small size burst ms some few short low =
    let debt : ℕ = size * (ms * 1000000) + 2 ^ 127 in
    record {
      kept =
          and_from _ (nat_le 0 debt)
          (and_from _ (nat_lt (ms * 1000000) (2 ^ 52))
          (and_from (nat_lt 0 size) (nat_lt size (2 ^ 48)) (lt-ltb 0 size some) (lt-ltb size (2 ^ 48) few))
          (lt-ltb (ms * 1000000) (2 ^ 52) (omega (arith, short))))
          (le-leb 0 debt (omega arith));
      burst = low;
      moment = omega arith;
    }

bucket_by : (size burst ms : ℕ) (none other : Bool) → nat_eq size 0 ≡ none → size < 2 ^ 48 → ms < 2 ^ 32 → burst < 2 ^ 64
    → IfSome (if none || other then None else Some (bucket_with size burst ms)) IsSmallBucket
bucket_by size burst ms true other is few short low = tt
bucket_by size burst ms false true is few short low = tt
bucket_by size burst ms false false is few short low = with_small size burst ms (some_of size is) few short low

burst_small : (o : Option ℕ) → holds (λ (n : ℕ). nat_lt n (2 ^ 48)) o ≡ true → unwrap_or o 0 < 2 ^ 64
burst_small None is = omega arith
burst_small (Some n) is = let few = ltb-true n (2 ^ 48) is in omega (arith, few)

bucket_small : (b : BucketConfig) → is_bucket b ≡ true → IfSome (bucket_of b) IsSmallBucket
bucket_small b is =
    let own = bucket_parts b is in
    bucket_by b.size (unwrap_or b.one_time_burst 0) b.refill_time (nat_eq b.size 0) (nat_eq b.refill_time 0) refl own.0 own.1
    (burst_small b.one_time_burst own.2)

buckets_small : (o : Option BucketConfig) → holds is_bucket o ≡ true → IfSome (option_and_then bucket_of o) IsSmallBucket
buckets_small None is = tt
buckets_small (Some b) is = bucket_small b is

limits_small : (o : Option Limiter) → holds is_limiter o ≡ true → AreSmallLimits (limits_of o)
limits_small None is = (tt, tt)
limits_small (Some l) is =
    let both = and_parts (holds is_bucket l.bandwidth) (holds is_bucket l.ops) is in
    (buckets_small l.bandwidth both.0, buckets_small l.ops both.1)

others_small : (o : Option BucketConfig) → holds is_bucket o ≡ true → AreSmallOthers (option_map bucket_of o)
others_small None is = tt
others_small (Some b) is = bucket_small b is

-- and in all three places
both_small : (l : Limiter) → is_limiter l ≡ true → AreSmallOthers (option_map bucket_of l.bandwidth) × AreSmallOthers (option_map bucket_of l.ops)
both_small l is =
    let both = and_parts (holds is_bucket l.bandwidth) (holds is_bucket l.ops) is in
    (others_small l.bandwidth both.0, others_small l.ops both.1)

-- ---- devices at a start

-- an id is ASCII
byte_of : (b : ℕ) → b < 128 → IsByte b
byte_of b small = omega (arith, small)

drive_narrow : (saved : Saved) (d : Drive) → is_drive d ≡ true → IsNarrowNew (drive_from saved d)
drive_narrow saved d is =
    let own = drive_parts d is in
    let ascii = all_ascii d.drive_id (and_parts _ (list_all is_id_byte d.drive_id) own.id).1 in
    let bytes = every (λ (b : ℕ). b < 128) IsByte d.drive_id byte_of ascii in
    let zeros : List ℕ = replicate 20 0 in
    let long : 20 ≤ length (d.drive_id ++ zeros) = omega (arith, length-append d.drive_id zeros, length-replicate {A = ℕ} 20 0) in (
      few_sectors (get saved d.path_on_host),
      λ yes. (
        length-take-le 20 (d.drive_id ++ zeros) long,
        All-take IsByte 20 (d.drive_id ++ zeros)
            (All-append IsByte d.drive_id zeros bytes (All-replicate IsByte 20 0 (omega arith))),
        limits_small d.rate_limiter own.limits,
      ),
    )

interval_small : (mib : ℕ) (b : Balloon) → is_balloon mib b ≡ true → b.stats_polling_interval_s < 2 ^ 16
interval_small mib b is =
    ltb-true b.stats_polling_interval_s (2 ^ 16)
    (and_parts (nat_le b.amount_mib mib) (nat_lt b.stats_polling_interval_s (2 ^ 16)) is).1

balloon_narrow : (mib : ℕ) (b : Balloon) → is_balloon mib b ≡ true → IsNarrowNew (kinds.Balloon (new_balloon b))
balloon_narrow mib b is = λ yes. record { interval = interval_small mib b is; last = omega arith; statistics = none_small }

drives_all : (drives : List Drive) → list_all is_drive drives ≡ true → All (λ (d : Drive). is_drive d ≡ true) drives
drives_all [] are = All-nil (λ (d : Drive). is_drive d ≡ true)
drives_all (d ∷ drives) are =
    let both = and_parts (is_drive d) (list_all is_drive drives) are in
    All-cons (λ (d : Drive). is_drive d ≡ true) d drives both.0 (drives_all drives both.1)

drives_narrow : (saved : Saved) (drives : List Drive) → list_all is_drive drives ≡ true
    → All (λ (d : Drive). IsNarrowNew (drive_from saved d)) (in_order drives)
drives_narrow saved drives are =
    let all = drives_all drives are in
    let P : Drive → Type 0 = λ d. is_drive d ≡ true in
    let ordered = All-append P (filter is_root drives) (filter (λ d. not (is_root d)) drives)
    (All-filter is_root P drives all) (All-filter (λ d. not (is_root d)) P drives all) in
    every P (λ (d : Drive). IsNarrowNew (drive_from saved d)) (in_order drives) (drive_narrow saved) ordered

interface_narrow : (i : Interface) → is_interface i ≡ true → IsNarrowNew (kinds.Net (new_net i))
interface_narrow i is =
    let own = interface_parts i is in
    λ yes. record {
      text = (omega arith, All-nil IsByte, refl);
      rx = limits_small i.rx_rate_limiter own.receives;
      tx = limits_small i.tx_rate_limiter own.transmits;
    }

interfaces_narrow : (saved : Saved) (interfaces : List Interface) → list_all is_interface interfaces ≡ true
    → All (λ (i : Interface). IsNarrowNew (device_from saved (of_interface i))) interfaces
interfaces_narrow saved [] are = All-nil (λ (i : Interface). IsNarrowNew (device_from saved (of_interface i)))
interfaces_narrow saved (i ∷ interfaces) are =
    let both = and_parts (is_interface i) (list_all is_interface interfaces) are in
    All-cons (λ (i : Interface). IsNarrowNew (device_from saved (of_interface i))) i interfaces (interface_narrow i both.0)
    (interfaces_narrow saved interfaces both.1)

vsock_narrow : (v : Vsock) → is_vsock v ≡ true → IsNarrowNew (kinds.Vsock (new_vsock v))
vsock_narrow v is =
    let named = and_parts _ (is_path v.uds_path) is in
    let cid = ltb-true v.guest_cid 4294967295 (and_parts (nat_le 3 v.guest_cid) (nat_lt v.guest_cid 4294967295) named.0).1 in
    λ yes. record {
      guest_cid = omega (arith, cid);
      next_port = omega arith;
      connections = All-nil IsSmallConnection;
      answer = tt;
      held = tt;
      in_hand = tt;
    }

vsocks_narrow : (saved : Saved) (vsock : Option Vsock) → holds is_vsock vsock ≡ true
    → All (λ (c : Configured). IsNarrowNew (device_from saved c)) (vsock_devices vsock)
vsocks_narrow saved None is = All-nil (λ (c : Configured). IsNarrowNew (device_from saved c))
vsocks_narrow saved (Some v) is =
    let P : Configured → Type 0 = λ c. IsNarrowNew (device_from saved c) in
    All-cons P (of_vsock v) [] (vsock_narrow v is) (All-nil P)

balloons_narrow : (saved : Saved) (mib : ℕ) (balloon : Option Balloon) → holds (is_balloon mib) balloon ≡ true
    → All (λ (c : Configured). IsNarrowNew (device_from saved c)) (balloon_devices balloon)
balloons_narrow saved mib None is = All-nil (λ (c : Configured). IsNarrowNew (device_from saved c))
balloons_narrow saved mib (Some b) is =
    let P : Configured → Type 0 = λ c. IsNarrowNew (device_from saved c) in
    All-cons P (of_balloon b) [] (balloon_narrow mib b is) (All-nil P)

entropy_narrow : (e : Entropy) → is_entropy e ≡ true → IsNarrowNew (kinds.Entropy (new_entropy e))
entropy_narrow e is = λ yes. limits_small e.rate_limiter is

entropies_narrow : (saved : Saved) (entropy : Option Entropy) → holds is_entropy entropy ≡ true
    → All (λ (c : Configured). IsNarrowNew (device_from saved c)) (entropy_devices entropy)
entropies_narrow saved None is = All-nil (λ (c : Configured). IsNarrowNew (device_from saved c))
entropies_narrow saved (Some e) is =
    let P : Configured → Type 0 = λ c. IsNarrowNew (device_from saved c) in
    All-cons P (of_entropy e) [] (entropy_narrow e is) (All-nil P)

pub devices_narrow : (config : Config) (saved : Saved) → IsTaken config → All IsNarrowNew (devices_from config saved)
devices_narrow config saved taken =
    let P : Configured → Type 0 = λ c. IsNarrowNew (device_from saved c) in
    let drives = drives_narrow saved config.drives (drives_of config.drives taken.drives).each in
    let interfaces = interfaces_narrow saved config.interfaces (links_of config.interfaces taken.interfaces) in
    let balloon = balloons_narrow saved config.machine.mem_size_mib config.balloon taken.balloon in
    All-map IsNarrowNew (device_from saved) (devices_of config)
    (All-append P (map of_drive (in_order config.drives))
    (map of_interface config.interfaces ++ lone_devices config.vsock config.balloon config.entropy)
    (All-map P of_drive (in_order config.drives) drives)
    (All-append P (map of_interface config.interfaces) (lone_devices config.vsock config.balloon config.entropy)
    (All-map P of_interface config.interfaces interfaces)
    (All-append P (vsock_devices config.vsock) (balloon_devices config.balloon ++ entropy_devices config.entropy)
    (vsocks_narrow saved config.vsock taken.vsock)
    (All-append P (balloon_devices config.balloon) (entropy_devices config.entropy) balloon
    (entropies_narrow saved config.entropy taken.entropy)))))

-- ---- what a PATCH tells

-- a port's bytes are bytes
abbrev HasBytes : Option PortState → Type 0
HasBytes port = (p : PortState) → port ≡ Some p → All IsByte p.config

target_small : (b : Balloon) (port : Option PortState) → HasBytes port → AreShown (target_in b port)
target_small b None bytes = tt
target_small b (Some p) bytes =
    All-append IsByte (bytes_of 4 (target_of b)) (drop 4 p.config) (all_bytes 4 (target_of b)) (All-drop IsByte 4 p.config (bytes p refl))

port_bytes : (pages harts : ℕ) (g : Guest) (k : ℕ) → narrow.HasWidths pages harts g → HasBytes (slice_get g.ports k)
port_bytes pages harts g k is p there =
    let kept = get_all IsSizedPort g.ports k p there is.savable.ports in
    kept.sized.bytes

module _ (saved : Saved) (config : Config) (few : 256 * config.machine.mem_size_mib ≤ 2 ^ 20) where
  told_small : (number : Option ℕ) (change : DeviceChange) (shows : Option PortState → Option (List ℕ)) (guest : Option Guest)
      → FitsChange change → IsSmallChange change → ((port : Option PortState) → HasBytes port → AreShown (shows port))
      → WidthsBy saved config guest → WidthsBy saved config (told_at number change shows guest)
  told_small (Some k) change shows (Some g) fits small shown is =
      widths_told _ _ few g is k change (shows (slice_get g.ports k)) fits small
      (shown (slice_get g.ports k) (port_bytes _ _ g k is))
  told_small (Some k) change shows None fits small shown is = is
  told_small None change shows (Some g) fits small shown is = is
  told_small None change shows None fits small shown is = is

  pub resized_small : (path : Option (List ℕ)) (number : Option ℕ) (guest : Option Guest) → WidthsBy saved config guest
      → WidthsBy saved config (resized path number saved guest)
  resized_small None number guest is = is
  resized_small (Some path) number guest is =
      let sectors : ℕ = sectors_of (get saved path) in
      told_small number (sectors_change sectors) (shows_by (sectors_change sectors)) guest (few_sectors (get saved path)) tt
      (λ port bytes. all_bytes 8 sectors) is

  -- other limits, told so
  relimits_small : (tells : Limiter → DeviceChange) → ((l : Limiter) → FitsChange (tells l))
      → ((l : Limiter) → is_limiter l ≡ true → IsSmallChange (tells l)) → ((l : Limiter) (port : Option PortState) → AreShown (shows_by (tells l) port))
      → (limiter : Option Limiter) (number : Option ℕ) (guest : Option Guest) → holds is_limiter limiter ≡ true
      → WidthsBy saved config guest → WidthsBy saved config (relimited tells limiter number guest)
  relimits_small tells fit small shown None number guest fits is = is
  relimits_small tells fit small shown (Some l) number guest fits is =
      told_small number (tells l) (shows_by (tells l)) guest (fit l) (small l fits) (λ port bytes. shown l port) is

  pub relimited_small : (limiter : Option Limiter) (number : Option ℕ) (guest : Option Guest) → holds is_limiter limiter ≡ true
      → WidthsBy saved config guest → WidthsBy saved config (relimited limits_told limiter number guest)
  relimited_small limiter number guest fits is = relimits_small limits_told (λ l. tt) both_small (λ l port. tt) limiter number guest fits is

  pub interface_small : (patch : InterfacePatch) (number : Option ℕ) (guest : Option Guest) → holds is_limiter patch.rx_rate_limiter ≡ true
      → holds is_limiter patch.tx_rate_limiter ≡ true → WidthsBy saved config guest
      → WidthsBy saved config
      (relimited transmits_told patch.tx_rate_limiter number (relimited receives_told patch.rx_rate_limiter number guest))
  interface_small patch number guest receives transmits is =
      relimits_small transmits_told (λ l. tt) both_small (λ l port. tt) patch.tx_rate_limiter number
      (relimited receives_told patch.rx_rate_limiter number guest) transmits
      (relimits_small receives_told (λ l. tt) both_small (λ l port. tt) patch.rx_rate_limiter number guest receives is)

  pub retargeted_small : (balloon : Option Balloon) (number : Option ℕ) (guest : Option Guest)
      → holds (is_balloon config.machine.mem_size_mib) balloon ≡ true → WidthsBy saved config guest
      → WidthsBy saved config (retargeted balloon number guest)
  retargeted_small None number guest fits is = is
  retargeted_small (Some b) number guest fits is =
      told_small number (interval_told b) (target_in b) guest tt (interval_small config.machine.mem_size_mib b fits) (target_small b) is

  pub retimed_small : (balloon : Option Balloon) (number : Option ℕ) (guest : Option Guest)
      → holds (is_balloon config.machine.mem_size_mib) balloon ≡ true → WidthsBy saved config guest
      → WidthsBy saved config (retimed balloon number guest)
  retimed_small None number guest fits is = is
  retimed_small (Some b) number guest fits is =
      told_small number (interval_told b) (shows_by (interval_told b)) guest tt (interval_small config.machine.mem_size_mib b fits)
      (λ port bytes. tt) is
