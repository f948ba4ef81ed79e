-- A copy that has the ports and devices that are configured has each of its kind.
use Rattle.std.proofs.Common.{◌≡◌, ◌<◌, ◌≤◌, ◌+◌, ◌-◌, ℕ, zero, suc, ◌∙◌, true, refl, sym, ap, List, [], ◌∷◌, ◌++◌, length, map, drop, Option, Some, None, slice_get, arith}
use Rattle.std.specs.Prelude.{is_none}
use Rattle.std.proofs.lemmas.Bool.{and_parts}
use Rattle.port_table.specs.declared.kind.DeviceKind.{DeviceKind}
use Rattle.port_table.specs.declared.kind.DeviceKind.TheVariants.{Net, Block, Balloon, Vsock, Entropy}
use Rattle.api_calls.specs.declared.balloon.Balloon as configured
use Rattle.api_calls.specs.declared.call.Drive.{Drive}
use Rattle.api_calls.specs.declared.entropy.Entropy as entropies
use Rattle.api_calls.specs.declared.interface.Interface.{Interface}
use Rattle.api_calls.specs.declared.vsock.Vsock as vsock
use Rattle.vm_config.specs.Devices.{Configured, balloon_count, balloon_devices, count_in, devices_in, entropy_devices, lone_devices, of_drive, of_interface, vsock_count, vsock_devices}
use Rattle.vm_config.specs.Drives.{in_order}
use Rattle.vm_config.proofs.DeviceLemmas.{counted_in, length-ordered}
use Rattle.std.proofs.lemmas.List.{length-map}
use Rattle.snap_state.specs.declared.copy.StateCopy.{StateCopy}
use Rattle.snap_state.specs.Sections.{entropy_in}
use Rattle.snap_state.specs.Valid.{are_devices, are_kinds, has_devices, is_kind, is_kind_due, kind_configured, kind_of, kinds_in, port_kind}

-- ---- kinds

kind_is : (due kind : DeviceKind) → is_kind due kind ≡ true → kind ≡ due
kind_is Net Net is = refl
kind_is Block Block is = refl
kind_is Balloon Balloon is = refl
kind_is Vsock Vsock is = refl
kind_is Entropy Entropy is = refl
kind_is due kind is = absurd cc

kind_same : (kind : DeviceKind) → is_kind kind kind ≡ true
kind_same Net = refl
kind_same Block = refl
kind_same Balloon = refl
kind_same Vsock = refl
kind_same Entropy = refl

-- what stands at a number, and what stands behind it
left_none : {A : Type 0} (xs : List A) (n : ℕ) → slice_get xs n ≡ None → drop n xs ≡ []
left_none [] zero none = refl
left_none [] (suc n) none = refl
left_none (x ∷ xs) zero none = absurd cc
left_none (x ∷ xs) (suc n) none = left_none xs n none

left_some : {A : Type 0} (xs : List A) (n : ℕ) (x : A) → slice_get xs n ≡ Some x → drop n xs ≡ x ∷ drop (suc n) xs
left_some {A} [] n x is = absurd cc
left_some {A} (y ∷ xs) zero x is = let same : y ≡ x = cc in ap (λ (z : A). z ∷ xs) same
left_some {A} (y ∷ xs) (suc n) x is = left_some xs n x is

none_is : {A : Type 0} (o : Option A) → is_none o ≡ true → o ≡ None
none_is None is = refl
none_is (Some x) is = absurd cc

-- kinds that pass from a number on are those that are due
kinds_due : (due : List DeviceKind) (n : ℕ) (kinds : List DeviceKind) → are_kinds due n kinds ≡ true → kinds ≡ drop n due
kinds_due due n [] is = sym (left_none due n (none_is (slice_get due n) is))
kinds_due due n (kind ∷ kinds) is =
    let parts = and_parts (is_kind_due (slice_get due n) kind) (are_kinds due (suc n) kinds) is in
    by_due (slice_get due n) refl parts.0 (kinds_due due (suc n) kinds parts.1)
  where
    by_due : (o : Option DeviceKind) → slice_get due n ≡ o → is_kind_due o kind ≡ true → kinds ≡ drop (suc n) due
        → kind ∷ kinds ≡ drop n due
    by_due None there first rest = absurd cc
    by_due (Some own) there first rest =
        ap (λ (k : DeviceKind). k ∷ kinds) (kind_is own kind first) ∙ ap (λ (ks : List DeviceKind). own ∷ ks) rest
        ∙ sym (left_some due n own there)

-- and those pass
due_kinds : (due : List DeviceKind) (n : ℕ) (kinds : List DeviceKind) → kinds ≡ drop n due → are_kinds due n kinds ≡ true
due_kinds due n [] is = by_due (slice_get due n) refl
  where
    by_due : (o : Option DeviceKind) → slice_get due n ≡ o → is_none o ≡ true
    by_due None there = refl
    by_due (Some own) there = absurd (let e : [] ≡ own ∷ drop (suc n) due = is ∙ left_some due n own there in cc)
due_kinds due n (kind ∷ kinds) is = by_due (slice_get due n) refl (λ rest. due_kinds due (suc n) kinds rest)
  where
    by_due : (o : Option DeviceKind) → slice_get due n ≡ o → (kinds ≡ drop (suc n) due → are_kinds due (suc n) kinds ≡ true)
        → are_kinds due n (kind ∷ kinds) ≡ true
    by_due None there more = absurd (let e : kind ∷ kinds ≡ [] = is ∙ left_none due n there in cc)
    by_due (Some own) there more =
        let e : kind ∷ kinds ≡ own ∷ drop (suc n) due = is ∙ left_some due n own there in
        let first : kind ≡ own = cc in
        let rest : kinds ≡ drop (suc n) due = cc in
        rw (there, first, kind_same own, more rest) refl

-- ---- the kinds that are due, by their numbers

-- things of one kind in front of others
kind_front : {A : Type 0} (of : A → Configured) (kind : DeviceKind) → ((a : A) → kind_configured (of a) ≡ kind) → (things : List A)
    (rest : List Configured) (k : ℕ) → k < length things
    → slice_get (map kind_configured (map of things ++ rest)) k ≡ Some kind
kind_front of kind is [] rest k lt = absurd (omega (arith, lt))
kind_front of kind is (a ∷ things) rest zero lt = ap (λ (own : DeviceKind). Some own) (is a)
kind_front of kind is (a ∷ things) rest (suc k) lt = kind_front of kind is things rest k (omega (arith, lt))

-- and what is behind them
kind_behind : {A : Type 0} (of : A → Configured) (things : List A) (rest : List Configured) (k : ℕ)
    → slice_get (map kind_configured (map of things ++ rest)) (length things + k) ≡ slice_get (map kind_configured rest) k
kind_behind of [] rest k = let e : 0 + k ≡ k = omega arith in rw e refl
kind_behind of (a ∷ things) rest k =
    let e : length (a ∷ things) + k ≡ suc (length things + k) = omega arith in rw e (kind_behind of things rest k)

-- one of it, and what is behind it
vsock_front : (v : Option vsock.Vsock) (rest : List Configured) (k : ℕ) → k < vsock_count v
    → slice_get (map kind_configured (vsock_devices v ++ rest)) k ≡ slice_get (map kind_configured (vsock_devices v)) 0
vsock_front None rest k lt = absurd (omega (arith, lt))
vsock_front (Some v) rest zero lt = refl
vsock_front (Some v) rest (suc k) lt = absurd (omega (arith, lt))

vsock_behind : (v : Option vsock.Vsock) (rest : List Configured) (k : ℕ)
    → slice_get (map kind_configured (vsock_devices v ++ rest)) (vsock_count v + k) ≡ slice_get (map kind_configured rest) k
vsock_behind None rest k = let e : 0 + k ≡ k = omega arith in rw e refl
vsock_behind (Some v) rest k = let e : 1 + k ≡ suc k = omega arith in rw e refl

balloon_front : (b : Option configured.Balloon) (rest : List Configured) (k : ℕ) → k < balloon_count b
    → slice_get (map kind_configured (balloon_devices b ++ rest)) k ≡ slice_get (map kind_configured (balloon_devices b)) 0
balloon_front None rest k lt = absurd (omega (arith, lt))
balloon_front (Some b) rest zero lt = refl
balloon_front (Some b) rest (suc k) lt = absurd (omega (arith, lt))

balloon_behind : (b : Option configured.Balloon) (rest : List Configured) (k : ℕ)
    → slice_get (map kind_configured (balloon_devices b ++ rest)) (balloon_count b + k) ≡ slice_get (map kind_configured rest) k
balloon_behind None rest k = let e : 0 + k ≡ k = omega arith in rw e refl
balloon_behind (Some b) rest k = let e : 1 + k ≡ suc k = omega arith in rw e refl

module _ (drives : List Drive) (interfaces : List Interface) (one : Option vsock.Vsock) (balloon : Option configured.Balloon)
    (entropy : Option entropies.Entropy) (k : ℕ) where
  abbrev due : List DeviceKind
  due = map kind_configured (devices_in drives interfaces one balloon entropy)

  abbrev last : List Configured
  last = lone_devices one balloon entropy

  abbrev behind_vsock : List Configured
  behind_vsock = balloon_devices balloon ++ entropy_devices entropy

  abbrev others : List Configured
  others = map of_interface interfaces ++ last

  pub drive_due : k < length drives → slice_get (map kind_configured (devices_in drives interfaces one balloon entropy)) k ≡ Some Block
  drive_due lt =
      let many = length-ordered drives in
      kind_front of_drive Block (λ d. refl) (in_order drives) others k (omega (arith, lt, many))

  -- so many behind the drives
  behind_drives : (j : ℕ) → k ≡ length drives + j → slice_get due k ≡ slice_get (map kind_configured others) j
  behind_drives j is =
      let many = length-ordered drives in
      let at : k ≡ length (in_order drives) + j = omega (arith, is, many) in
      ap (slice_get due) at ∙ kind_behind of_drive (in_order drives) others j

  pub interface_due : length drives ≤ k → k < length drives + length interfaces
      → slice_get (map kind_configured (devices_in drives interfaces one balloon entropy)) k ≡ Some Net
  interface_due from lt =
      let j : ℕ = k - length drives in
      behind_drives j (omega (arith, from)) ∙ kind_front of_interface Net (λ i. refl) interfaces last j (omega (arith, from, lt))

  -- and so many behind the interfaces
  behind_interfaces : (j : ℕ) → k ≡ length drives + length interfaces + j → slice_get due k ≡ slice_get (map kind_configured last) j
  behind_interfaces j is =
      behind_drives (length interfaces + j) (omega (arith, is)) ∙ kind_behind of_interface interfaces last j

  pub vsock_due : length drives + length interfaces ≤ k → k < length drives + length interfaces + vsock_count one
      → slice_get (map kind_configured (devices_in drives interfaces one balloon entropy)) k
      ≡ slice_get (map kind_configured (vsock_devices one)) 0
  vsock_due from lt =
      let j : ℕ = k - (length drives + length interfaces) in
      behind_interfaces j (omega (arith, from)) ∙ vsock_front one behind_vsock j (omega (arith, from, lt))

  -- so many behind the vsock device
  behind_sockets : (j : ℕ) → k ≡ length drives + length interfaces + vsock_count one + j
      → slice_get due k ≡ slice_get (map kind_configured behind_vsock) j
  behind_sockets j is =
      behind_interfaces (vsock_count one + j) (omega (arith, is)) ∙ vsock_behind one behind_vsock j

  pub balloon_due : length drives + length interfaces + vsock_count one ≤ k
      → k < length drives + length interfaces + vsock_count one + balloon_count balloon
      → slice_get (map kind_configured (devices_in drives interfaces one balloon entropy)) k
      ≡ slice_get (map kind_configured (balloon_devices balloon)) 0
  balloon_due from lt =
      let j : ℕ = k - (length drives + length interfaces + vsock_count one) in
      behind_sockets j (omega (arith, from)) ∙ balloon_front balloon (entropy_devices entropy) j (omega (arith, from, lt))

  pub entropy_due : k ≡ length drives + length interfaces + vsock_count one + balloon_count balloon
      → slice_get (map kind_configured (devices_in drives interfaces one balloon entropy)) k
      ≡ slice_get (map kind_configured (entropy_devices entropy)) 0
  entropy_due is =
      behind_sockets (balloon_count balloon + 0) (omega (arith, is)) ∙ balloon_behind balloon (entropy_devices entropy) 0

  one_entropy : (e : Option entropies.Entropy) (j : ℕ) → slice_get (map kind_configured (entropy_devices e)) (suc j) ≡ None
  one_entropy None j = refl
  one_entropy (Some e) j = refl

  pub none_due : length drives + length interfaces + vsock_count one + balloon_count balloon < k
      → slice_get (map kind_configured (devices_in drives interfaces one balloon entropy)) k ≡ None
  none_due lt =
      let past : ℕ = k - suc (length drives + length interfaces + vsock_count one + balloon_count balloon) in
      behind_sockets (balloon_count balloon + suc past) (omega (arith, lt))
      ∙ balloon_behind balloon (entropy_devices entropy) (suc past) ∙ one_entropy entropy past

-- ---- a copy

pub record HasDevices (c : StateCopy) : Type 0 where
  pub ports : map port_kind c.ports ≡ kinds_in c
  pub devices : map kind_of c.devices ≡ kinds_in c
  pub each : are_devices c.pages 0 c.devices ≡ true

pub has_parts : (c : StateCopy) → has_devices c ≡ true → HasDevices c
has_parts c is =
    let p1 = and_parts _ (are_devices c.pages 0 c.devices) is in
    let p0 =
    and_parts (are_kinds (kinds_in c) 0 (map port_kind c.ports))
    (are_kinds (kinds_in c) 0 (map kind_of c.devices)) p1.0 in
    record {
      ports = kinds_due (kinds_in c) 0 (map port_kind c.ports) p0.0;
      devices = kinds_due (kinds_in c) 0 (map kind_of c.devices) p0.1;
      each = p1.1;
    }

pub has_kinds : (c : StateCopy) → map port_kind c.ports ≡ kinds_in c → map kind_of c.devices ≡ kinds_in c
    → are_devices c.pages 0 c.devices ≡ true → has_devices c ≡ true
has_kinds c kinds same each =
    let ports = due_kinds (kinds_in c) 0 (map port_kind c.ports) kinds in
    let devices = due_kinds (kinds_in c) 0 (map kind_of c.devices) same in
    rw (ports, devices, each) refl

-- ---- how many there are

many_kinds : (c : StateCopy) → length (kinds_in c) ≡ count_in c.configuration.drives c.configuration.interfaces c.configuration.vsock c.configuration.balloon (entropy_in c.sections)
many_kinds c =
    length-map (devices_in c.configuration.drives c.configuration.interfaces c.configuration.vsock c.configuration.balloon (entropy_in c.sections)) kind_configured
    ∙ counted_in c.configuration.drives c.configuration.interfaces c.configuration.vsock c.configuration.balloon (entropy_in c.sections)

pub many_ports : (c : StateCopy) → HasDevices c → length c.ports ≡ count_in c.configuration.drives c.configuration.interfaces c.configuration.vsock c.configuration.balloon (entropy_in c.sections)
many_ports c has = sym (length-map c.ports port_kind) ∙ ap length has.ports ∙ many_kinds c

pub many_devices : (c : StateCopy) → HasDevices c → length c.devices ≡ count_in c.configuration.drives c.configuration.interfaces c.configuration.vsock c.configuration.balloon (entropy_in c.sections)
many_devices c has = sym (length-map c.devices kind_of) ∙ ap length has.devices ∙ many_kinds c
