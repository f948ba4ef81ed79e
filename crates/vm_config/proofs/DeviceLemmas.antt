-- Where each device stands among all.
use Rattle.std.proofs.Common.{◌≡◌, ℕ, zero, suc, ◌+◌, ◌<◌, Bool, true, false, not, cond, List, [], ◌∷◌, ◌++◌, length, map, Option, Some, None, slice_get, refl, ap, ◌∙◌, subst, arith, add_comm, add-one}
use Rattle.std.specs.Prelude.{option_map}
use Rattle.std.specs.List.{filter, position, position_or_len}
use borrow.Author.Tests.{ltb-true}
use Rattle.std.proofs.lemmas.List.{length-append, length-map}
use Rattle.std.proofs.lemmas.List.Filters.{length-filter_both}
use Rattle.std.proofs.lemmas.Option.{slice_get-map}
use Rattle.api_calls.specs.declared.balloon.Balloon.{Balloon}
use Rattle.api_calls.specs.declared.call.Drive.{Drive}
use Rattle.api_calls.specs.declared.entropy.Entropy.{Entropy}
use Rattle.api_calls.specs.declared.interface.Interface.{Interface}
use Rattle.api_calls.specs.declared.vsock.Vsock.{Vsock}
use Rattle.vm_config.specs.declared.config.Config.{Config}
use Rattle.vm_config.specs.Devices.{balloon_count, balloon_device, balloon_devices, count_in, device_count, devices_in, devices_of, entropy_count, entropy_devices, interface_device, lone_devices, of_balloon, of_drive, of_interface, vsock_count, vsock_devices}
use Rattle.vm_config.specs.Drives.{device_of, in_order, is_named, is_root}
use Rattle.vm_config.specs.Interfaces.{is_interface}

-- ---- lists

-- the first place at which a test passes
at_step : {X : Type 0} (p : X → Bool) (x : X) (xs : List X) (n : ℕ) (b : Bool) → p x ≡ b
    → (n < length xs → (y : X) × (slice_get xs n ≡ Some y) × (p y ≡ true)) → cond (not b) (1 + n) 0 < length (x ∷ xs)
    → (y : X) × (slice_get (x ∷ xs) (cond (not b) (1 + n) 0) ≡ Some y) × (p y ≡ true)
at_step p x xs n true is more lt = (x, refl, is)
at_step p x xs n false is more lt =
    let rest = more (omega arith) in (rest.0, rw (add_comm 1 n, add-one) rest.1, rest.2)

at_place : {X : Type 0} (p : X → Bool) (xs : List X) → position_or_len p xs < length xs
    → (x : X) × (slice_get xs (position_or_len p xs) ≡ Some x) × (p x ≡ true)
at_place p [] lt = absurd (omega arith)
at_place p (x ∷ xs) lt = at_step p x xs (position_or_len p xs) (p x) refl (at_place p xs) lt

placed : (t : Bool) (n k : ℕ) → cond t (Some n) None ≡ Some k → (t ≡ true) × (n ≡ k)
placed true n k e = (refl, cc)
placed false n k e = absurd cc

at_position : {X : Type 0} (p : X → Bool) (xs : List X) (k : ℕ) → position p xs ≡ Some k
    → (x : X) × (slice_get xs k ≡ Some x) × (p x ≡ true)
at_position {X} p xs k e =
    let at = placed _ (position_or_len p xs) k e in
    subst (λ (n : ℕ). (x : X) × (slice_get xs n ≡ Some x) × (p x ≡ true)) at.1 (at_place p xs (ltb-true _ _ at.0))

in_front : {X : Type 0} (xs ys : List X) (k : ℕ) (x : X) → slice_get xs k ≡ Some x → slice_get (xs ++ ys) k ≡ Some x
in_front [] ys k x is = absurd cc
in_front (y ∷ xs) ys zero x is = is
in_front (y ∷ xs) ys (suc k) x is = in_front xs ys k x is

past : {X : Type 0} (xs ys : List X) (k : ℕ) → slice_get (xs ++ ys) (length xs + k) ≡ slice_get ys k
past [] ys k = let e : 0 + k ≡ k = omega arith in rw e refl
past (x ∷ xs) ys k = let e : length (x ∷ xs) + k ≡ suc (length xs + k) = omega arith in rw e (past xs ys k)

behind : {X : Type 0} (xs ys : List X) (n j k : ℕ) (x : X) → length xs ≡ n → n + j ≡ k → slice_get ys j ≡ Some x
    → slice_get (xs ++ ys) k ≡ Some x
behind xs ys n j k x long at is =
    let e : length xs + j ≡ k = omega (arith, long, at) in
    subst (λ (m : ℕ). slice_get (xs ++ ys) m ≡ Some x) e (past xs ys j ∙ is)

mapped : {A B : Type 0} (f : A → B) (xs : List A) (k : ℕ) (x : A) → slice_get xs k ≡ Some x → slice_get (map f xs) k ≡ Some (f x)
mapped f xs k x is = slice_get-map f xs k ∙ ap (option_map f) is

-- ---- how many there are

pub length-ordered : (drives : List Drive) → length (in_order drives) ≡ length drives
length-ordered drives =
    length-append (filter is_root drives) (filter (λ d. not (is_root d)) drives)
    ∙ length-filter_both is_root (λ d. not (is_root d)) (λ d. refl) drives

length-drives : (drives : List Drive) → length (map of_drive (in_order drives)) ≡ length drives
length-drives drives = length-map (in_order drives) of_drive ∙ length-ordered drives

length-vsock : (vsock : Option Vsock) → length (vsock_devices vsock) ≡ vsock_count vsock
length-vsock None = refl
length-vsock (Some v) = refl

length-balloon : (balloon : Option Balloon) → length (balloon_devices balloon) ≡ balloon_count balloon
length-balloon None = refl
length-balloon (Some b) = refl

length-entropy : (entropy : Option Entropy) → length (entropy_devices entropy) ≡ entropy_count entropy
length-entropy None = refl
length-entropy (Some e) = refl

pub counted_in : (drives : List Drive) (interfaces : List Interface) (vsock : Option Vsock) (balloon : Option Balloon) (entropy : Option Entropy)
    → length (devices_in drives interfaces vsock balloon entropy) ≡ count_in drives interfaces vsock balloon entropy
counted_in drives interfaces vsock balloon entropy =
    let end = balloon_devices balloon ++ entropy_devices entropy in
    let last = vsock_devices vsock ++ end in
    let others = map of_interface interfaces ++ last in
    omega (
      arith,
      length-append (map of_drive (in_order drives)) others,
      length-append (map of_interface interfaces) last,
      length-append (vsock_devices vsock) end,
      length-append (balloon_devices balloon) (entropy_devices entropy),
      length-drives drives,
      length-map interfaces of_interface,
      length-vsock vsock,
      length-balloon balloon,
      length-entropy entropy,
    )

pub counted : (config : Config) → length (devices_of config) ≡ device_count config
counted config = counted_in config.drives config.interfaces config.vsock config.balloon config.entropy

-- ---- which are where

pub drive_at : (config : Config) (id : List ℕ) (k : ℕ) → device_of config.drives id ≡ Some k
    → (d : Drive) × (slice_get (devices_of config) k ≡ Some (of_drive d)) × (is_named id d ≡ true)
drive_at config id k is =
    let found = at_position (is_named id) (in_order config.drives) k is in
    (found.0, in_front _ _ k _ (mapped of_drive (in_order config.drives) k found.0 found.1), found.2)

-- a number behind so many others
counted_on : (n k : ℕ) (o : Option ℕ) → option_map (λ j. n + j) o ≡ Some k → (j : ℕ) × (o ≡ Some j) × (n + j ≡ k)
counted_on n k None is = absurd cc
counted_on n k (Some j) is = (j, refl, cc)

pub interface_at : (config : Config) (id : List ℕ) (k : ℕ) → interface_device config id ≡ Some k
    → (i : Interface) × (slice_get (devices_of config) k ≡ Some (of_interface i)) × (is_interface id i ≡ true)
interface_at config id k is =
    let number = counted_on (length config.drives) k (position (is_interface id) config.interfaces) is in
    let found = at_position (is_interface id) config.interfaces number.0 number.1 in
    let among = in_front _ (lone_devices config.vsock config.balloon config.entropy) number.0 _ (mapped of_interface config.interfaces number.0 found.0 found.1) in
    (found.0, behind _ _ (length config.drives) number.0 k _ (length-drives config.drives) number.2 among, found.2)

balloon_of : (n k : ℕ) (balloon : Option Balloon) → option_map (λ b. n) balloon ≡ Some k → (b : Balloon) × (balloon ≡ Some b) × (n ≡ k)
balloon_of n k None is = absurd cc
balloon_of n k (Some b) is = (b, refl, cc)

first_balloon : (balloon : Option Balloon) (b : Balloon) → balloon ≡ Some b → slice_get (balloon_devices balloon) 0 ≡ Some (of_balloon b)
first_balloon None b is = absurd cc
first_balloon (Some c) b is = let same : c ≡ b = cc in ap (λ (x : Balloon). Some (of_balloon x)) same

pub balloon_at : (config : Config) (k : ℕ) → balloon_device config ≡ Some k
    → (b : Balloon) × (config.balloon ≡ Some b) × (slice_get (devices_of config) k ≡ Some (of_balloon b))
balloon_at config k is =
    let interfaces : ℕ = length config.interfaces in
    let vsocks : ℕ = vsock_count config.vsock in
    let there = balloon_of (length config.drives + interfaces + vsocks) k config.balloon is in
    let end = balloon_devices config.balloon ++ entropy_devices config.entropy in
    let first = in_front (balloon_devices config.balloon) (entropy_devices config.entropy) 0 _ (first_balloon config.balloon there.0 there.1) in
    let last = behind (vsock_devices config.vsock) end vsocks 0 vsocks _ (length-vsock config.vsock) (omega arith) first in
    let among = behind (map of_interface config.interfaces) (lone_devices config.vsock config.balloon config.entropy) interfaces
    vsocks (interfaces + vsocks) _ (length-map config.interfaces of_interface) refl last in
    let place : length config.drives + (interfaces + vsocks) ≡ k = let same = there.2 in omega (arith, same) in
    (there.0, there.1, behind _ _ (length config.drives) (interfaces + vsocks) k _ (length-drives config.drives) place among)
