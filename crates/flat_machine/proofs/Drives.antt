-- Drives of which one is put, or has another file, stay as a state file has them.
use Rattle.std.proofs.Common.{◌≡◌, ◌≤◌, ℕ, ◌+◌, Bool, true, false, not, nat_le, ◌&&◌, cond, if◌then◌else◌, refl, sym, ap, ◌∙◌, List, [], ◌∷◌, ◌++◌, length, Option, Some, None, arith, length-append}
use Rattle.std.specs.Prelude.{count_by, unwrap_or}
use Rattle.std.specs.List.{list_all, list_any}
use Rattle.std.specs.Option.{option_or}
use Rattle.std.proofs.lemmas.Bool.{and_from, and_parts, le-leb, leb-false, leb-true, not-true, or_parts}
use Rattle.std.proofs.lemmas.List.Sums.{sum_by-cons}
use Rattle.std.proofs.lemmas.Slice.Eq.{bytes_eq-Decides}
use Rattle.api_calls.specs.declared.balloon.Balloon.{Balloon}
use Rattle.api_calls.specs.declared.call.Drive.{Drive}
use Rattle.api_calls.specs.declared.call.DrivePatch.{DrivePatch}
use Rattle.api_calls.specs.declared.entropy.Entropy.{Entropy}
use Rattle.api_calls.specs.declared.interface.Interface.{Interface}
use Rattle.api_calls.specs.declared.vsock.Vsock.{Vsock}
use Rattle.api_calls.specs.declared.limiter.Limiter.{Limiter}
use Rattle.api_calls.specs.Form.{holds, is_id, is_path}
use Rattle.api_calls.specs.Limits.{is_bucket, is_limiter}
use Rattle.vm_config.specs.Devices.{count_in}
use Rattle.vm_config.specs.Drives.{has_drive, id_of_drive, is_named, is_root, patch_drive, patched_drive, put_drive, with_changed}
use Rattle.vm_config.specs.Limits.{limited, names_bucket, no_limits, with_buckets}
use Rattle.vm_config.specs.Named.{are_apart}
use Rattle.vm_config.proofs.Apart.{apart_changed, apart_put, each_changed, each_put, length-changed}
use Rattle.snap_state.specs.Valid.{are_drives, has_room, is_drive}
use Rattle.flat_machine.specs.Ready.{AreFitting}

-- ---- what is asked of drives, one by one

record AreDrives (drives : List Drive) : Type 0 where
  few : length drives ≤ 16
  each : list_all is_drive drives ≡ true
  apart : are_apart id_of_drive drives ≡ true
  root : count_by is_root drives ≤ 1

parts_of : (drives : List Drive) → are_drives drives ≡ true → AreDrives drives
parts_of drives are =
    let p2 = and_parts _ (nat_le (count_by is_root drives) 1) are in
    let p1 = and_parts _ (are_apart id_of_drive drives) p2.0 in
    let p0 = and_parts (nat_le (length drives) 16) (list_all is_drive drives) p1.0 in
    record {
      few = leb-true (length drives) 16 p0.0;
      each = p0.1;
      apart = p1.1;
      root = leb-true (count_by is_root drives) 1 p2.1;
    }

are_all : (drives : List Drive) → AreDrives drives → are_drives drives ≡ true
are_all drives is =
    and_from _ (nat_le (count_by is_root drives) 1)
    (and_from _ (are_apart id_of_drive drives)
    (and_from (nat_le (length drives) 16) (list_all is_drive drives) (le-leb (length drives) 16 is.few) is.each)
    is.apart) (le-leb (count_by is_root drives) 1 is.root)

-- ---- how many are root drives

roots_cons : (d : Drive) (drives : List Drive) → count_by is_root (d ∷ drives) ≡ cond (is_root d) 1 0 + count_by is_root drives
roots_cons d drives = sum_by-cons (λ (x : Drive). cond (is_root x) 1 0) d drives

by_root : (d : Drive) (root : Bool) (drives : List Drive) → is_root d ≡ root
    → count_by is_root (d ∷ drives) ≡ cond root 1 0 + count_by is_root drives
by_root d root drives is =
    roots_cons d drives ∙ ap (λ (b : Bool). cond b 1 0 + count_by is_root drives) is

-- ---- another file

roots_same : (id : List ℕ) (f : Drive → Drive) → ((d : Drive) → is_root (f d) ≡ is_root d) → (drives : List Drive)
    → count_by is_root (with_changed id f drives) ≡ count_by is_root drives
roots_same id f flag [] = refl
roots_same id f flag (d ∷ drives) = by_name (is_named id d) (roots_same id f flag drives)
  where
    by_name : (named : Bool) → count_by is_root (with_changed id f drives) ≡ count_by is_root drives
        → count_by is_root (if named then f d ∷ drives else d ∷ with_changed id f drives) ≡ count_by is_root (d ∷ drives)
    by_name true rest = by_root (f d) (is_root d) drives (flag d) ∙ sym (roots_cons d drives)
    by_name false rest =
        roots_cons d (with_changed id f drives) ∙ ap (λ (n : ℕ). cond (is_root d) 1 0 + n) rest ∙ sym (roots_cons d drives)

or_kept : {T : Type 0} (p : T → Bool) (a b : Option T) → holds p a ≡ true → holds p b ≡ true → holds p (option_or a b) ≡ true
or_kept p None b new old = old
or_kept p (Some x) b new old = new

old_limits : (o : Option Limiter) → holds is_limiter o ≡ true → is_limiter (unwrap_or o no_limits) ≡ true
old_limits None old = refl
old_limits (Some l) old = old

pub limits_kept : (new old : Option Limiter) → holds is_limiter new ≡ true → holds is_limiter old ≡ true → holds is_limiter (limited new old) ≡ true
limits_kept None old given there = there
limits_kept (Some l) old given there = by_named (names_bucket l)
  where
    both : is_limiter (with_buckets l (unwrap_or old no_limits)) ≡ true
    both =
        let was : Limiter = unwrap_or old no_limits in
        let first = and_parts (holds is_bucket l.bandwidth) (holds is_bucket l.ops) given in
        let second = and_parts (holds is_bucket was.bandwidth) (holds is_bucket was.ops) (old_limits old there) in
        and_from _ _ (or_kept is_bucket l.bandwidth was.bandwidth first.0 second.0)
        (or_kept is_bucket l.ops was.ops first.1 second.1)

    by_named : (b : Bool) → holds is_limiter (if b then Some (with_buckets l (unwrap_or old no_limits)) else old) ≡ true
    by_named true = both
    by_named false = there

path_kept : (new : Option (List ℕ)) (old : List ℕ) → holds is_path new ≡ true → is_path old ≡ true → is_path (unwrap_or new old) ≡ true
path_kept None old given there = there
path_kept (Some path) old given there = given

drive_kept : (patch : DrivePatch) (d : Drive) → holds is_path patch.path_on_host ≡ true → holds is_limiter patch.rate_limiter ≡ true
    → is_drive d ≡ true → is_drive (patched_drive patch d) ≡ true
drive_kept patch d path limits own =
    let p1 = and_parts _ (holds is_limiter d.rate_limiter) own in
    let p0 = and_parts (is_id d.drive_id) (is_path d.path_on_host) p1.0 in
    and_from _ _ (and_from _ _ p0.0 (path_kept patch.path_on_host d.path_on_host path p0.1))
    (limits_kept patch.rate_limiter d.rate_limiter limits p1.1)

pub patch_told : (patch : DrivePatch) (drives : List Drive) → are_drives drives ≡ true → holds is_path patch.path_on_host ≡ true
    → holds is_limiter patch.rate_limiter ≡ true → are_drives (patch_drive drives patch) ≡ true
patch_told patch drives are path limits =
    let is = parts_of drives are in
    let f : Drive → Drive = patched_drive patch in
    let many = length-changed id_of_drive patch.drive_id f drives in
    let few = is.few in
    let roots = roots_same patch.drive_id f (λ d. refl) drives in
    let root = is.root in
    are_all (patch_drive drives patch) (record {
      few = omega (arith, many, few);
      each = each_changed id_of_drive is_drive patch.drive_id f (λ d own. drive_kept patch d path limits own) drives is.each;
      apart = apart_changed id_of_drive patch.drive_id f (λ d named. refl) drives ∙ is.apart;
      root = omega (arith, roots, root);
    })

-- as many drives, and so as many devices
pub length-patched : (patch : DrivePatch) (drives : List Drive) → length (patch_drive drives patch) ≡ length drives
length-patched patch drives = length-changed id_of_drive patch.drive_id (patched_drive patch) drives

-- ---- a drive that is put

-- the id of a drive that is named so
named_is : (id : List ℕ) (d : Drive) → is_named id d ≡ true → d.drive_id ≡ id
named_is id d is = (bytes_eq-Decides d.drive_id id).0 is

roots_push : (drive : Drive) (drives : List Drive) → count_by is_root (drives ++ drive ∷ []) ≡ count_by is_root drives + cond (is_root drive) 1 0
roots_push drive [] = roots_cons drive [] ∙ omega arith
roots_push drive (d ∷ drives) =
    let more = roots_push drive drives in
    let front = roots_cons d (drives ++ drive ∷ []) in
    let own = roots_cons d drives in
    omega (arith, more, front, own)

-- the drive is no root drive: there are no more of them
roots_less : (id : List ℕ) (drive : Drive) (drives : List Drive) → is_root drive ≡ false
    → count_by is_root (with_changed id (λ d. drive) drives) ≤ count_by is_root drives
roots_less id drive [] nay = omega arith
roots_less id drive (d ∷ drives) nay = by_name (is_named id d) (roots_less id drive drives nay)
  where
    by_name : (named : Bool) → count_by is_root (with_changed id (λ d. drive) drives) ≤ count_by is_root drives
        → count_by is_root (if named then drive ∷ drives else d ∷ with_changed id (λ d. drive) drives) ≤ count_by is_root (d ∷ drives)
    by_name true rest = let first = by_root drive false drives nay in let own = roots_cons d drives in omega (arith, first, own)
    by_name false rest =
        let first = roots_cons d (with_changed id (λ d. drive) drives) in
        let own = roots_cons d drives in
        omega (arith, first, own, rest)

-- another drive than that of this id is the root drive
abbrev is_other : List ℕ → Drive → Bool
is_other id d = is_root d && not (is_named id d)

no_root : (id : List ℕ) (d : Drive) → is_other id d ≡ false → is_named id d ≡ false → is_root d ≡ false
no_root id d none other = by_root_of (is_root d) (is_named id d) none other
  where
    by_root_of : (root named : Bool) → (root && not named) ≡ false → named ≡ false → root ≡ false
    by_root_of true true none other = absurd cc
    by_root_of true false none other = absurd cc
    by_root_of false named none other = refl

-- none of them has this id, and no other is the root drive
no_roots : (id : List ℕ) (drives : List Drive) → list_any (is_other id) drives ≡ false → list_any (is_named id) drives ≡ false
    → count_by is_root drives ≡ 0
no_roots id [] none other = refl
no_roots id (d ∷ drives) none other =
    let here = or_parts (is_other id d) (list_any (is_other id) drives) none in
    let name = or_parts (is_named id d) (list_any (is_named id) drives) other in
    let rest = no_roots id drives here.1 name.1 in
    let first = by_root d false drives (no_root id d here.0 name.0) in
    omega (arith, rest, first)

one_root : (drive : Drive) (drives : List Drive) → is_root drive ≡ true → list_any (is_other drive.drive_id) drives ≡ false
    → are_apart id_of_drive drives ≡ true → count_by is_root (with_changed drive.drive_id (λ d. drive) drives) ≤ 1
one_root drive [] root none apart = omega arith
one_root drive (d ∷ drives) root none apart =
    let here = or_parts (is_other drive.drive_id d) (list_any (is_other drive.drive_id) drives) none in
    let parts = and_parts (not (list_any (is_named d.drive_id) drives)) (are_apart id_of_drive drives) apart in
    by_name (is_named drive.drive_id d) refl here.0 here.1 (not-true (list_any (is_named d.drive_id) drives) parts.0)
    (one_root drive drives root here.1 parts.1)
  where
    by_name : (named : Bool) → is_named drive.drive_id d ≡ named → is_other drive.drive_id d ≡ false
        → list_any (is_other drive.drive_id) drives ≡ false → list_any (is_named d.drive_id) drives ≡ false
        → count_by is_root (with_changed drive.drive_id (λ d. drive) drives) ≤ 1
        → count_by is_root (if named then drive ∷ drives else d ∷ with_changed drive.drive_id (λ d. drive) drives) ≤ 1
    by_name true is own none unnamed rest =
        let others : list_any (is_named drive.drive_id) drives ≡ false =
        ap (λ (id : List ℕ). list_any (is_named id) drives) (sym (named_is drive.drive_id d is)) ∙ unnamed in
        let zero = no_roots drive.drive_id drives none others in
        let first = by_root drive true drives root in
        omega (arith, first, zero)
    by_name false is own none unnamed rest =
        let first = by_root d false (with_changed drive.drive_id (λ d. drive) drives) (no_root drive.drive_id d own is) in
        omega (arith, first, rest)

module _ (drive : Drive) (drives : List Drive) (is : AreDrives drives) (own : is_drive drive ≡ true)
    (roots : (is_root drive && list_any (is_other drive.drive_id) drives) ≡ false) where
  few_changed : (root : Bool) → is_root drive ≡ root → count_by is_root (with_changed drive.drive_id (λ d. drive) drives) ≤ 1
  few_changed true flag = one_root drive drives flag (ap (λ (b : Bool). b && list_any (is_other drive.drive_id) drives) (sym flag) ∙ roots) is.apart
  few_changed false flag = let less = roots_less drive.drive_id drive drives flag in let root = is.root in omega (arith, less, root)

  few_pushed : list_any (is_named drive.drive_id) drives ≡ false → (root : Bool) → is_root drive ≡ root
      → count_by is_root (drives ++ drive ∷ []) ≤ 1
  few_pushed none true flag =
      let zero = no_roots drive.drive_id drives (ap (λ (b : Bool). b && list_any (is_other drive.drive_id) drives) (sym flag) ∙ roots) none in
      let more : count_by is_root (drives ++ drive ∷ []) ≡ count_by is_root drives + 1 =
      roots_push drive drives ∙ ap (λ (b : Bool). count_by is_root drives + cond b 1 0) flag in
      omega (arith, more, zero)
  few_pushed none false flag =
      let root = is.root in
      let more : count_by is_root (drives ++ drive ∷ []) ≡ count_by is_root drives + 0 =
      roots_push drive drives ∙ ap (λ (b : Bool). count_by is_root drives + cond b 1 0) flag in
      omega (arith, more, root)

  roots_put : (there : Bool) → has_drive drives drive.drive_id ≡ there
      → count_by is_root (if there then with_changed drive.drive_id (λ d. drive) drives else drives ++ drive ∷ []) ≤ 1
  roots_put true known = few_changed (is_root drive) refl
  roots_put false known = few_pushed known (is_root drive) refl

  -- where there is room for one more, if it is one
  count_put : (interfaces : List Interface) (vsock : Option Vsock) (balloon : Option Balloon) (entropy : Option Entropy) (there : Bool) → has_room drives interfaces vsock balloon entropy ≡ true
      → (not there && nat_le 16 (count_in drives interfaces vsock balloon entropy)) ≡ false
      → count_in (if there then with_changed drive.drive_id (λ d. drive) drives else drives ++ drive ∷ []) interfaces vsock balloon entropy ≤ 16
  count_put interfaces vsock balloon entropy true fits room =
      let many = length-changed id_of_drive drive.drive_id (λ d. drive) drives in
      omega (arith, many, leb-true (count_in drives interfaces vsock balloon entropy) 16 fits)
  count_put interfaces vsock balloon entropy false fits room =
      let many = length-append drives (drive ∷ []) in
      let less = leb-false 16 (count_in drives interfaces vsock balloon entropy) room in
      omega (arith, many, less)

-- where no other drive is the root drive, and there is room for one more
pub put_told : (drive : Drive) (drives : List Drive) (interfaces : List Interface) (vsock : Option Vsock) (balloon : Option Balloon) (entropy : Option Entropy) → are_drives drives ≡ true
    → has_room drives interfaces vsock balloon entropy ≡ true → is_drive drive ≡ true
    → (is_root drive && list_any (λ d. is_root d && not (is_named drive.drive_id d)) drives) ≡ false
    → (not (has_drive drives drive.drive_id) && nat_le 16 (count_in drives interfaces vsock balloon entropy)) ≡ false
    → AreFitting (put_drive drives drive) interfaces vsock balloon entropy
put_told drive drives interfaces vsock balloon entropy are fits own roots room =
    let is = parts_of drives are in
    let count = count_put drive drives is own roots interfaces vsock balloon entropy (has_drive drives drive.drive_id) fits room in (
      are_all (put_drive drives drive) (record {
        few = omega (arith, count);
        each = each_put id_of_drive is_drive drives drive is.each own;
        apart = apart_put id_of_drive drives drive is.apart;
        root = roots_put drive drives is own roots (has_drive drives drive.drive_id) refl;
      }),
      le-leb (count_in (put_drive drives drive) interfaces vsock balloon entropy) 16 count,
    )
