-- The files of the drives, asked one after another.
use Rattle.std.proofs.Common.{◌≡◌, ℕ, zero, suc, ◌+◌, ◌-◌, ◌≤◌, ◌<◌, nat_le, nat_lt, min, Bool, true, false, not, ◌&&◌, cond, refl, sym, ap, ◌∙◌, List, [], ◌∷◌, ◌++◌, Some, None, length, map, take, drop, replicate, slice_get, arith, add-one}
use Rattle.std.specs.Prelude.{All, count_by, is_some}
use Rattle.std.specs.FinMap.{get}
use Rattle.std.specs.List.{filter, list_all, position_or_len}
use Rattle.std.proofs.lemmas.Bool.{and_parts, leb-false, leb-true, ltb-true}
use Rattle.std.proofs.lemmas.List.{append-nil, drop-replicate, map-append, take-append-le, take-replicate}
use Rattle.std.proofs.lemmas.List.Folds.{list_all-append}
use Rattle.std.proofs.Math.Seq.{take-append-add, take-length}
use Rattle.vm_types.specs.Saved.{Saved}
use Rattle.vm_outside.specs.Filing.{SameFiles}
use Rattle.vm_outside.specs.Known.{FilesKnown, Lasts, Tells}
use Rattle.api_calls.specs.declared.call.Drive.{Drive}
use Rattle.vm_config.specs.Drives.{device_of, id_of_drive, in_order, is_named, is_root}
use Rattle.guest_devices.specs.declared.new_device.NewDevice.{NewDevice}
use Rattle.api_calls.specs.Form.{holds, is_id, is_path}
use Rattle.api_calls.specs.Limits.{is_limiter}
use Rattle.vm_config.specs.Named.{are_apart}
use Rattle.vm_config.proofs.DeviceLemmas.{length-ordered}
use Rattle.snap_state.specs.Valid.{are_drives, is_drive}
use Rattle.flat_machine.specs.Requests.{drive_from, have_files}
use Rattle.monitor_plans.specs.declared.drives.DriveFiles.{DriveFiles}
use Rattle.monitor_plans.specs.Starting.{FitsDrive}

-- the first elements, with the next or without one
one_more : {A : Type 0} (xs : List A) (i : ℕ) (x : A) → slice_get xs i ≡ Some x → take (suc i) xs ≡ take i xs ++ x ∷ []
one_more [] i x is = cc
one_more (y ∷ xs) zero x is = cc
one_more {A} (y ∷ xs) (suc i) x is = ap (λ (l : List A). y ∷ l) (one_more xs i x is)

no_more : {A : Type 0} (xs : List A) (i : ℕ) → slice_get xs i ≡ None → take (suc i) xs ≡ take i xs
no_more [] zero is = refl
no_more [] (suc i) is = refl
no_more (y ∷ xs) zero is = cc
no_more {A} (y ∷ xs) (suc i) is = ap (λ (l : List A). y ∷ l) (no_more xs i is)

swap : (a b c : Bool) → (a && (b && c)) ≡ (b && (a && c))
swap true b c = refl
swap false true c = refl
swap false false c = refl

-- each element is in one of two parts
both_step : {A : Type 0} (p : A → Bool) (x : A) (t : Bool) (a b xs : List A) → list_all p (a ++ b) ≡ list_all p xs
    → list_all p (cond t (x ∷ a) a ++ cond (not t) (x ∷ b) b) ≡ (p x && list_all p xs)
both_step p x true a b xs more = ap (λ r. p x && r) more
both_step p x false a b xs more =
    list_all-append p a (x ∷ b) ∙ swap (list_all p a) (p x) (list_all p b)
    ∙ ap (λ r. p x && r) (sym (list_all-append p a b) ∙ more)

all_both : {A : Type 0} (p q : A → Bool) (xs : List A)
    → list_all p (filter q xs ++ filter (λ d. not (q d)) xs) ≡ list_all p xs
all_both p q [] = refl
all_both p q (x ∷ xs) = both_step p x (q x) (filter q xs) (filter (λ d. not (q d)) xs) xs (all_both p q xs)

-- what passes of each passes of the one at a place
passes_at : {A : Type 0} (p : A → Bool) (xs : List A) (i : ℕ) (x : A) → list_all p xs ≡ true → slice_get xs i ≡ Some x → p x ≡ true
passes_at p [] i x all is = cc
passes_at p (y ∷ xs) zero x all is =
    let same : y ≡ x = cc in ap p (sym same) ∙ (and_parts (p y) (list_all p xs) all).0
passes_at p (y ∷ xs) (suc i) x all is = passes_at p xs i x (and_parts (p y) (list_all p xs) all).1 is

-- drives as the API takes them
pub drives_of : (drives : List Drive) → are_drives drives ≡ true → list_all is_drive drives ≡ true
drives_of drives are =
    let root = and_parts _ (nat_le (count_by is_root drives) 1) are in
    let apart = and_parts _ (are_apart id_of_drive drives) root.0 in
    (and_parts (nat_le (length drives) 16) (list_all is_drive drives) apart.0).1

-- the limits of a drive are such as there may be
pub limits_there : (drives : List Drive) (i : ℕ) (d : Drive) → list_all is_drive drives ≡ true → Some d ≡ slice_get (in_order drives) i
    → holds is_limiter d.rate_limiter ≡ true
limits_there drives i d all is =
    let each : list_all is_drive (in_order drives) ≡ true = all_both is_drive is_root drives ∙ all in
    (and_parts (is_id d.drive_id && is_path d.path_on_host) (holds is_limiter d.rate_limiter)
    (passes_at is_drive (in_order drives) i d each (sym is))).1

-- one element more
all_one : {A : Type 0} (p : A → Bool) (xs : List A) (x : A) → list_all p (xs ++ x ∷ []) ≡ (list_all p xs && p x)
all_one p xs x = list_all-append p xs (x ∷ []) ∙ ap (λ r. list_all p xs && r) (and_true (p x))
  where
    and_true : (b : Bool) → (b && true) ≡ b
    and_true true = refl
    and_true false = refl

-- the bytes of an id: its own, cut or with zeros behind them
cut : (id : List ℕ) (n : ℕ) → n ≤ length id → take n id ++ drop n (replicate n 0) ≡ take n (id ++ replicate n 0)
cut id n fit =
    let none : n - n ≡ 0 = omega arith in
    ap (λ (l : List ℕ). take n id ++ l) (drop-replicate n n 0 ∙ ap (λ (m : ℕ). replicate m 0) none)
    ∙ append-nil (take n id) ∙ sym (take-append-le n id (replicate n 0) fit)

filled : (id : List ℕ) (n : ℕ) → length id ≤ n
    → take (length id) id ++ drop (length id) (replicate n 0) ≡ take n (id ++ replicate n 0)
filled id n fit =
    let more : length id + (n - length id) ≡ n = omega arith in
    ap (λ (l : List ℕ). l ++ drop (length id) (replicate n 0)) (take-length id)
    ∙ ap (λ (l : List ℕ). id ++ l) (drop-replicate (length id) n 0
    ∙ sym (take-replicate (n - length id) n 0 (omega arith)))
    ∙ sym (take-append-add id (replicate n 0) (n - length id))
    ∙ ap (λ (m : ℕ). take m (id ++ replicate n 0)) more

pub cut_or_filled : (id : List ℕ) (k n : ℕ) → k ≡ min (length id) n
    → take k id ++ drop k (replicate n 0) ≡ take n (id ++ replicate n 0)
cut_or_filled id k n is = by_test (nat_le n (length id)) refl
  where
    by_test : (t : Bool) → nat_le n (length id) ≡ t → take k id ++ drop k (replicate n 0) ≡ take n (id ++ replicate n 0)
    by_test true fits =
        let same : k ≡ n = omega (arith, leb-true n (length id) fits) in
        ap (λ (m : ℕ). take m id ++ drop m (replicate n 0)) same ∙ cut id n (leb-true n (length id) fits)
    by_test false short =
        let less = leb-false n (length id) short in
        let same : k ≡ length id = omega (arith, less) in
        ap (λ (m : ℕ). take m id ++ drop m (replicate n 0)) same ∙ filled id n (omega (arith, less))

-- ---- the drives as devices

module _ (saved : Saved) (drives : List Drive) where
  -- what was asked of the first of them
  abbrev pub drives_to : ℕ → List NewDevice
  drives_to i = map (drive_from saved) (take i (in_order drives))

  abbrev pub there_to : ℕ → Bool
  there_to i = have_files (take i (in_order drives)) saved

  abbrev pub has_file : Drive → Bool
  has_file d = is_some (get saved d.path_on_host)

  drive_more : (i : ℕ) (d : Drive) (before after : List NewDevice) → slice_get (in_order drives) i ≡ Some d
      → before ≡ drives_to i → after ≡ before ++ drive_from saved d ∷ [] → after ≡ drives_to (i + 1)
  drive_more i d before after is so_far more =
      more ∙ ap (λ (l : List NewDevice). l ++ drive_from saved d ∷ []) so_far
      ∙ sym (map-append (drive_from saved) (take i (in_order drives)) (d ∷ []))
      ∙ ap (map (drive_from saved)) (sym (one_more (in_order drives) i d is) ∙ ap (λ (n : ℕ). take n (in_order drives)) (sym (add-one i)))

  there_more : (i : ℕ) (d : Drive) (before after : Bool) → slice_get (in_order drives) i ≡ Some d
      → before ≡ there_to i → after ≡ (before && has_file d) → after ≡ there_to (i + 1)
  there_more i d before after is so_far more =
      more ∙ ap (λ (b : Bool). b && has_file d) so_far
      ∙ sym (all_one has_file (take i (in_order drives)) d)
      ∙ ap (list_all has_file) (sym (one_more (in_order drives) i d is) ∙ ap (λ (n : ℕ). take n (in_order drives)) (sym (add-one i)))

  -- there is no device of this number
  none_more : (i : ℕ) → slice_get (in_order drives) i ≡ None → take (i + 1) (in_order drives) ≡ take i (in_order drives)
  none_more i is = ap (λ (n : ℕ). take n (in_order drives)) (add-one i) ∙ no_more (in_order drives) i is

  -- all of them were asked
  whole : take (length drives) (in_order drives) ≡ in_order drives
  whole = ap (λ (n : ℕ). take n (in_order drives)) (sym (length-ordered drives)) ∙ take-length (in_order drives)

  all_drives : (found : List NewDevice) → found ≡ drives_to (length drives) → found ≡ map (drive_from saved) (in_order drives)
  all_drives found is = is ∙ ap (map (drive_from saved)) whole

  all_there : (there : Bool) → there ≡ there_to (length drives) → there ≡ have_files drives saved
  all_there there is = is ∙ ap (list_all has_file) whole ∙ all_both has_file is_root drives

-- the first of them were asked, which left the files as they were
pub record HasAsked (drives : List Drive) (before now : FilesKnown) (found : DriveFiles) (i : ℕ) : Type 0 where
  pub drives_are : Tells before.health → found.drives.items ≡ drives_to before.saved drives i
  pub there_is : Tells before.health → found.are_there ≡ there_to before.saved drives i
  pub many : i ≤ length drives → length found.drives.items ≡ i
  pub fit : All FitsDrive found.drives.items
  pub same : Tells before.health → SameFiles before now
  pub kept : now.health.faults ≡ before.health.faults
  pub lasts : Lasts before.health now.health

pub one_asked : (drives : List Drive) (before mid now : FilesKnown) (found after : DriveFiles) (i : ℕ) (d : Drive)
    → HasAsked drives before mid found i → Some d ≡ slice_get (in_order drives) i
    → (Tells mid.health → after.drives.items ≡ found.drives.items ++ drive_from mid.saved d ∷ [])
    → (Tells mid.health → after.are_there ≡ (found.are_there && has_file mid.saved drives d))
    → length after.drives.items ≡ length found.drives.items + 1
    → (All FitsDrive found.drives.items → All FitsDrive after.drives.items)
    → (Tells mid.health → SameFiles mid now) → now.health.faults ≡ mid.health.faults → Lasts mid.health now.health
    → HasAsked drives before now after (i + 1)
one_asked drives before mid now found after i d so_far is drive there more fit same kept lasts = record {
  drives_are = λ told.
      let on = so_far.lasts.still told in let held = (so_far.same told).saved in
      drive_more before.saved drives i d found.drives.items after.drives.items (sym is) (so_far.drives_are told)
      (drive on ∙ ap (λ (s : Saved). found.drives.items ++ drive_from s d ∷ []) held);
  there_is = λ told.
      let on = so_far.lasts.still told in let held = (so_far.same told).saved in
      there_more before.saved drives i d found.are_there after.are_there (sym is) (so_far.there_is told)
      (there on ∙ ap (λ (s : Saved). found.are_there && has_file s drives d) held);
  many = λ inside. let x = so_far.many (omega (arith, inside)) in omega (arith, x, more);
  fit = fit so_far.fit;
  same = λ told.
      let first = so_far.same told in let second = same (so_far.lasts.still told) in
      record { saved = second.saved ∙ first.saved; calls = second.calls ∙ first.calls };
  kept = kept ∙ so_far.kept;
  lasts = record {
    still = λ told. lasts.still (so_far.lasts.still told);
    later = let x = so_far.lasts.later in let y = lasts.later in omega (arith, x, y);
  };
}

some_at : {A : Type 0} (xs : List A) (i : ℕ) → i < length xs → slice_get xs i ≡ None → ⊥
some_at [] i less none = omega (arith, less)
some_at (x ∷ xs) zero less none = cc
some_at (x ∷ xs) (suc i) less none = some_at xs i (omega (arith, less)) none

-- there is no device of this number, and nothing was asked
pub none_asked : (drives : List Drive) (before now : FilesKnown) (found : DriveFiles) (i : ℕ) → HasAsked drives before now found i
    → None ≡ slice_get (in_order drives) i → HasAsked drives before now found (i + 1)
none_asked drives before now found i so_far is =
    let more : take i (in_order drives) ≡ take (i + 1) (in_order drives) = sym (none_more before.saved drives i (sym is)) in
    record {
      drives_are = λ told. so_far.drives_are told ∙ ap (map (drive_from before.saved)) more;
      there_is = λ told. so_far.there_is told ∙ ap (λ (l : List Drive). have_files l before.saved) more;
      many = λ inside. absurd (some_at (in_order drives) i (omega (arith, inside, length-ordered drives)) (sym is));
      fit = so_far.fit;
      same = so_far.same;
      kept = so_far.kept;
      lasts = so_far.lasts;
    }

-- every one was
pub all_asked : (drives : List Drive) (before now : FilesKnown) (found : DriveFiles) (i : ℕ) → HasAsked drives before now found i
    → i ≡ length drives → Tells before.health
    → (found.drives.items ≡ map (drive_from before.saved) (in_order drives)) × (found.are_there ≡ have_files drives before.saved)
all_asked drives before now found i so_far all told = (
  all_drives before.saved drives found.drives.items (so_far.drives_are told ∙ ap (drives_to before.saved drives) all),
  all_there before.saved drives found.are_there (so_far.there_is told ∙ ap (there_to before.saved drives) all),
)

-- ---- their numbers

found_below : (at many number : ℕ) (b : Bool) → nat_lt at many ≡ b → cond b (Some at) None ≡ Some number → number < many
found_below at many number true lt is =
    let less = ltb-true at many lt in
    let same : at ≡ number = cc in
    omega (arith, less, same)
found_below at many number false lt is = absurd cc

-- a device has a number below as many as there may be
pub below_most : (drives : List Drive) (id : List ℕ) (most number : ℕ) → length drives ≤ most → Some number ≡ device_of drives id
    → number < most
below_most drives id most number few is =
    let below =
    found_below (position_or_len (is_named id) (in_order drives)) (length (in_order drives)) number
    (nat_lt (position_or_len (is_named id) (in_order drives)) (length (in_order drives))) refl (sym is) in
    let many = length-ordered drives in
    omega (arith, below, many, few)
