-- Things of which one is put or changed keep their ids apart, and each of them what each had.
use Rattle.std.proofs.Common.{◌≡◌, ℕ, Bool, true, false, not, ◌&&◌, ◌||◌, cond, List, [], ◌∷◌, ◌++◌, length, refl, sym, ap, ◌∙◌, arith}
use Rattle.std.specs.List.{list_all, list_any}
use Rattle.std.specs.Str.{bytes_eq}
use Rattle.std.proofs.lemmas.Bool.{and_from, and_parts, not-true, or_from, or_parts}
use Rattle.std.proofs.lemmas.List.Folds.{list_all-append, list_any-append}
use Rattle.std.proofs.lemmas.Slice.Eq.{bytes_eq-Decides}
use Rattle.vm_config.specs.Named.{are_apart, changed_in, has_id, has_named, put_in}

-- ---- one is changed, and keeps its id

-- as many as before
changed_step : {T : Type 0} (b : Bool) (f : T → T) (x : T) (xs w : List T) → length w ≡ length xs
    → length (cond b (f x ∷ xs) (x ∷ w)) ≡ length (x ∷ xs)
changed_step true f x xs w more = refl
changed_step false f x xs w more = omega (arith, more)

pub length-changed : {T : Type 0} (id_of : T → List ℕ) (id : List ℕ) (f : T → T) (ts : List T) → length (changed_in id_of id f ts) ≡ length ts
length-changed id_of id f [] = refl
length-changed id_of id f (x ∷ xs) = changed_step (has_id id_of id x) f x xs (changed_in id_of id f xs) (length-changed id_of id f xs)

-- each keeps what it had
each_step : {T : Type 0} (p : T → Bool) (b : Bool) (f : T → T) (x : T) (xs w : List T) → (p x ≡ true → p (f x) ≡ true) → list_all p (x ∷ xs) ≡ true
    → (list_all p xs ≡ true → list_all p w ≡ true) → list_all p (cond b (f x ∷ xs) (x ∷ w)) ≡ true
each_step p true f x xs w keeps all more =
    let two = and_parts (p x) (list_all p xs) all in and_from _ _ (keeps two.0) two.1
each_step p false f x xs w keeps all more =
    let two = and_parts (p x) (list_all p xs) all in and_from _ _ two.0 (more two.1)

pub each_changed : {T : Type 0} (id_of : T → List ℕ) (p : T → Bool) (id : List ℕ) (f : T → T) → ((t : T) → p t ≡ true → p (f t) ≡ true) → (ts : List T)
    → list_all p ts ≡ true → list_all p (changed_in id_of id f ts) ≡ true
each_changed id_of p id f keeps [] all = refl
each_changed id_of p id f keeps (x ∷ xs) all =
    each_step p (has_id id_of id x) f x xs (changed_in id_of id f xs) (keeps x) all (each_changed id_of p id f keeps xs)

module _ {T : Type 0} (id_of : T → List ℕ) (id : List ℕ) (f : T → T) (same : (t : T) → has_id id_of id t ≡ true → id_of (f t) ≡ id_of t) where
  any_step : (other : List ℕ) (b : Bool) (x : T) (xs w : List T) → has_id id_of id x ≡ b → has_named id_of w other ≡ has_named id_of xs other
      → has_named id_of (cond b (f x ∷ xs) (x ∷ w)) other ≡ has_named id_of (x ∷ xs) other
  any_step other true x xs w is more = ap (λ (own : List ℕ). bytes_eq own other || has_named id_of xs other) (same x is)
  any_step other false x xs w is more = ap (λ (t : Bool). has_id id_of other x || t) more

  pub any_changed : (other : List ℕ) (ts : List T) → has_named id_of (changed_in id_of id f ts) other ≡ has_named id_of ts other
  any_changed other [] = refl
  any_changed other (x ∷ xs) = any_step other (has_id id_of id x) x xs (changed_in id_of id f xs) refl (any_changed other xs)

  apart_step : (b : Bool) (x : T) (xs w : List T) → has_id id_of id x ≡ b → has_named id_of w (id_of x) ≡ has_named id_of xs (id_of x)
      → are_apart id_of w ≡ are_apart id_of xs → are_apart id_of (cond b (f x ∷ xs) (x ∷ w)) ≡ are_apart id_of (x ∷ xs)
  apart_step true x xs w is any more = ap (λ (own : List ℕ). not (has_named id_of xs own) && are_apart id_of xs) (same x is)
  apart_step false x xs w is any more = λ i. not (any i) && more i

  pub apart_changed : (ts : List T) → are_apart id_of (changed_in id_of id f ts) ≡ are_apart id_of ts
  apart_changed [] = refl
  apart_changed (x ∷ xs) =
      apart_step (has_id id_of id x) x xs (changed_in id_of id f xs) refl (any_changed (id_of x) xs) (apart_changed xs)

-- ---- one is put

other_way : (a b : List ℕ) → bytes_eq a b ≡ false → bytes_eq b a ≡ false
other_way a b nay = by_test (bytes_eq b a) refl
  where
    by_test : (t : Bool) → bytes_eq b a ≡ t → bytes_eq b a ≡ false
    by_test true same = absurd (let e : true ≡ false = sym ((bytes_eq-Decides a b).1 (sym ((bytes_eq-Decides b a).0 same))) ∙ nay in cc)
    by_test false is = is

-- behind things none of which has its id
apart_last : {T : Type 0} (id_of : T → List ℕ) (t : T) (ts : List T) → has_named id_of ts (id_of t) ≡ false → are_apart id_of ts ≡ true
    → are_apart id_of (ts ++ t ∷ []) ≡ true
apart_last id_of t [] none apart = refl
apart_last id_of t (x ∷ xs) none apart =
    let other = or_parts (has_id id_of (id_of t) x) (has_named id_of xs (id_of t)) none in
    let two = and_parts (not (has_named id_of xs (id_of x))) (are_apart id_of xs) apart in
    let own : has_named id_of (xs ++ t ∷ []) (id_of x) ≡ false =
    list_any-append (has_id id_of (id_of x)) xs (t ∷ [])
    ∙ or_from _ _ (not-true _ two.0) (or_from _ _ (other_way (id_of x) (id_of t) other.0) refl) in
    and_from _ _ (ap not own) (apart_last id_of t xs other.1 two.1)

put_by : {T : Type 0} (id_of : T → List ℕ) (ts : List T) (t : T) (b : Bool) → has_named id_of ts (id_of t) ≡ b → are_apart id_of ts ≡ true
    → are_apart id_of (cond b (changed_in id_of (id_of t) (λ old. t) ts) (ts ++ t ∷ [])) ≡ true
put_by id_of ts t true is apart =
    apart_changed id_of (id_of t) (λ old. t) (λ old named. sym ((bytes_eq-Decides (id_of old) (id_of t)).0 named)) ts ∙ apart
put_by id_of ts t false is apart = apart_last id_of t ts is apart

pub apart_put : {T : Type 0} (id_of : T → List ℕ) (ts : List T) (t : T) → are_apart id_of ts ≡ true → are_apart id_of (put_in id_of ts t) ≡ true
apart_put id_of ts t apart = put_by id_of ts t (has_named id_of ts (id_of t)) refl apart

-- and what has an id that is there
has_put_by : {T : Type 0} (id_of : T → List ℕ) (ts : List T) (t : T) (other : List ℕ) (b : Bool) → has_named id_of ts other ≡ true
    → has_named id_of (cond b (changed_in id_of (id_of t) (λ old. t) ts) (ts ++ t ∷ [])) other ≡ true
has_put_by id_of ts t other true has =
    any_changed id_of (id_of t) (λ old. t) (λ old named. sym ((bytes_eq-Decides (id_of old) (id_of t)).0 named)) other ts ∙ has
has_put_by id_of ts t other false has =
    list_any-append (has_id id_of other) ts (t ∷ []) ∙ ap (λ (b : Bool). b || list_any (has_id id_of other) (t ∷ [])) has

pub has_put : {T : Type 0} (id_of : T → List ℕ) (ts : List T) (t : T) (other : List ℕ) → has_named id_of ts other ≡ true
    → has_named id_of (put_in id_of ts t) other ≡ true
has_put id_of ts t other has = has_put_by id_of ts t other (has_named id_of ts (id_of t)) has

each_put_by : {T : Type 0} (id_of : T → List ℕ) (p : T → Bool) (ts : List T) (t : T) (b : Bool) → list_all p ts ≡ true → p t ≡ true
    → list_all p (cond b (changed_in id_of (id_of t) (λ old. t) ts) (ts ++ t ∷ [])) ≡ true
each_put_by id_of p ts t true all own = each_changed id_of p (id_of t) (λ old. t) (λ old is. own) ts all
each_put_by id_of p ts t false all own = list_all-append p ts (t ∷ []) ∙ and_from _ _ all (and_from _ _ own refl)

pub each_put : {T : Type 0} (id_of : T → List ℕ) (p : T → Bool) (ts : List T) (t : T) → list_all p ts ≡ true → p t ≡ true
    → list_all p (put_in id_of ts t) ≡ true
each_put id_of p ts t all own = each_put_by id_of p ts t (has_named id_of ts (id_of t)) all own
