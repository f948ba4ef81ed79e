-- Lists of places that grow by one.
use Rattle.std.proofs.Common.{◌≡◌, ℕ, zero, suc, ◌+◌, List, [], ◌∷◌, ◌++◌, map, refl, sym, ap, ◌∙◌, arith, length, append_assoc}
use Rattle.std.proofs.lemmas.List.{map-append}
use Rattle.vm_types.specs.declared.ids.PlaceId.{PlaceId}
use Rattle.machine_places.specs.Laid.{ids_from}

ids_more_by : (name : ℕ → PlaceId) (k n : ℕ) → ids_from name k (suc n) ≡ ids_from name k n ++ name (k + n) ∷ []
ids_more_by name k zero = ap (λ i. name i ∷ []) (let e : k ≡ k + 0 = omega arith in e)
ids_more_by name k (suc n) =
    let e : suc k + n ≡ k + suc n = omega arith in
    ap (λ l. name k ∷ l) (ids_more_by name (suc k) n ∙ ap (λ i. ids_from name (suc k) n ++ name i ∷ []) e)

-- one name more
pub ids_more : (name : ℕ → PlaceId) (old now new : List PlaceId) (n m : ℕ) → now ≡ old ++ ids_from name 0 n → m ≡ n + 1 → new ≡ now ++ name n ∷ [] → new ≡ old ++ ids_from name 0 m
ids_more name old now new n m is next more =
    let e : m ≡ suc n = omega (arith, next) in
    let z : 0 + n ≡ n = omega arith in
    more ∙ ap (λ l. l ++ name n ∷ []) is ∙ append_assoc old (ids_from name 0 n) (name n ∷ [])
    ∙ ap (λ l. old ++ l) (ap (λ i. ids_from name 0 n ++ name i ∷ []) (sym z) ∙ sym (ids_more_by name 0 n) ∙ ap (λ i. ids_from name 0 i) (sym e))

-- what is put and what is left come to what there was
pub one_put : {A B C : Type 0} (f : A → C) (g : B → C) (xs now : List A) (x : A) (ys rest : List B) (y : B) (all : List C) → now ≡ xs ++ x ∷ [] → ys ≡ y ∷ rest → f x ≡ g y → map f xs ++ map g ys ≡ all → map f now ++ map g rest ≡ all
one_put f g xs now x ys rest y all is next same so =
    ap (λ l. map f l ++ map g rest) is ∙ ap (λ l. l ++ map g rest) (map-append f xs (x ∷ []))
    ∙ append_assoc (map f xs) (f x ∷ []) (map g rest) ∙ ap (λ c. map f xs ++ c ∷ map g rest) same ∙ sym (ap (λ l. map f xs ++ map g l) next) ∙ so

pub map_more : {A C : Type 0} (f : A → C) (xs now : List A) (x : A) (c : C) → now ≡ xs ++ x ∷ [] → f x ≡ c → map f now ≡ map f xs ++ c ∷ []
map_more f xs now x c is same =
    ap (map f) is ∙ map-append f xs (x ∷ []) ∙ ap (λ d. map f xs ++ d ∷ []) same

-- an item moves from what is left to what is out
pub one_out : {A : Type 0} (xs now ys rest all : List A) (y : A) → now ≡ xs ++ y ∷ [] → ys ≡ y ∷ rest → xs ++ ys ≡ all → now ++ rest ≡ all
one_out xs now ys rest all y is next so =
    ap (λ l. l ++ rest) is ∙ append_assoc xs (y ∷ []) rest ∙ sym (ap (λ l. xs ++ l) next) ∙ so

pub none_left : {A : Type 0} (xs : List A) → length xs ≡ 0 → xs ≡ []
none_left [] none = refl
none_left (x ∷ xs) none = absurd (omega (arith, none))
