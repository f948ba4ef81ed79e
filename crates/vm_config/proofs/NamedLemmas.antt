-- The thing of an id by its place.
use Rattle.std.proofs.Common.{◌≡◌, ℕ, ◌+◌, ◌<◌, ◌≤◌, Bool, true, false, not, ◌||◌, cond, List, [], ◌∷◌, ◌++◌, length, get_or, Option, Some, None, refl, sym, ap, ◌∙◌, arith, add_comm, add-one}
use Rattle.std.specs.Prelude.{slice_set}
use Rattle.std.specs.List.{position, position_or_len}
use borrow.Author.Tests.{ltb-true}
use Rattle.std.proofs.lemmas.Bool.{ltb-false}
use Rattle.vm_config.specs.Named.{has_id, has_named, changed_in, put_in}

-- one element more, whose test gave b
found_step : {T : Type 0} (b : Bool) (f : T → T) (x : T) (xs : List T) (n : ℕ) (has : Bool) (w : List T) (d : T)
    → (n < length xs → (has ≡ true) × (w ≡ slice_set xs n (f (get_or xs n d))))
    → cond (not b) (1 + n) 0 < length (x ∷ xs)
    → ((b || has) ≡ true) × (cond b (f x ∷ xs) (x ∷ w) ≡ slice_set (x ∷ xs) (cond (not b) (1 + n) 0) (f (get_or (x ∷ xs) (cond (not b) (1 + n) 0) d)))
found_step true f x xs n has w d more lt = (refl, refl)
found_step {T} false f x xs n has w d more lt =
    let there = more (omega arith) in (there.0, rw (add_comm 1 n, add-one) (ap (λ (l : List T). x ∷ l) there.1))

pub found : {T : Type 0} (id_of : T → List ℕ) (id : List ℕ) (f : T → T) (ts : List T) (d : T) → position_or_len (has_id id_of id) ts < length ts
    → (has_named id_of ts id ≡ true) × (changed_in id_of id f ts ≡ slice_set ts (position_or_len (has_id id_of id) ts) (f (get_or ts (position_or_len (has_id id_of id) ts) d)))
found id_of id f [] d lt = absurd (omega arith)
found id_of id f (x ∷ xs) d lt =
    found_step (has_id id_of id x) f x xs (position_or_len (has_id id_of id) xs) (has_named id_of xs id) (changed_in id_of id f xs) d (found id_of id f xs d) lt

missing_step : {T : Type 0} (b : Bool) (f : T → T) (x : T) (xs : List T) (n : ℕ) (has : Bool) (w : List T)
    → (length xs ≤ n → (has ≡ false) × (w ≡ xs)) → length (x ∷ xs) ≤ cond (not b) (1 + n) 0
    → ((b || has) ≡ false) × (cond b (f x ∷ xs) (x ∷ w) ≡ x ∷ xs)
missing_step true f x xs n has w more le = absurd (omega arith)
missing_step {T} false f x xs n has w more le =
    let there = more (omega arith) in (there.0, ap (λ (l : List T). x ∷ l) there.1)

pub missing : {T : Type 0} (id_of : T → List ℕ) (id : List ℕ) (f : T → T) (ts : List T) → length ts ≤ position_or_len (has_id id_of id) ts
    → (has_named id_of ts id ≡ false) × (changed_in id_of id f ts ≡ ts)
missing id_of id f [] le = (refl, refl)
missing id_of id f (x ∷ xs) le =
    missing_step (has_id id_of id x) f x xs (position_or_len (has_id id_of id) xs) (has_named id_of xs id) (changed_in id_of id f xs) (missing id_of id f xs) le

-- what a place says
placed : (t : Bool) (n k : ℕ) → cond t (Some n) None ≡ Some k → (t ≡ true) × (n ≡ k)
placed true n k e = (refl, cc)
placed false n k e = absurd cc

unplaced : (t : Bool) (n : ℕ) → cond t (Some n) None ≡ None → t ≡ false
unplaced true n e = absurd cc
unplaced false n e = refl

-- a place that was looked for by the same id in the same things
placed_in : {T : Type 0} (id_of : T → List ℕ) (id text : List ℕ) (seen ts : List T) (r : Option ℕ) → r ≡ position (has_id id_of text) seen
    → text ≡ id → seen ≡ ts → position (has_id id_of id) ts ≡ r
placed_in id_of id text seen ts r e same all = rw (← same, ← all) (sym e)

-- ---- a PUT

put_known : {T : Type 0} (id_of : T → List ℕ) (ts : List T) (t : T) (k : ℕ) → position (has_id id_of (id_of t)) ts ≡ Some k
    → slice_set ts k t ≡ put_in id_of ts t
put_known id_of ts t k e =
    let at = placed _ (position_or_len (has_id id_of (id_of t)) ts) k e in
    let same = found id_of (id_of t) (λ d. t) ts t (ltb-true _ _ at.0) in
    rw same.0 (ap (λ (n : ℕ). slice_set ts n t) (sym at.1) ∙ sym same.1)

put_new : {T : Type 0} (id_of : T → List ℕ) (ts : List T) (t : T) → position (has_id id_of (id_of t)) ts ≡ None → ts ++ t ∷ [] ≡ put_in id_of ts t
put_new id_of ts t e =
    let none = missing id_of (id_of t) (λ d. t) ts (ltb-false _ _ (unplaced _ (position_or_len (has_id id_of (id_of t)) ts) e)) in rw none.0 refl

-- ---- a PATCH

changed_known : {T : Type 0} (id_of : T → List ℕ) (id : List ℕ) (f : T → T) (ts : List T) (k : ℕ) (d : T) → position (has_id id_of id) ts ≡ Some k
    → slice_set ts k (f (get_or ts k d)) ≡ changed_in id_of id f ts
changed_known id_of id f ts k d e =
    let at = placed _ (position_or_len (has_id id_of id) ts) k e in
    let same = found id_of id f ts d (ltb-true _ _ at.0) in
    ap (λ (n : ℕ). slice_set ts n (f (get_or ts n d))) (sym at.1) ∙ sym same.1

changed_unknown : {T : Type 0} (id_of : T → List ℕ) (id : List ℕ) (f : T → T) (ts : List T) → position (has_id id_of id) ts ≡ None
    → ts ≡ changed_in id_of id f ts
changed_unknown id_of id f ts e =
    sym (missing id_of id f ts (ltb-false _ _ (unplaced _ (position_or_len (has_id id_of id) ts) e))).1

-- ---- the same of a list that holds them, which was looked into as it was seen

pub puts_known : {T : Type 0} (id_of : T → List ℕ) (inside seen ts : List T) (t : T) (text : List ℕ) (k : ℕ) → inside ≡ ts
    → Some k ≡ position (has_id id_of text) seen → text ≡ id_of t → seen ≡ ts → slice_set inside k t ≡ put_in id_of ts t
puts_known {T} id_of inside seen ts t text k is e same all =
    ap (λ (l : List T). slice_set l k t) is ∙ put_known id_of ts t k (placed_in id_of (id_of t) text seen ts (Some k) e same all)

pub puts_new : {T : Type 0} (id_of : T → List ℕ) (new inside seen ts : List T) (t : T) (text : List ℕ) → new ≡ inside ++ t ∷ [] → inside ≡ ts
    → None ≡ position (has_id id_of text) seen → text ≡ id_of t → seen ≡ ts → new ≡ put_in id_of ts t
puts_new {T} id_of new inside seen ts t text pushed is e same all =
    pushed ∙ ap (λ (l : List T). l ++ t ∷ []) is ∙ put_new id_of ts t (placed_in id_of (id_of t) text seen ts None e same all)

pub changes_known : {T : Type 0} (id_of : T → List ℕ) (id : List ℕ) (f : T → T) (inside seen ts : List T) (text : List ℕ) (k : ℕ) (old new : T) → inside ≡ ts
    → Some k ≡ position (has_id id_of text) seen → text ≡ id → seen ≡ ts → old ≡ get_or inside k old → new ≡ f old
    → slice_set inside k new ≡ changed_in id_of id f ts
changes_known {T} id_of id f inside seen ts text k old new is e same all at made =
    ap (λ (t : T). slice_set inside k t) (made ∙ ap f at)
    ∙ ap (λ (l : List T). slice_set l k (f (get_or l k old))) is
    ∙ changed_known id_of id f ts k old (placed_in id_of id text seen ts (Some k) e same all)

pub changes_none : {T : Type 0} (id_of : T → List ℕ) (id : List ℕ) (f : T → T) (inside seen ts : List T) (text : List ℕ) → inside ≡ ts
    → None ≡ position (has_id id_of text) seen → text ≡ id → seen ≡ ts → inside ≡ changed_in id_of id f ts
changes_none id_of id f inside seen ts text is e same all = is ∙ changed_unknown id_of id f ts (placed_in id_of id text seen ts None e same all)
