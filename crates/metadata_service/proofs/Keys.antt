-- The keys of a text by its first `/`.
use Rattle.std.proofs.Common.{◌≡◌, ℕ, suc, ◌+◌, ◌<◌, Bool, true, false, cond, not, ◌==◌, List, [], ◌∷◌, length, take, drop, Option, Some, None, option_and_then, option_map, IfSome, Ordering, Less, Equal, Greater, nat_cmp, refl, sym, ap, ◌∙◌, arith, true≢false, length-take, eqb-true, Bor}
use Rattle.std.specs.Cmp.Lexicographic.{slice_cmp}
use Rattle.std.specs.List.{before_first, after_first, position_or_len}
use Rattle.std.specs.Ordering.{match_ordering}
use Rattle.std.proofs.lemmas.Bool.{or_parts}
use Rattle.serde_json.specs.Data.{Data, null, boolean, number, string, array, object, Members, no_members, member}
use Rattle.serde_json.specs.Find.{get, get_member}
use Rattle.serde_json.specs.View.{view}
use Rattle.serde_json.specs.declared.value.Value.{Value}
use Rattle.serde_json.specs.Written.{has_float, members_have_float}
use Rattle.metadata_service.specs.Paths.{found, keys_of, onto, path_keys, walk}

abbrev pub is_slash : ℕ → Bool
is_slash b = b == 47

take_next : (c : ℕ) (p : ℕ) (text : List ℕ) → take (1 + p) (c ∷ text) ≡ c ∷ take p text
take_next c p text = let e : 1 + p ≡ suc p = omega arith in rw e refl

drop_next : (c : ℕ) (p : ℕ) (text : List ℕ) → drop (1 + p + 1) (c ∷ text) ≡ drop (p + 1) text
drop_next c p text = let e : 1 + p + 1 ≡ suc (p + 1) = omega arith in rw e refl

with_slash_by : (b : Bool) (c p : ℕ) (text : List ℕ) → cond (not b) (1 + p) 0 < length (c ∷ text)
    → (p < length text → keys_of text ≡ take p text ∷ keys_of (drop (p + 1) text))
    → cond b ([] ∷ keys_of text) (onto c (keys_of text))
    ≡ take (cond (not b) (1 + p) 0) (c ∷ text) ∷ keys_of (drop (cond (not b) (1 + p) 0 + 1) (c ∷ text))
with_slash_by true c p text h more = refl
with_slash_by false c p text h more =
    let e : keys_of text ≡ take p text ∷ keys_of (drop (p + 1) text) = more (omega arith) in
    rw (e, take_next c p text, drop_next c p text) refl

pub with_slash : (text : List ℕ) → position_or_len is_slash text < length text
    → keys_of text ≡ before_first is_slash text ∷ keys_of (after_first is_slash text)
with_slash [] h = absurd (omega arith)
with_slash (c ∷ text) h = with_slash_by (is_slash c) c (position_or_len is_slash text) text h (with_slash text)

-- a text that isn't empty is one key
abbrev pub lone : List ℕ → List (List ℕ)
lone [] = []
lone (c ∷ text) = (c ∷ text) ∷ []

onto_lone : (c : ℕ) (text : List ℕ) → onto c (lone text) ≡ (c ∷ text) ∷ []
onto_lone c [] = refl
onto_lone c (d ∷ text) = refl

no_slash_by : (b : Bool) (c p : ℕ) (text : List ℕ) → cond (not b) (1 + p) 0 ≡ length (c ∷ text)
    → (p ≡ length text → keys_of text ≡ lone text) → cond b ([] ∷ keys_of text) (onto c (keys_of text)) ≡ (c ∷ text) ∷ []
no_slash_by true c p text h more = absurd (omega arith)
no_slash_by false c p text h more =
    let e : keys_of text ≡ lone text = more (omega arith) in rw e (onto_lone c text)

pub no_slash : (text : List ℕ) → position_or_len is_slash text ≡ length text → keys_of text ≡ lone text
no_slash [] h = refl
no_slash (c ∷ text) h = no_slash_by (is_slash c) c (position_or_len is_slash text) text h (no_slash text)

-- ---- paths

-- where the first `/` is the first byte
pub path_keys_here : (path : List ℕ) → position_or_len is_slash path < length path → position_or_len is_slash path ≡ 0
    → path_keys path ≡ Some (keys_of (after_first is_slash path))
path_keys_here [] h e = absurd (omega arith)
path_keys_here (c ∷ path) h e = here (is_slash c) (position_or_len is_slash path) e
  where
    here : (b : Bool) (p : ℕ) → cond (not b) (1 + p) 0 ≡ 0
        → cond b (Some (keys_of path)) None ≡ Some (keys_of (drop (cond (not b) (1 + p) 0 + 1) (c ∷ path)))
    here true p e = refl
    here false p e = absurd (omega arith)

-- and where it isn't
pub path_keys_later : (path : List ℕ) → (position_or_len is_slash path ≡ 0 → ⊥) → path_keys path ≡ None
path_keys_later [] h = refl
path_keys_later (c ∷ path) h = later (is_slash c) (position_or_len is_slash path) h
  where
    later : (b : Bool) (p : ℕ) → (cond (not b) (1 + p) 0 ≡ 0 → ⊥) → cond b (Some (keys_of path)) None ≡ None
    later true p h = absurd (h refl)
    later false p h = refl

-- how a text was cut at its first `/`
abbrev pub IsCut : List ℕ → List ℕ → List ℕ → Type 0
IsCut text before after =
    (before ≡ before_first is_slash text) × (after ≡ after_first is_slash text) × (position_or_len is_slash text < length text)

length_before : (text before after : List ℕ) → IsCut text before after → length before ≡ position_or_len is_slash text
length_before text before after cut = ap length cut.0 ∙ omega (arith, length-take (position_or_len is_slash text) text, cut.2)

pub found_none : (path : List ℕ) (d : Data) → position_or_len is_slash path ≡ length path → None ≡ found path d
unfolding found
found_none [] d h = refl
found_none (c ∷ path) d h =
    let later : position_or_len is_slash (c ∷ path) ≡ 0 → ⊥ = omega arith in
    rw (path_keys_later (c ∷ path) later) refl

pub found_here : (path before after : List ℕ) (d : Data) → IsCut path before after → (length before == 0) ≡ true → walk (keys_of after) d ≡ found path d
unfolding found
found_here path before after d cut e =
    let first : position_or_len is_slash path ≡ 0 = sym (length_before path before after cut) ∙ eqb-true (length before) 0 e in
    rw (path_keys_here path cut.2 first, cut.1) refl

pub found_later : (path before after : List ℕ) (d : Data) → IsCut path before after → (length before == 0) ≡ false → None ≡ found path d
unfolding found
found_later path before after d cut e =
    let later = λ (z : position_or_len is_slash path ≡ 0).
    true≢false (sym (ap (λ n. n == 0) (length_before path before after cut ∙ z)) ∙ e) in
    rw (path_keys_later path later) refl

pub walk_step : (text key more : List ℕ) (d e : Data) → IsCut text key more → Some e ≡ get key d → walk (keys_of text) d ≡ walk (keys_of more) e
walk_step text key more d e cut found = rw (with_slash text cut.2, ← cut.0, ← cut.1, ← found) refl

pub walk_stops : (text key more : List ℕ) (d : Data) → IsCut text key more → None ≡ get key d → None ≡ walk (keys_of text) d
walk_stops text key more d cut found = rw (with_slash text cut.2, ← cut.0, ← cut.1, ← found) refl

-- ---- values

-- what is in a tree without floats has none
found_by : (o : Ordering) (e : Data) (d : Option Data) → has_float e ≡ false → IfSome d (λ x. has_float x ≡ false)
    → IfSome (match_ordering o d (Some e) d) (λ x. has_float x ≡ false)
found_by Less e d p q = q
found_by Equal e d p q = p
found_by Greater e d p q = q

member_whole : (key : List ℕ) (ms : Members) → members_have_float ms ≡ false → IfSome (get_member key ms) (λ x. has_float x ≡ false)
member_whole key no_members h = tt
member_whole key (member k d ms) h =
    let parts = or_parts (has_float d) (members_have_float ms) h in
    found_by (slice_cmp nat_cmp key k) d (get_member key ms) parts.0 (member_whole key ms parts.1)

pub get_whole : (key : List ℕ) (d : Data) → has_float d ≡ false → IfSome (get key d) (λ x. has_float x ≡ false)
get_whole key null h = tt
get_whole key (boolean b) h = tt
get_whole key (number n) h = tt
get_whole key (string s) h = tt
get_whole key (array ds) h = tt
get_whole key (object ms) h = member_whole key ms h

-- the same of what was seen
pub seen_whole : (r : Option (Bor Value)) (key : List ℕ) (d : Data) → option_map (λ v. view v.now) r ≡ get key d → has_float d ≡ false
    → IfSome r (λ v. has_float (view v.now) ≡ false)
seen_whole None key d e h = tt
seen_whole (Some v) key d e h = rw (← e) at (get_whole key d h)

walk_one : (key : List ℕ) (d : Data) → walk (key ∷ []) d ≡ get key d
walk_one key d = last (get key d)
  where
    last : (o : Option Data) → option_and_then (walk []) o ≡ o
    last None = refl
    last (Some x) = refl

pub walk_last : (text : List ℕ) (d : Data) → position_or_len is_slash text ≡ length text → (length text == 0) ≡ false → get text d ≡ walk (keys_of text) d
walk_last [] d h e = absurd (true≢false e)
walk_last (c ∷ text) d h e = sym (ap (λ keys. walk keys d) (no_slash (c ∷ text) h) ∙ walk_one (c ∷ text) d)
