-- The laws of each kind of format, over plain variables.
use Rattle.std.specs.Prelude.{◌≡◌, ℕ, zero, suc, ◌+◌, ◌<◌, ◌≤◌, ◌==◌, ◌&&◌, replicate, Bool, true, false}
use Rattle.std.specs.Prelude.{IsTrue, if◌then◌else◌, List, [], ◌∷◌, ◌++◌, length, take, drop, Option, None, Some}
use Rattle.std.specs.Prelude.{IfSome, refl}
use Rattle.std.specs.Option.{option_and_then}
use Rattle.std.specs.List.{flat_map, AllByRecursion}
use Rattle.std.specs.Int.{Width, byte_len, w16, w32, w64, to_le_bytes, from_le_bytes}
use Rattle.std.proofs.Common.{sym, ap, subst, ◌∙◌, append_assoc, arith, get_or, cond, ltb, inl, inr}
use Rattle.std.proofs.lemmas.Bool.{cases_lt, eqb-true, ltb-false, le-ltb}
use Rattle.std.proofs.lemmas.List.{append-nil, length-append, length-replicate, length-take, take_at, drop_at}
use Rattle.std.proofs.lemmas.List.{take-append-drop, get_or-take, get_or_past}
use Rattle.std.specs.Str.{bytes_eq}
use Rattle.std.proofs.lemmas.Slice.Eq.{bytes_eq-Decides}
use Rattle.std.proofs.lemmas.Nat.{le_bytes_2, le_bytes_4, le_bytes_8, from_le_bytes-to_le_bytes_2}
use Rattle.std.proofs.lemmas.Nat.{from_le_bytes-to_le_bytes_4, from_le_bytes-to_le_bytes_8}
use Rattle.std.proofs.lemmas.Option.{option_and_then_some, cond_some}
use Rattle.file_format.specs.Format.{IsBytes, Format}
use Rattle.file_format.specs.Readers.{byte_at, front_at, number_at, then_at, pair_at, put_all, times_at, passing_at}
use Rattle.file_format.specs.Readers.{made_at, flag_bytes, flag_at, optional_bytes, optional_puts, optional_at}
use Rattle.file_format.specs.Readers.{constant_at, nothing_at, nothing_else, are_zeros, zeros_at}

-- ---- bytes

get_or-behind : (front rest : List ℕ) (i : ℕ) → get_or (front ++ rest) (length front + i) 0 ≡ get_or rest i 0
get_or-behind [] rest i = ap (λ k. get_or rest k 0) (omega arith)
get_or-behind (b ∷ front) rest i =
    let k : length (b ∷ front) + i ≡ suc (length front + i) = omega arith in
    ap (λ k. get_or (b ∷ front ++ rest) k 0) k ∙ get_or-behind front rest i

-- the rest of bytes is bytes
pub IsBytes-rest : (given front rest : List ℕ) → given ≡ front ++ rest → IsBytes given → IsBytes rest
IsBytes-rest given front rest e h i =
    subst (λ (n : ℕ). n < 256) (ap (λ (g : List ℕ). get_or g (length front + i) 0) e
    ∙ get_or-behind front rest i) (h (length front + i))

pub IsBytes-take : (n : ℕ) (given : List ℕ) → IsBytes given → IsBytes (take n given)
IsBytes-take n given h i =
    elim (cases_lt i n) [
      | inl lt ↦ rw (get_or-take n given i 0 lt) (h i)
      | inr le ↦ rw (get_or_past (take n given) i 0 (omega (arith, length-take n given))) (omega arith)
    ]

-- ---- one byte

pub byte_only : (given : List ℕ) (v : ℕ) (rest : List ℕ) → IsBytes given → byte_at given ≡ Some (v, rest) → (v < 256)
    × (given ≡ v ∷ [] ++ rest)
byte_only [] v rest is e = absurd cc
byte_only (b ∷ given) v rest is e =
    let same : (b, given) ≡ (v, rest) = cc in
    subst (λ (p : ℕ × List ℕ). (p.0 < 256) × (b ∷ given ≡ p.0 ∷ [] ++ p.1)) same (is 0, refl)

-- ---- so many bytes

front_of_some : (b : Bool) (x y : List ℕ × List ℕ) → cond b None (Some x) ≡ Some y → (b ≡ false) × (x ≡ y)
front_of_some true x y e = absurd cc
front_of_some false x y e = (refl, cc)

pub front_again : (n : ℕ) (v rest : List ℕ) → length v ≡ n → front_at n (v ++ rest) ≡ Some (v, rest)
front_again n v rest len =
    let long : ltb (length (v ++ rest)) n ≡ false = le-ltb _ _ (omega (arith, length-append v rest)) in
    rw (long, take_at v rest n len, drop_at v rest n len) refl

pub front_only : (n : ℕ) (given v rest : List ℕ) → front_at n given ≡ Some (v, rest) → (length v ≡ n)
    × (given ≡ v ++ rest)
front_only n given v rest e =
    let h = front_of_some (ltb (length given) n) (take n given, drop n given) (v, rest) e in
    let long : n ≤ length given = ltb-false _ _ h.0 in
    subst (λ (p : List ℕ × List ℕ). (length p.0 ≡ n)
    × (given ≡ p.0 ++ p.1)) h.1 (omega (arith, length-take n given), sym (take-append-drop n given))

-- ---- numbers

-- what the widths have in common
pub record IsWide (w : Width) (limit : ℕ) : Type 0 where
  pub len : (n : ℕ) → length (to_le_bytes w n) ≡ byte_len w
  pub back : (given : List ℕ) → length given ≡ byte_len w → IsBytes given
      → to_le_bytes w (from_le_bytes w given) ≡ given
  pub again : (n : ℕ) → n < limit → from_le_bytes w (to_le_bytes w n) ≡ n
  pub below : (given : List ℕ) → IsBytes given → from_le_bytes w given < limit

pub wide16 : IsWide w16 0x1_0000
wide16 = record {
  len = λ n. refl;
  back = λ given len is. le_bytes_2 given _ len is refl;
  again = λ n lt. from_le_bytes-to_le_bytes_2 n lt;
  below = λ given is. omega (arith, is 0, is 1);
}

pub wide32 : IsWide w32 0x1_0000_0000
wide32 = record {
  len = λ n. refl;
  back = λ given len is. le_bytes_4 given _ len is refl;
  again = λ n lt. from_le_bytes-to_le_bytes_4 n lt;
  below = λ given is. omega (arith, is 0, is 1, is 2, is 3);
}

pub wide64 : IsWide w64 0x1_0000_0000_0000_0000
wide64 = record {
  len = λ n. refl;
  back = λ given len is. le_bytes_8 given _ len is refl;
  again = λ n lt. from_le_bytes-to_le_bytes_8 n lt;
  below = λ given is. omega (arith, is 0, is 1, is 2, is 3, is 4, is 5, is 6, is 7);
}

number_of_some : (b : Bool) (x y : ℕ × List ℕ) → cond b None (Some x) ≡ Some y → (b ≡ false) × (x ≡ y)
number_of_some true x y e = absurd cc
number_of_some false x y e = (refl, cc)

pub number_again : (w : Width) (limit : ℕ) (wide : IsWide w limit) (n : ℕ) (rest : List ℕ) → n < limit
    → number_at w (to_le_bytes w n ++ rest) ≡ Some (n, rest)
number_again w limit wide n rest lt =
    let len = wide.len n in
    let long : ltb (length (to_le_bytes w n ++ rest)) (byte_len w) ≡ false =
    le-ltb _ _ (omega (arith, length-append (to_le_bytes w n) rest)) in
    rw (
      long,
      take_at (to_le_bytes w n) rest (byte_len w) len,
      drop_at (to_le_bytes w n) rest (byte_len w) len,
      wide.again n lt,
    ) refl

pub number_only : (w : Width) (limit : ℕ) (wide : IsWide w limit) (given : List ℕ) (n : ℕ) (rest : List ℕ)
    → IsBytes given → number_at w given ≡ Some (n, rest) → (n < limit) × (given ≡ to_le_bytes w n ++ rest)
number_only w limit wide given n rest is e =
    let h = number_of_some (ltb (length given) (byte_len w))
    (from_le_bytes w (take (byte_len w) given), drop (byte_len w) given) (n, rest) e in
    let long : byte_len w ≤ length given = ltb-false _ _ h.0 in
    let front = take (byte_len w) given in
    let len : length front ≡ byte_len w = omega (arith, length-take (byte_len w) given) in
    let are = IsBytes-take (byte_len w) given is in
    subst (λ (p : ℕ × List ℕ). (p.0 < limit) × (given ≡ to_le_bytes w p.0 ++ p.1)) h.1 (
      wide.below front are,
      sym (take-append-drop (byte_len w) given)
          ∙ ap (λ (x : List ℕ). x ++ drop (byte_len w) given) (sym (wide.back front len are)),
    )

-- ---- a value, and then one whose format the first one chooses

pub then_again : {A B : Type 0} (first : Format A) (second : A → Format B) (key : A) (v : B) (rest : List ℕ)
    → first.Fits key → (second key).Fits v
    → then_at first.reads (λ a. (second a).reads) ((first.bytes key ++ (second key).bytes v) ++ rest) ≡ Some (v, rest)
then_again {A} {B} first second key v rest f s =
    ap (then_at first.reads (λ a. (second a).reads)) (append_assoc (first.bytes key) ((second key).bytes v) rest)
    ∙ ap (option_and_then (λ (x : A × List ℕ). (second x.0).reads x.1))
    (first.again key ((second key).bytes v ++ rest) f)
    ∙ (second key).again v rest s

-- what was read one after the other
pub record Takes {A B : Type 0} (first : Format A) (second : A
    → Format B) (given : List ℕ) (v : B) (rest : List ℕ) : Type 0 where
  pub key : A
  pub key_fits : first.Fits key
  pub value_fits : (second key).Fits v
  pub parts : given ≡ (first.bytes key ++ (second key).bytes v) ++ rest

pub then_only : {A B : Type 0} (first : Format A) (second : A → Format B) (given : List ℕ) (v : B) (rest : List ℕ)
    → IsBytes given
    → then_at first.reads (λ a. (second a).reads) given ≡ Some (v, rest) → Takes first second given v rest
then_only {A} {B} first second given v rest is e =
    option_and_then_some (λ (x : A × List ℕ). (second x.0).reads x.1) (first.reads given) (v, rest) e
    (λ x ex ey.
    let a = first.only given x.0 x.1 is ex in
    let b = (second x.0).only x.1 v rest (IsBytes-rest given (first.bytes x.0) x.1 a.1 is) ey in
    record {
      key = x.0;
      key_fits = a.0;
      value_fits = b.0;
      parts = a.1 ∙ ap (λ (r : List ℕ). first.bytes x.0 ++ r) b.1
          ∙ sym (append_assoc (first.bytes x.0) ((second x.0).bytes v) rest);
    })

-- ---- two values

pub both_same : {A B : Type 0} (first : Format A) (second : Format B) (a : A) (b : B) (out : List ℕ)
    → second.puts b (first.puts a out) ≡ out ++ (first.bytes a ++ second.bytes b)
both_same first second a b out =
    second.same b (first.puts a out) ∙ ap (λ (x : List ℕ). x ++ second.bytes b) (first.same a out)
    ∙ append_assoc out (first.bytes a) (second.bytes b)

pub pair_again : {A B : Type 0} (first : Format A) (second : Format B) (a : A) (b : B) (rest : List ℕ) → first.Fits a
    → second.Fits b
    → pair_at first.reads second.reads ((first.bytes a ++ second.bytes b) ++ rest) ≡ Some ((a, b), rest)
pair_again {A} {B} first second a b rest f s =
    ap (pair_at first.reads second.reads) (append_assoc (first.bytes a) (second.bytes b) rest)
    ∙ ap (option_and_then (λ (x : A × List ℕ). option_and_then (λ (y : B × List ℕ). Some ((x.0, y.0), y.1))
    (second.reads x.1))) (first.again a (second.bytes b ++ rest) f)
    ∙ ap (option_and_then (λ (y : B × List ℕ). Some ((a, y.0), y.1))) (second.again b rest s)

pub pair_only : {A B : Type 0} (first : Format A) (second : Format B) (given : List ℕ) (v : A × B) (rest : List ℕ)
    → IsBytes given
    → pair_at first.reads second.reads given ≡ Some (v, rest) → (first.Fits v.0 × second.Fits v.1)
    × (given ≡ (first.bytes v.0 ++ second.bytes v.1) ++ rest)
pair_only {A} {B} first second given v rest is e =
    option_and_then_some (λ (x : A × List ℕ). option_and_then (λ (y : B × List ℕ). Some ((x.0, y.0), y.1))
    (second.reads x.1)) (first.reads given) (v, rest) e
    (λ x ex ey. option_and_then_some (λ (y : B × List ℕ). Some ((x.0, y.0), y.1)) (second.reads x.1) (v, rest) ey
    (λ y ez made.
    let a = first.only given x.0 x.1 is ex in
    let b = second.only x.1 y.0 y.1 (IsBytes-rest given (first.bytes x.0) x.1 a.1 is) ez in
    let same : ((x.0, y.0), y.1) ≡ (v, rest) = cc in
    subst (λ (p : (A × B) × List ℕ). (first.Fits p.0.0 × second.Fits p.0.1)
    × (given ≡ (first.bytes p.0.0 ++ second.bytes p.0.1) ++ p.1)) same (
      (a.0, b.0),
      a.1 ∙ ap (λ (r : List ℕ). first.bytes x.0 ++ r) b.1
          ∙ sym (append_assoc (first.bytes x.0) (second.bytes y.0) y.1),
    )))

-- ---- so many values

pub all_same : {A : Type 0} (item : Format A) (vs : List A) (out : List ℕ)
    → put_all item.puts vs out ≡ out ++ flat_map item.bytes vs
all_same item [] out = sym (append-nil out)
all_same item (v ∷ vs) out =
    all_same item vs (item.puts v out) ∙ ap (λ (x : List ℕ). x ++ flat_map item.bytes vs) (item.same v out)
    ∙ append_assoc out (item.bytes v) (flat_map item.bytes vs)

pub list_same : {A : Type 0} (item : Format A) (count : List ℕ) (vs : List A) (out : List ℕ)
    → put_all item.puts vs (out ++ count) ≡ out ++ (count ++ flat_map item.bytes vs)
list_same item count vs out = all_same item vs (out ++ count) ∙ append_assoc out count (flat_map item.bytes vs)

pub times_again : {A : Type 0} (item : Format A) (vs : List A) (rest : List ℕ) → AllByRecursion item.Fits vs
    → times_at item.reads (length vs) (flat_map item.bytes vs ++ rest) ≡ Some (vs, rest)
times_again {A} item [] rest fits = refl
times_again {A} item (v ∷ vs) rest fits =
    ap (times_at item.reads (suc (length vs))) (append_assoc (item.bytes v) (flat_map item.bytes vs) rest)
    ∙ ap (option_and_then (λ (x : A × List ℕ). option_and_then (λ (y : List A × List ℕ). Some (x.0 ∷ y.0, y.1))
    (times_at item.reads (length vs) x.1))) (item.again v (flat_map item.bytes vs ++ rest) fits.0)
    ∙ ap (option_and_then (λ (y : List A × List ℕ). Some (v ∷ y.0, y.1))) (times_again item vs rest fits.1)

pub times_only : {A : Type 0} (item : Format A) (n : ℕ) (given : List ℕ) (vs : List A) (rest : List ℕ) → IsBytes given
    → times_at item.reads n given ≡ Some (vs, rest) → ((length vs ≡ n) × AllByRecursion item.Fits vs)
    × (given ≡ flat_map item.bytes vs ++ rest)
times_only {A} item zero given vs rest is e =
    let same : ([], given) ≡ (vs, rest) = cc in
    subst (λ (p : List A × List ℕ). ((length p.0 ≡ 0) × AllByRecursion item.Fits p.0)
    × (given ≡ flat_map item.bytes p.0 ++ p.1)) same ((refl, tt), refl)
times_only {A} item (suc n) given vs rest is e =
    option_and_then_some (λ (x : A × List ℕ). option_and_then (λ (y : List A × List ℕ). Some (x.0 ∷ y.0, y.1))
    (times_at item.reads n x.1)) (item.reads given) (vs, rest) e
    (λ x ex ey. option_and_then_some (λ (y : List A × List ℕ). Some (x.0 ∷ y.0, y.1)) (times_at item.reads n x.1)
    (vs, rest) ey
    (λ y ez made.
    let a = item.only given x.0 x.1 is ex in
    let b = times_only item n x.1 y.0 y.1 (IsBytes-rest given (item.bytes x.0) x.1 a.1 is) ez in
    let same : (x.0 ∷ y.0, y.1) ≡ (vs, rest) = cc in
    subst (λ (p : List A × List ℕ). ((length p.0 ≡ suc n) × AllByRecursion item.Fits p.0)
    × (given ≡ flat_map item.bytes p.0 ++ p.1)) same (
      (ap suc b.0.0, (a.0, b.0.1)),
      a.1 ∙ ap (λ (r : List ℕ). item.bytes x.0 ++ r) b.1
          ∙ sym (append_assoc (item.bytes x.0) (flat_map item.bytes y.0) y.1),
    )))

-- ---- a value that passes a test

pub passing_again : {A : Type 0} (test : A → Bool) (inner : Format A) (v : A) (rest : List ℕ) → inner.Fits v
    → IsTrue (test v)
    → passing_at test inner.reads (inner.bytes v ++ rest) ≡ Some (v, rest)
passing_again {A} test inner v rest fits passes =
    ap (option_and_then (λ (x : A × List ℕ). if test x.0 then Some x else None)) (inner.again v rest fits)
    ∙ ap (λ b. cond b (Some (v, rest)) None) passes

pub passing_only : {A : Type 0} (test : A → Bool) (inner : Format A) (given : List ℕ) (v : A) (rest : List ℕ)
    → IsBytes given
    → passing_at test inner.reads given ≡ Some (v, rest) → (inner.Fits v × IsTrue (test v))
    × (given ≡ inner.bytes v ++ rest)
passing_only {A} test inner given v rest is e =
    option_and_then_some (λ (x : A × List ℕ). if test x.0 then Some x else None) (inner.reads given) (v, rest) e
    (λ x ex ey.
    let h = cond_some (test x.0) x (v, rest) ey in
    let a = inner.only given x.0 x.1 is ex in
    subst (λ (p : A × List ℕ). (inner.Fits p.0 × IsTrue (test p.0))
    × (given ≡ inner.bytes p.0 ++ p.1)) h.1 ((a.0, h.0), a.1))

-- ---- a record of values

pub made_again : {A B : Type 0} (to : B → A) (back : A → B) (inner : Format A) (v : B) (rest : List ℕ) → back (to v) ≡ v
    → inner.Fits (to v)
    → made_at back inner.reads (inner.bytes (to v) ++ rest) ≡ Some (v, rest)
made_again {A} {B} to back inner v rest law fits =
    ap (option_and_then (λ (x : A × List ℕ). Some (back x.0, x.1))) (inner.again (to v) rest fits)
    ∙ ap (λ (b : B). Some (b, rest)) law

pub made_only : {A B : Type 0} (to : B → A) (back : A → B) (inner : Format A) → ((a : A) → a ≡ to (back a))
    → (given : List ℕ) (v : B) (rest : List ℕ) → IsBytes given
    → made_at back inner.reads given ≡ Some (v, rest) → inner.Fits (to v) × (given ≡ inner.bytes (to v) ++ rest)
made_only {A} {B} to back inner law given v rest is e =
    option_and_then_some (λ (x : A × List ℕ). Some (back x.0, x.1)) (inner.reads given) (v, rest) e
    (λ x ex made.
    let a = inner.only given x.0 x.1 is ex in
    let same : (back x.0, x.1) ≡ (v, rest) = cc in
    subst (λ (p : B × List ℕ). inner.Fits (to p.0) × (given ≡ inner.bytes (to p.0) ++ p.1)) same
    (subst (λ (k : A). inner.Fits k × (given ≡ inner.bytes k ++ x.1)) (law x.0) a))

-- ---- a flag

pub flag_again : (v : Bool) (rest : List ℕ) → flag_at (flag_bytes v ++ rest) ≡ Some (v, rest)
flag_again false rest = refl
flag_again true rest = refl

pub flag_only : (given : List ℕ) (v : Bool) (rest : List ℕ) → flag_at given ≡ Some (v, rest)
    → given ≡ flag_bytes v ++ rest
flag_only [] v rest e = absurd cc
flag_only (zero ∷ given) v rest e =
    let same : (false, given) ≡ (v, rest) = cc in
    subst (λ (p : Bool × List ℕ). 0 ∷ given ≡ flag_bytes p.0 ++ p.1) same refl
flag_only (suc zero ∷ given) v rest e =
    let same : (true, given) ≡ (v, rest) = cc in
    subst (λ (p : Bool × List ℕ). 1 ∷ given ≡ flag_bytes p.0 ++ p.1) same refl
flag_only (suc (suc b) ∷ given) v rest e = absurd cc

-- ---- a value that may be there

pub optional_same : {A : Type 0} (item : Format A) (v : Option A) (out : List ℕ)
    → optional_puts item.puts v out ≡ out ++ optional_bytes item.bytes v
optional_same item None out = refl
optional_same item (Some v) out = item.same v (out ++ 1 ∷ []) ∙ append_assoc out (1 ∷ []) (item.bytes v)

pub optional_again : {A : Type 0} (item : Format A) (v : Option A) (rest : List ℕ) → IfSome v item.Fits
    → optional_at item.reads (optional_bytes item.bytes v ++ rest) ≡ Some (v, rest)
optional_again {A} item None rest fits = refl
optional_again {A} item (Some v) rest fits = ap (option_and_then (λ (y : A × List ℕ). Some (Some y.0, y.1)))
    (item.again v rest fits)

optional_cases : {A : Type 0} (item : Format A) (given : List ℕ) (b : Bool) (after : List ℕ) (v : Option A)
    (rest : List ℕ) → IsBytes after → given ≡ flag_bytes b ++ after
    → cond b (option_and_then {U = Option A × List ℕ} (λ (y : A × List ℕ). Some (Some y.0, y.1)) (item.reads after))
    (Some (None, after)) ≡ Some (v, rest) → IfSome v item.Fits × (given ≡ optional_bytes item.bytes v ++ rest)
optional_cases {A} item given false after v rest is front e =
    let same : (None, after) ≡ (v, rest) = cc in
    subst (λ (p : Option A × List ℕ). IfSome p.0 item.Fits
    × (given ≡ optional_bytes item.bytes p.0 ++ p.1)) same (tt, front)
optional_cases {A} item given true after v rest is front e =
    option_and_then_some (λ (y : A × List ℕ). Some (Some y.0, y.1)) (item.reads after) (v, rest) e
    (λ y ey made.
    let a = item.only after y.0 y.1 is ey in
    let same : (Some y.0, y.1) ≡ (v, rest) = cc in
    subst (λ (p : Option A × List ℕ). IfSome p.0 item.Fits
    × (given ≡ optional_bytes item.bytes p.0 ++ p.1)) same (a.0, front ∙ ap (λ (r : List ℕ). 1 ∷ r) a.1))

pub optional_only : {A : Type 0} (item : Format A) (given : List ℕ) (v : Option A) (rest : List ℕ) → IsBytes given
    → optional_at item.reads given ≡ Some (v, rest)
    → IfSome v item.Fits × (given ≡ optional_bytes item.bytes v ++ rest)
optional_only {A} item given v rest is e =
    option_and_then_some (λ (x : Bool × List ℕ). if x.0 then option_and_then (λ (y : A × List ℕ). Some (Some y.0, y.1))
    (item.reads x.1) else Some (None, x.1)) (flag_at given) (v, rest) e
    (λ x ex ey.
    let front = flag_only given x.0 x.1 ex in
    optional_cases item given x.0 x.1 v rest (IsBytes-rest given (flag_bytes x.0) x.1 front is) front ey)

-- ---- one value, always as the same bytes

pub constant_again : {A : Type 0} (expected : List ℕ) (v u : A) (rest : List ℕ) → u ≡ v
    → constant_at expected v (expected ++ rest) ≡ Some (u, rest)
constant_again {A} expected v u rest e =
    let same : bytes_eq (take (length expected) (expected ++ rest)) expected ≡ true =
    (bytes_eq-Decides (take (length expected) (expected ++ rest)) expected).1
    (take_at expected rest (length expected) refl) in
    ap (λ b. cond b (Some (v, drop (length expected) (expected ++ rest))) None) same
    ∙ ap (λ (r : List ℕ). Some (v, r)) (drop_at expected rest (length expected) refl)
    ∙ ap (λ (w : A). Some (w, rest)) (sym e)

pub constant_only : {A : Type 0} (expected : List ℕ) (v : A) (given : List ℕ) (u : A) (rest : List ℕ)
    → constant_at expected v given ≡ Some (u, rest) → (u ≡ v) × (given ≡ expected ++ rest)
constant_only {A} expected v given u rest e =
    let h = cond_some (bytes_eq (take (length expected) given) expected) (v, drop (length expected) given)
    (u, rest) e in
    let front : take (length expected) given ≡ expected =
    (bytes_eq-Decides (take (length expected) given) expected).0 h.0 in
    let whole : given ≡ expected ++ drop (length expected) given = sym (take-append-drop (length expected) given)
    ∙ ap (λ (x : List ℕ). x ++ drop (length expected) given) front in
    subst (λ (p : A × List ℕ). (p.0 ≡ v) × (given ≡ expected ++ p.1)) h.1 (refl, whole)

-- ---- a value that is made of one part

pub variant_again : {A B : Type 0} (make : A → B) (part : B → A) (inner : Format A) (v : B) (rest : List ℕ)
    → v ≡ make (part v) → inner.Fits (part v)
    → made_at make inner.reads (inner.bytes (part v) ++ rest) ≡ Some (v, rest)
variant_again {A} {B} make part inner v rest is fits =
    ap (option_and_then (λ (x : A × List ℕ). Some (make x.0, x.1))) (inner.again (part v) rest fits)
    ∙ ap (λ (b : B). Some (b, rest)) (sym is)

-- of a value that has other fields in a file than in memory, where a form that fits is what its value has
pub standing_only : {A B : Type 0} (make : A → B) (part : B → A) (inner : Format A)
    → ((a : A) → inner.Fits a → a ≡ part (make a)) → (given : List ℕ) (v : B) (rest : List ℕ) → IsBytes given
    → made_at make inner.reads given ≡ Some (v, rest) → ((v ≡ make (part v)) × inner.Fits (part v))
    × (given ≡ inner.bytes (part v) ++ rest)
standing_only {A} {B} make part inner law given v rest is e =
    option_and_then_some (λ (x : A × List ℕ). Some (make x.0, x.1)) (inner.reads given) (v, rest) e
    (λ x ex made.
    let a = inner.only given x.0 x.1 is ex in
    let same : (make x.0, x.1) ≡ (v, rest) = cc in
    subst (λ (p : B × List ℕ). ((p.0 ≡ make (part p.0)) × inner.Fits (part p.0))
    × (given ≡ inner.bytes (part p.0) ++ p.1)) same
    (subst (λ (k : A). ((make x.0 ≡ make k) × inner.Fits k)
    × (given ≡ inner.bytes k ++ x.1)) (law x.0 a.0) ((refl, a.0), a.1)))

pub variant_only : {A B : Type 0} (make : A → B) (part : B → A) (inner : Format A) → ((a : A) → a ≡ part (make a))
    → (given : List ℕ) (v : B) (rest : List ℕ) → IsBytes given
    → made_at make inner.reads given ≡ Some (v, rest) → ((v ≡ make (part v)) × inner.Fits (part v))
    × (given ≡ inner.bytes (part v) ++ rest)
variant_only make part inner law given v rest is e = standing_only make part inner (λ a fits. law a) given v rest is e

-- ---- no value

pub nothing_only : {A : Type 0} (given : List ℕ) (v : A) (rest : List ℕ) → nothing_at given ≡ Some (v, rest) → ⊥
    × (given ≡ [] ++ rest)
nothing_only given v rest e = absurd cc

-- ---- zeros

are_zeros-replicate : (n : ℕ) → are_zeros (replicate n 0) ≡ true
are_zeros-replicate zero = refl
are_zeros-replicate (suc n) = are_zeros-replicate n

and_parts : (a b : Bool) → (a && b) ≡ true → (a ≡ true) × (b ≡ true)
and_parts true true e = (refl, refl)
and_parts true false e = absurd cc
and_parts false b e = absurd cc

zeros_are : (bs : List ℕ) → are_zeros bs ≡ true → bs ≡ replicate (length bs) 0
zeros_are [] e = refl
zeros_are (b ∷ bs) e =
    let h = and_parts (b == 0) (are_zeros bs) e in
    ap (λ (n : ℕ). n ∷ bs) (eqb-true b 0 h.0) ∙ ap (λ (xs : List ℕ). 0 ∷ xs) (zeros_are bs h.1)

pub zeros_again : (n : ℕ) (v : Unit {0}) (rest : List ℕ) → zeros_at n (replicate n 0 ++ rest) ≡ Some (v, rest)
zeros_again n v rest =
    ap (option_and_then (λ (x : List ℕ × List ℕ). if are_zeros x.0 then Some (nothing_else, x.1) else None))
    (front_again n (replicate n 0) rest (length-replicate n 0))
    ∙ ap (λ b. cond b (Some (nothing_else, rest)) None) (are_zeros-replicate n)

pub zeros_only : (n : ℕ) (given : List ℕ) (v : Unit {0}) (rest : List ℕ) → zeros_at n given ≡ Some (v, rest)
    → given ≡ replicate n 0 ++ rest
zeros_only n given v rest e =
    option_and_then_some (λ (x : List ℕ × List ℕ). if are_zeros x.0 then Some (nothing_else, x.1) else None)
    (front_at n given) (v, rest) e
    (λ x ex ey.
    let h = cond_some (are_zeros x.0) (nothing_else, x.1) (v, rest) ey in
    let f = front_only n given x.0 x.1 ex in
    let all : x.0 ≡ replicate n 0 = zeros_are x.0 h.0 ∙ ap (λ k. replicate k 0) f.0 in
    f.1 ∙ ap (λ (bs : List ℕ). bs ++ x.1) all ∙ ap (λ (p : Unit {0} × List ℕ). replicate n 0 ++ p.1) h.1)
