-- How many bytes a read takes at most, by what it reads.
use Rattle.std.proofs.Common.{◌≡◌, ℕ, zero, suc, ◌+◌, ◌*◌, ◌≤◌, Bool, true, false, if◌then◌else◌, cond, ltb, List, [], ◌∷◌, length, drop, length-drop, length-take, take, Option, Some, None, refl, ap, subst, arith}
use Rattle.std.proofs.Math.Nat.{mul-suc}
use Rattle.std.proofs.lemmas.Bool.{and_parts}
use Rattle.std.proofs.lemmas.Option.{option_and_then_some, cond_some}
use Rattle.std.specs.Int.{Width, byte_len, w16, w32, w64, from_le_bytes}
use Rattle.std.specs.List.{list_all}
use Rattle.std.specs.Option.{option_and_then}
use Rattle.std.specs.Str.{bytes_eq}
use Rattle.file_format.specs.Format.{Format}
use Rattle.file_format.specs.Kinds.{byte, byte_list, flag, list_of, number16, number32, number64, optional, raw, text, times, zeros}
use Rattle.file_format.specs.Readers.{are_zeros, constant_at, front_at, made_at, nothing_at, nothing_else, number_at, pair_at, passing_at, then_at, times_at}
use Rattle.file_format.specs.Ends.{Lacking, Listing, end_at, ended, listed, there, whole}
use Rattle.file_format.specs.Whole.{counted, ended_at, whole_at}

pub record Within {A : Type 0} (reads : List ℕ → Option (A × List ℕ)) (most : A → ℕ) : Type 0 where
  pub at : (given : List ℕ) (v : A) (rest : List ℕ) → reads given ≡ Some (v, rest) → length given ≤ most v + length rest

-- ---- so many bytes

dropped : (n : ℕ) (given rest : List ℕ) → drop n given ≡ rest → length given ≤ n + length rest
dropped n given rest is = omega (arith, length-drop n given, ap length is)

unless : {A : Type 0} (b : Bool) (x y : A) → cond b None (Some x) ≡ Some y → x ≡ y
unless true x y is = absurd cc
unless false x y is = cc

byte_takes : (given : List ℕ) (v : ℕ) (rest : List ℕ) → byte.reads given ≡ Some (v, rest) → length given ≤ 1 + length rest
unfolding byte
byte_takes [] v rest is = absurd cc
byte_takes (b ∷ given) v rest is =
    let same : ◌≡◌ {A = ℕ × List ℕ} (b, given) (v, rest) = cc in
    omega (arith, ap (λ (p : ℕ × List ℕ). length p.1) same)

pub byte_within : Within byte.reads (λ _. 1)
byte_within = record { at = byte_takes }

pub number_within : (w : Width) → Within (number_at w) (λ _. byte_len w)
number_within w = record {
  at = λ given v rest is.
      let same = unless (ltb (length given) (byte_len w)) (from_le_bytes w (take (byte_len w) given), drop (byte_len w) given) (v, rest) is in
      dropped (byte_len w) given rest (ap (λ (p : ℕ × List ℕ). p.1) same);
}

pub within16 : Within number16.reads (λ _. 2)
unfolding number16
within16 = number_within w16

pub within32 : Within number32.reads (λ _. 4)
unfolding number32
within32 = number_within w32

pub within64 : Within number64.reads (λ _. 8)
unfolding number64
within64 = number_within w64

flag_takes : (given : List ℕ) (v : Bool) (rest : List ℕ) → flag.reads given ≡ Some (v, rest) → length given ≤ 1 + length rest
unfolding flag
flag_takes [] v rest is = absurd cc
flag_takes (zero ∷ given) v rest is =
    let same : ◌≡◌ {A = Bool × List ℕ} (false, given) (v, rest) = cc in
    omega (arith, ap (λ (p : Bool × List ℕ). length p.1) same)
flag_takes (suc zero ∷ given) v rest is =
    let same : ◌≡◌ {A = Bool × List ℕ} (true, given) (v, rest) = cc in
    omega (arith, ap (λ (p : Bool × List ℕ). length p.1) same)
flag_takes (suc (suc b) ∷ given) v rest is = absurd cc

pub flag_within : Within flag.reads (λ _. 1)
flag_within = record { at = flag_takes }

front_same : (n : ℕ) (given front rest : List ℕ) → front_at n given ≡ Some (front, rest) → ◌≡◌ {A = List ℕ × List ℕ} (take n given, drop n given) (front, rest)
front_same n given front rest is = unless (ltb (length given) n) (take n given, drop n given) (front, rest) is

-- a front of so many bytes was there
front_takes : (n : ℕ) (given front rest : List ℕ) → front_at n given ≡ Some (front, rest) → length given ≤ n + length rest
front_takes n given front rest is = dropped n given rest (ap (λ (p : List ℕ × List ℕ). p.1) (front_same n given front rest is))

pub zeros_within : (n : ℕ) → Within (zeros n).reads (λ _. n)
unfolding zeros
zeros_within n = record {
  at = λ given v rest is.
      option_and_then_some (λ (x : List ℕ × List ℕ). cond (are_zeros x.0) (Some (nothing_else, x.1)) None) (front_at n given) (v, rest) is
      (λ x ex ey.
      let same = (cond_some (are_zeros x.0) (nothing_else, x.1) (v, rest) ey).1 in
      subst (λ (p : Unit {0} × List ℕ). length given ≤ n + length p.1) same (front_takes n given x.0 x.1 ex));
}

pub constant_within : {A : Type 0} (expected : List ℕ) (it : A) (n : ℕ) → length expected ≤ n → Within (constant_at expected it) (λ _. n)
constant_within {A} expected it n few = record {
  at = λ given v rest is.
      let same = (cond_some (bytes_eq (take (length expected) given) expected) (it, drop (length expected) given) (v, rest) is).1 in
      omega (arith, few, dropped (length expected) given rest (ap (λ (p : A × List ℕ). p.1) same));
}

pub just_within : {A : Type 0} (it : A) (n : ℕ) → Within (constant_at [] it) (λ _. n)
just_within it n = constant_within [] it n (omega arith)

pub nothing_within : {A : Type 0} (n : ℕ) → Within {A = A} nothing_at (λ _. n)
nothing_within n = record { at = λ given v rest is. absurd cc }

-- ---- one value behind another

pub pair_within : {A B : Type 0} {first : List ℕ → Option (A × List ℕ)} {second : List ℕ → Option (B × List ℕ)} {m : A → ℕ} {n : B → ℕ}
    → Within first m → Within second n → Within (pair_at first second) (λ v. m v.0 + n v.1)
pair_within {A} {B} {first} {second} {m} {n} f s = record {
  at = λ given v rest is.
      option_and_then_some (λ (x : A × List ℕ). option_and_then (λ (y : B × List ℕ). Some ((x.0, y.0), y.1)) (second x.1)) (first given) (v, rest) is
      (λ x ex ey. option_and_then_some (λ (y : B × List ℕ). Some ((x.0, y.0), y.1)) (second x.1) (v, rest) ey
      (λ y ez made.
      let same : ((x.0, y.0), y.1) ≡ (v, rest) = cc in
      subst (λ (p : (A × B) × List ℕ). length given ≤ (m p.0.0 + n p.0.1) + length p.1) same
      (omega (arith, f.at given x.0 x.1 ex, s.at x.1 y.0 y.1 ez))));
}

pub then_within : {A B : Type 0} {first : List ℕ → Option (A × List ℕ)} {second : A → List ℕ → Option (B × List ℕ)} {m n : ℕ}
    → Within first (λ _. m) → ((a : A) → Within (second a) (λ _. n)) → Within (then_at first second) (λ _. m + n)
then_within {A} {B} {first} {second} f s = record {
  at = λ given v rest is.
      option_and_then_some (λ (x : A × List ℕ). second x.0 x.1) (first given) (v, rest) is
      (λ x ex ey. omega (arith, f.at given x.0 x.1 ex, (s x.0).at x.1 v rest ey));
}

pub made_within : {A B : Type 0} {inner : List ℕ → Option (A × List ℕ)} {m : A → ℕ} (back : A → B) (n : B → ℕ) → ((a : A) → m a ≤ n (back a))
    → Within inner m → Within (made_at back inner) n
made_within {A} {B} {inner} back n less w = record {
  at = λ given v rest is.
      option_and_then_some (λ (x : A × List ℕ). Some (back x.0, x.1)) (inner given) (v, rest) is
      (λ x ex made.
      let same : (back x.0, x.1) ≡ (v, rest) = cc in
      subst (λ (p : B × List ℕ). length given ≤ n p.0 + length p.1) same (omega (arith, w.at given x.0 x.1 ex, less x.0)));
}

-- what passes a test is no longer than what the test lets through
pub passing_within : {A : Type 0} {inner : List ℕ → Option (A × List ℕ)} {m : A → ℕ} (test : A → Bool) (n : A → ℕ)
    → ((v : A) → test v ≡ true → m v ≤ n v) → Within inner m → Within (passing_at test inner) n
passing_within {A} {inner} test n less w = record {
  at = λ given v rest is.
      option_and_then_some (λ (x : A × List ℕ). cond (test x.0) (Some x) None) (inner given) (v, rest) is
      (λ x ex ey.
      let passes = cond_some (test x.0) x (v, rest) ey in
      subst (λ (p : A × List ℕ). length given ≤ n p.0 + length p.1) passes.1 (omega (arith, w.at given x.0 x.1 ex, less x.0 passes.0)));
}

-- ---- a value that may be there

abbrev pub optional_most : {A : Type 0} → (A → ℕ) → Option A → ℕ
optional_most m None = 1
optional_most m (Some v) = 1 + m v

optional_takes : {A : Type 0} {item : List ℕ → Option (A × List ℕ)} {m : A → ℕ} → Within item m → (b : Bool) (left : List ℕ) (v : Option A) (rest : List ℕ)
    → cond b (option_and_then {U = Option A × List ℕ} (λ (y : A × List ℕ). Some (Some y.0, y.1)) (item left)) (Some (None, left)) ≡ Some (v, rest)
    → 1 + length left ≤ optional_most m v + length rest
optional_takes {A} {item} {m} w true left v rest is =
    option_and_then_some (λ (y : A × List ℕ). Some (Some y.0, y.1)) (item left) (v, rest) is
    (λ y ey made.
    let same : (Some y.0, y.1) ≡ (v, rest) = cc in
    subst (λ (p : Option A × List ℕ). 1 + length left ≤ optional_most m p.0 + length p.1) same (omega (arith, w.at left y.0 y.1 ey)))
optional_takes {A} {item} {m} w false left v rest is =
    let same : (None, left) ≡ (v, rest) = cc in
    subst (λ (p : Option A × List ℕ). 1 + length left ≤ optional_most m p.0 + length p.1) same (omega arith)

pub optional_within : {A : Type 0} (item : Format A) {m : A → ℕ} → Within item.reads m → Within (optional item).reads (optional_most m)
unfolding optional flag
optional_within {A} item {m} w = record {
  at = λ given v rest is.
      option_and_then_some (λ (x : Bool × List ℕ). cond x.0 (option_and_then (λ (y : A × List ℕ). Some (Some y.0, y.1)) (item.reads x.1)) (Some (None, x.1)))
      (flag.reads given) (v, rest) is
      (λ x ex ey. omega (arith, flag_takes given x.0 x.1 ex, optional_takes w x.0 x.1 v rest ey));
}

optional_few : {A : Type 0} (n : ℕ) (o : Option A) → optional_most (λ _. n) o ≤ 1 + n
optional_few n None = omega arith
optional_few n (Some v) = omega arith

-- of whatever value
pub any_within : {A : Type 0} (n : ℕ) (item : Format A) → Within item.reads (λ _. n) → Within (optional item).reads (λ _. 1 + n)
any_within n item w = record { at = λ given v rest is. omega (arith, (optional_within item w).at given v rest is, optional_few n v) }

-- ---- so many values

abbrev pub total : {A : Type 0} → (A → ℕ) → List A → ℕ
total m [] = 0
total m (v ∷ vs) = m v + total m vs

pub total-const : {A : Type 0} (n : ℕ) (vs : List A) → total (λ _. n) vs ≡ n * length vs
total-const n [] = omega arith
total-const n (v ∷ vs) = omega (arith, total-const n vs, mul-suc n (length vs))

-- the total of those that pass a test
pub total-pass : {A : Type 0} (m : A → ℕ) (test : A → Bool) (n : ℕ) → ((v : A) → test v ≡ true → m v ≤ n) → (vs : List A) → list_all test vs ≡ true
    → total m vs ≤ n * length vs
total-pass m test n less [] is = omega arith
total-pass m test n less (v ∷ vs) is =
    let parts = and_parts (test v) (list_all test vs) is in
    omega (arith, less v parts.0, total-pass m test n less vs parts.1, mul-suc n (length vs))

times_takes : {A : Type 0} {item : List ℕ → Option (A × List ℕ)} {m : A → ℕ} → Within item m → (count : ℕ) (given : List ℕ) (vs : List A) (rest : List ℕ)
    → times_at item count given ≡ Some (vs, rest) → (length given ≤ total m vs + length rest) × (length vs ≡ count)
times_takes {A} {item} {m} w zero given vs rest is =
    let same : ([], given) ≡ (vs, rest) = cc in
    subst (λ (p : List A × List ℕ). (length given ≤ total m p.0 + length p.1) × (length p.0 ≡ 0)) same (omega arith, refl)
times_takes {A} {item} {m} w (suc count) given vs rest is =
    option_and_then_some (λ (x : A × List ℕ). option_and_then (λ (y : List A × List ℕ). Some (x.0 ∷ y.0, y.1)) (times_at item count x.1))
    (item given) (vs, rest) is
    (λ x ex ey. option_and_then_some (λ (y : List A × List ℕ). Some (x.0 ∷ y.0, y.1)) (times_at item count x.1) (vs, rest) ey
    (λ y ez made.
    let same : (x.0 ∷ y.0, y.1) ≡ (vs, rest) = cc in
    let behind = times_takes w count x.1 y.0 y.1 ez in
    subst (λ (p : List A × List ℕ). (length given ≤ total m p.0 + length p.1) × (length p.0 ≡ suc count)) same
    (omega (arith, w.at given x.0 x.1 ex, behind.0), ap suc behind.1)))

pub times_within : {A : Type 0} (count n : ℕ) (item : Format A) → Within item.reads (λ _. n) → Within (times count item).reads (λ _. n * count)
unfolding times
times_within {A} count n item w = record {
  at = λ given vs rest is.
      let takes = times_takes w count given vs rest is in
      subst (λ (k : ℕ). length given ≤ n * k + length rest) takes.1 (omega (arith, takes.0, total-const n vs));
}

pub list_within : {A : Type 0} (item : Format A) {m : A → ℕ} → Within item.reads m → Within (list_of item).reads (λ vs. 4 + total m vs)
unfolding list_of times
list_within {A} item {m} w = record {
  at = λ given vs rest is.
      option_and_then_some (λ (x : ℕ × List ℕ). times_at item.reads x.0 x.1) (number32.reads given) (vs, rest) is
      (λ x ex ey. omega (arith, within32.at given x.0 x.1 ex, (times_takes w x.0 x.1 vs rest ey).0));
}

pub each_within : {A : Type 0} (n : ℕ) (item : Format A) → Within item.reads (λ _. n) → Within (list_of item).reads (λ vs. 4 + n * length vs)
each_within n item w = record { at = λ given vs rest is. omega (arith, (list_within item w).at given vs rest is, total-const n vs) }

bytes_take : (given bytes rest : List ℕ) → byte_list.reads given ≡ Some (bytes, rest) → length given ≤ (4 + length bytes) + length rest
unfolding byte_list raw
bytes_take given bytes rest is =
    option_and_then_some (λ (x : ℕ × List ℕ). front_at x.0 x.1) (number32.reads given) (bytes, rest) is
    (λ x ex ey.
    let same = front_same x.0 x.1 bytes rest ey in
    omega (
      arith,
      within32.at given x.0 x.1 ex,
      ap (λ (p : List ℕ × List ℕ). length p.0) same,
      ap (λ (p : List ℕ × List ℕ). length p.1) same,
      length-take x.0 x.1,
      length-drop x.0 x.1,
    ))

pub bytes_within : Within byte_list.reads (λ bytes. 4 + length bytes)
bytes_within = record { at = bytes_take }

pub text_within : Within text.reads (λ bytes. 4 + length bytes)
unfolding text
text_within = passing_within _ _ (λ v is. omega arith) bytes_within

-- ---- a value as a list of its bytes

none_left : {A : Type 0} (v u : A) (rest : List ℕ) → ended_at v rest ≡ Some u → rest ≡ []
none_left v u [] is = refl
none_left v u (b ∷ rest) is = absurd cc

whole_takes : {A : Type 0} {item : List ℕ → Option (A × List ℕ)} {n : ℕ} → Within item (λ _. n) → (bytes : List ℕ) (v : A)
    → whole_at item bytes ≡ Some v → length bytes ≤ n
whole_takes {A} {item} w bytes v is =
    option_and_then_some (λ (x : A × List ℕ). ended_at x.0 x.1) (item bytes) v is
    (λ x ex ey. omega (arith, w.at bytes x.0 x.1 ex, ap length (none_left x.0 v x.1 ey)))

pub counted_within : {A : Type 0} (n : ℕ) (item : Format A) → Within item.reads (λ _. n) → Within (counted item).reads (λ _. 4 + n)
unfolding counted
counted_within {A} n item w = record {
  at = λ given v rest is.
      option_and_then_some (λ (x : List ℕ × List ℕ). option_and_then (λ (u : A). Some (u, x.1)) (whole_at item.reads x.0)) (byte_list.reads given) (v, rest) is
      (λ x ex ey. option_and_then_some (λ (u : A). Some (u, x.1)) (whole_at item.reads x.0) (v, rest) ey
      (λ u eu made.
      let same : ◌≡◌ {A = A × List ℕ} (u, x.1) (v, rest) = cc in
      omega (arith, bytes_take given x.0 x.1 ex, whole_takes w x.0 u eu, ap (λ (p : A × List ℕ). length p.1) same)));
}

-- ---- whole lists

-- no list of more bytes is read
pub record WithinList {A : Type 0} (reads : List ℕ → Option A) (most : ℕ) : Type 0 where
  pub at : (given : List ℕ) (v : A) → reads given ≡ Some v → length given ≤ most

pub wider_within : {A : Type 0} {reads : List ℕ → Option A} (n m : ℕ) → n ≤ m → WithinList reads n → WithinList reads m
wider_within n m less w = record { at = λ given v is. omega (arith, less, w.at given v is) }

pub whole_within : {A : Type 0} (item : Format A) (n : ℕ) → Within item.reads (λ _. n) → WithinList (whole item).reads n
whole_within item n w = record { at = λ given v is. whole_takes w given v is }

end_takes : {B : Type 0} (last : Lacking B) (m : ℕ) → Within last.item.reads (λ _. m) → (bytes : List ℕ) (b : B)
    → end_at last bytes ≡ Some b → length bytes ≤ m
end_takes last m w [] b is = omega arith
end_takes {B} last m w (byte ∷ rest) b is =
    option_and_then_some (there last) (whole_at last.item.reads (byte ∷ rest)) b is
    (λ c ec ed. whole_takes w (byte ∷ rest) c ec)

pub ended_within : {A B : Type 0} (first : Format A) (last : Lacking B) (n m : ℕ) → Within first.reads (λ _. n)
    → Within last.item.reads (λ _. m) → WithinList (ended first last).reads (n + m)
unfolding ended
ended_within {A} {B} first last n m w z = record {
  at = λ given v is.
      option_and_then_some
      (λ (x : A × List ℕ). option_and_then (λ (b : B). Some (x.0, b)) (end_at last x.1)) (first.reads given) v is
      (λ x ex ey. option_and_then_some (λ (b : B). Some (x.0, b)) (end_at last x.1) v ey
      (λ b eb made. omega (arith, w.at given x.0 x.1 ex, end_takes last m z x.1 b eb)));
}

pub passing_list_within : {A : Type 0} {reads : List ℕ → Option A} (test : A → Bool) (n : ℕ) → WithinList reads n
    → WithinList (λ given. option_and_then (λ (v : A). if test v then Some v else None) (reads given)) n
passing_list_within {A} {reads} test n w = record {
  at = λ given v is.
      option_and_then_some (λ (v : A). if test v then Some v else None) (reads given) v is (λ u eu made. w.at given u eu);
}

pub standing_list_within : {A B : Type 0} {reads : List ℕ → Option A} (make : A → B) (n : ℕ) → WithinList reads n
    → WithinList (λ given. option_and_then (λ (a : A). Some (make a)) (reads given)) n
standing_list_within {A} {B} {reads} make n w = record {
  at = λ given v is. option_and_then_some (λ (a : A). Some (make a)) (reads given) v is (λ u eu made. w.at given u eu);
}

pub no_list_within : {A : Type 0} (n : ℕ) → WithinList {A = A} (λ given. None) n
no_list_within n = record { at = λ given v is. absurd cc }

pub chosen_list_within : {A B : Type 0} {first : List ℕ → Option (A × List ℕ)} {second : A → List ℕ → Option B} (n m : ℕ)
    → Within first (λ _. n) → ((a : A) → WithinList (second a) m)
    → WithinList (λ given. option_and_then (λ (x : A × List ℕ). second x.0 x.1) (first given)) (n + m)
chosen_list_within {A} {B} {first} {second} n m w z = record {
  at = λ given v is.
      option_and_then_some (λ (x : A × List ℕ). second x.0 x.1) (first given) v is
      (λ x ex ev. omega (arith, w.at given x.0 x.1 ex, (z x.0).at x.1 v ev));
}

pub listed_within : {A : Type 0} (n : ℕ) (item : Listing A) → WithinList item.reads n → Within (listed item).reads (λ _. 4 + n)
unfolding listed
listed_within {A} n item w = record {
  at = λ given v rest is.
      option_and_then_some (λ (x : List ℕ × List ℕ). option_and_then (λ (u : A). Some (u, x.1)) (item.reads x.0)) (byte_list.reads given) (v, rest) is
      (λ x ex ey. option_and_then_some (λ (u : A). Some (u, x.1)) (item.reads x.0) (v, rest) ey
      (λ u eu made.
      let same : ◌≡◌ {A = A × List ℕ} (u, x.1) (v, rest) = cc in
      omega (arith, bytes_take given x.0 x.1 ex, w.at x.0 u eu, ap (λ (p : A × List ℕ). length p.1) same)));
}
