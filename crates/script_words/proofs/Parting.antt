-- What is behind bytes at the front, and the words of a line.
use Rattle.std.proofs.Common.{Bor, MatchOption, ◌≡◌, ◌⊎◌, ℕ, ◌+◌, ◌==◌, nat_eq, Bool, true, false, if◌then◌else◌, ◌&&◌, Option, List, [], ◌∷◌, ◌++◌, length, take, drop, Some, None, refl, sym, ◌∙◌, ap, inl, inr, arith, append-nil}
use Rattle.std.proofs.Math.Seq.{drop-append-add, take-append_seam}
use Rattle.std.proofs.lemmas.Bool.{cases_eq, eq-eqb, ne_eqb}
use Rattle.std.proofs.lemmas.Bool.Decides.{nat_tests}
use Rattle.std.proofs.lemmas.Option.{cond_some, option_and_then_some, same_Some}
use Rattle.std.specs.Cmp.Lexicographic.{pointwise}
use Rattle.std.specs.List.{position}
use Rattle.std.specs.Option.{option_map}
use Rattle.script_words.specs.Words.{after, bare, behind, both, both_of, cut, nothing_behind, or_else, parted, two, Lacks}
use Rattle.script_words.proofs.Spaces.{space_lacks, space_reads, space_writes}

turned : (c d : ℕ) → (c == d) ≡ nat_eq d c
turned c d = grind (arith, nat_tests)

found_by : (b p : Bool) (rest : Option (List ℕ)) (v : List ℕ) → (p ≡ true → rest ≡ Some v) → (b && p) ≡ true → (if b then rest else None) ≡ Some v
found_by true p rest v h same = h same
found_by false p rest v h same = cc

lacks_by : (b p : Bool) (rest : Option (List ℕ)) → (p ≡ false → rest ≡ None) → (b && p) ≡ false → (if b then rest else None) ≡ None
lacks_by true p rest h same = h same
lacks_by false p rest h same = refl

pub behind_found : (front line : List ℕ) → pointwise nat_eq (take (length front) line) front ≡ true → behind front line ≡ Some (drop (length front) line)
behind_found [] line same = refl
behind_found (c ∷ front) [] same = cc
behind_found (c ∷ front) (d ∷ line) same =
    rw (turned c d) (found_by (nat_eq d c) (pointwise nat_eq (take (length front) line) front) (behind front line) (drop (length front) line) (behind_found front line) same)

pub behind_lacks : (front line : List ℕ) → pointwise nat_eq (take (length front) line) front ≡ false → behind front line ≡ None
behind_lacks [] line same = cc
behind_lacks (c ∷ front) [] same = refl
behind_lacks (c ∷ front) (d ∷ line) same =
    rw (turned c d) (lacks_by (nat_eq d c) (pointwise nat_eq (take (length front) line) front) (behind front line) (behind_lacks front line) same)

pub behind_is : (front line : List ℕ) (r : Option (Bor (List ℕ)))
    → MatchOption r (pointwise nat_eq (take (length front) line) front ≡ false)
    (λ x. (pointwise nat_eq (take (length front) line) front ≡ true) × (x.now ≡ drop (length front) line) × (length x.now + length front ≡ length line))
    → MatchOption r (behind front line ≡ None) (λ rest. behind front line ≡ Some rest.now)
behind_is front line None lacks = behind_lacks front line lacks
behind_is front line (Some x) found = behind_found front line found.0 ∙ ap Some (sym found.1)

-- bytes are behind others exactly where they follow them
pub behind_reads : (front line rest : List ℕ) → behind front line ≡ Some rest → line ≡ front ++ rest
behind_reads [] line rest is = same_Some line rest is
behind_reads (c ∷ front) [] rest is = cc
behind_reads (c ∷ front) (d ∷ line) rest is =
    elim (cases_eq c d) [
      | inl same ↦ let kept = rw (eq-eqb c d same) at is in let tail : line ≡ front ++ rest = behind_reads front line rest kept in cc
      | inr other ↦ let none = rw (ne_eqb c d other) at is in cc
    ]

pub behind_writes : (front rest : List ℕ) → behind front (front ++ rest) ≡ Some rest
behind_writes [] rest = refl
behind_writes (c ∷ front) rest = rw (eq-eqb c c refl) (behind_writes front rest)

pub whole_reads : (front line : List ℕ) → nothing_behind (behind front line) ≡ true → line ≡ front
whole_reads front line is = elim (behind front line) as (λ o. o ≡ behind front line → nothing_behind o ≡ true → line ≡ front) [
  | Some [] ↦ λ e t. behind_reads front line [] (sym e) ∙ append-nil front
  | Some (c ∷ rest) ↦ λ e t. cc
  | None ↦ λ e t. cc
] refl is

-- ---- alternatives

pub unless_reads : {A : Type 0} (b : Bool) (x y : A) → b ≡ false → (if b then None else Some x) ≡ Some y → x ≡ y
unless_reads true x y test is = absurd (cc)
unless_reads false x y test is = same_Some x y is

pub unless_writes : {A : Type 0} (b : Bool) (x : A) → b ≡ false → (if b then None else Some x) ≡ Some x
unless_writes true x test = absurd (cc)
unless_writes false x test = refl

pub either : {A : Type 0} (x y : Option A) (v : A) → or_else x y ≡ Some v → (x ≡ Some v) ⊎ (y ≡ Some v)
either (Some x) y v is = inl is
either None y v is = inr is

pub bare_reads : {A : Type 0} (word line : List ℕ) (x y : A) → bare word x line ≡ Some y → (line ≡ word) × (y ≡ x)
bare_reads word line x y is =
    let got = cond_some (nothing_behind (behind word line)) x y is in (whole_reads word line got.0, sym got.1)

pub mapped : {A B P : Type 0} (f : A → B) (o : Option A) (y : B) → option_map f o ≡ Some y → ((x : A) → o ≡ Some x → y ≡ f x → P) → P
mapped f None y is k = absurd (cc)
mapped f (Some x) y is k = k x refl (sym (same_Some (f x) y is))

pub after_reads : {A P : Type 0} (word line : List ℕ) (read : List ℕ → Option A) (y : A) → after word read line ≡ Some y
    → ((rest : List ℕ) → line ≡ word ++ rest → read rest ≡ Some y → P) → P
after_reads word line read y is k =
    option_and_then_some read (behind word line) y is (λ rest found by. k rest (behind_reads word line rest found) by)

-- ---- a word and the rest

-- the parts of a line that is a word, a space and the rest
pub record Two {X Y Z : Type 0} (word : List ℕ → Option X) (rest : List ℕ → Option Y) (make : X → Y → Z) (line : List ℕ) (z : Z) : Type 0 where
  pub w : List ℕ
  pub r : List ℕ
  pub x : X
  pub y : Y
  pub parts : line ≡ w ++ 32 ∷ r
  pub spaceless : Lacks 32 w
  pub is_word : word w ≡ Some x
  pub is_rest : rest r ≡ Some y
  pub made : z ≡ make x y

both_reads : {X Y Z P : Type 0} (make : X → Y → Z) (a : Option X) (b : Option Y) (z : Z) → both make a b ≡ Some z
    → ((x : X) (y : Y) → a ≡ Some x → b ≡ Some y → z ≡ make x y → P) → P
both_reads make (Some x) (Some y) z is k = k x y refl refl (sym (same_Some (make x y) z is))
both_reads make (Some x) None z is k = absurd (cc)
both_reads make None b z is k = absurd (cc)

two_at : {X Y Z : Type 0} (word : List ℕ → Option X) (rest : List ℕ → Option Y) (make : X → Y → Z) (line : List ℕ) (z : Z) (at : Option ℕ)
    → position (λ c. c == 32) line ≡ at → both_of word rest make (parted line at) ≡ Some z → Two word rest make line z
two_at word rest make line z None found is = absurd (cc)
two_at word rest make line z (Some i) found is =
    both_reads make (word (take i line)) (rest (drop (i + 1) line)) z is
    (λ x y first second made. record {
      w = take i line;
      r = drop (i + 1) line;
      x = x;
      y = y;
      parts = space_reads line i found;
      spaceless = space_lacks line i found;
      is_word = first;
      is_rest = second;
      made = made;
    })

pub two_reads : {X Y Z : Type 0} (word : List ℕ → Option X) (rest : List ℕ → Option Y) (make : X → Y → Z) (line : List ℕ) (z : Z)
    → two word rest make line ≡ Some z → Two word rest make line z
two_reads word rest make line z is = two_at word rest make line z (position (λ c. c == 32) line) refl is

pub cut_writes : (w r : List ℕ) → Lacks 32 w → cut (w ++ 32 ∷ r) ≡ Some (w, r)
cut_writes w r lacks =
    let front : take (length w) (w ++ 32 ∷ r) ≡ w = take-append_seam w (32 ∷ r) in
    let back : drop (length w + 1) (w ++ 32 ∷ r) ≡ r = drop-append-add w (32 ∷ r) 1 in
    ap (parted (w ++ 32 ∷ r)) (space_writes w r lacks)
    ∙ (ap (λ (xs : List ℕ). Some (xs, drop (length w + 1) (w ++ 32 ∷ r))) front ∙ ap (λ (xs : List ℕ). Some (w, xs)) back)

pub two_writes : {X Y Z : Type 0} (word : List ℕ → Option X) (rest : List ℕ → Option Y) (make : X → Y → Z) (w r : List ℕ) (x : X) (y : Y)
    → Lacks 32 w → word w ≡ Some x → rest r ≡ Some y → two word rest make (w ++ 32 ∷ r) ≡ Some (make x y)
two_writes word rest make w r x y lacks first second =
    ap (both_of word rest make) (cut_writes w r lacks)
    ∙ (ap (λ o. both make o (rest r)) first ∙ ap (both make (Some x)) second)
