-- Words by the dashes that they begin with.
use Rattle.std.proofs.Common.{◌≡◌, ◌∙◌, ◌&&◌, ◌||◌, ◌==◌, ◌⊎◌, inl, inr, ℕ, Bool, true, false, not, cond, refl, sym, ap, ap₂, subst, List, [], ◌∷◌, length, Option, Some, None, option_and_then, nat_lt, nat_eq, bytes_eq, true≢false}
use Rattle.std.specs.List.{list_any}
use Rattle.std.proofs.lemmas.Bool.{and_parts, eqb-true, and_right}
use Rattle.clap.specs.Lexer.{long_of, long_of_rest, short_of, short_of_rest, strip_byte}
use Rattle.clap.specs.Walk.{Text}
use Rattle.command_line.specs.Numbers.{load_number, one_number}
use Rattle.command_line.specs.Options.{Given, apart, is_equals, is_value, joined, options_in, with_option}
use Rattle.command_line.specs.Programs.{has_one_dash}
use Rattle.command_line.proofs.OptionNames.{either_none, names_for, no_apart, no_joined, two_dashes}
use Rattle.command_line.proofs.OptionRules.{Opt}

abbrev pub starts_dash : Text → Bool
starts_dash [] = false
starts_dash (x ∷ xs) = x == 45

-- the word ends options, is an option's, or begins with no dash
abbrev pub IsLong : Text → Type 0
IsLong x = (y : ℕ) × (ys : Text) × (x ≡ 45 ∷ 45 ∷ y ∷ ys)

abbrev pub Kind : Text → Type 0
Kind x = (x ≡ 45 ∷ 45 ∷ []) ⊎ (IsLong x ⊎ (starts_dash x ≡ false))

two_more : (x y : ℕ) (ys : Text) → x ≡ 45 → y ≡ 45 → Kind (x ∷ y ∷ ys)
two_more x y [] ex ey = inl (ap₂ (λ a b. a ∷ b ∷ []) ex ey)
two_more x y (z ∷ zs) ex ey = inr (inl (z, zs, ap₂ (λ a b. a ∷ b ∷ z ∷ zs) ex ey))

pub kind_of_word : (x : Text) → has_one_dash x ≡ false → Kind x
kind_of_word [] clear = inr (inr refl)
kind_of_word (x ∷ []) clear = inr (inr clear)
kind_of_word (x ∷ y ∷ ys) clear = go (x == 45) (y == 45) refl refl clear
  where
    go : (b d : Bool) → (x == 45) ≡ b → (y == 45) ≡ d → (b && not d) ≡ false → Kind (x ∷ y ∷ ys)
    go false d e f n = inr (inr e)
    go true true e f n = two_more x y ys (eqb-true x 45 e) (eqb-true y 45 f)
    go true false e f n = absurd (true≢false n)

-- ---- a word that begins with no dash

pub not_long : (x : Text) → starts_dash x ≡ false → long_of x ≡ None
not_long [] e = refl
not_long (y ∷ ys) e = ap (λ b. option_and_then long_of_rest (option_and_then (strip_byte 45) (cond b (Some ys) None))) e

pub not_short : (x : Text) → starts_dash x ≡ false → short_of x ≡ None
not_short [] e = refl
not_short (y ∷ ys) e = ap (λ b. option_and_then short_of_rest (cond b (Some ys) None)) e

pub not_end : (x : Text) → starts_dash x ≡ false → bytes_eq x (45 ∷ 45 ∷ []) ≡ false
not_end [] e = refl
not_end (y ∷ ys) e = ap (λ b. b && bytes_eq ys (45 ∷ [])) e

pub plain_two : (x : Text) → starts_dash x ≡ false → two_dashes x ≡ false
plain_two [] e = refl
plain_two (y ∷ []) e = refl
plain_two (y ∷ z ∷ zs) e = ap (λ b. b && z == 45) e

and_yes : (a : Bool) → (a && true) ≡ a
and_yes true = refl
and_yes false = refl

pub plain_value : (x : Text) → starts_dash x ≡ false → is_value x ≡ nat_lt 0 (length x)
plain_value [] e = refl
plain_value (y ∷ ys) e = ap (λ b. nat_lt 0 (length (y ∷ ys)) && not b) e ∙ and_yes (nat_lt 0 (length (y ∷ ys)))

pub long_value : (ys : Text) → is_value (45 ∷ 45 ∷ ys) ≡ false
long_value ys = and_right (nat_lt 0 (length (45 ∷ 45 ∷ ys))) false refl

-- ---- a word that begins with one dash is part of no command

dash_starts : (x : Text) → has_one_dash x ≡ true → starts_dash x ≡ true
dash_starts [] e = e
dash_starts (y ∷ []) e = e
dash_starts (y ∷ z ∷ zs) e = (and_parts (y == 45) (not (z == 45)) e).0

dash_two : (x : Text) → has_one_dash x ≡ true → two_dashes x ≡ false
dash_two [] e = refl
dash_two (y ∷ []) e = refl
dash_two (y ∷ z ∷ zs) e = go (z == 45) (and_parts (y == 45) (not (z == 45)) e).1
  where
    go : (b : Bool) → not b ≡ true → (y == 45 && b) ≡ false
    go true f = absurd (true≢false (sym f))
    go false f = and_right (y == 45) false refl

dash_end : (x : Text) → has_one_dash x ≡ true → bytes_eq x (45 ∷ 45 ∷ []) ≡ false
dash_end [] e = refl
dash_end (y ∷ []) e = and_right (nat_eq y 45) false refl
dash_end (y ∷ z ∷ zs) e = go (z == 45) (and_parts (y == 45) (not (z == 45)) e).1
  where
    go : (b : Bool) → not b ≡ true → (nat_eq y 45 && (b && bytes_eq zs [])) ≡ false
    go true f = absurd (true≢false (sym f))
    go false f = and_right (nat_eq y 45) false refl

start_value : (x : Text) → starts_dash x ≡ true → is_value x ≡ false
start_value [] e = absurd (true≢false (sym e))
start_value (y ∷ ys) e = ap (λ b. nat_lt 0 (length (y ∷ ys)) && not b) e ∙ and_right (nat_lt 0 (length (y ∷ ys))) false refl

pub then_none : {X Y : Type 0} (f : X → Option Y) (o : Option X) → ((x : X) → f x ≡ None) → option_and_then f o ≡ None
then_none f None all = refl
then_none f (Some x) all = all x

pub after_none : {X Y : Type 0} (f : X → Option Y) (o : Option X) → o ≡ None → option_and_then f o ≡ None
after_none f o none = ap (option_and_then f) none

cond_none : {X : Type 0} (b : Bool) (p q : Option X) → p ≡ None → q ≡ None → cond b p q ≡ None
cond_none true p q e f = e
cond_none false p q e f = f

pub or_either : (a b : Bool) → (a || b) ≡ true → (a ≡ true) ⊎ (b ≡ true)
or_either true b e = inl refl
or_either false b e = inr e

abbrev NoOptions : List Opt → List Text → Type 0
NoOptions os words = (given : List Given) → options_in (names_for os) given words ≡ None

last_dashed : (os : List Opt) (x : Text) → has_one_dash x ≡ true → NoOptions os (x ∷ [])
unfolding options_in
last_dashed os x dash given =
    ap (λ b. cond b (Some given) (cond (list_any is_equals x) (joined (names_for os) given x) None)) (dash_end x dash)
    ∙ either_none (list_any is_equals x) (joined (names_for os) given x) (no_joined os given x (dash_two x dash))

first_dashed : (os : List Opt) (x y : Text) (rest : List Text) → has_one_dash x ≡ true → NoOptions os (x ∷ y ∷ rest)
unfolding options_in
first_dashed os x y rest dash given = cond_none (list_any is_equals x) _ _
    (after_none (λ more. options_in (names_for os) more (y ∷ rest)) (joined (names_for os) given x) (no_joined os given x (dash_two x dash)))
    (after_none (λ more. options_in (names_for os) more rest) (apart (names_for os) given x y) (no_apart os given x y (dash_two x dash)))

second_dashed : (os : List Opt) (x y : Text) (rest : List Text) → has_one_dash y ≡ true → NoOptions os (y ∷ rest) → NoOptions os (x ∷ y ∷ rest)
unfolding options_in
second_dashed os x y rest dash none given = cond_none (list_any is_equals x) _ _
    (then_none (λ more. options_in (names_for os) more (y ∷ rest)) (joined (names_for os) given x) none)
    (ap (λ b. option_and_then (λ more. options_in (names_for os) more rest) (cond b (with_option (names_for os) given x y) None)) (start_value y (dash_starts y dash)))

later_dashed : (os : List Opt) (x y : Text) (rest : List Text) → NoOptions os (y ∷ rest) → NoOptions os rest → NoOptions os (x ∷ y ∷ rest)
unfolding options_in
later_dashed os x y rest next later given = cond_none (list_any is_equals x) _ _
    (then_none (λ more. options_in (names_for os) more (y ∷ rest)) (joined (names_for os) given x) next)
    (then_none (λ more. options_in (names_for os) more rest) (apart (names_for os) given x y) later)

pub dash_options : (os : List Opt) (words : List Text) → list_any has_one_dash words ≡ true → NoOptions os words
dash_options os [] dash = absurd (true≢false (sym dash))
dash_options os (x ∷ []) dash = last os x (or_either (has_one_dash x) false dash)
  where
    last : (os : List Opt) (x : Text) → (has_one_dash x ≡ true) ⊎ (false ≡ true) → NoOptions os (x ∷ [])
    last os x (inl e) = last_dashed os x e
    last os x (inr e) = absurd (true≢false (sym e))
dash_options os (x ∷ y ∷ rest) dash =
    first (or_either (has_one_dash x) (list_any has_one_dash (y ∷ rest)) dash) (dash_options os (y ∷ rest)) (dash_options os rest)
  where
    second : NoOptions os (y ∷ rest) → (list_any has_one_dash rest ≡ true → NoOptions os rest) → (has_one_dash y ≡ true) ⊎ (list_any has_one_dash rest ≡ true)
        → NoOptions os (x ∷ y ∷ rest)
    second next later (inl here) = second_dashed os x y rest here next
    second next later (inr there) = later_dashed os x y rest next (later there)

    first : (has_one_dash x ≡ true) ⊎ (list_any has_one_dash (y ∷ rest) ≡ true) → (list_any has_one_dash (y ∷ rest) ≡ true → NoOptions os (y ∷ rest))
        → (list_any has_one_dash rest ≡ true → NoOptions os rest) → NoOptions os (x ∷ y ∷ rest)
    first (inl here) next later = first_dashed os x y rest here
    first (inr there) next later = second (next there) later (or_either (has_one_dash y) (list_any has_one_dash rest) there)

-- and no number
start_number : (x : Text) → starts_dash x ≡ true → load_number x ≡ None
start_number [] e = absurd (true≢false (sym e))
start_number (y ∷ ys) e = subst (λ (k : ℕ). load_number (k ∷ ys) ≡ None) (sym (eqb-true y 45 e)) refl

pub dash_number : (words : List Text) → list_any has_one_dash words ≡ true → one_number words ≡ None
dash_number [] e = absurd (true≢false (sym e))
dash_number (x ∷ []) e = one (or_either (has_one_dash x) false e)
  where
    one : (has_one_dash x ≡ true) ⊎ (false ≡ true) → load_number x ≡ None
    one (inl h) = start_number x (dash_starts x h)
    one (inr h) = absurd (true≢false (sym h))
dash_number (x ∷ y ∷ []) e = two (or_either (has_one_dash x) (has_one_dash y || false) e)
  where
    behind : (has_one_dash y ≡ true) ⊎ (false ≡ true) → cond (bytes_eq x (45 ∷ 45 ∷ [])) (load_number y) (cond (bytes_eq y (45 ∷ 45 ∷ [])) (load_number x) None) ≡ None
    behind (inr h) = absurd (true≢false (sym h))
    behind (inl h) = cond_none (bytes_eq x (45 ∷ 45 ∷ [])) _ _ (start_number y (dash_starts y h))
        (ap (λ b. cond b (load_number x) None) (dash_end y h))

    two : (has_one_dash x ≡ true) ⊎ ((has_one_dash y || false) ≡ true) → cond (bytes_eq x (45 ∷ 45 ∷ [])) (load_number y) (cond (bytes_eq y (45 ∷ 45 ∷ [])) (load_number x) None) ≡ None
    two (inl h) = ap (λ b. cond b (load_number y) (cond (bytes_eq y (45 ∷ 45 ∷ [])) (load_number x) None)) (dash_end x h)
        ∙ either_none (bytes_eq y (45 ∷ 45 ∷ [])) (load_number x) (start_number x (dash_starts x h))
    two (inr h) = behind (or_either (has_one_dash y) false h)
dash_number (x ∷ y ∷ z ∷ words) e = refl
