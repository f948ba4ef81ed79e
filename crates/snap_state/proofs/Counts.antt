-- A list whose count is judged before its items are read.
use Rattle.std.proofs.Common.{◌≡◌, ℕ, zero, suc, ◌<◌, ◌≤◌, nat_le, Bool, cond, List, [], ◌∷◌, length, Option, Some, None, Err, refl, sym, ap, ◌∙◌}
use Rattle.std.specs.Option.{option_and_then}
use Rattle.std.proofs.lemmas.Bool.{le-leb, lt-leb}
use Rattle.std.proofs.lemmas.Option.{option_and_then_some}
use Rattle.file_format.specs.Format.{Format}
use Rattle.file_format.specs.Kinds.{list_of, number32, times, passing}
use Rattle.file_format.specs.Reading.{Takes}
use Rattle.file_format.specs.declared.error.ReadError.{ReadError}
use Rattle.file_format.specs.declared.error.ReadError.TheVariants.{Bad, Memory}
use Rattle.file_format.specs.Readers.{times_at}

-- so many values were read
times_long : {A : Type 0} (item : List ℕ → Option (A × List ℕ)) (n : ℕ) (given : List ℕ) (read : List A × List ℕ)
    → times_at item n given ≡ Some read → length read.0 ≡ n
times_long {A} item zero given read is =
    let same : ([], given) ≡ read = cc in
    ap (λ (p : List A × List ℕ). length p.0) (sym same)
times_long {A} item (suc n) given read is =
    option_and_then_some (λ (x : A × List ℕ). option_and_then (λ (y : List A × List ℕ). Some (x.0 ∷ y.0, y.1)) (times_at item n x.1))
    (item given) read is
    (λ x ex ey. option_and_then_some (λ (y : List A × List ℕ). Some (x.0 ∷ y.0, y.1)) (times_at item n x.1) read ey
    (λ y ez made.
    let same : (x.0 ∷ y.0, y.1) ≡ read = cc in
    ap (λ (p : List A × List ℕ). length p.0) (sym same) ∙ ap suc (times_long item n x.1 y ez)))

-- a list of at most so many
abbrev pub few : {A : Type 0} → ℕ → Format A → Format (List A)
few most item = passing (λ vs. nat_le (length vs) most) (list_of item)

module _ {A : Type 0} (item : Format A) (most : ℕ) (given : List ℕ) where
  no_count : number32.reads given ≡ None → (few most item).reads given ≡ None
  unfolding list_of number32 times
  no_count none =
      ap (λ (o : Option (ℕ × List ℕ)). option_and_then (λ (x : List A × List ℕ). cond (nat_le (length x.0) most) (Some x) None)
      (option_and_then (λ (x : ℕ × List ℕ). times_at item.reads x.0 x.1) o)) none

  -- its count isn't there
  pub uncounted : (e : ReadError) (left : List ℕ) → Takes number32 given left (Err e) → Takes (few most item) given left (Err e)
  uncounted Bad left none = no_count none
  uncounted Memory left none = tt

module _ {A : Type 0} (item : Format A) (most count : ℕ) (given rest : List ℕ) (counted : number32.reads given ≡ Some (count, rest)) where
  -- what is read of the list, by what is read behind its count
  behind : (read : Option (List A × List ℕ)) → times_at item.reads count rest ≡ read
      → (few most item).reads given ≡ option_and_then (λ x. cond (nat_le (length x.0) most) (Some x) None) read
  unfolding list_of number32 times
  behind read is =
      ap (λ (o : Option (ℕ × List ℕ)). option_and_then (λ (x : List A × List ℕ). cond (nat_le (length x.0) most) (Some x) None)
      (option_and_then (λ (x : ℕ × List ℕ). times_at item.reads x.0 x.1) o)) counted
      ∙ ap (option_and_then (λ (x : List A × List ℕ). cond (nat_le (length x.0) most) (Some x) None)) is

  many : most < count → (read : Option (List A × List ℕ)) → times_at item.reads count rest ≡ read
      → option_and_then (λ (x : List A × List ℕ). cond (nat_le (length x.0) most) (Some x) None) read ≡ None
  many more None is = refl
  many more (Some x) is =
      ap (λ (b : Bool). cond b (Some x) None)
      (ap (λ (n : ℕ). nat_le n most) (times_long item.reads count rest x is) ∙ lt-leb _ _ more)

  pub too_many : most < count → (few most item).reads given ≡ None
  too_many more = behind _ refl ∙ many more _ refl

  -- its items aren't there
  pub stuck : (e : ReadError) (left : List ℕ) → Takes (times count item) rest left (Err e) → Takes (few most item) given left (Err e)
  unfolding times
  stuck Bad left none = behind None none
  stuck Memory left none = tt

  pub some_few : count ≤ most → (read : List A × List ℕ) → (times count item).reads rest ≡ Some read
      → (few most item).reads given ≡ Some read
  unfolding times
  some_few le read is =
      behind (Some read) is
      ∙ ap (λ (b : Bool). cond b (Some read) None)
      (ap (λ (n : ℕ). nat_le n most) (times_long item.reads count rest read is) ∙ le-leb _ _ le)
