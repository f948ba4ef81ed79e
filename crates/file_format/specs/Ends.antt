-- A value that ends a list of bytes: what it doesn't have stands nowhere.
use Rattle.std.specs.Prelude.{◌≡◌, ℕ, Bool, true, false, IsTrue, if◌then◌else◌, List, [], ◌∷◌, ◌++◌, length, Option, Some, None, Result, Ok, Err, refl}
use Rattle.std.specs.Option.{option_and_then}
use Rattle.std.specs.Int.{w32, to_le_bytes}
use Rattle.std.proofs.Common.{sym, ap, subst, ◌∙◌, append_assoc}
use Rattle.std.proofs.lemmas.List.{take_at}
use Rattle.std.proofs.lemmas.Option.{option_and_then_some}
use Rattle.file_format.specs.declared.error.ReadError.{ReadError}
use Rattle.file_format.specs.declared.error.ReadError.TheVariants.{Memory, Bad}
use Rattle.file_format.specs.Format.{Format, IsBytes}
use Rattle.file_format.specs.Kinds.{byte_list}
use Rattle.file_format.specs.Laws.{IsBytes-rest, IsBytes-take}
use Rattle.file_format.specs.Whole.{whole_at, whole_again, whole_only}

-- A format of whole lists of bytes: which values have one, what it is, and how it is read. As of a `Format`, what is written is
-- read again, and only what is written is read; but nothing may follow.
pub record Listing (A : Type 0) : Type 1 where
  pub Fits : A → Type 0
  pub bytes : A → List ℕ
  pub reads : List ℕ → Option A
  pub again : (v : A) → Fits v → reads (bytes v) ≡ Some v
  pub only : (given : List ℕ) (v : A) → IsBytes given → reads given ≡ Some v → Fits v × (given ≡ bytes v)

-- a value of a format, and nothing else
abbrev pub whole : {A : Type 0} → Format A → Listing A
whole item = record {
  Fits = item.Fits;
  bytes = item.bytes;
  reads = whole_at item.reads;
  again = whole_again item;
  only = whole_only item;
}

-- What may be lacking at an end: `none` is what is lacking, as the test says. Whatever else there is has at least one byte.
pub record Lacking (B : Type 0) : Type 1 where
  pub item : Format B
  pub none : B
  pub is_none : B → Bool
  pub lacks : is_none none ≡ true
  pub only_none : (b : B) → is_none b ≡ true → b ≡ none
  pub some : (b : B) → item.Fits b → item.bytes b ≡ [] → ⊥

module _ {B : Type 0} (last : Lacking B) where
  abbrev pub EndFits : B → Type 0
  EndFits b = last.is_none b ≡ false → last.item.Fits b

  -- what is lacking has no byte
  abbrev pub end_bytes : B → List ℕ
  end_bytes b = if last.is_none b then [] else last.item.bytes b

  -- what is lacking isn't written as something that is there
  abbrev pub there : B → Option B
  there b = if last.is_none b then None else Some b

  abbrev pub end_at : List ℕ → Option B
  end_at [] = Some last.none
  end_at (byte ∷ more) = option_and_then there (whole_at last.item.reads (byte ∷ more))

  there_is : (b : B) → last.is_none b ≡ false → there b ≡ Some b
  there_is b is = ap (λ (t : Bool). if t then None else Some b) is

  some_at : (b : B) (given : List ℕ) → last.item.bytes b ≡ given → last.item.Fits b → last.is_none b ≡ false
      → end_at given ≡ Some b
  some_at b [] is fits has = absurd (last.some b fits is)
  some_at b (byte ∷ more) is fits has =
      ap (λ (g : List ℕ). option_and_then there (whole_at last.item.reads g)) (sym is)
      ∙ ap (option_and_then there) (whole_again last.item b fits) ∙ there_is b has

  end_again_by : (b : B) (lacks : Bool) → last.is_none b ≡ lacks → EndFits b
      → end_at (if lacks then [] else last.item.bytes b) ≡ Some b
  end_again_by b true is fits = ap Some (sym (last.only_none b is))
  end_again_by b false is fits = some_at b (last.item.bytes b) refl (fits is) is

  pub end_again : (b : B) → EndFits b → end_at (end_bytes b) ≡ Some b
  end_again b fits = end_again_by b (last.is_none b) refl fits

  end_only_by : (b c : B) (lacks : Bool) (given : List ℕ) → last.is_none c ≡ lacks → there c ≡ Some b → last.item.Fits c
      → given ≡ last.item.bytes c → EndFits b × (given ≡ end_bytes b)
  end_only_by b c true given is e fits same = absurd (let none = ap (λ (t : Bool). if t then None else Some c) is in cc)
  end_only_by b c false given is e fits same =
      let one : c ≡ b = let some = there_is c is in cc in
      subst (λ (x : B). EndFits x × (given ≡ end_bytes x)) one (
        λ has. fits,
        same ∙ sym (ap (λ (t : Bool). if t then [] else last.item.bytes c) is),
      )

  pub end_only : (given : List ℕ) (b : B) → IsBytes given → end_at given ≡ Some b → EndFits b × (given ≡ end_bytes b)
  end_only [] b is e =
      let one : last.none ≡ b = cc in
      subst (λ (x : B). EndFits x × ([] ≡ end_bytes x)) one (
        λ has. absurd (let lacks = last.lacks in cc),
        sym (ap (λ (t : Bool). if t then [] else last.item.bytes last.none) last.lacks),
      )
  end_only (byte ∷ more) b is e =
      option_and_then_some there (whole_at last.item.reads (byte ∷ more)) b e
      (λ c ec eb.
      let a = whole_only last.item (byte ∷ more) c is ec in
      end_only_by b c (last.is_none c) (byte ∷ more) refl eb a.0 a.1)

-- first a value, and then what may be lacking
module _ {A B : Type 0} (first : Format A) (last : Lacking B) where
  abbrev ended_at : List ℕ → Option (A × B)
  ended_at given =
      option_and_then (λ (x : A × List ℕ). option_and_then (λ (b : B). Some (x.0, b)) (end_at last x.1)) (first.reads given)

  pub ended_again : (v : A × B) → first.Fits v.0 × EndFits last v.1 → ended_at (first.bytes v.0 ++ end_bytes last v.1) ≡ Some v
  ended_again v fits =
      ap (option_and_then (λ (x : A × List ℕ). option_and_then (λ (b : B). Some (x.0, b)) (end_at last x.1)))
      (first.again v.0 (end_bytes last v.1) fits.0)
      ∙ ap (option_and_then (λ (b : B). Some (v.0, b))) (end_again last v.1 fits.1)

  pub ended_only : (given : List ℕ) (v : A × B) → IsBytes given → ended_at given ≡ Some v
      → (first.Fits v.0 × EndFits last v.1) × (given ≡ first.bytes v.0 ++ end_bytes last v.1)
  ended_only given v is e =
      option_and_then_some
      (λ (x : A × List ℕ). option_and_then (λ (b : B). Some (x.0, b)) (end_at last x.1)) (first.reads given) v e
      (λ x ex ey.
      option_and_then_some (λ (b : B). Some (x.0, b)) (end_at last x.1) v ey
      (λ b eb made.
      let a = first.only given x.0 x.1 is ex in
      let z = end_only last x.1 b (IsBytes-rest given (first.bytes x.0) x.1 a.1 is) eb in
      let same : (x.0, b) ≡ v = cc in
      subst (λ (p : A × B). (first.Fits p.0 × EndFits last p.1) × (given ≡ first.bytes p.0 ++ end_bytes last p.1)) same (
        (a.0, z.0),
        a.1 ∙ ap (λ (rest : List ℕ). first.bytes x.0 ++ rest) z.1,
      )))

  unfoldable pub ended : Listing (A × B)
  ended = record {
    Fits = λ v. first.Fits v.0 × EndFits last v.1;
    bytes = λ v. first.bytes v.0 ++ end_bytes last v.1;
    reads = ended_at;
    again = ended_again;
    only = ended_only;
  }

-- ---- whole lists of other values

-- the values that a test passes
module _ {A : Type 0} (test : A → Bool) (item : Listing A) where
  abbrev passed_at : List ℕ → Option A
  passed_at given = option_and_then (λ (v : A). if test v then Some v else None) (item.reads given)

  chosen_some : (t : Bool) (v u : A) → (if t then Some v else None) ≡ Some u → IsTrue t × (v ≡ u)
  chosen_some true v u e = (refl, let same : v ≡ u = cc in same)
  chosen_some false v u e = cc

  pub passed_again : (v : A) → item.Fits v × IsTrue (test v) → passed_at (item.bytes v) ≡ Some v
  passed_again v fits =
      ap (option_and_then (λ (v : A). if test v then Some v else None)) (item.again v fits.0)
      ∙ ap (λ (t : Bool). if t then Some v else None) fits.1

  pub passed_only : (given : List ℕ) (v : A) → IsBytes given → passed_at given ≡ Some v
      → (item.Fits v × IsTrue (test v)) × (given ≡ item.bytes v)
  passed_only given v is e =
      option_and_then_some (λ (v : A). if test v then Some v else None) (item.reads given) v e
      (λ u eu made.
      let a = item.only given u is eu in
      let b = chosen_some (test u) u v made in
      subst (λ (x : A). (item.Fits x × IsTrue (test x)) × (given ≡ item.bytes x)) b.1 ((a.0, b.0), a.1))

  abbrev pub passing_list : Listing A
  passing_list = record {
    Fits = λ v. item.Fits v × IsTrue (test v);
    bytes = item.bytes;
    reads = passed_at;
    again = passed_again;
    only = passed_only;
  }

-- those that are made of values that fit, each of which is what the value has
module _ {A B : Type 0} (make : A → B) (part : B → A) (item : Listing A)
    (law : (a : A) → item.Fits a → a ≡ part (make a)) where
  abbrev stood_at : List ℕ → Option B
  stood_at given = option_and_then (λ (a : A). Some (make a)) (item.reads given)

  pub stood_again : (v : B) → (v ≡ make (part v)) × item.Fits (part v) → stood_at (item.bytes (part v)) ≡ Some v
  stood_again v fits =
      ap (option_and_then (λ (a : A). Some (make a))) (item.again (part v) fits.1) ∙ ap Some (sym fits.0)

  pub stood_only : (given : List ℕ) (v : B) → IsBytes given → stood_at given ≡ Some v
      → ((v ≡ make (part v)) × item.Fits (part v)) × (given ≡ item.bytes (part v))
  stood_only given v is e =
      option_and_then_some (λ (a : A). Some (make a)) (item.reads given) v e
      (λ u eu made.
      let a = item.only given u is eu in
      let same : make u ≡ v = cc in
      subst (λ (x : B). ((x ≡ make (part x)) × item.Fits (part x)) × (given ≡ item.bytes (part x))) same
      (subst (λ (k : A). ((make u ≡ make k) × item.Fits k) × (given ≡ item.bytes k)) (law u a.0) ((refl, a.0), a.1)))

  abbrev pub standing_list : Listing B
  standing_list = record {
    Fits = λ v. (v ≡ make (part v)) × item.Fits (part v);
    bytes = λ v. item.bytes (part v);
    reads = stood_at;
    again = stood_again;
    only = stood_only;
  }

-- a value, and then a list whose format it chooses; the list gives the value back
module _ {A B : Type 0} (first : Format A) (second : A → Listing B) (key : B → A)
    (law : (a : A) (v : B) → (second a).Fits v → a ≡ key v) where
  abbrev chosen_at : List ℕ → Option B
  chosen_at given = option_and_then (λ (x : A × List ℕ). (second x.0).reads x.1) (first.reads given)

  pub chosen_again : (v : B) → first.Fits (key v) × (second (key v)).Fits v
      → chosen_at (first.bytes (key v) ++ (second (key v)).bytes v) ≡ Some v
  chosen_again v fits =
      ap (option_and_then (λ (x : A × List ℕ). (second x.0).reads x.1))
      (first.again (key v) ((second (key v)).bytes v) fits.0) ∙ (second (key v)).again v fits.1

  pub chosen_only : (given : List ℕ) (v : B) → IsBytes given → chosen_at given ≡ Some v
      → (first.Fits (key v) × (second (key v)).Fits v) × (given ≡ first.bytes (key v) ++ (second (key v)).bytes v)
  chosen_only given v is e =
      option_and_then_some (λ (x : A × List ℕ). (second x.0).reads x.1) (first.reads given) v e
      (λ x ex ev.
      let a = first.only given x.0 x.1 is ex in
      let b = (second x.0).only x.1 v (IsBytes-rest given (first.bytes x.0) x.1 a.1 is) ev in
      subst (λ (k : A). (first.Fits k × (second k).Fits v) × (given ≡ first.bytes k ++ (second k).bytes v)) (law x.0 v b.0) (
        (a.0, b.0),
        a.1 ∙ ap (λ (rest : List ℕ). first.bytes x.0 ++ rest) b.1,
      ))

  abbrev pub chosen_list : Listing B
  chosen_list = record {
    Fits = λ v. first.Fits (key v) × (second (key v)).Fits v;
    bytes = λ v. first.bytes (key v) ++ (second (key v)).bytes v;
    reads = chosen_at;
    again = chosen_again;
    only = chosen_only;
  }

pub no_list_only : {A : Type 0} (given : List ℕ) (v : A) → IsBytes given → None ≡ Some v → ⊥ × (given ≡ [])
no_list_only given v is e = absurd (cc)

-- no value
abbrev pub no_list : {A : Type 0} → Listing A
no_list = record {
  Fits = λ v. ⊥;
  bytes = λ v. [];
  reads = λ given. None;
  again = λ v fits. absurd fits;
  only = no_list_only;
}

-- ---- what a call has done

-- all bytes are this value, or none; or memory ran out
abbrev pub TakesAll : {A : Type 0} → Listing A → List ℕ → Result A ReadError → Type 0
TakesAll item given (Ok v) = item.reads given ≡ Some v
TakesAll item given (Err Bad) = item.reads given ≡ None
TakesAll item given (Err Memory) = Unit {0}

-- all bytes are what may be lacking, if there are any
abbrev pub TakesEnd : {B : Type 0} → Lacking B → List ℕ → Result B ReadError → Type 0
TakesEnd last given (Ok b) = end_at last given ≡ Some b
TakesEnd last given (Err Bad) = end_at last given ≡ None
TakesEnd last given (Err Memory) = Unit {0}

-- ---- as a list of its bytes

module _ {A : Type 0} (item : Listing A) where
  abbrev listed_at : List ℕ → Option (A × List ℕ)
  listed_at given =
      option_and_then (λ (x : List ℕ × List ℕ). option_and_then (λ (v : A). Some (v, x.1)) (item.reads x.0)) (byte_list.reads given)

  -- the bytes of such a list are bytes
  are_bytes : (given bytes rest : List ℕ) → given ≡ byte_list.bytes bytes ++ rest → IsBytes given → IsBytes bytes
  unfolding byte_list
  are_bytes given bytes rest e is =
      let behind : IsBytes (bytes ++ rest) = IsBytes-rest given (to_le_bytes w32 (length bytes)) (bytes ++ rest)
      (e ∙ append_assoc (to_le_bytes w32 (length bytes)) bytes rest) is in
      subst IsBytes (take_at bytes rest (length bytes) refl) (IsBytes-take (length bytes) (bytes ++ rest) behind)

  pub listed_again : (v : A) (rest : List ℕ) → item.Fits v × byte_list.Fits (item.bytes v)
      → listed_at (byte_list.bytes (item.bytes v) ++ rest) ≡ Some (v, rest)
  listed_again v rest fits =
      ap (option_and_then (λ (x : List ℕ × List ℕ). option_and_then (λ (v : A). Some (v, x.1)) (item.reads x.0)))
      (byte_list.again (item.bytes v) rest fits.1)
      ∙ ap (option_and_then (λ (v : A). Some (v, rest))) (item.again v fits.0)

  pub listed_only : (given : List ℕ) (v : A) (rest : List ℕ) → IsBytes given → listed_at given ≡ Some (v, rest)
      → (item.Fits v × byte_list.Fits (item.bytes v)) × (given ≡ byte_list.bytes (item.bytes v) ++ rest)
  listed_only given v rest is e =
      option_and_then_some
      (λ (x : List ℕ × List ℕ). option_and_then (λ (v : A). Some (v, x.1)) (item.reads x.0)) (byte_list.reads given) (v, rest) e
      (λ x ex ey.
      option_and_then_some (λ (v : A). Some (v, x.1)) (item.reads x.0) (v, rest) ey
      (λ u eu made.
      let a = byte_list.only given x.0 x.1 is ex in
      let b = item.only x.0 u (are_bytes given x.0 x.1 a.1 is) eu in
      let same : (u, x.1) ≡ (v, rest) = cc in
      subst (λ (p : A × List ℕ). (item.Fits p.0 × byte_list.Fits (item.bytes p.0))
      × (given ≡ byte_list.bytes (item.bytes p.0) ++ p.1)) same (
        (b.0, subst byte_list.Fits b.1 a.0),
        a.1 ∙ ap (λ (bytes : List ℕ). byte_list.bytes bytes ++ x.1) b.1,
      )))

  -- a count of 32 bits, and so many bytes, which are the value's
  unfoldable pub listed : Format A
  listed = record {
    Fits = λ v. item.Fits v × byte_list.Fits (item.bytes v);
    bytes = λ v. byte_list.bytes (item.bytes v);
    puts = λ v out. byte_list.puts (item.bytes v) out;
    reads = listed_at;
    same = λ v out. byte_list.same (item.bytes v) out;
    again = listed_again;
    only = listed_only;
  }
