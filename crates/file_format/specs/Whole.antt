-- Bytes that are one value and nothing else, and a value as a list of its bytes.
use Rattle.std.specs.Prelude.{◌≡◌, ℕ, List, [], ◌∷◌, ◌++◌, length, Option, None, Some, Result, Ok, Err, refl}
use Rattle.std.specs.Option.{option_and_then}
use Rattle.std.specs.Int.{w32, to_le_bytes}
use Rattle.std.proofs.Common.{sym, ap, subst, ◌∙◌, append_assoc}
use Rattle.std.proofs.lemmas.List.{append-nil, take_at}
use Rattle.std.proofs.lemmas.Option.{option_and_then_some}
use Rattle.file_format.specs.declared.error.ReadError.{ReadError}
use Rattle.file_format.specs.declared.error.ReadError.TheVariants.{Memory, Bad}
use Rattle.file_format.specs.Format.{Format, IsBytes}
use Rattle.file_format.specs.Kinds.{byte_list}
use Rattle.file_format.specs.Laws.{IsBytes-rest, IsBytes-take}

-- ---- all bytes are one value

-- these bytes are the encoding of this value
abbrev pub IsEncoding : {A : Type 0} → Format A → List ℕ → A → Type 0
IsEncoding format given v = format.Fits v × (given ≡ format.bytes v)

-- a value behind which nothing is left
abbrev pub ended_at : {A : Type 0} → A → List ℕ → Option A
ended_at v [] = Some v
ended_at v (b ∷ rest) = None

-- how it is read
abbrev pub whole_at : {A : Type 0} → (List ℕ → Option (A × List ℕ)) → List ℕ → Option A
whole_at item given = option_and_then (λ x. ended_at x.0 x.1) (item given)

abbrev pub TakesWhole : {A : Type 0} → Format A → List ℕ → Result A ReadError → Type 0
TakesWhole format given (Ok v) = whole_at format.reads given ≡ Some v
TakesWhole format given (Err Bad) = whole_at format.reads given ≡ None
TakesWhole format given (Err Memory) = Unit {0}

-- and why that is right
ended_some : {A : Type 0} (v u : A) (rest : List ℕ) → ended_at v rest ≡ Some u → (v ≡ u) × (rest ≡ [])
ended_some v u [] e = (cc, refl)
ended_some v u (b ∷ rest) e = absurd cc

pub whole_again : {A : Type 0} (format : Format A) (v : A) → format.Fits v
    → whole_at format.reads (format.bytes v) ≡ Some v
whole_again {A} format v fits =
    ap (whole_at format.reads) (sym (append-nil (format.bytes v)))
    ∙ ap (option_and_then (λ (x : A × List ℕ). ended_at x.0 x.1)) (format.again v [] fits)

pub whole_only : {A : Type 0} (format : Format A) (given : List ℕ) (v : A) → IsBytes given
    → whole_at format.reads given ≡ Some v → IsEncoding format given v
whole_only {A} format given v is e =
    option_and_then_some (λ (x : A × List ℕ). ended_at x.0 x.1) (format.reads given) v e
    (λ x ex ey.
    let end = ended_some x.0 v x.1 ey in
    let a = format.only given x.0 x.1 is ex in
    subst (IsEncoding format given) end.0 (
      a.0,
      a.1 ∙ ap (λ (rest : List ℕ). format.bytes x.0 ++ rest) end.1 ∙ append-nil (format.bytes x.0),
    ))

-- ---- a value as a list of its bytes

abbrev pub counted_at : {A : Type 0} → (List ℕ → Option (A × List ℕ)) → List ℕ → Option (A × List ℕ)
counted_at item given = option_and_then (λ x. option_and_then (λ v. Some (v, x.1)) (whole_at item x.0))
    (byte_list.reads given)

-- the bytes of such a list are bytes
listed : (given bytes rest : List ℕ) → given ≡ byte_list.bytes bytes ++ rest → IsBytes given → IsBytes bytes
unfolding byte_list
listed given bytes rest e is =
    let behind : IsBytes (bytes ++ rest) = IsBytes-rest given (to_le_bytes w32 (length bytes)) (bytes ++ rest)
    (e ∙ append_assoc (to_le_bytes w32 (length bytes)) bytes rest) is in
    subst IsBytes (take_at bytes rest (length bytes) refl) (IsBytes-take (length bytes) (bytes ++ rest) behind)

pub counted_again : {A : Type 0} (item : Format A) (v : A) (rest : List ℕ)
    → item.Fits v × byte_list.Fits (item.bytes v)
    → counted_at item.reads (byte_list.bytes (item.bytes v) ++ rest) ≡ Some (v, rest)
counted_again {A} item v rest fits =
    ap (option_and_then (λ (x : List ℕ × List ℕ). option_and_then (λ (v : A). Some (v, x.1))
    (whole_at item.reads x.0))) (byte_list.again (item.bytes v) rest fits.1)
    ∙ ap (option_and_then (λ (v : A). Some (v, rest))) (whole_again item v fits.0)

pub counted_only : {A : Type 0} (item : Format A) (given : List ℕ) (v : A) (rest : List ℕ) → IsBytes given
    → counted_at item.reads given ≡ Some (v, rest)
    → (item.Fits v × byte_list.Fits (item.bytes v)) × (given ≡ byte_list.bytes (item.bytes v) ++ rest)
counted_only {A} item given v rest is e =
    option_and_then_some (λ (x : List ℕ × List ℕ). option_and_then (λ (v : A). Some (v, x.1))
    (whole_at item.reads x.0)) (byte_list.reads given) (v, rest) e
    (λ x ex ey. option_and_then_some (λ (v : A). Some (v, x.1)) (whole_at item.reads x.0) (v, rest) ey
    (λ u eu made.
    let a = byte_list.only given x.0 x.1 is ex in
    let b = whole_only item x.0 u (listed given x.0 x.1 a.1 is) eu in
    let same : (u, x.1) ≡ (v, rest) = cc in
    subst (λ (p : A × List ℕ). (item.Fits p.0 × byte_list.Fits (item.bytes p.0))
    × (given ≡ byte_list.bytes (item.bytes p.0) ++ p.1)) same (
      (b.0, subst byte_list.Fits b.1 a.0),
      a.1 ∙ ap (λ (bytes : List ℕ). byte_list.bytes bytes ++ x.1) b.1,
    )))

-- a count of 32 bits, and so many bytes, which are the value's
unfoldable pub counted : {A : Type 0} → Format A → Format A
counted item = record {
  Fits = λ v. item.Fits v × byte_list.Fits (item.bytes v);
  bytes = λ v. byte_list.bytes (item.bytes v);
  puts = λ v out. byte_list.puts (item.bytes v) out;
  reads = counted_at item.reads;
  same = λ v out. byte_list.same (item.bytes v) out;
  again = counted_again item;
  only = counted_only item;
}
