-- Pages that are looked at one by one, and those of a kind.
use Rattle.std.proofs.Common.{◌≡◌, ℕ, ◌+◌, ◌*◌, ◌-◌, ◌<◌, ◌≤◌, ◌&&◌, nat_le, nat_lt, Bool, true, false, not, cond, List, [], ◌∷◌, ◌++◌, length, drop, take, get_or, refl, sym, ap, ◌∙◌, arith, append_assoc}
use Rattle.std.specs.List.{list_all}
use Rattle.std.proofs.lemmas.Bool.{and_parts, le-leb, leb-true}
use Rattle.std.proofs.lemmas.List.{append-nil, drop_all, drop_more}
use Rattle.file_format.specs.Readers.{are_zeros}
use Rattle.snap_diff.specs.Runs.{chosen, kinds_of}
use Rattle.snap_diff.proofs.Filled.{kinds_from}
use Rattle.snap_writer.specs.Selected.{are_there}

-- the kinds of the first pages, which those of the others are put behind
pub record Kinded (bytes : List ℕ) (n i : ℕ) (kinds : List Bool) : Type 0 where
  pub whole : kinds ++ kinds_of (n - i) (drop (4096 * i) bytes) ≡ kinds_of n bytes

pub kinds_none : (bytes : List ℕ) (n : ℕ) → Kinded bytes n 0 []
kinds_none bytes n = record { whole = ap (λ (k : ℕ). kinds_of k bytes) (omega arith) }

pub kinds_more : (bytes page : List ℕ) (n i : ℕ) (kinds : List Bool) (b : Bool) → Kinded bytes n i kinds → i < n
    → page ≡ take 4096 (drop (4096 * i) bytes) → b ≡ not (are_zeros page) → Kinded bytes n (i + 1) (kinds ++ b ∷ [])
kinds_more bytes page n i kinds b so_far lt is kind =
    let zero_first : 0 + 4096 * i ≡ 4096 * i = omega arith in
    let next : 0 + 4096 * (i + 1) ≡ 4096 * (i + 1) = omega arith in
    let step : kinds_of (n - i) (drop (4096 * i) bytes) ≡ b ∷ kinds_of (n - (i + 1)) (drop (4096 * (i + 1)) bytes) =
    ap (λ (k : ℕ). kinds_of (n - i) (drop k bytes)) (sym zero_first)
    ∙ kinds_from bytes 0 n i lt
    ∙ ap (λ (k : ℕ). not (are_zeros (take 4096 (drop k bytes))) ∷ kinds_of (n - (i + 1)) (drop (0 + 4096 * (i + 1)) bytes)) zero_first
    ∙ ap (λ (k : ℕ). not (are_zeros (take 4096 (drop (4096 * i) bytes))) ∷ kinds_of (n - (i + 1)) (drop k bytes)) next
    ∙ ap (λ (l : List ℕ). not (are_zeros l) ∷ kinds_of (n - (i + 1)) (drop (4096 * (i + 1)) bytes)) (sym is)
    ∙ ap (λ (k : Bool). k ∷ kinds_of (n - (i + 1)) (drop (4096 * (i + 1)) bytes)) (sym kind) in
    record {
      whole = append_assoc kinds (b ∷ []) (kinds_of (n - (i + 1)) (drop (4096 * (i + 1)) bytes))
          ∙ ap (λ (l : List Bool). kinds ++ l) (sym step) ∙ so_far.whole;
    }

pub kinds_end : (bytes : List ℕ) (n i : ℕ) (kinds : List Bool) → Kinded bytes n i kinds → n ≤ i → kinds ≡ kinds_of n bytes
kinds_end bytes n i kinds so_far all =
    let none : 0 ≡ n - i = omega (arith, all) in
    sym (append-nil kinds) ∙ ap (λ (k : ℕ). kinds ++ kinds_of k (drop (4096 * i) bytes)) none ∙ so_far.whole

-- ---- numbers of a kind

by_kind : (n : ℕ) (ns : List ℕ) (kind : Bool) (kinds : List Bool) → chosen (n ∷ ns) (kind ∷ kinds) ≡ cond kind (n ∷ []) [] ++ chosen ns kinds
by_kind n ns true kinds = refl
by_kind n ns false kinds = refl

pub chosen_more : (some new ns : List ℕ) (kinds : List Bool) (i n : ℕ) (kind : Bool) → i < length ns → length kinds ≡ length ns
    → n ≡ get_or ns i n → kind ≡ get_or kinds i kind → new ≡ some ++ cond kind (n ∷ []) []
    → new ++ chosen (drop (i + 1) ns) (drop (i + 1) kinds) ≡ some ++ chosen (drop i ns) (drop i kinds)
chosen_more some new ns kinds i n kind lt many is kind_is put =
    let rest : List ℕ = chosen (drop (i + 1) ns) (drop (i + 1) kinds) in
    let here : drop i ns ≡ n ∷ drop (i + 1) ns = drop_more ns i n lt ∙ ap (λ (x : ℕ). x ∷ drop (i + 1) ns) (sym is) in
    let there : drop i kinds ≡ kind ∷ drop (i + 1) kinds = drop_more kinds i kind (omega (arith, lt, many)) ∙ ap (λ (x : Bool). x ∷ drop (i + 1) kinds) (sym kind_is) in
    ap (λ (l : List ℕ). l ++ rest) put
    ∙ append_assoc some (cond kind (n ∷ []) []) rest
    ∙ ap (λ (l : List ℕ). some ++ l) (sym (by_kind n (drop (i + 1) ns) kind (drop (i + 1) kinds)))
    ∙ ap (λ (l : List ℕ). some ++ chosen l (kind ∷ drop (i + 1) kinds)) (sym here)
    ∙ ap (λ (l : List Bool). some ++ chosen (drop i ns) l) (sym there)

pub chosen_end : (some ns : List ℕ) (kinds : List Bool) (i : ℕ) → length ns ≤ i → some ++ chosen (drop i ns) (drop i kinds) ≡ some
chosen_end some ns kinds i all = ap (λ (l : List ℕ). some ++ chosen l (drop i kinds)) (drop_all i ns all) ∙ append-nil some

pub few_chosen : (ns : List ℕ) (kinds : List Bool) → length (chosen ns kinds) ≤ length ns
few_chosen [] kinds = omega arith
few_chosen (n ∷ ns) [] = omega arith
few_chosen (n ∷ ns) (true ∷ kinds) = omega (arith, few_chosen ns kinds)
few_chosen (n ∷ ns) (false ∷ kinds) = omega (arith, few_chosen ns kinds)

chosen_below : (count : ℕ) (ns : List ℕ) (kinds : List Bool) → list_all (λ n. nat_lt n count) ns ≡ true → list_all (λ n. nat_lt n count) (chosen ns kinds) ≡ true
chosen_below count [] kinds is = refl
chosen_below count (n ∷ ns) [] is = refl
chosen_below count (n ∷ ns) (true ∷ kinds) is =
    let two = and_parts (nat_lt n count) (list_all (λ m. nat_lt m count) ns) is in
    ap (λ (b : Bool). b && list_all (λ m. nat_lt m count) (chosen ns kinds)) two.0 ∙ chosen_below count ns kinds two.1
chosen_below count (n ∷ ns) (false ∷ kinds) is = chosen_below count ns kinds (and_parts (nat_lt n count) (list_all (λ m. nat_lt m count) ns) is).1

pub are_chosen : (count : ℕ) (ns : List ℕ) (kinds : List Bool) → are_there ns count ≡ true → are_there (chosen ns kinds) count ≡ true
are_chosen count ns kinds is =
    let two = and_parts (nat_le (length ns) count) (list_all (λ n. nat_lt n count) ns) is in
    let few : nat_le (length (chosen ns kinds)) count ≡ true = le-leb (length (chosen ns kinds)) count (omega (arith, few_chosen ns kinds, leb-true (length ns) count two.0)) in
    ap (λ (b : Bool). b && list_all (λ n. nat_lt n count) (chosen ns kinds)) few ∙ chosen_below count ns kinds two.1
