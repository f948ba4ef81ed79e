-- Bytes that are one value and nothing else.
use Rattle.std.proofs.Common.{◌≡◌, ℕ, ◌+◌, ◌<◌, List, [], ◌∷◌, ◌++◌, length, take, drop, refl, sym, ap, subst, ◌∙◌, append_assoc, arith, length-append}
use Rattle.std.specs.Int.{w32, to_le_bytes}
use Rattle.std.proofs.lemmas.List.{take_at, drop_at}
use Rattle.file_format.specs.Format.{Format}
use Rattle.file_format.specs.Kinds.{byte_list}
use Rattle.file_format.specs.Ends.{Listing, listed}
use Rattle.file_format.specs.Whole.{counted}

-- a count that is put in the place that was left for it
record Put (bytes old mid : List ℕ) : Type 0 where
  pub size : length mid ≡ (length old + 4) + length bytes
  pub front : take (length old) mid ≡ old
  pub behind : drop (length old + 4) mid ≡ bytes

put_behind : (bytes old first mid : List ℕ) → first ≡ old ++ 0 ∷ 0 ∷ 0 ∷ 0 ∷ [] → mid ≡ first ++ bytes → Put bytes old mid
put_behind bytes old first mid a b =
    let zeros : List ℕ = 0 ∷ 0 ∷ 0 ∷ 0 ∷ [] in
    let whole : mid ≡ (old ++ zeros) ++ bytes = b ∙ ap (λ (x : List ℕ). x ++ bytes) a in
    let long : length (old ++ zeros) ≡ length old + 4 = length-append old zeros in
    record {
      size = ap length whole ∙ length-append (old ++ zeros) bytes ∙ ap (λ n. n + length bytes) long;
      front = ap (take (length old)) (whole ∙ append_assoc old zeros bytes) ∙ take_at old (zeros ++ bytes) (length old) refl;
      behind = ap (drop (length old + 4)) whole ∙ drop_at (old ++ zeros) bytes (length old + 4) long;
    }

bytes_put : (bytes old first mid now : List ℕ) (at start len count : ℕ) → at ≡ length old
    → first ≡ old ++ 0 ∷ 0 ∷ 0 ∷ 0 ∷ [] → mid ≡ first ++ bytes → start ≡ length first → length mid ≡ start + len
    → (len < 0x1_0000_0000) × (count ≡ len) → now ≡ take at mid ++ (to_le_bytes w32 count ++ drop (at + 4) mid)
    → byte_list.Fits bytes × (now ≡ byte_list.puts bytes old)
unfolding byte_list
bytes_put bytes old first mid now at start len count t a b s l c is =
    let p = put_behind bytes old first mid a b in
    let same : len ≡ length bytes =
    omega (arith, p.size, l, s, ap length a, length-append old (0 ∷ 0 ∷ 0 ∷ 0 ∷ [])) in
    let made : now ≡ old ++ (to_le_bytes w32 (length bytes) ++ bytes) = rw (c.1, t, p.front, p.behind, same) at is in (
      subst (λ n. n < 0x1_0000_0000) same c.0,
      made ∙ sym (append_assoc old (to_le_bytes w32 (length bytes)) bytes),
    )

pub count_put : {A : Type 0} (item : Format A) (v : A) (old first mid now : List ℕ) (at start len count : ℕ)
    → item.Fits v → at ≡ length old → first ≡ old ++ 0 ∷ 0 ∷ 0 ∷ 0 ∷ [] → mid ≡ item.puts v first → start ≡ length first
    → length mid ≡ start + len → (len < 0x1_0000_0000) × (count ≡ len)
    → now ≡ take at mid ++ (to_le_bytes w32 count ++ drop (at + 4) mid)
    → (counted item).Fits v × (now ≡ (counted item).puts v old)
unfolding counted
count_put item v old first mid now at start len count fits t a b s l c is =
    let p = bytes_put (item.bytes v) old first mid now at start len count t a (b ∙ item.same v first) s l c is in
    ((fits, p.0), p.1)

pub list_put : {A : Type 0} (item : Listing A) (v : A) (old first mid now : List ℕ) (at start len count : ℕ)
    → item.Fits v → at ≡ length old → first ≡ old ++ 0 ∷ 0 ∷ 0 ∷ 0 ∷ [] → mid ≡ first ++ item.bytes v → start ≡ length first
    → length mid ≡ start + len → (len < 0x1_0000_0000) × (count ≡ len)
    → now ≡ take at mid ++ (to_le_bytes w32 count ++ drop (at + 4) mid)
    → (listed item).Fits v × (now ≡ (listed item).puts v old)
unfolding listed
list_put item v old first mid now at start len count fits t a b s l c is =
    let p = bytes_put (item.bytes v) old first mid now at start len count t a b s l c is in
    ((fits, p.0), p.1)
