-- A torn write is a write of other cells.
use Rattle.std.proofs.Common.{◌≡◌, ◌<◌, ◌≤◌, ◌⊎◌, ℕ, ◌+◌, ◌-◌, List, [], ◌∷◌, ◌++◌, length, take, drop, get_or, inl, inr, ⊎_elim, refl, sym, ◌∙◌, ap, subst, arith, ◌==◌, Bool, true, false, cond, replicate, append-nil}
use Rattle.std.proofs.lemmas.List.{ext_get_or, get_or-take, get_or-drop, get_or_append_left, get_or-append_right, length-append, length-take-le, length-drop, take-append-drop}
use Rattle.std.proofs.lemmas.Bool.{cases_lt, eqb-true}
use Rattle.vm_outside.specs.Crashes.{IsBytes, Torn}
use Rattle.vm_types.specs.Saved.{overwritten, written}
use Rattle.gate_file.specs.Stages.{AreInside, AreLike, AreOfBytes, IsTorn, written_all}

abbrev pub Write : Type 0
Write = ℕ × List ℕ

abbrev pub put_at : List ℕ → ℕ → List ℕ → List ℕ
put_at text at piece = take at text ++ piece ++ drop (at + length piece) text

-- a write inside a file
put_by : (text piece : List ℕ) (at : ℕ) (b : Bool) → at + length piece ≤ length text → (length piece == 0) ≡ b → cond b text (overwritten text at piece) ≡ put_at text at piece
put_by text piece at true inside none =
    let empty : length piece ≡ 0 = eqb-true (length piece) 0 none in
    sym (none_put text piece at empty)
  where
    none_put : (text piece : List ℕ) (at : ℕ) → length piece ≡ 0 → put_at text at piece ≡ text
    none_put text [] at empty =
        let same : at + 0 ≡ at = omega arith in
        ap (λ (l : List ℕ). l ++ drop (at + 0) text) (append-nil (take at text)) ∙ ap (λ (k : ℕ). take at text ++ drop k text) same ∙ take-append-drop at text
    none_put text (x ∷ piece) at empty = absurd (omega (arith, empty))
put_by text piece at false inside some =
    let nothing : at - length text ≡ 0 = omega (arith, inside) in
    ap (λ (n : ℕ). take at (text ++ replicate n 0) ++ piece ++ drop (at + length piece) text) nothing
    ∙ ap (λ (l : List ℕ). take at l ++ piece ++ drop (at + length piece) text) (append-nil text)

pub written_put : (text piece : List ℕ) (at : ℕ) → at + length piece ≤ length text → written text at piece ≡ put_at text at piece
written_put text piece at inside = put_by text piece at (length piece == 0) inside refl

-- none of these writes reaches this place
abbrev pub Misses : List Write → ℕ → Type 0
Misses [] k = Unit {0}
Misses (w ∷ writes) k = ((k < w.0) ⊎ (w.0 + length w.1 ≤ k)) × Misses writes k

-- as long as it was, and the same where none of these writes reaches
pub record Keeps (writes : List Write) (old new : List ℕ) : Type 0 where
  pub size : length new ≡ length old
  pub stays : (k : ℕ) → k < length old → Misses writes k → get_or new k 0 ≡ get_or old k 0

pub length-put : (text piece : List ℕ) (at : ℕ) → at + length piece ≤ length text → length (put_at text at piece) ≡ length text
length-put text piece at inside =
    let front = length-take-le at text (omega (arith, inside)) in
    let behind = length-drop (at + length piece) text in
    let first = length-append (take at text) piece in
    let all = length-append (take at text ++ piece) (drop (at + length piece) text) in
    omega (arith, inside, front, behind, first, all)

-- a place outside the piece
pub put_outside : (text piece : List ℕ) (at k : ℕ) → at + length piece ≤ length text → (k < at) ⊎ (at + length piece ≤ k) → get_or (put_at text at piece) k 0 ≡ get_or text k 0
put_outside text piece at k inside (inl lt) =
    let front = length-take-le at text (omega (arith, inside)) in
    let first = length-append (take at text) piece in
    get_or_append_left (take at text ++ piece) (drop (at + length piece) text) 0 k (omega (arith, lt, front, first))
    ∙ get_or_append_left (take at text) piece 0 k (omega (arith, lt, front))
    ∙ get_or-take at text k 0 lt
put_outside text piece at k inside (inr ge) =
    let front = length-take-le at text (omega (arith, inside)) in
    let first = length-append (take at text) piece in
    let place : at + length piece + (k - (at + length piece)) ≡ k = omega (arith, ge) in
    get_or-append_right (take at text ++ piece) (drop (at + length piece) text) (at + length piece) k 0 (omega (arith, front, first)) ge
    ∙ get_or-drop (at + length piece) text (k - (at + length piece)) 0
    ∙ ap (λ (i : ℕ). get_or text i 0) place

-- a place inside it
pub put_inside : (text piece : List ℕ) (at k : ℕ) → at + length piece ≤ length text → at ≤ k → k < at + length piece → get_or (put_at text at piece) k 0 ≡ get_or piece (k - at) 0
put_inside text piece at k inside ge lt =
    let front = length-take-le at text (omega (arith, inside)) in
    let first = length-append (take at text) piece in
    get_or_append_left (take at text ++ piece) (drop (at + length piece) text) 0 k (omega (arith, lt, front, first))
    ∙ get_or-append_right (take at text) piece at k 0 front ge

-- what a text has in the place of a write
abbrev retold_one : List ℕ → Write → Write
retold_one left w = (w.0, take (length w.1) (drop w.0 left))

abbrev retold : List ℕ → List Write → List Write
retold left [] = []
retold left (w ∷ writes) = retold_one left w ∷ retold left writes

retold_size : (left : List ℕ) (w : Write) → w.0 + length w.1 ≤ length left → length (retold_one left w).1 ≡ length w.1
retold_size left w inside = length-take-le (length w.1) (drop w.0 left) (omega (arith, inside, length-drop w.0 left))

retold_like : (left : List ℕ) (writes : List Write) → AreInside (length left) writes → AreLike writes (retold left writes)
retold_like left [] inside = tt
retold_like left (w ∷ writes) inside = (refl, retold_size left w inside.0, retold_like left writes inside.1)

-- is the place reached by a write, or not
reached : (k at n : ℕ) → ((k < at) ⊎ (at + n ≤ k)) ⊎ ((at ≤ k) × (k < at + n))
reached k at n = ⊎_elim (λ lt. inl (inl lt)) (λ ge. ⊎_elim (λ lt. inr (ge, lt)) (λ past. inl (inr past)) (cases_lt k (at + n))) (cases_lt k at)

-- what is kept but for these writes is what other writes of their places make
pub retells : (writes : List Write) (old new : List ℕ) → AreInside (length old) writes → Keeps writes old new → written_all (retold new writes) old ≡ new
retells [] old new inside keeps = sym (ext_get_or 0 new old keeps.size (λ k lt. keeps.stays k (omega (arith, lt, keeps.size)) tt))
retells (w ∷ writes) old new inside keeps =
    let v : Write = retold_one new w in
    let size : length v.1 ≡ length w.1 = retold_size new w (omega (arith, inside.0, keeps.size)) in
    let fits : v.0 + length v.1 ≤ length old = omega (arith, inside.0, size) in
    let long = length-put old v.1 v.0 fits in
    ap (written_all (retold new writes)) (written_put old v.1 v.0 fits)
    ∙ retells writes (put_at old v.0 v.1) new (subst (λ (n : ℕ). AreInside n writes) (sym long) inside.1) (record {
      size = keeps.size ∙ sym long;
      stays = λ k lt misses. ⊎_elim
          (λ out. keeps.stays k (omega (arith, lt, long)) (out, misses) ∙ sym (put_outside old v.1 v.0 k fits (subst (λ (n : ℕ). (k < w.0) ⊎ (w.0 + n ≤ k)) (sym size) out)))
          (λ here.
          let place : w.0 + (k - w.0) ≡ k = omega (arith, here.0) in
          sym (put_inside old v.1 v.0 k fits here.0 (omega (arith, here.1, size))
          ∙ get_or-take (length w.1) (drop w.0 new) (k - w.0) 0 (omega (arith, here.0, here.1))
          ∙ get_or-drop w.0 new (k - w.0) 0
          ∙ ap (λ (i : ℕ). get_or new i 0) place))
          (reached k w.0 (length w.1));
    })

pub kept_is_torn : (writes : List Write) (old new : List ℕ) → AreInside (length old) writes → Keeps writes old new → (AreOfBytes writes → IsBytes old → IsBytes new) → IsTorn writes old new
kept_is_torn writes old new inside keeps bytes = record {
  others = retold new writes;
  like = retold_like new writes (subst (λ (n : ℕ). AreInside n writes) (sym keeps.size) inside);
  made = sym (retells writes old new inside keeps);
  are_bytes = bytes;
}

-- one torn write more
pub torn_more : (writes : List Write) (first old new : List ℕ) (w : Write) → w.0 + length w.1 ≤ length first → ((k : ℕ) → Misses writes k → (k < w.0) ⊎ (w.0 + length w.1 ≤ k)) → Keeps writes first old → Torn w.0 w.1 old new → Keeps writes first new
torn_more writes first old new w inside one keeps torn =
    let low = torn.no_shorter in
    let high = torn.no_longer in
    record {
      size = omega (arith, low, high, keeps.size, inside);
      stays = λ k lt misses. torn.stays k (omega (arith, lt, keeps.size)) (one k misses) ∙ keeps.stays k lt misses;
    }
