-- Slots of pages joined: those of one page read, one of them read and set, and what a write inside one page leaves of all.
use Rattle.std.proofs.Common.{◌≡◌, ℕ, zero, suc, ◌+◌, ◌*◌, ◌/◌, ◌%◌, ◌<◌, ◌≤◌, nat_le, nat_lt, Bool, true, false, cond, ◌&&◌, not, List, [], ◌∷◌, ◌++◌, Option, Some, None, length, take, drop, get_or, set, refl, sym, ap, ◌∙◌, arith, ◌⊎◌, inl, inr}
use Rattle.std.specs.List.{flat_map}
use Rattle.std.proofs.lemmas.Bool.{le-ltb}
use Rattle.std.proofs.Math.Seq.{drop-append-add}
use Rattle.std.proofs.lemmas.List.{get_or_append_left, get_or-append-add, set-append_left, set-append_right, take-append-le, take_all}
use Rattle.vm_types.specs.declared.ids.ActorId.{ActorId}
use Rattle.vm_types.specs.declared.ids.ActorId.TheVariants.{Hart}
use Rattle.vm_types.specs.Ids.{same_actor}
use Rattle.guest_memory.specs.Reserved.{hart_limit, reaches, granule_start, slot_after, slots_after}
use Rattle.guest_pages.specs.Pages.{PageValue, page_start}
use Rattle.guest_pages.specs.Flat.{AreInside, IsPage, ArePages}

abbrev slots_of : List PageValue → List (Option ℕ)
slots_of pages = flat_map (λ p. p.reserved) pages

-- a slot of a later page, from the end of this one's
later : (p : PageValue) (i k : ℕ) → length p.reserved ≡ 32 → 32 * suc i + k ≡ length p.reserved + (32 * i + k)
later p i k slotted = omega arith

-- those of one page, read
pub slots_joined : (n : ℕ) (pages : List PageValue) (i : ℕ) (d : PageValue) → ArePages n pages → i < length pages
    → take 32 (drop (32 * i) (slots_of pages)) ≡ (get_or pages i d).reserved
slots_joined n [] i d are lt = absurd (omega arith)
slots_joined n (p ∷ ps) zero d are lt =
    let slotted = are.0.slotted in
    take-append-le 32 p.reserved (slots_of ps) (omega (arith, slotted)) ∙ take_all 32 p.reserved (omega (arith, slotted))
slots_joined n (p ∷ ps) (suc i) d are lt =
    let slotted = are.0.slotted in
    let start : 32 * suc i ≡ length p.reserved + 32 * i = omega (arith, slotted) in
    ap (λ (k : ℕ). take 32 (drop k (p.reserved ++ slots_of ps))) start
    ∙ ap (λ (l : List (Option ℕ)). take 32 l) (drop-append-add p.reserved (slots_of ps) (32 * i))
    ∙ slots_joined (suc n) ps i d are.1 (omega arith)

-- one of them, read
pub get_joined : (n : ℕ) (pages : List PageValue) (i k : ℕ) (d : PageValue) (otherwise : Option ℕ) → ArePages n pages → i < length pages → k < 32 → get_or (slots_of pages) (32 * i + k) otherwise ≡ get_or (get_or pages i d).reserved k otherwise
get_joined n [] i k d otherwise are lt small = absurd (omega arith)
get_joined n (p ∷ ps) zero k d otherwise are lt small =
    let slotted = are.0.slotted in
    ap (λ (j : ℕ). get_or (p.reserved ++ slots_of ps) j otherwise) (omega arith) ∙ get_or_append_left p.reserved (slots_of ps) otherwise k (omega (arith, slotted))
get_joined n (p ∷ ps) (suc i) k d otherwise are lt small =
    ap (λ (j : ℕ). get_or (p.reserved ++ slots_of ps) j otherwise) (later p i k are.0.slotted)
    ∙ get_or-append-add p.reserved (slots_of ps) (32 * i + k) otherwise
    ∙ get_joined (suc n) ps i k d otherwise are.1 (omega arith) small

set_behind : (xs ys : List (Option ℕ)) (k : ℕ) (held : Option ℕ) → set (xs ++ ys) (length xs + k) held ≡ xs ++ set ys k held
set_behind xs ys k held =
    set-append_right xs ys (length xs) (length xs + k) held refl (omega arith) ∙ ap (λ (j : ℕ). xs ++ set ys j held) (omega arith)

pub set_joined : (n : ℕ) (pages : List PageValue) (i k : ℕ) (held : Option ℕ) (d q : PageValue) → ArePages n pages → i < length pages → k < 32
    → q.reserved ≡ set (get_or pages i d).reserved k held → set (slots_of pages) (32 * i + k) held ≡ slots_of (set pages i q)
set_joined n [] i k held d q are lt small is = absurd (omega arith)
set_joined n (p ∷ ps) zero k held d q are lt small is =
    let slotted = are.0.slotted in
    ap (λ (j : ℕ). set (p.reserved ++ slots_of ps) j held) (omega arith)
    ∙ set-append_left p.reserved (slots_of ps) k held (omega (arith, slotted))
    ∙ ap (λ (l : List (Option ℕ)). l ++ slots_of ps) (sym is)
set_joined n (p ∷ ps) (suc i) k held d q are lt small is =
    ap (λ (j : ℕ). set (p.reserved ++ slots_of ps) j held) (later p i k are.0.slotted)
    ∙ set_behind p.reserved (slots_of ps) (32 * i + k) held
    ∙ ap (λ (l : List (Option ℕ)). p.reserved ++ l) (set_joined (suc n) ps i k held d q are.1 (omega arith) small is)

after_append : (writer : ActorId) (at len slot : ℕ) (xs ys : List (Option ℕ)) → slots_after writer at len slot (xs ++ ys) ≡ slots_after writer at len slot xs ++ slots_after writer at len (slot + length xs) ys
after_append writer at len slot [] ys = ap (λ (s : ℕ). slots_after writer at len s ys) (omega arith)
after_append writer at len slot (x ∷ xs) ys =
    let next : suc slot + length xs ≡ slot + suc (length xs) = omega arith in
    ap (λ (l : List (Option ℕ)). slot_after writer at len slot x ∷ l) (after_append writer at len (suc slot) xs ys)
    ∙ ap (λ (s : ℕ). (slot_after writer at len slot x ∷ slots_after writer at len (suc slot) xs) ++ slots_after writer at len s ys) next

-- bytes of one page reach no granule of another
module _ (writer : ActorId) (i at len : ℕ) (from : page_start i ≤ at) (to : at + len ≤ page_start i + 4096) where
  reaches_none : (j granule : ℕ) → page_start j ≤ granule → granule + 8 ≤ page_start j + 4096 → (j < i) ⊎ (i < j) → reaches at len granule ≡ false
  reaches_none j granule low high (inl below) =
      let under : granule + 8 ≤ at = omega arith in
      ap (λ (b : Bool). (nat_le 1 len && b) && nat_lt granule (at + len)) (le-ltb at (granule + 8) under) ∙ no_middle (nat_le 1 len) (nat_lt granule (at + len))
    where
      no_middle : (a b : Bool) → ((a && false) && b) ≡ false
      no_middle true b = refl
      no_middle false b = refl
  reaches_none j granule low high (inr above) =
      let over : at + len ≤ granule = omega arith in
      ap (λ (b : Bool). (nat_le 1 len && nat_lt at (granule + 8)) && b) (le-ltb granule (at + len) over) ∙ no_right (nat_le 1 len && nat_lt at (granule + 8))
    where
      no_right : (a : Bool) → (a && false) ≡ false
      no_right true = refl
      no_right false = refl

  kept_there : (j k slot : ℕ) (slots : List (Option ℕ)) → slot ≡ 32 * j + k → k + length slots ≤ 32 → AreInside slots → (j < i) ⊎ (i < j) → slots_after writer at len slot slots ≡ slots
  kept_there j k slot [] is room are other = refl
  kept_there j k slot (None ∷ rest) is room are other =
      ap (λ (l : List (Option ℕ)). None ∷ l) (kept_there j (suc k) (suc slot) rest (omega arith) (omega arith) are other)
  kept_there j k slot (Some offset ∷ rest) is room are other =
      let number : slot / 32 ≡ j = omega arith in
      let inside = are.0 in
      let none : reaches at len (granule_start slot offset) ≡ false = reaches_none j (granule_start slot offset) (omega arith) (omega arith) other in
      ap (λ (b : Bool). cond (b && not (same_actor (Hart (slot % hart_limit)) writer)) None (Some offset) ∷ slots_after writer at len (suc slot) rest) none
      ∙ ap (λ (l : List (Option ℕ)). Some offset ∷ l) (kept_there j (suc k) (suc slot) rest (omega arith) (omega arith) are.1 other)

  kept_page : (j : ℕ) (p : PageValue) → IsPage j p → (j < i) ⊎ (i < j) → slots_after writer at len (32 * j) p.reserved ≡ p.reserved
  kept_page j p is other = let slotted = is.slotted in kept_there j 0 (32 * j) p.reserved (omega arith) (omega (arith, slotted)) is.inside other

  next_page : (n : ℕ) (p : PageValue) (ps : List PageValue) → IsPage n p → slots_after writer at len (32 * n) (p.reserved ++ slots_of ps) ≡ slots_after writer at len (32 * n) p.reserved ++ slots_after writer at len (32 * suc n) (slots_of ps)
  next_page n p ps is =
      let slotted = is.slotted in
      let here : 32 * n + length p.reserved ≡ 32 * suc n = omega (arith, slotted) in
      after_append writer at len (32 * n) p.reserved (slots_of ps) ∙ ap (λ (s : ℕ). slots_after writer at len (32 * n) p.reserved ++ slots_after writer at len s (slots_of ps)) here

  kept_behind : (n : ℕ) (pages : List PageValue) → ArePages n pages → i < n → slots_after writer at len (32 * n) (slots_of pages) ≡ slots_of pages
  kept_behind n [] are lt = refl
  kept_behind n (p ∷ ps) are lt =
      next_page n p ps are.0
      ∙ ap (λ (l : List (Option ℕ)). l ++ slots_after writer at len (32 * suc n) (slots_of ps)) (kept_page n p are.0 (inr lt))
      ∙ ap (λ (l : List (Option ℕ)). p.reserved ++ l) (kept_behind (suc n) ps are.1 (omega arith))

  pub ended_joined : (n : ℕ) (pages : List PageValue) (k : ℕ) (d q : PageValue) → ArePages n pages → n + k ≡ i → k < length pages
      → q.reserved ≡ slots_after writer at len (32 * i) (get_or pages k d).reserved → slots_after writer at len (32 * n) (slots_of pages) ≡ slots_of (set pages k q)
  ended_joined n [] k d q are at_i lt is = absurd (omega arith)
  ended_joined n (p ∷ ps) zero d q are at_i lt is =
      let same : n ≡ i = omega arith in
      next_page n p ps are.0
      ∙ ap (λ (j : ℕ). slots_after writer at len (32 * j) p.reserved ++ slots_after writer at len (32 * suc n) (slots_of ps)) same
      ∙ ap (λ (l : List (Option ℕ)). l ++ slots_after writer at len (32 * suc n) (slots_of ps)) (sym is)
      ∙ ap (λ (l : List (Option ℕ)). q.reserved ++ l) (kept_behind (suc n) ps are.1 (omega arith))
  ended_joined n (p ∷ ps) (suc k) d q are at_i lt is =
      next_page n p ps are.0
      ∙ ap (λ (l : List (Option ℕ)). l ++ slots_after writer at len (32 * suc n) (slots_of ps)) (kept_page n p are.0 (inl (omega arith)))
      ∙ ap (λ (l : List (Option ℕ)). p.reserved ++ l) (ended_joined (suc n) ps k d q are.1 (omega arith) (omega arith) is)
