-- Pages in which no hart has something reserved, found by a flag for 64 of them.
use Rattle.std.proofs.Common.{◌≡◌, ℕ, zero, suc, ◌+◌, ◌-◌, ◌*◌, ◌/◌, ◌<◌, ◌≤◌, Bool, true, false, ◌⊎◌, inl, inr, List, [], ◌∷◌, ◌++◌, Option, None, Some, length, take, drop, get_or, set, replicate, refl, sym, ap, ◌∙◌, subst, arith, append_assoc}
use Rattle.std.specs.List.{flat_map}
use Rattle.std.specs.Prelude.{slice_index_or}
use Rattle.std.proofs.Math.Seq.{map-set_same}
use Rattle.std.proofs.lemmas.List.{drop-drop, get_or-map, take-append-drop}
use Rattle.vm_types.specs.declared.ids.ActorId.{ActorId}
use Rattle.guest_memory.specs.Reserved.{hart_limit, slots_after, unreserved}
use Rattle.guest_pages.specs.Flat.{AreFree, ArePages, AreSummed, IsPage, has_reserved, reserved_of}
use Rattle.guest_pages.specs.Pages.{PageValue, cleared, flat_of, new_page, new_pages, page_written}
use Rattle.guest_pages.proofs.Blocks.{lt_or}
use Rattle.guest_pages.proofs.Here.{page_at}
use Rattle.guest_pages.proofs.Loading.{replicate-add}
use Rattle.guest_pages.proofs.Slotted.{slots_joined}

abbrev pub holds : PageValue → Bool
holds p = has_reserved p.reserved

-- ---- slots of which none holds

has_none : (n : ℕ) → has_reserved (replicate n None) ≡ false
has_none zero = refl
has_none (suc n) = has_none n

pub unreserved_page : (slots : List (Option ℕ)) (now : List Bool) (k : ℕ) → slots ≡ replicate 32 None → has_reserved slots ≡ true
    → slice_index_or now k true ≡ true
unreserved_page slots now k none is =
    let both : false ≡ true = sym (has_none 32) ∙ ap has_reserved (sym none) ∙ is in
    cc

none_reserved : (slots : List (Option ℕ)) → has_reserved slots ≡ false → slots ≡ replicate (length slots) None
none_reserved [] is = refl
none_reserved (None ∷ slots) is = ap (λ (l : List (Option ℕ)). None ∷ l) (none_reserved slots is)
none_reserved (Some offset ∷ slots) is = cc

-- a write leaves nothing where nothing was
after_reserved : (writer : ActorId) (at len slot : ℕ) (slots : List (Option ℕ)) → has_reserved (slots_after writer at len slot slots) ≡ true
    → has_reserved slots ≡ true
after_reserved writer at len slot [] is = is
after_reserved writer at len slot (None ∷ slots) is = after_reserved writer at len (suc slot) slots is
after_reserved writer at len slot (Some offset ∷ slots) is = refl

pub written_holds : (old new : PageValue) (writer : ActorId) (at : ℕ) (piece : List ℕ) → new ≡ page_written old writer at piece
    → holds new ≡ true → holds old ≡ true
written_holds old new writer at piece now is =
    after_reserved writer at (length piece) (hart_limit * old.number) old.reserved (ap holds (sym now) ∙ is)

-- ---- of pages that are new, or marked no more

new_holds : (i n : ℕ) → reserved_of (new_pages i n) ≡ replicate n false
unfolding unreserved
new_holds i zero = refl
new_holds i (suc n) = λ k. has_none (hart_limit * 1) k ∷ new_holds (suc i) n k

pub made_holds : (pages : List PageValue) (n : ℕ) → pages ≡ new_pages 0 n → reserved_of pages ≡ replicate n false
made_holds pages n is = ap reserved_of is ∙ new_holds 0 n

pub cleared_holds : (pages : List PageValue) → reserved_of (cleared pages) ≡ reserved_of pages
cleared_holds [] = refl
cleared_holds (p ∷ pages) = ap (λ (l : List Bool). holds p ∷ l) (cleared_holds pages)

-- of pages of which one has other bytes
pub patched_holds : (value pages : List PageValue) (i : ℕ) (old new : PageValue) → value ≡ pages → old ≡ get_or pages i old
    → new.reserved ≡ old.reserved → reserved_of (set pages i new) ≡ reserved_of value
patched_holds value pages i old new view was same =
    map-set_same holds pages i new old (ap has_reserved same ∙ ap holds was) ∙ ap reserved_of (sym view)

-- ---- the next block in which one may be

pub free_on : (reserved held : List Bool) (from k e : ℕ) → e ≡ (k / 64 + 1) * 64 → slice_index_or held (k / 64) true ≡ false
    → AreSummed reserved held → AreFree reserved from k → AreFree reserved from e
free_on reserved held from k e is clear summed free = λ i low high there. by_place i (lt_or i k) low high there
  where
    by_place : (i : ℕ) → (i < k) ⊎ (k ≤ i) → from ≤ i → i < e → slice_index_or reserved i false ≡ true → ⊥
    by_place i (inl less) low high there = free i low less there
    by_place i (inr most) low high there =
        let same : i / 64 ≡ k / 64 = omega (arith, is, most, high) in
        let both : false ≡ true = sym clear ∙ ap (λ (n : ℕ). slice_index_or held n true) (sym same) ∙ summed i there in
        cc

pub free_to_end : (reserved : List Bool) (from k n : ℕ) → n ≤ k → AreFree reserved from k → AreFree reserved from n
free_to_end reserved from k n most free = λ i low high. free i low (omega (arith, most, high))

-- ---- slots of pages in which none is

not_true : (b : Bool) → (b ≡ true → ⊥) → b ≡ false
not_true true never = absurd (never refl)
not_true false never = refl

module _ (pages : List PageValue) (are : ArePages 0 pages) where
  abbrev slots : List (Option ℕ)
  slots = flat_map (λ p. p.reserved) pages

  one_free : (k : ℕ) → k < length pages → (slice_index_or (reserved_of pages) k false ≡ true → ⊥) → take 32 (drop (32 * k) slots) ≡ replicate 32 None
  one_free k lt never =
      let page : PageValue = get_or pages k (new_page 0) in
      let at : IsPage (0 + k) page = page_at 0 pages k (new_page 0) are lt in
      let long : length page.reserved ≡ 32 = at.slotted in
      let none : holds page ≡ false = not_true (holds page) (λ is. never (get_or-map {X = PageValue} {Y = Bool} holds pages k (new_page 0) false lt ∙ is)) in
      slots_joined 0 pages k (new_page 0) are lt ∙ none_reserved page.reserved none ∙ ap (λ (n : ℕ). replicate n None) long

  all_free : (d k : ℕ) → k + d ≤ length pages → AreFree (reserved_of pages) k (k + d)
      → drop (32 * k) slots ≡ replicate (32 * d) None ++ drop (32 * (k + d)) slots
  all_free zero k room free = let same : k ≡ k + 0 = omega arith in ap (λ (n : ℕ). drop (32 * n) slots) same
  all_free (suc d) k room free =
      let next : 32 * k + 32 ≡ 32 * suc k = omega arith in
      let end : suc k + d ≡ k + suc d = omega arith in
      let more : 32 + 32 * d ≡ 32 * suc d = omega arith in
      sym (take-append-drop 32 (drop (32 * k) slots))
      ∙ ap (λ (l : List (Option ℕ)). l ++ drop 32 (drop (32 * k) slots)) (one_free k (omega (arith, room)) (free k (omega arith) (omega arith)))
      ∙ ap (λ (l : List (Option ℕ)). replicate 32 None ++ l)
      (drop-drop 32 (32 * k) slots ∙ ap (λ (n : ℕ). drop n slots) next
      ∙ all_free d (suc k) (omega (arith, room)) (λ i low high. free i (omega (arith, low)) (omega (arith, high)))
      ∙ ap (λ (n : ℕ). replicate (32 * d) None ++ drop (32 * n) slots) end)
      ∙ sym (append_assoc (replicate 32 None) (replicate (32 * d) None) (drop (32 * (k + suc d)) slots))
      ∙ ap (λ (l : List (Option ℕ)). l ++ drop (32 * (k + suc d)) slots) (replicate-add {A = Option ℕ} 32 (32 * d) None)
      ∙ ap (λ (n : ℕ). replicate n None ++ drop (32 * (k + suc d)) slots) more

pub free_slots : (value pages : List PageValue) (from to : ℕ) → value ≡ pages → ArePages 0 pages → from ≤ to → to ≤ length pages
    → AreFree (reserved_of pages) from to
    → drop (32 * from) (flat_of value).reserved ≡ replicate (32 * (to - from)) None ++ drop (32 * to) (flat_of value).reserved
free_slots value pages from to view are on most free =
    let d : ℕ = to - from in
    let end : from + d ≡ to = omega (arith, on) in
    subst (λ (l : List PageValue). drop (32 * from) (flat_of l).reserved ≡ replicate (32 * (to - from)) None ++ drop (32 * to) (flat_of l).reserved) (sym view)
    (all_free pages are d from (omega (arith, on, most)) (subst (λ (n : ℕ). AreFree (reserved_of pages) from n) (sym end) free)
    ∙ ap (λ (n : ℕ). replicate (32 * d) None ++ drop (32 * n) (flat_of pages).reserved) end)
