-- Pages that are made, blanks that this takes, and room for acts.
use Rattle.std.proofs.Common.{◌≡◌, ℕ, zero, suc, ◌+◌, ◌<◌, ◌≤◌, nat_le, min, Bool, true, false, cond, not, ◌&&◌, ◌||◌, List, [], ◌∷◌, length, get_or, set, refl, sym, ap, ◌∙◌, subst, arith}
use Rattle.std.proofs.lemmas.Bool.{le-leb, leb-true}
use Rattle.std.proofs.lemmas.List.{get_or-map, length-map, length-set}
use Rattle.std.proofs.lemmas.List.Sums.{sum_by-set, sum_by-cons}
use Rattle.vm_types.specs.declared.ids.PlaceId.{PlaceId}
use Rattle.guest_pages.specs.Code.{IsCode}
use Rattle.guest_pages.specs.Flat.{ArePages, AreSummed, IsSet, reserved_of}
use Rattle.guest_pages.specs.declared.page_set.code.CodePage.{CodePage}
use Rattle.guest_pages.specs.Made.{PagesValue, is_made, unmade, CanMake, Takes, HasRoom, Spends, is_ready}
use Rattle.guest_pages.specs.Pages.{PageValue, cleared, marks_of, new_page, new_pages, unmarked}
use Rattle.guest_pages.proofs.Blanks.{takes_none}
use Rattle.guest_pages.proofs.Blocks.{none_summed, summed_same}
use Rattle.guest_pages.proofs.Marking.{marks_cleared}
use Rattle.guest_pages.proofs.Reserved.{cleared_holds}
use Rattle.guest_pages.proofs.Sets.{cleared_are}

abbrev pub the_pages : PagesValue → List PageValue
the_pages s = s.pages

abbrev pub count_of : PagesValue → ℕ
count_of s = length s.pages

abbrev pub the_spare : PagesValue → ℕ
the_spare s = s.spare

abbrev pub view_of : List PageValue → ℕ → PagesValue
view_of pages spare = record { pages = pages; spare = spare }

-- what a page is told in all of them
pub is_made_there : (value pages : List PageValue) (i : ℕ) (old : PageValue) → value ≡ pages → i < length value → old ≡ get_or pages i old
    → old.made ≡ is_made value i
is_made_there value pages i old view lt was =
    ap (λ (p : PageValue). p.made) (was ∙ ap (λ (l : List PageValue). get_or l i old) (sym view))
    ∙ sym (get_or-map {X = PageValue} {Y = Bool} (λ p. p.made) value i old true lt)

pub made_there : (value pages : List PageValue) (i : ℕ) (old : PageValue) → value ≡ pages → i < length value → old ≡ get_or pages i old
    → is_made value i ≡ true → old.made ≡ true
made_there value pages i old view lt was is = is_made_there value pages i old view lt was ∙ is

pub marked_there : (value pages : List PageValue) (i : ℕ) (old : PageValue) → value ≡ pages → i < length value → old ≡ get_or pages i old
    → old.marked ≡ get_or (marks_of value) i false
marked_there value pages i old view lt was =
    ap (λ (p : PageValue). p.marked) (was ∙ ap (λ (l : List PageValue). get_or l i old) (sym view))
    ∙ sym (get_or-map {X = PageValue} {Y = Bool} (λ p. p.marked) value i old false lt)

pub made_past : (pages : List PageValue) (i : ℕ) → length pages ≤ i → is_made pages i ≡ true
made_past [] i past = refl
made_past (p ∷ ps) zero past = absurd (omega arith)
made_past (p ∷ ps) (suc i) past = made_past ps i (omega arith)

-- 1 for a page that isn't made
abbrev lacking : Bool → ℕ
lacking made = cond (not made) 1 0

abbrev weight : PageValue → ℕ
weight p = lacking p.made

counted : (a b : Bool) (u v had has : ℕ) → v + cond (not a) 1 0 ≡ u + cond (not b) 1 0
    → had ≡ cond (not a && b) (has + 1) has → (a ≡ true → b ≡ true) → had + v ≡ has + u
counted true true u v had has sums took stays = omega (arith, sums, took)
counted true false u v had has sums took stays = let never = stays refl in cc
counted false true u v had has sums took stays = omega (arith, sums, took)
counted false false u v had has sums took stays = omega (arith, sums, took)

-- one of the pages becomes another
pub unmade_set : (pages : List PageValue) (i : ℕ) (old new : PageValue) (had has : ℕ) → i < length pages
    → old ≡ get_or pages i old → Takes old new had has → had + unmade (set pages i new) ≡ has + unmade pages
unmade_set pages i old new had has lt was takes =
    let sums : unmade (set pages i new) + weight old ≡ unmade pages + weight new =
    ap (λ (p : PageValue). unmade (set pages i new) + weight p) was ∙ sum_by-set weight pages i new old lt in
    counted old.made new.made (unmade pages) (unmade (set pages i new)) had has sums takes.blank takes.stays

set_made : (pages : List PageValue) (i : ℕ) (old new : PageValue) (k : ℕ) → old ≡ get_or pages i old
    → (old.made ≡ true → new.made ≡ true) → is_made pages k ≡ true → is_made (set pages i new) k ≡ true
set_made [] i old new k was stays is = is
set_made (p ∷ ps) zero old new zero was stays is = stays (ap (λ (q : PageValue). q.made) was ∙ is)
set_made (p ∷ ps) zero old new (suc k) was stays is = is
set_made (p ∷ ps) (suc i) old new zero was stays is = is
set_made (p ∷ ps) (suc i) old new (suc k) was stays is = set_made ps i old new k was stays is

module _ (value : PagesValue) (pages : List PageValue) (i : ℕ) (old new : PageValue) (had has : ℕ)
    (view : value ≡ record { pages = pages; spare = had }) (lt : i < length value.pages) (was : old ≡ get_or pages i old) where
  below : i < length pages
  below = let e = ap count_of view in omega arith

  -- what an act on it asks
  pub can_make : is_ready value (PlaceId.Page i) ≡ true → CanMake old had
  can_make ready isnt =
      let there : is_made value.pages i ≡ false =
      ap (λ (l : List PageValue). is_made l i) (ap the_pages view)
      ∙ get_or-map {X = PageValue} {Y = Bool} (λ p. p.made) pages i old true below
      ∙ ap (λ (p : PageValue). p.made) (sym was) ∙ isnt in
      subst (λ (n : ℕ). 1 ≤ n) (ap the_spare view)
      (leb-true 1 value.spare (sym (ap (λ (b : Bool). b || nat_le 1 value.spare) there) ∙ ready))

  module _ (takes : Takes old new had has) where
    -- and what it takes
    pub spends : Spends 1 value (record { pages = set pages i new; spare = has })
    spends =
        let sums = unmade_set pages i old new had has below was takes in
        subst (λ (v : PagesValue). Spends 1 v (record { pages = set pages i new; spare = has })) (sym view)
        (record {
          kept = sums;
          most = one old.made new.made takes.blank;
          stays = λ k. set_made pages i old new k was takes.stays;
        })
      where
        one : (a b : Bool) → had ≡ cond (not a && b) (has + 1) has → had ≤ has + 1
        one true b e = omega arith
        one false true e = omega arith
        one false false e = omega arith

    pub is_set : (owned : ℕ) (blocks now held holds : List Bool) → IsSet pages had owned blocks held → ArePages 0 (set pages i new)
        → AreSummed (marks_of (set pages i new)) now → AreSummed (reserved_of (set pages i new)) holds → IsSet (set pages i new) has owned now holds
    is_set owned blocks now held holds is are summed some =
        let sums = unmade_set pages i old new had has below was takes in
        let owns = is.owns in
        record { are = are; owns = omega (arith, sums, owns, length-set pages i new); summed = summed; holds = some }

-- an act on a page that is made and stays so takes none
pub none_spent : (value : PagesValue) (pages : List PageValue) (i : ℕ) (old new : PageValue) (spare : ℕ) → value ≡ record { pages = pages; spare = spare }
    → i < length value.pages → old ≡ get_or pages i old → old.made ≡ true → new.made ≡ true → Spends 0 value (record { pages = set pages i new; spare = spare })
none_spent value pages i old new spare view lt was made is =
    let e = ap count_of view in
    let below : i < length pages = omega (arith, e, lt) in
    subst (λ (v : PagesValue). Spends 0 v (record { pages = set pages i new; spare = spare })) (sym view)
    (record {
      kept = unmade_set pages i old new spare spare below was (takes_none old new spare made is);
      most = omega arith;
      stays = λ k. set_made pages i old new k was (λ _. is);
    })

pub kept_made : (a b c : Bool) → c ≡ (a || b) → a ≡ true → c ≡ true
kept_made true b c is made = is
kept_made false b c is made = cc

-- a page into which bytes were put, that may be made now, of memory that is no blank
pub patched_set : (value pages : List PageValue) (i spare owned : ℕ) (blocks held : List Bool) (old new : PageValue) (count : ℕ) → value ≡ pages → i < length value
    → old ≡ get_or pages i old → count ≡ cond (not old.made && new.made) 1 0 → (old.made ≡ true → new.made ≡ true)
    → IsSet pages spare owned blocks held → ArePages 0 (set pages i new) → marks_of (set pages i new) ≡ marks_of value
    → reserved_of (set pages i new) ≡ reserved_of value → IsSet (set pages i new) spare (owned + count) blocks held
patched_set value pages i spare owned blocks held old new count view lt was is stays has are marks slots =
    let long = ap (λ (l : List PageValue). length l) view in
    let below : i < length pages = omega (arith, long, lt) in
    let sums = unmade_set pages i old new count 0 below was (record { blank = is ∙ one (not old.made && new.made); stays = stays }) in
    let owns = has.owns in
    record {
      are = are;
      owns = omega (arith, sums, owns, length-set pages i new);
      summed = summed_same (marks_of pages) (marks_of (set pages i new)) blocks (marks ∙ ap marks_of view) has.summed;
      holds = summed_same (reserved_of pages) (reserved_of (set pages i new)) held (slots ∙ ap reserved_of view) has.holds;
    }
  where
    one : (b : Bool) → cond b 1 0 ≡ cond b (0 + 1) 0
    one true = refl
    one false = refl

pub no_spends : (n : ℕ) (value : PagesValue) → Spends n value value
no_spends n value = record { kept = refl; most = omega arith; stays = λ i is. is }

-- no mark is set, and as many are made
unmade_cleared : (pages : List PageValue) → unmade (cleared pages) ≡ unmade pages
unmade_cleared [] = refl
unmade_cleared (p ∷ ps) =
    let new = sum_by-cons {X = PageValue} weight (unmarked p) (cleared ps) in
    let old = sum_by-cons {X = PageValue} weight p ps in
    omega (arith, new, old, unmade_cleared ps)

pub cleared_set : (pages items : List PageValue) (spare owned : ℕ) (blocks now held : List Bool) → items ≡ cleared pages
    → IsSet pages spare owned blocks held → IsSet items spare owned now held
cleared_set pages items spare owned blocks now held is has =
    let owns = has.owns in
    subst (λ (l : List PageValue). IsSet l spare owned now held) (sym is)
    (record {
      are = cleared_are 0 pages has.are;
      owns = omega (arith, owns, unmade_cleared pages, length-map pages unmarked);
      summed = none_summed (marks_of (cleared pages)) now (length pages) (marks_cleared pages);
      holds = summed_same (reserved_of pages) (reserved_of (cleared pages)) held (cleared_holds pages) has.holds;
    })

-- none of new pages is made
pub new_unmade : (i n : ℕ) → unmade (new_pages i n) ≡ n
new_unmade i zero = refl
new_unmade i (suc n) = sum_by-cons {X = PageValue} weight (new_page i) (new_pages (suc i) n) ∙ omega (arith, new_unmade (suc i) n)

-- there is room for one act, whatever its place is
one_unmade : (pages : List PageValue) (i : ℕ) → is_made pages i ≡ false → 1 ≤ unmade pages
one_unmade [] i isnt = cc
one_unmade (p ∷ ps) zero isnt = let first = sum_by-cons {X = PageValue} weight p ps in let one = ap lacking isnt in omega (arith, first, one)
one_unmade (p ∷ ps) (suc i) isnt = let first = sum_by-cons {X = PageValue} weight p ps in omega (arith, first, one_unmade ps i isnt)

pub room_ready : (value : PagesValue) (place : PlaceId) → HasRoom 1 value → is_ready value place ≡ true
room_ready value (PlaceId.Page i) room = by_test (is_made value.pages i) refl
  where
    enough : min 1 (unmade value.pages) ≤ value.spare
    enough = room.enough

    by_test : (b : Bool) → is_made value.pages i ≡ b → (b || nat_le 1 value.spare) ≡ true
    by_test true is = refl
    by_test false is = let some = one_unmade value.pages i is in le-leb 1 value.spare (omega (arith, enough, some))
room_ready value PlaceId.Board room = refl
room_ready value (PlaceId.Port k) room = refl
room_ready value PlaceId.Out room = refl

-- room that is left, and acts one after another
pub room_left : (m n : ℕ) (old new : PagesValue) → HasRoom (m + n) old → Spends m old new → HasRoom n new
room_left m n old new room spends =
    let enough = room.enough in
    let kept = spends.kept in
    let most = spends.most in
    record { enough = omega (arith, enough, kept, most) }

pub less_room : (m n : ℕ) (value : PagesValue) → m ≤ n → HasRoom n value → HasRoom m value
less_room m n value less room = let enough = room.enough in record { enough = omega (arith, less, enough) }

pub spends_more : (m n : ℕ) (a b c : PagesValue) → Spends m a b → Spends n b c → Spends (m + n) a c
spends_more m n a b c first then =
    let kept_first = first.kept in
    let kept_then = then.kept in
    let most_first = first.most in
    let most_then = then.most in
    record {
      kept = omega (arith, kept_first, kept_then);
      most = omega (arith, most_first, most_then);
      stays = λ i is. then.stays i (first.stays i is);
    }

pub spends_less : (m n : ℕ) (a b : PagesValue) → m ≤ n → Spends m a b → Spends n a b
spends_less m n a b less spends =
    let most = spends.most in
    record { kept = spends.kept; most = omega (arith, less, most); stays = spends.stays }

-- a page with instructions stays one
pub code_stays : (code : CodePage) (n : ℕ) (a b : PagesValue) → length b.pages ≡ length a.pages → Spends n a b → IsCode code a.pages
    → IsCode code b.pages
code_stays code n a b long spends is =
    let there = is.there in
    record { there = omega (arith, there, long); made = spends.stays code.number is.made; start = is.start }

-- the same pages
pub spends_same : (n : ℕ) (a b c : PagesValue) → c.pages ≡ b.pages → c.spare ≡ b.spare → Spends n a b → Spends n a c
spends_same n a b c pages spare spends =
    subst (Spends n a) (sym (λ i. record { pages = pages i; spare = spare i })) spends
