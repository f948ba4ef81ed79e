-- Pages as they are made, and after an act on one of them.
use Rattle.std.proofs.Common.{◌≡◌, ℕ, zero, suc, ◌+◌, ◌*◌, ◌<◌, List, [], ◌∷◌, ◌++◌, Option, None, length, get_or, set, replicate, Bool, true, false, refl, sym, ap, ◌∙◌, subst, arith}
use Rattle.std.proofs.lemmas.List.{length-replicate, get_or_default}
use Rattle.vm_types.specs.declared.ids.ActorId.{ActorId}
use Rattle.vm_types.specs.declared.ids.PlaceId.{PlaceId}
use Rattle.vm_types.specs.declared.op.Op.{Op}
use Rattle.vm_types.specs.declared.reply.Reply.{Reply}
use Rattle.guest_memory.specs.Memory.{touch}
use Rattle.guest_memory.specs.Route.{access_place, page_of}
use Rattle.guest_memory.specs.Reserved.{unreserved}
use Rattle.guest_memory.specs.Words.{width_of}
use Rattle.guest_pages.specs.Flat.{AreInside, IsPage, ArePages}
use Rattle.guest_pages.specs.Pages.{PageValue, page_touch, flat_of, made_page, new_page, new_pages, cleared}
use Rattle.guest_pages.proofs.Here.{here, size_of_pages, page_at, pages_set}
use Rattle.guest_pages.proofs.Staying.{page_stays}
use Rattle.guest_pages.proofs.Touching.{Touches, touches}

pub page_is : (n number : ℕ) (bytes : List ℕ) (reserved : List (Option ℕ)) (marked : Bool) → n ≡ number → bytes ≡ replicate 4096 0
    → reserved ≡ replicate 32 None → marked ≡ false
    → ◌≡◌ {A = PageValue} (record { number = n; bytes = bytes; reserved = reserved; marked = marked; made = true }) (made_page number)
unfolding unreserved
page_is n number bytes reserved marked s e r m = λ i. record { number = s i; bytes = e i; reserved = r i; marked = m i; made = true }

one_more : (n : ℕ) → suc (n + 1) ≡ suc n + 1
one_more n = omega arith

pub new_pages_more : (i n : ℕ) → new_pages i n ++ new_page (i + n) ∷ [] ≡ new_pages i (n + 1)
new_pages_more i zero = ap (λ (k : ℕ). new_page k ∷ []) (omega arith)
new_pages_more i (suc n) =
    ap (λ (k : ℕ). new_page i ∷ (new_pages (suc i) n ++ new_page k ∷ [])) (omega arith)
    ∙ ap (λ (l : List PageValue). new_page i ∷ l) (new_pages_more (suc i) n)
    ∙ ap (new_pages i) (one_more n)

pub one_page_more : (items : List PageValue) (n : ℕ) (page : PageValue) → items ≡ new_pages 0 n → page ≡ new_page n → items ++ page ∷ [] ≡ new_pages 0 (n + 1)
one_page_more items n page so_far is = ap (λ (l : List PageValue). l ++ page ∷ []) so_far ∙ ap (λ (p : PageValue). new_pages 0 n ++ p ∷ []) is ∙ ap (λ (k : ℕ). new_pages 0 n ++ new_page k ∷ []) (omega arith) ∙ new_pages_more 0 n

none_inside : (n : ℕ) → AreInside (replicate n None)
none_inside zero = tt
none_inside (suc n) = none_inside n

new_pages_are : (i n : ℕ) → ArePages i (new_pages i n)
unfolding unreserved
new_pages_are i zero = tt
new_pages_are i (suc n) = (record { numbered = refl; whole = length-replicate {A = ℕ} 4096 0; slotted = length-replicate {A = Option ℕ} 32 None; inside = none_inside 32 }, new_pages_are (suc i) n)

pub made_are : (items : List PageValue) (n : ℕ) → items ≡ new_pages 0 n → ArePages 0 items
made_are items n e = subst (ArePages 0) (sym e) (new_pages_are 0 n)

module _ (value pages : List PageValue) (i : ℕ) (actor : ActorId) (op : Op) (old new : PageValue) (view : value ≡ pages) (are : ArePages 0 pages) (lt : i < length value) (was : old ≡ get_or pages i old) (now : new ≡ (page_touch old actor op).1) where
  below : i < length pages
  below = let e = ap length view in omega arith

  is_old : IsPage i old
  is_old = let e : 0 + i ≡ i = omega arith in subst (λ (k : ℕ). IsPage k old) e (subst (IsPage (0 + i)) (sym was) (page_at 0 pages i old are below))

  pub act_stays : ArePages 0 (set pages i new)
  act_stays = let e : i ≡ 0 + i = omega arith in pages_set 0 pages i new are (subst (λ (k : ℕ). IsPage k new) e (subst (IsPage i) (sym now) (page_stays i old actor op is_old)))

  touched : access_place (length (flat_of value).bytes) op ≡ PlaceId.Page i → Touches pages i (page_touch old actor op) (touch (flat_of value) actor op)
  touched place =
      subst (λ (m : List PageValue). Touches pages i (page_touch old actor op) (touch (flat_of m) actor op)) (sym view)
      (subst (λ (p : PageValue). Touches pages i (page_touch p actor op) (touch (flat_of pages) actor op)) (sym was)
      (touches pages i old are below actor op (ap (λ (m : List PageValue). access_place (length (flat_of m).bytes) op) (sym view) ∙ place)))

  pub act_reply : (reply : Reply) → access_place (length (flat_of value).bytes) op ≡ PlaceId.Page i → reply ≡ (page_touch old actor op).0 → reply ≡ (touch (flat_of value) actor op).0
  act_reply reply place is = is ∙ (touched place).reply

  at_any : (d : PageValue) → old ≡ get_or value i d
  at_any d = was ∙ ap (λ (l : List PageValue). get_or l i old) (sym view) ∙ get_or_default value i old d lt

  pub act_page : (reply : Reply) → reply ≡ (page_touch old actor op).0 → (d : PageValue) → reply ≡ (page_touch (get_or value i d) actor op).0
  act_page reply is d = is ∙ ap (λ (p : PageValue). (page_touch p actor op).0) (at_any d)

  pub act_pages : (d : PageValue) → set pages i new ≡ set value i (page_touch (get_or value i d) actor op).1
  act_pages d = ap (λ (l : List PageValue). set l i new) (sym view) ∙ ap (λ (p : PageValue). set value i p) (now ∙ ap (λ (p : PageValue). (page_touch p actor op).1) (at_any d))

  pub act_memory : access_place (length (flat_of value).bytes) op ≡ PlaceId.Page i → flat_of (set pages i new) ≡ (touch (flat_of value) actor op).1
  act_memory place = ap (λ (p : PageValue). flat_of (set pages i p)) now ∙ (touched place).memory

pub size_of_value : (value pages : List PageValue) (n : ℕ) → value ≡ pages → ArePages 0 pages → n ≡ length pages → length (flat_of value).bytes ≡ 4096 * n
size_of_value value pages n view are long = ap (λ (l : List PageValue). length (flat_of l).bytes) view ∙ size_of_pages pages are ∙ ap (λ (k : ℕ). 4096 * k) (sym long)

pub cleared_are : (n : ℕ) (pages : List PageValue) → ArePages n pages → ArePages n (cleared pages)
cleared_are n [] are = tt
cleared_are n (p ∷ ps) are = (record { numbered = are.0.numbered; whole = are.0.whole; slotted = are.0.slotted; inside = are.0.inside }, cleared_are (suc n) ps are.1)

-- one page becomes another that has its number and its size
pub changed_are : (value pages : List PageValue) (i : ℕ) (old new next : PageValue) → value ≡ pages → ArePages 0 pages → i < length value → old ≡ get_or pages i old → new ≡ next → (IsPage i old → IsPage i next) → ArePages 0 (set pages i new)
changed_are value pages i old new next view are lt was now keeps =
    let e : 0 + i ≡ i = omega arith in
    let b : i ≡ 0 + i = omega arith in
    let below : i < length pages = subst (λ (l : List PageValue). i < length l) view lt in
    let is : IsPage i old = subst (λ (k : ℕ). IsPage k old) e (subst (IsPage (0 + i)) (sym was) (page_at 0 pages i old are below)) in
    pages_set 0 pages i new are (subst (λ (k : ℕ). IsPage k new) b (subst (IsPage i) (sym now) (keeps is)))

inside_all : (size at len i n : ℕ) → size ≡ 4096 * n → page_of size at len ≡ PlaceId.Page i → i < n
inside_all size at len i n whole place =
    let h = here size at len i place in
    let some = h.some in
    let from = h.from in
    let below = h.below in
    omega arith

number_of : (size n i : ℕ) (op : Op) → size ≡ 4096 * n → access_place size op ≡ PlaceId.Page i → i < n
number_of size n i (Op.Read at len) whole place = inside_all size at len i n whole place
number_of size n i (Op.Write at piece) whole place = inside_all size at (length piece) i n whole place
number_of size n i (Op.Amo at value kind wide) whole place = inside_all size at (width_of wide) i n whole place
number_of size n i (Op.Lr at wide) whole place = inside_all size at (width_of wide) i n whole place
number_of size n i (Op.Sc at value wide) whole place = inside_all size at (width_of wide) i n whole place
number_of size n i op whole place = cc

-- an op's page is one of those that there are
pub number_below : (value pages : List PageValue) (i : ℕ) (op : Op) → value ≡ pages → ArePages 0 pages → access_place (length (flat_of value).bytes) op ≡ PlaceId.Page i → i < length value
number_below value pages i op view are place = number_of (length (flat_of value).bytes) (length value) i op (size_of_value value pages (length value) view are (ap length view)) place
