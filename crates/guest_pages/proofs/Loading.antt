-- A block goes into pages piece by piece.
use Rattle.std.proofs.Common.{◌≡◌, Bool, false, ℕ, zero, suc, ◌+◌, ◌*◌, ◌<◌, ◌≤◌, List, [], ◌∷◌, ◌++◌, Option, None, length, take, drop, get_or, set, replicate, refl, sym, ap, ◌∙◌, subst, arith, length-append, append_assoc}
use Rattle.std.specs.List.{flat_map}
use Rattle.std.proofs.Math.Seq.{take-add, map-set_same}
use Rattle.std.proofs.lemmas.List.{drop-drop, length-take-le, take_all}
use Rattle.guest_memory.specs.Memory.{Memory, put_at}
use Rattle.guest_memory.specs.Reserved.{unreserved}
use Rattle.guest_pages.specs.Flat.{IsPage, ArePages}
use Rattle.guest_pages.specs.Pages.{PageValue, flat_of, patched, loaded, marks_of, new_pages, empty_memory}
use Rattle.guest_pages.proofs.Here.{page_at}
use Rattle.guest_pages.proofs.Joined.{read_joined, put_joined, put_behind}

-- two pieces side by side
put_put : (bytes xs ys : List ℕ) (o : ℕ) → o ≤ length bytes → put_at (put_at bytes o xs) (o + length xs) ys ≡ put_at bytes o (xs ++ ys)
put_put bytes xs ys o inside =
    let rest : List ℕ = drop (o + length xs) bytes in
    let front : List ℕ = take o bytes ++ xs in
    let here : o + length xs ≡ length front + 0 = omega (arith, length-append (take o bytes) xs, length-take-le o bytes inside) in
    let behind : drop (0 + length ys) rest ≡ drop (o + length (xs ++ ys)) bytes = drop-drop (0 + length ys) (o + length xs) bytes ∙ ap (λ (k : ℕ). drop k bytes) (omega (arith, length-append xs ys)) in
    ap (λ (k : ℕ). put_at (front ++ rest) k ys) here
    ∙ put_behind front rest ys 0
    ∙ ap (λ (l : List ℕ). front ++ (ys ++ l)) behind
    ∙ sym (append_assoc front ys (drop (o + length (xs ++ ys)) bytes))
    ∙ ap (λ (l : List ℕ). l ++ drop (o + length (xs ++ ys)) bytes) (append_assoc (take o bytes) xs ys)

-- what a changed page has as before is as before in all
pub same_joined : {A : Type 0} (part : PageValue → List A) (pages : List PageValue) (i : ℕ) (d q : PageValue) → i < length pages
    → part q ≡ part (get_or pages i d) → flat_map part (set pages i q) ≡ flat_map part pages
same_joined part [] i d q lt same = absurd (omega arith)
same_joined part (p ∷ ps) zero d q lt same = ap (λ l. l ++ flat_map part ps) same
same_joined part (p ∷ ps) (suc i) d q lt same = ap (λ l. part p ++ l) (same_joined part ps i d q (omega arith) same)

-- a piece inside one page
module _ (value pages : List PageValue) (i offset : ℕ) (piece : List ℕ) (old new : PageValue) (view : value ≡ pages) (are : ArePages 0 pages) (lt : i < length value) (was : old ≡ get_or pages i old) (now : new ≡ record (patched offset piece old) { made = new.made }) (room : offset + length piece ≤ 4096) where
  below : i < length pages
  below = let e = ap length view in omega arith

  pub patched_memory : flat_of (set pages i new) ≡ loaded (4096 * i + offset) piece (flat_of value)
  patched_memory =
      let is : new.bytes ≡ put_at (get_or pages i old).bytes offset piece = ap (λ (p : PageValue). p.bytes) now ∙ ap (λ (p : PageValue). put_at p.bytes offset piece) was in
      let bytes = put_joined 0 pages i offset piece old new are below room is in
      let slots = same_joined (λ p. p.reserved) pages i old new below (ap (λ (p : PageValue). p.reserved) now ∙ ap (λ (p : PageValue). p.reserved) was) in
      let here : flat_of (set pages i new) ≡ loaded (4096 * i + offset) piece (flat_of pages) = (λ k. record { bytes = sym bytes k; reserved = slots k }) in
      here ∙ ap (λ (l : List PageValue). loaded (4096 * i + offset) piece (flat_of l)) (sym view)

  pub patched_marks : marks_of (set pages i new) ≡ marks_of value
  patched_marks =
      map-set_same (λ p. p.marked) pages i new old (ap (λ (p : PageValue). p.marked) now ∙ ap (λ (p : PageValue). p.marked) was)
      ∙ ap marks_of (sym view)

-- so far, and one piece more
pub loaded_more : (m n k : Memory) (block : List ℕ) (offset done count at inner : ℕ) → n ≡ loaded offset (take done block) m → k ≡ loaded at (take count (drop done block)) n
    → at ≡ offset + done → offset ≤ length m.bytes → done ≤ length block → k ≡ loaded offset (take (done + count) block) m
loaded_more m n k block offset done count at inner so_far more here inside small =
    let long : offset + done ≡ offset + length (take done block) = ap (λ (j : ℕ). offset + j) (sym (length-take-le done block small)) in
    let bytes : put_at (put_at m.bytes offset (take done block)) at (take count (drop done block)) ≡ put_at m.bytes offset (take (done + count) block) =
    ap (λ (j : ℕ). put_at (put_at m.bytes offset (take done block)) j (take count (drop done block))) (here ∙ long)
    ∙ put_put m.bytes (take done block) (take count (drop done block)) offset inside
    ∙ ap (put_at m.bytes offset) (sym (take-add done count block)) in
    more ∙ ap (loaded at (take count (drop done block))) so_far ∙ (λ i. record m { bytes = bytes i })

-- new pages are an empty memory
pub replicate-add : {A : Type 0} (a b : ℕ) (x : A) → replicate a x ++ replicate b x ≡ replicate (a + b) x
replicate-add zero b x = ap (λ (n : ℕ). replicate n x) (omega arith)
replicate-add (suc a) b x =
    let next : suc (a + b) ≡ suc a + b = omega arith in
    ap (λ l. x ∷ l) (replicate-add a b x) ∙ ap (λ (n : ℕ). replicate n x) next

new_bytes : (i n : ℕ) → flat_map (λ p. p.bytes) (new_pages i n) ≡ replicate (4096 * n) 0
new_bytes i zero = refl
new_bytes i (suc n) =
    let more : 4096 + 4096 * n ≡ 4096 * suc n = omega arith in
    ap (λ (l : List ℕ). replicate 4096 0 ++ l) (new_bytes (suc i) n) ∙ replicate-add 4096 (4096 * n) 0 ∙ ap (λ (k : ℕ). replicate k 0) more

new_slots : (i n : ℕ) → flat_map (λ p. p.reserved) (new_pages i n) ≡ unreserved n
unfolding unreserved
new_slots i zero = refl
new_slots i (suc n) =
    let more : 32 + 32 * n ≡ 32 * suc n = omega arith in
    ap (λ (l : List (Option ℕ)). unreserved 1 ++ l) (new_slots (suc i) n) ∙ replicate-add {A = Option ℕ} 32 (32 * n) None ∙ ap (λ (k : ℕ). replicate k None) more

pub new_memory : (pages : List PageValue) (n : ℕ) → pages ≡ new_pages 0 n → flat_of pages ≡ empty_memory n
new_memory pages n is = ap flat_of is ∙ (λ k. record { bytes = new_bytes 0 n k; reserved = new_slots 0 n k })

new_count : (i n : ℕ) → length (new_pages i n) ≡ n
new_count i zero = refl
new_count i (suc n) = ap suc (new_count (suc i) n)

pub made_count : (pages : List PageValue) (n : ℕ) → pages ≡ new_pages 0 n → length pages ≡ n
made_count pages n is = ap length is ∙ new_count 0 n

new_marks : (i n : ℕ) → marks_of (new_pages i n) ≡ replicate n false
new_marks i zero = refl
new_marks i (suc n) = ap (λ (l : List Bool). false ∷ l) (new_marks (suc i) n)

pub made_marks : (pages : List PageValue) (n : ℕ) → pages ≡ new_pages 0 n → marks_of pages ≡ replicate n false
made_marks pages n is = ap marks_of is ∙ new_marks 0 n

-- the bytes of a page are those of the memory, in their place
pub bytes_there : (value pages : List PageValue) (i : ℕ) (d : PageValue) → value ≡ pages → ArePages 0 pages → i < length pages → (get_or pages i d).bytes ≡ take 4096 (drop (4096 * i) (flat_of value).bytes)
bytes_there value pages i d view are lt =
    let e : 0 + i ≡ i = omega arith in
    let is : IsPage i (get_or pages i d) = subst (λ (k : ℕ). IsPage k (get_or pages i d)) e (page_at 0 pages i d are lt) in
    let whole = is.whole in
    let start : 4096 * i + 0 ≡ 4096 * i = omega arith in
    sym (take_all 4096 (get_or pages i d).bytes (omega (arith, whole)))
    ∙ sym (read_joined 0 pages i 0 4096 d are lt (omega arith))
    ∙ ap (λ (o : ℕ). take 4096 (drop o (flat_of pages).bytes)) start
    ∙ ap (λ (l : List PageValue). take 4096 (drop (4096 * i) (flat_of l).bytes)) (sym view)
