-- Pages that are put in their places over other bytes there.
use Rattle.std.proofs.Common.{◌≡◌, ℕ, suc, ◌+◌, ◌*◌, ◌/◌, ◌%◌, ◌<◌, ◌==◌, ◌||◌, Bool, true, false, List, [], ◌∷◌, length, take, drop, get_or, refl, sym, ap, ◌∙◌, arith, length-drop}
use Rattle.std.specs.List.{list_any}
use Rattle.std.proofs.Math.Nat.{div-add-mod}
use Rattle.std.proofs.lemmas.Bool.{eqb-true}
use Rattle.std.proofs.lemmas.List.{ext_get_or, length-take-le}
use Rattle.guest_memory.specs.Memory.{put_at}
use Rattle.snap_diff.specs.Copies.{rises, with_pages}
use Rattle.snap_diff.proofs.Laying.{below, length-paged, other_page, others_rise, this_page}

-- memories that are alike in all other pages are one, once the pages are put
pub same_once_put : (numbers : List ℕ) (count low : ℕ) (pages xs ys : List ℕ) → rises count low numbers ≡ true
    → length xs ≡ 4096 * count → length ys ≡ 4096 * count → length pages ≡ 4096 * length numbers
    → ((m r : ℕ) → r < 4096 → list_any (λ n. n == m) numbers ≡ false → get_or xs (4096 * m + r) 0 ≡ get_or ys (4096 * m + r) 0)
    → with_pages numbers pages xs ≡ with_pages numbers pages ys
same_once_put [] count low pages xs ys rise xs_whole ys_whole size alike =
    ext_get_or 0 xs ys (xs_whole ∙ sym ys_whole) (λ i lt.
    let parts : 4096 * (i / 4096) + i % 4096 ≡ i = div-add-mod i 4096 in
    let small : i % 4096 < 4096 = omega arith in
    ap (λ (j : ℕ). get_or xs j 0) (sym parts) ∙ alike (i / 4096) (i % 4096) small refl ∙ ap (λ (j : ℕ). get_or ys j 0) parts)
same_once_put (n ∷ ns) count low pages xs ys rise xs_whole ys_whole size alike =
    let page : List ℕ = take 4096 pages in
    let one : length page ≡ 4096 = length-take-le 4096 pages (omega (arith, size)) in
    let lt = below count low n ns rise in
    let by_page : (m r : ℕ) → r < 4096 → list_any (λ x. x == m) ns ≡ false → (b : Bool) → (n == m) ≡ b
    → get_or (put_at xs (4096 * n) page) (4096 * m + r) 0 ≡ get_or (put_at ys (4096 * n) page) (4096 * m + r) 0 =
    λ m r small none b is. elim b as (λ c. (n == m) ≡ c → get_or (put_at xs (4096 * n) page) (4096 * m + r) 0 ≡ get_or (put_at ys (4096 * n) page) (4096 * m + r) 0) [
      | true ↦ λ this.
          let same : n ≡ m = eqb-true n m this in
          ap (λ (i : ℕ). get_or (put_at xs (4096 * n) page) (4096 * i + r) 0) (sym same)
          ∙ this_page count xs page n xs_whole one lt r small
          ∙ sym (this_page count ys page n ys_whole one lt r small)
          ∙ ap (λ (i : ℕ). get_or (put_at ys (4096 * n) page) (4096 * i + r) 0) same
      | false ↦ λ other.
          other_page count xs page n xs_whole one lt m r other small
          ∙ alike m r small (ap (λ (c : Bool). c || list_any (λ x. x == m) ns) other ∙ none)
          ∙ sym (other_page count ys page n ys_whole one lt m r other small)
    ] is in
    same_once_put ns count (suc n) (drop 4096 pages) (put_at xs (4096 * n) page) (put_at ys (4096 * n) page) (others_rise count low n ns rise)
    (length-paged count xs page n xs_whole one lt) (length-paged count ys page n ys_whole one lt) (omega (arith, size, length-drop 4096 pages))
    (λ m r small none. by_page m r small none (n == m) refl)
