-- What diffs make of a copy.
use Rattle.std.proofs.Common.{◌≡◌, ℕ, ◌+◌, ◌*◌, ◌/◌, ◌%◌, ◌<◌, Bool, true, false, List, [], ◌∷◌, length, drop, get_or, Some, refl, sym, ap, ◌∙◌, subst, arith, length-drop}
use Rattle.std.specs.Prelude.{map, slice_get}
use Rattle.std.proofs.lemmas.List.{length-take-le, ext_get_or}
use Rattle.std.proofs.Math.Nat.{div-add-mod}
use Rattle.snap_diff.specs.Copies.{MemoryCopy, DiffCopy, DiffStep, IsDiff, IsDiffOf, IsWhole, JoinAll, Joins, LeadBy, has_page, overlaid, overlaid_all, page_at, pages_at, rises, with_pages}
use Rattle.snap_diff.proofs.Laying.{cell_of_page, laid, outside, placed, size_of_pages}

-- pages with the same cells are one
same_pages : (n k count more : ℕ) (xs ys : List ℕ) → length xs ≡ 4096 * count → n < count → length ys ≡ 4096 * more → k < more
    → ((r : ℕ) → r < 4096 → get_or xs (4096 * n + r) 0 ≡ get_or ys (4096 * k + r) 0) → page_at n xs ≡ page_at k ys
same_pages n k count more xs ys xs_whole below ys_whole above cells =
    let first : length (page_at n xs) ≡ 4096 = length-take-le 4096 (drop (4096 * n) xs) (omega (arith, xs_whole, below, length-drop (4096 * n) xs)) in
    let second : length (page_at k ys) ≡ 4096 = length-take-le 4096 (drop (4096 * k) ys) (omega (arith, ys_whole, above, length-drop (4096 * k) ys)) in
    ext_get_or 0 (page_at n xs) (page_at k ys) (first ∙ sym second) (λ r lt.
    let small : r < 4096 = omega (arith, lt, first) in
    cell_of_page n r xs small ∙ cells r small ∙ sym (cell_of_page k r ys small))

module _ (m : MemoryCopy) (d : DiffCopy) (whole : IsWhole m) (is : IsDiff d) (pages : d.pages ≡ m.pages) where
  rise : rises m.pages 0 d.numbers ≡ true
  rise = subst (λ (count : ℕ). rises count 0 d.numbers ≡ true) pages is.rise

  laid_out : (length (with_pages d.numbers d.bytes m.bytes) ≡ 4096 * m.pages)
      × ((n r : ℕ) → r < 4096 → has_page d n ≡ false → get_or (with_pages d.numbers d.bytes m.bytes) (4096 * n + r) 0 ≡ get_or m.bytes (4096 * n + r) 0)
  laid_out = outside d.numbers m.pages 0 d.bytes m.bytes rise whole is.size

  pub stays_whole : IsWhole (overlaid m d)
  stays_whole = laid_out.0

  pub page_outside : (number : ℕ) → number < m.pages → has_page d number ≡ false → page_at number (overlaid m d).bytes ≡ page_at number m.bytes
  page_outside number below none =
      same_pages number number m.pages m.pages (overlaid m d).bytes m.bytes laid_out.0 below whole below (λ r small. laid_out.1 number r small none)

  pub page_inside : (k number : ℕ) → k < length d.numbers → number < m.pages → slice_get d.numbers k ≡ Some number → page_at number (overlaid m d).bytes ≡ page_at k d.bytes
  page_inside k number some below there =
      same_pages number k m.pages (length d.numbers) (overlaid m d).bytes d.bytes laid_out.0 below is.size some
      (placed d.numbers m.pages 0 d.bytes m.bytes k number rise whole is.size there)

module _ (old new : MemoryCopy) (d : DiffCopy) (old_whole : IsWhole old) (new_whole : IsWhole new) (is : IsDiffOf old new d) where
  of_new : rises new.pages 0 d.numbers ≡ true
  of_new = subst (λ (c : DiffCopy). rises c.pages 0 d.numbers ≡ true) is.written (subst (λ (c : DiffCopy). rises d.pages 0 d.numbers ≡ true) is.written is.rise)

  old_size : length old.bytes ≡ 4096 * new.pages
  old_size = old_whole ∙ ap (λ (count : ℕ). 4096 * count) (sym is.pages)

  put_size : length (with_pages d.numbers (pages_at d.numbers new.bytes) old.bytes) ≡ 4096 * new.pages
  put_size = (outside d.numbers new.pages 0 (pages_at d.numbers new.bytes) old.bytes of_new old_size (size_of_pages d.numbers new.pages 0 new.bytes of_new new_whole)).0

  cell : (n r : ℕ) → n < new.pages → r < 4096 → (b : Bool) → has_page d n ≡ b
      → get_or (with_pages d.numbers (pages_at d.numbers new.bytes) old.bytes) (4096 * n + r) 0 ≡ get_or new.bytes (4096 * n + r) 0
  cell n r below small true some = laid d.numbers new.pages 0 new.bytes old.bytes of_new old_size new_whole n r small some
  cell n r below small false none =
      (outside d.numbers new.pages 0 (pages_at d.numbers new.bytes) old.bytes of_new old_size (size_of_pages d.numbers new.pages 0 new.bytes of_new new_whole)).1 n r small none
      ∙ sym (cell_of_page n r old.bytes small) ∙ ap (λ (l : List ℕ). get_or l r 0) (sym (is.others n below none)) ∙ cell_of_page n r new.bytes small

  bytes : with_pages d.numbers (pages_at d.numbers new.bytes) old.bytes ≡ new.bytes
  bytes = ext_get_or 0 _ new.bytes (put_size ∙ sym new_whole) (λ k lt.
      let parts : 4096 * (k / 4096) + k % 4096 ≡ k = div-add-mod k 4096 in
      let small : k % 4096 < 4096 = omega arith in
      let below : k / 4096 < new.pages = omega (arith, lt, put_size) in
      subst (λ (i : ℕ). get_or (with_pages d.numbers (pages_at d.numbers new.bytes) old.bytes) i 0 ≡ get_or new.bytes i 0) parts
      (cell (k / 4096) (k % 4096) below small (has_page d (k / 4096)) refl))

  pub diff_joins : Joins old d
  diff_joins = record {
    parent = ap (λ (c : DiffCopy). c.parent) is.written;
    pages = ap (λ (c : DiffCopy). c.pages) is.written ∙ is.pages;
  }

  -- the diff of two copies makes the second of the first
  pub makes_new : overlaid old d ≡ new
  makes_new =
      ap (λ (c : DiffCopy). record { identity = c.identity; pages = old.pages; bytes = with_pages d.numbers c.bytes old.bytes }) is.written
      ∙ ap (λ (l : List ℕ). record { identity = new.identity; pages = old.pages; bytes = l }) bytes
      ∙ ap (λ (count : ℕ). record { identity = new.identity; pages = count; bytes = new.bytes }) (sym is.pages)

-- and several make the last
pub make_last : (first : MemoryCopy) (steps : List DiffStep) (last : MemoryCopy) → IsWhole first → LeadBy first steps last
    → (JoinAll first (map (λ step. step.diff) steps)) × (overlaid_all first (map (λ step. step.diff) steps) ≡ last)
make_last first [] last whole same = (tt, same)
make_last first (step ∷ steps) last whole (after, is, more) =
    let makes = makes_new first step.after step.diff whole after is in
    let rest = make_last step.after steps last after more in (
      (diff_joins first step.after step.diff whole after is, subst (λ (m : MemoryCopy). JoinAll m (map (λ s. s.diff) steps)) (sym makes) rest.0),
      ap (λ (m : MemoryCopy). overlaid_all m (map (λ s. s.diff) steps)) makes ∙ rest.1,
    )
