-- Bytes that are read piece by piece.
use Rattle.std.proofs.Common.{◌≡◌, ℕ, ◌+◌, ◌-◌, ◌*◌, ◌/◌, ◌%◌, ◌≤◌, List, ◌++◌, length, take, drop, sym, ap, ◌∙◌, arith, append_assoc}
use borrow.Rule.Slice.PartMut.{put_mid}
use Rattle.std.proofs.Math.Seq.{take-add, drop-append_seam}
use Rattle.std.proofs.lemmas.List.{drop-drop, drop-take, length-take-le, take_all, take-append-le, take-take}

-- so much of the source in front of the rest, and then one piece more
pub copied_more : (from out old piece : List ℕ) (done count : ℕ) → out ≡ take done from ++ drop done old → piece ≡ take count (drop done from) → done + count ≤ length old → length old ≤ length from
    → put_mid done (done + count - done) out piece ≡ take (done + count) from ++ drop (done + count) old
copied_more from out old piece done count so_far is inside enough =
    let many : done + count - done ≡ count = omega arith in
    let long : length (take done from) ≡ done = length-take-le done from (omega arith) in
    let front : take done out ≡ take done from =
    ap (take done) so_far ∙ take-append-le done (take done from) (drop done old) (omega (arith, long)) ∙ take_all done (take done from) (omega (arith, long)) in
    let back : drop count (drop done out) ≡ drop (done + count) old =
    ap (λ (l : List ℕ). drop count (drop done l)) so_far
    ∙ ap (λ (k : ℕ). drop count (drop k (take done from ++ drop done old))) (sym long)
    ∙ ap (drop count) (drop-append_seam (take done from) (drop done old))
    ∙ drop-drop count done old in
    ap (λ (k : ℕ). take done out ++ (piece ++ drop k (drop done out))) many
    ∙ ap (λ (l : List ℕ). l ++ (piece ++ drop count (drop done out))) front
    ∙ ap (λ (l : List ℕ). take done from ++ (l ++ drop count (drop done out))) is
    ∙ ap (λ (l : List ℕ). take done from ++ (take count (drop done from) ++ l)) back
    ∙ sym (append_assoc (take done from) (take count (drop done from)) (drop (done + count) old))
    ∙ ap (λ (l : List ℕ). l ++ drop (done + count) old) (sym (take-add done count from))

-- bytes that are in one page
pub in_page : (all page : List ℕ) (from count : ℕ) → page ≡ take 4096 (drop (4096 * (from / 4096)) all) → from % 4096 + count ≤ 4096 → take (from % 4096 + count - from % 4096) (drop (from % 4096) page) ≡ take count (drop from all)
in_page all page from count is inside =
    let o : ℕ = from % 4096 in
    let base : List ℕ = drop (4096 * (from / 4096)) all in
    let many : o + count - o ≡ count = omega arith in
    let whole : 4096 ≡ o + (4096 - o) = omega (arith, inside) in
    let there : 4096 * (from / 4096) + o ≡ from = omega arith in
    ap (λ (k : ℕ). take k (drop o page)) many
    ∙ ap (λ (l : List ℕ). take count (drop o l)) (is ∙ ap (λ (k : ℕ). take k base) whole)
    ∙ ap (take count) (drop-take o (4096 - o) base)
    ∙ take-take count (4096 - o) (drop o base) (omega (arith, inside))
    ∙ ap (take count) (drop-drop o (4096 * (from / 4096)) all ∙ ap (λ (k : ℕ). drop k all) there)
