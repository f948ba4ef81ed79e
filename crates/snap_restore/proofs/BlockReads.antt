-- Blocks that are read one after another.
use Rattle.std.proofs.Common.{◌≡◌, ℕ, ◌+◌, ◌≤◌, List, ◌++◌, length, take, drop, Option, Some, None, sym, ap, ◌∙◌, subst, arith, append_assoc, length-drop}
use Rattle.std.proofs.Math.Seq.{take-add}
use Rattle.std.proofs.lemmas.List.{drop-drop, length-take-le, take_at, drop_all, append-nil}
use Rattle.vm_outside.specs.Filing.{IsReadAt}
use Rattle.guest_memory.specs.Memory.{Memory, put_at}
use Rattle.guest_pages.specs.Pages.{loaded}
use Rattle.guest_pages.proofs.Joined.{put_behind}

-- a read of a file that is known
read_there : (o : Option (List ℕ)) (content buf : List ℕ) (at : ℕ) → o ≡ Some content → IsReadAt o at buf → (at + length buf ≤ length content) × (buf ≡ take (length buf) (drop at content))
read_there None content buf at is read = absurd read
read_there (Some found) content buf at is read = let same : found ≡ content = cc in subst (λ (l : List ℕ). (at + length buf ≤ length l) × (buf ≡ take (length buf) (drop at l))) same read

-- so many bytes of the file are in the place of the first, and then a block more
pub read_more : (o : Option (List ℕ)) (content first buf block piece : List ℕ) (at place done count : ℕ) (old new : Memory)
    → o ≡ Some content → IsReadAt o place buf → place ≡ at + done → length buf ≡ count → piece ≡ take count (buf ++ drop count block)
    → old.bytes ≡ take done (drop at content) ++ drop done first → new ≡ loaded done piece old
    → new.bytes ≡ take (done + count) (drop at content) ++ drop (done + count) first
read_more o content first buf block piece at place done count old new there read here size is so_far now =
    let src : List ℕ = drop at content in
    let front : List ℕ = take done src in
    let rest : List ℕ = drop done first in
    let got = read_there o content buf place there read in
    let room : done ≤ length src = omega (arith, got.0, here, size, length-drop at content) in
    let long : length front ≡ done = length-take-le done src room in
    let whole : piece ≡ buf = is ∙ take_at buf (drop count block) count size in
    let bytes : piece ≡ take count (drop done src) =
    whole ∙ got.1 ∙ ap (λ (k : ℕ). take k (drop place content)) size
    ∙ ap (λ (k : ℕ). take count (drop k content)) here ∙ ap (take count) (sym (drop-drop done at content)) in
    let long_piece : length piece ≡ count = ap length whole ∙ size in
    let many : 0 + length piece ≡ count = omega (arith, long_piece) in
    let seam : done ≡ length front + 0 = omega (arith, long) in
    ap (λ (m : Memory). m.bytes) now
    ∙ ap (λ (l : List ℕ). put_at l done piece) so_far
    ∙ ap (λ (k : ℕ). put_at (front ++ rest) k piece) seam
    ∙ put_behind front rest piece 0
    ∙ ap (λ (k : ℕ). front ++ (piece ++ drop k rest)) many
    ∙ ap (λ (l : List ℕ). front ++ (l ++ drop count rest)) bytes
    ∙ ap (λ (l : List ℕ). front ++ (take count (drop done src) ++ l)) (drop-drop count done first)
    ∙ sym (append_assoc front (take count (drop done src)) (drop (done + count) first))
    ∙ ap (λ (l : List ℕ). l ++ drop (done + count) first) (sym (take-add done count src))

-- a block that is put there reserves nothing
pub slots_kept : (offset : ℕ) (piece : List ℕ) (old new : Memory) → new ≡ loaded offset piece old → new.reserved ≡ old.reserved
slots_kept offset piece old new is = ap (λ (m : Memory). m.reserved) is

-- all of them are read
pub read_all : (content first bytes : List ℕ) (at done : ℕ) → bytes ≡ take done (drop at content) ++ drop done first → length first ≤ done → bytes ≡ take done (drop at content)
read_all content first bytes at done is all =
    is ∙ ap (λ (l : List ℕ). take done (drop at content) ++ l) (drop_all done first all) ∙ append-nil (take done (drop at content))
