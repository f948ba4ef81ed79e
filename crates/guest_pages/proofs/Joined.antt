-- Bytes of pages joined: what is read and put inside one page.
use Rattle.std.proofs.Common.{◌≡◌, ℕ, zero, suc, ◌+◌, ◌*◌, ◌<◌, ◌≤◌, List, [], ◌∷◌, ◌++◌, length, take, drop, get_or, set, sym, ap, ◌∙◌, arith, length-drop, append_assoc}
use Rattle.std.specs.List.{flat_map}
use Rattle.std.proofs.Math.Seq.{drop-append-add, take-append-add}
use Rattle.std.proofs.lemmas.List.{take-append-le, drop-append-le}
use Rattle.guest_memory.specs.Memory.{put_at}
use Rattle.guest_pages.specs.Pages.{PageValue}
use Rattle.guest_pages.specs.Flat.{ArePages}

abbrev bytes_of : List PageValue → List ℕ
bytes_of pages = flat_map (λ p. p.bytes) pages

-- an offset in a later page, from the end of this one
later : (p : PageValue) (i o : ℕ) → length p.bytes ≡ 4096 → 4096 * suc i + o ≡ length p.bytes + (4096 * i + o)
later p i o whole = omega arith

pub read_joined : (n : ℕ) (pages : List PageValue) (i o len : ℕ) (d : PageValue) → ArePages n pages → i < length pages → o + len ≤ 4096 → take len (drop (4096 * i + o) (bytes_of pages)) ≡ take len (drop o (get_or pages i d).bytes)
read_joined n [] i o len d are lt inside = absurd (omega arith)
read_joined n (p ∷ ps) zero o len d are lt inside =
    let whole = are.0.whole in
    ap (λ (k : ℕ). take len (drop k (p.bytes ++ bytes_of ps))) (omega arith)
    ∙ ap (λ (l : List ℕ). take len l) (drop-append-le o p.bytes (bytes_of ps) (omega (arith, whole)))
    ∙ take-append-le len (drop o p.bytes) (bytes_of ps) (omega (arith, whole, length-drop o p.bytes))
read_joined n (p ∷ ps) (suc i) o len d are lt inside =
    ap (λ (k : ℕ). take len (drop k (p.bytes ++ bytes_of ps))) (later p i o are.0.whole)
    ∙ ap (λ (l : List ℕ). take len l) (drop-append-add p.bytes (bytes_of ps) (4096 * i + o))
    ∙ read_joined (suc n) ps i o len d are.1 (omega arith) inside

put_front : (xs rest piece : List ℕ) (o : ℕ) → o + length piece ≤ length xs → put_at (xs ++ rest) o piece ≡ put_at xs o piece ++ rest
put_front xs rest piece o inside =
    ap (λ (l : List ℕ). l ++ piece ++ drop (o + length piece) (xs ++ rest)) (take-append-le o xs rest (omega arith))
    ∙ ap (λ (l : List ℕ). take o xs ++ piece ++ l) (drop-append-le (o + length piece) xs rest inside)
    ∙ sym (append_assoc (take o xs ++ piece) (drop (o + length piece) xs) rest)

pub put_behind : (xs rest piece : List ℕ) (k : ℕ) → put_at (xs ++ rest) (length xs + k) piece ≡ xs ++ put_at rest k piece
put_behind xs rest piece k =
    let l = length piece in
    ap (λ (t : List ℕ). t ++ piece ++ drop (length xs + k + l) (xs ++ rest)) (take-append-add xs rest k)
    ∙ ap (λ (j : ℕ). (xs ++ take k rest) ++ piece ++ drop j (xs ++ rest)) (omega arith)
    ∙ ap (λ (t : List ℕ). (xs ++ take k rest) ++ piece ++ t) (drop-append-add xs rest (k + l))
    ∙ ap (λ (t : List ℕ). t ++ drop (k + l) rest) (append_assoc xs (take k rest) piece)
    ∙ append_assoc xs (take k rest ++ piece) (drop (k + l) rest)

pub put_joined : (n : ℕ) (pages : List PageValue) (i o : ℕ) (piece : List ℕ) (d q : PageValue) → ArePages n pages → i < length pages → o + length piece ≤ 4096
    → q.bytes ≡ put_at (get_or pages i d).bytes o piece → put_at (bytes_of pages) (4096 * i + o) piece ≡ bytes_of (set pages i q)
put_joined n [] i o piece d q are lt inside is = absurd (omega arith)
put_joined n (p ∷ ps) zero o piece d q are lt inside is =
    let whole = are.0.whole in
    ap (λ (k : ℕ). put_at (p.bytes ++ bytes_of ps) k piece) (omega arith)
    ∙ put_front p.bytes (bytes_of ps) piece o (omega (arith, whole))
    ∙ ap (λ (l : List ℕ). l ++ bytes_of ps) (sym is)
put_joined n (p ∷ ps) (suc i) o piece d q are lt inside is =
    ap (λ (k : ℕ). put_at (p.bytes ++ bytes_of ps) k piece) (later p i o are.0.whole)
    ∙ put_behind p.bytes (bytes_of ps) piece (4096 * i + o)
    ∙ ap (λ (l : List ℕ). p.bytes ++ l) (put_joined (suc n) ps i o piece d q are.1 (omega arith) inside is)
