-- How long a head is.
use Rattle.std.proofs.Common.{◌≡◌, ℕ, ◌+◌, ◌*◌, ◌<◌, ◌≤◌, List, [], ◌∷◌, length, ap, ◌∙◌, arith, length-append}
use Rattle.std.specs.List.{flat_map, AllByRecursion}
use Rattle.std.proofs.lemmas.List.Elements.{recursion_from_All}
use Rattle.httparse.specs.Grammar.{LineEnd, crlf, lf, print_end, Field, print_field, IsField, RequestHead, print_request, IsRequestHead}
use Rattle.httparse.specs.Spans.{RequestExceeds}

-- ---- how long

end_length : (e : LineEnd) → 1 ≤ length (print_end e)
end_length crlf = omega arith
end_length lf = omega arith

field_length : (f : Field) → IsField f → 3 ≤ length (print_field f)
field_length f h =
    simp (length-append) (let a : 0 < length f.name = h.name.0 in let b : 1 ≤ length (print_end f.end) = end_length f.end in omega arith)

lines_length : (fs : List Field) → AllByRecursion IsField fs → 3 * length fs ≤ length (flat_map print_field fs)
lines_length [] h = omega arith
lines_length (f ∷ fs) h =
    rw (length-append (print_field f) (flat_map print_field fs))
    (let a : 3 ≤ length (print_field f) = field_length f h.0 in
    let b : 3 * length fs ≤ length (flat_map print_field fs) = lines_length fs h.1 in omega arith)

pub head_length : (h : RequestHead) → IsRequestHead h → 3 * length h.fields ≤ length (print_request h)
unfolding print_request
head_length h is =
    let a : 3 * length h.fields ≤ length (flat_map print_field h.fields)
    = lines_length h.fields (recursion_from_All IsField h.fields is.fields) in
    simp (length-append) (omega arith)

-- so few bytes have no room for so many headers
pub not_exceeds : (room : ℕ) (front : List ℕ) → length front ≤ 8192 → 2731 ≤ room → RequestExceeds room front → ⊥
not_exceeds room front short enough (a, rest, e, h, reads, over) =
    let long : 3 * length h.fields ≤ length (print_request h) = head_length h reads.0 in
    let whole : length a + 1 ≡ length (print_request h) + 0 = simp length-append at (ap length reads.1) in
    let part : length front ≡ length a + length rest = ap length e ∙ length-append a rest in
    omega arith
