-- A sink that takes a front of a text.
use Rattle.std.proofs.Common.{◌≡◌, ◌+◌, ℕ, List, ◌++◌, length, take, Result, Ok, Err, sym, ap, ◌∙◌, append_assoc, arith, length-append}
use Rattle.std.proofs.Math.Seq.{take-append-add}
use Rattle.std.proofs.lemmas.List.{take-append-le}
use Rattle.vm_outside.specs.Passing.{TakesAll, TakesPart}

-- a front of the first text is one of both
pub part_more : (old now one two : List ℕ) → TakesPart old now one → TakesPart old now (one ++ two)
part_more old now one two part = (
  part.0,
  omega (arith, part.1, length-append one two),
  part.2 ∙ ap (λ (l : List ℕ). old ++ l) (sym (take-append-le part.0 one two (omega (arith, part.1)))),
)

-- and so is the first text whole with a front of the second
pub part_behind : (old mid now one two : List ℕ) → mid ≡ old ++ one → TakesPart mid now two → TakesPart old now (one ++ two)
part_behind old mid now one two first part = (
  length one + part.0,
  omega (arith, part.1, length-append one two),
  part.2 ∙ ap (λ (l : List ℕ). l ++ take part.0 two) first ∙ append_assoc old one (take part.0 two)
      ∙ ap (λ (l : List ℕ). old ++ l) (sym (take-append-add one two part.0)),
)

pub all_behind : (old mid now one two : List ℕ) → mid ≡ old ++ one → now ≡ mid ++ two → now ≡ old ++ (one ++ two)
all_behind old mid now one two first second = second ∙ ap (λ (l : List ℕ). l ++ two) first ∙ append_assoc old one two

pub takes_behind : {T E : Type 0} (old mid now one two : List ℕ) (result : Result T E) → mid ≡ old ++ one → TakesAll mid now result two → TakesAll old now result (one ++ two)
takes_behind old mid now one two (Ok value) first second = all_behind old mid now one two first second
takes_behind old mid now one two (Err why) first second = part_behind old mid now one two first second
