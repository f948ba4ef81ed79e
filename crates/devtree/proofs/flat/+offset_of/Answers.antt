use Rattle.std.proofs.Common.{ℕ, List, [], arith, Bor}
use Rattle.devtree.proofs.Passes.{strings_split}
use Rattle.devtree.proofs.flat.+offset_of.Goals as goal

pub overflow_add-result-else-eq : goal.overflow_add-result-else-eq
overflow_add-result-else-eq t c =
    let none : Bor (List ℕ) = record { ref_ptr = (0, 0); now = [] } in
    omega (arith, c.requires, strings_split c.args.names.now none (omega (arith, c.in-len1-up.len_at_least)), c.offset_of.ensures.inside)
