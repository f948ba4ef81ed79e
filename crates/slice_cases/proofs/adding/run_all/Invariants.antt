use Rattle.std.proofs.Common.{◌≡◌, All}
use Rattle.slice_cases.proofs.adding.run_all.Given as goal

abbrev pub invariant-loop-slice : goal.invariant-loop-slice
invariant-loop-slice g l = All (λ pass. pass.0 ≡ l.gate) l.passes.items
