use Rattle.std.proofs.Common.{◌≡◌, ◌<◌, ◌+◌, ◌∙◌, ℕ, Bool, false, inl, inr, sym, subst, arith}
use Rattle.std.proofs.lemmas.Bool.{cases_lt}
use Rattle.monitor_running.specs.Working.{works_in}
use Rattle.monitor_running.proofs.working.device_works.Goals as goal

none_more : (f : ℕ → Bool) (n : ℕ) → ((k : ℕ) → k < n → f k ≡ false) → f n ≡ false → (k : ℕ) → k < n + 1 → f k ≡ false
none_more f n before here k less = elim (cases_lt k n) [
  | inl below ↦ before k below
  | inr past ↦ subst (λ (j : ℕ). f j ≡ false) (omega (arith, past, less)) here
]

pub loop-number-preserved : goal.loop-number-preserved
loop-number-preserved c = record {
  none = none_more (works_in c.args.world.now) c.loop-number.number c.loop-number.invariant.none (sym c.works.ensures ∙ c.if-works.false);
}
