-- When a branch is taken (unprivileged manual, 2.5, "Conditional Branches").
use Rattle.std.specs.Prelude.{ℕ, Bool, not, ◌==◌, nat_lt, int_lt}
use Rattle.rv_rows.specs.declared.branch.Condition.{Condition}
use Rattle.rv_rows.specs.declared.branch.Condition.TheVariants.{Eq, Ne, Lt, Ge, Ltu, Geu}
use Rattle.rv_rows.specs.Numbers.{signed_64}

abbrev pub is_taken : Condition → ℕ → ℕ → Bool
is_taken Eq a b = a == b
is_taken Ne a b = not (a == b)
is_taken Lt a b = int_lt (signed_64 a) (signed_64 b)
is_taken Ge a b = not (int_lt (signed_64 a) (signed_64 b))
is_taken Ltu a b = nat_lt a b
is_taken Geu a b = not (nat_lt a b)
