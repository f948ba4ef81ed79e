-- x1 to x31 in order, by the numbers of registers.
use Rattle.std.specs.Prelude.{ℕ, ◌-◌, ◌==◌, List, if◌then◌else◌, slice_index, slice_set}

-- x0 reads 0, and what is written to it is dropped
abbrev pub integer : List ℕ → ℕ → ℕ
integer xs number = if number == 0 then 0 else slice_index xs (number - 1)

abbrev pub with_integer : List ℕ → ℕ → ℕ → List ℕ
with_integer xs number value = if number == 0 then xs else slice_set xs (number - 1) value
