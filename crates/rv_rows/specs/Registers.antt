-- The integer registers and their numbers (unprivileged manual, 2.1).
use Rattle.std.specs.Prelude.{ℕ, ◌%◌, List, [], ◌∷◌, slice_index_or}
use Rattle.rv_rows.specs.declared.register.Register.{Register}
use Rattle.rv_rows.specs.declared.register.Register.TheVariants.{X0, X1, X2, X3, X4, X5, X6, X7, X8, X9, X10, X11, X12, X13, X14, X15, X16, X17, X18, X19, X20, X21, X22, X23, X24, X25, X26, X27, X28, X29, X30, X31}

abbrev pub registers : List Register
registers =
    X0 ∷ X1 ∷ X2 ∷ X3 ∷ X4 ∷ X5 ∷ X6 ∷ X7
    ∷ X8 ∷ X9 ∷ X10 ∷ X11 ∷ X12 ∷ X13 ∷ X14 ∷ X15
    ∷ X16 ∷ X17 ∷ X18 ∷ X19 ∷ X20 ∷ X21 ∷ X22 ∷ X23
    ∷ X24 ∷ X25 ∷ X26 ∷ X27 ∷ X28 ∷ X29 ∷ X30 ∷ X31
    ∷ []

-- the register of a number modulo 32
abbrev pub register_of : ℕ → Register
register_of n = slice_index_or registers (n % 32) X0

abbrev pub number : Register → ℕ
number X0 = 0
number X1 = 1
number X2 = 2
number X3 = 3
number X4 = 4
number X5 = 5
number X6 = 6
number X7 = 7
number X8 = 8
number X9 = 9
number X10 = 10
number X11 = 11
number X12 = 12
number X13 = 13
number X14 = 14
number X15 = 15
number X16 = 16
number X17 = 17
number X18 = 18
number X19 = 19
number X20 = 20
number X21 = 21
number X22 = 22
number X23 = 23
number X24 = 24
number X25 = 25
number X26 = 26
number X27 = 27
number X28 = 28
number X29 = 29
number X30 = 30
number X31 = 31
