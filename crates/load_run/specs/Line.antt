-- The line of a run.
use Rattle.std.specs.Prelude.{◌≡◌, ℕ, ◌-◌, ◌==◌, if◌then◌else◌, List, [], ◌∷◌, ◌++◌, length, take, drop, codes}
use Rattle.std.specs.Fmt.{decimal}
use Rattle.flat_machine.specs.Items.{MemoryLine, RegisterLine}
use Rattle.flat_machine.specs.Machine.{Machine}

-- what a line says: what stands between its sign and a space, and its LF
abbrev pub said : List ℕ → List ℕ
said line = take (length line - 3) (drop 2 line)

-- bytes of two digits each, the last byte first
abbrev pub backward : List ℕ → List ℕ
backward [] = []
backward (high ∷ []) = high ∷ []
backward (high ∷ low ∷ digits) = backward digits ++ high ∷ low ∷ []

-- bytes of memory as a number, whose lowest byte is the first in memory; a line of another sign as it is
abbrev pub number_said : List ℕ → List ℕ
number_said [] = []
number_said (sign ∷ line) = if sign == 61 then backward (said (sign ∷ line)) else said (sign ∷ line)

-- the guest physical address of the word to which both harts add
abbrev pub word_address : ℕ
word_address = 2149646360

-- What a machine shows: x7 of its first hart, and the word of 8 bytes, sixteen digits each, as the lines say that answer
-- `reg h0 7` and `mem 80210018 8`.
pub record Shows (m : Machine) (words : List ℕ) : Type 0 where
  pub register : List ℕ
  pub asks : RegisterLine m.guest 0 7 m register m
  pub memory : List ℕ
  pub looks : MemoryLine m.guest word_address 8 m memory m
  pub are : words ≡ said register ++ codes " " ++ number_said memory

-- the line of the run of a number: its rounds, the pages of its diffs, and what both machines show
abbrev pub run_line : ℕ → ℕ → ℕ → List ℕ → List ℕ → List ℕ
run_line number rounds pages source restored =
    codes "run " ++ decimal number ++ codes " rounds " ++ decimal rounds ++ codes " pages " ++ decimal pages ++ codes " source "
    ++ source ++ codes " restored " ++ restored ++ codes "\n"
