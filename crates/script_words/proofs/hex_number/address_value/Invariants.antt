use Rattle.std.proofs.Common.{◌≡◌, ℕ, ◌^◌, ◌<◌, List, take}
use Rattle.std.specs.Str.Parse.{digits_value}
use Rattle.script_words.proofs.hex_number.address_value.Given as goal

-- the value of the digits so far, which have room
pub record Reads (text : List ℕ) (i value : ℕ) : Type 0 where
  pub value_is : value ≡ digits_value 16 (take i text)
  pub small : value < 16 ^ i

abbrev pub invariant-loop-c : goal.invariant-loop-c
invariant-loop-c l = Reads l.text l.c-index l.value
