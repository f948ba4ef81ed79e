use Rattle.std.proofs.Common.{◌≡◌, ℕ, List, true, take, min}
use Rattle.std.specs.Char.{is_ascii_digit}
use Rattle.std.specs.List.{list_all}
use Rattle.std.specs.Str.Parse.{digits_value}
use Rattle.metadata_service.proofs.token.life_of.Given as goal

pub record Reads (text : List ℕ) (i seconds : ℕ) : Type 0 where
  pub digits : list_all is_ascii_digit (take i text) ≡ true
  pub value_is : seconds ≡ min (digits_value 10 (take i text)) 21601

abbrev pub invariant-loop-b : goal.invariant-loop-b
invariant-loop-b l = Reads l.text l.b-index l.seconds
