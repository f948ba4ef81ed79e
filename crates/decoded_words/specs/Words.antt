-- Words that are kept decoded: 512, each in the place that is for the address that it was fetched from.
use Rattle.std.specs.Prelude.{ℕ, ◌≡◌, ◌/◌, ◌%◌, List, slice_set}
use Rattle.rv_rows.specs.declared.register.Register.TheVariants.{X0, X1}
use Rattle.decoded_words.specs.Decoded.{IsDecoded}
use Rattle.decoded_words.specs.declared.decoding.Decoded.{Decoded}
use Rattle.decoded_words.specs.declared.operation.Operation.TheVariants as Op

-- the place of what is fetched at this address
abbrev pub place_of : ℕ → ℕ
place_of pc = pc / 4 % 512

-- what stands where no word is kept: that of zeros, which is no instruction
abbrev pub zeros : Decoded
zeros = record { value = 0; word = 0; operation = Op.Rare; rd = X1; rs1 = X1; other = X0 }

-- this word is kept, decoded, in its place, and all else stays
pub record Keeps (pc word : ℕ) (old new : List Decoded) : Type 0 where
  pub it : Decoded
  pub is : IsDecoded it
  pub is_word : it.word ≡ word
  pub words : new ≡ slice_set old (place_of pc) it
