use Rattle.std.proofs.Common.{arith}
use Rattle.std.proofs.lemmas.List.Elements.{All-replicate}
use Rattle.decoded_words.specs.Decoded.{IsDecoded}
use Rattle.decoded_words.proofs.words.DecodedWords.new.Goals as goal

pub invariant_of-result : goal.invariant_of-result
invariant_of-result c = All-replicate IsDecoded 512 _ (record { is = tt; rd = omega arith; rs1 = omega arith })
