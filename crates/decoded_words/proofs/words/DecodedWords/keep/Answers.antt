use Rattle.std.proofs.lemmas.List.Elements.{All-set}
use Rattle.decoded_words.specs.Decoded.{IsDecoded}
use Rattle.decoded_words.proofs.words.DecodedWords.keep.Goals as goal

pub invariant_of-self : goal.invariant_of-self
invariant_of-self c = All-set IsDecoded c.self.inside.each _ _ c.of.ensures.is c.self.invariant
