use Rattle.std.proofs.Common.{rules}
use Rattle.decoded_words.proofs.words.DecodedWords.find.Goals as goal

pub returns-clause-word : goal.returns-clause-word
returns-clause-word c = search rules
