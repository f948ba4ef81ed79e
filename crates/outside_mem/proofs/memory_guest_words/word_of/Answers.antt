use Rattle.std.proofs.Common.{rules}
use Rattle.outside_mem.proofs.GuestWords.{word_drawn}
use Rattle.outside_mem.proofs.memory_guest_words.word_of.Goals as goal

pub returns : goal.returns
returns c = word_drawn _ _ _ _ _ (search rules) c.index_mut.ensures.value c.next.ensures
