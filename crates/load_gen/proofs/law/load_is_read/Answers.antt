use Rattle.load_gen.specs.Load.{load_items}
use Rattle.load_gen.proofs.Readable.{load_writable}
use Rattle.load_gen.proofs.law.load_is_read.Goals as goal

pub returns : goal.returns
returns c = λ number small. c.whole_text.ensures.script (load_items number) (load_writable number small)
