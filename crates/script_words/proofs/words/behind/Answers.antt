use Rattle.script_words.proofs.Parting.{behind_is}
use Rattle.script_words.proofs.words.behind.Goals as goal

pub returns : goal.returns
returns c = behind_is c.args.front.now c.args.line.now _ c.strip_prefix.ensures.cases
