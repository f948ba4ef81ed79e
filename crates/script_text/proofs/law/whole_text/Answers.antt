use Rattle.script_text.proofs.Scripts.{script_judged}
use Rattle.script_words.proofs.WholeText.{clean_of, parts_of}
use Rattle.script_text.proofs.law.whole_text.Goals as goal

pub returns-clause-parts : goal.returns-clause-parts
returns-clause-parts c = parts_of

pub returns-clause-clean : goal.returns-clause-clean
returns-clause-clean c = clean_of

pub returns-clause-script : goal.returns-clause-script
returns-clause-script c = script_judged
