use Rattle.script_words.proofs.Decimals.{digits_are_utf8, parsed, unparsed}
use Rattle.script_words.proofs.number.value_from.Goals as goal

pub returns-in_default : goal.returns-in_default
returns-in_default c = absurd (c.in_default.ensures.cases.0 (digits_are_utf8 c.args.digits.now c.requires.digits))

pub returns-in-Ok-parse : goal.returns-in-Ok-parse
returns-in-Ok-parse c =
    parsed c.args.digits.now c.in-Ok.text.now c.parse.result _ c.requires.digits c.in-Ok.ensures.cases.0 c.parse.ensures.value.0 c.in-Ok-parse.is

pub returns-in-Err : goal.returns-in-Err
returns-in-Err c =
    unparsed c.args.digits.now c.in-Ok.text.now c.parse.result _ c.requires.digits c.requires.some c.in-Ok.ensures.cases.0 c.parse.ensures.value.0 c.in-Err.is
