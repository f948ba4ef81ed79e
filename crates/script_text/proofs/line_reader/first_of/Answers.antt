use Rattle.script_text.proofs.Ends.{none_first, some_first}
use Rattle.script_text.proofs.line_reader.first_of.Goals as goal

pub returns-then-end-held : goal.returns-then-end-held
returns-then-end-held c = none_first c.args.held.now _ c.end_from-end.ensures c.if-end-held.true

pub returns : goal.returns
returns c = some_first c.args.held.now _ _ c.end_from-end.ensures c.if-end-held.false c.in_ok-next.ensures
