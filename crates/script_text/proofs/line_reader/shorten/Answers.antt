use Rattle.script_text.proofs.Ends.{kept_cut, kept_whole}
use Rattle.script_text.proofs.line_reader.shorten.Goals as goal

pub returns-then-end : goal.returns-then-end
returns-then-end c = kept_whole c.args.bytes.now.items c.deref.result.now _ c.deref.ensures.value c.end_from-end.ensures c.if-end.true

pub returns : goal.returns
returns c = kept_cut c.args.bytes.now.items c.deref.result.now _ _ c.deref.ensures.value c.end_from-end.ensures c.if-end.false c.cut_out.ensures
