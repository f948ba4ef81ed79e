use Rattle.std.proofs.Common.{◌∙◌, arith}
use Rattle.script_text.proofs.Ends.{count_within, fed, shortened_lacks}
use Rattle.script_text.proofs.line_reader.LineReader.feed.Goals as goal

pub invariant_of-self-2 : goal.invariant_of-self-2
invariant_of-self-2 c = (
  omega (arith, count_within _ _ _ c.shorten-self-inside.ensures),
  shortened_lacks _ _ _ c.shorten-self-inside.ensures,
)

pub returns-clause-ok : goal.returns-clause-ok
returns-clause-ok c =
    fed c.args.self.now _ c.args.piece.now _ _ _ c.in_ok-extend_from_slice.ensures.items (c.cut_out.ensures ∙ c.self.view_is) c.shorten-self-inside.ensures
