use Rattle.std.proofs.Common.{◌∙◌}
use Rattle.snap_state.proofs.Texts.{and_utf8}
use Rattle.snap_state.proofs.valid.is_short_text.Goals as goal

pub returns : goal.returns
returns c = c.is_within.ensures ∙ and_utf8 _ c.args.text.now c.utf8.text
