use Rattle.std.proofs.Common.{◌∙◌}
use Rattle.snap_state.proofs.Texts.{and_utf8}
use Rattle.snap_state.proofs.valid.is_path.Goals as goal

pub returns : goal.returns
returns c = c.has_path_bytes.ensures ∙ and_utf8 _ c.args.path.now c.utf8.path
