use Rattle.std.proofs.Common.{◌∙◌}
use Rattle.api_json.proofs.FormLemmas.{and_utf8}
use Rattle.api_json.proofs.form.is_path.Goals as goal

pub returns : goal.returns
returns c = c.has_path_bytes.ensures ∙ and_utf8 _ c.args.text.now c.utf8.text
