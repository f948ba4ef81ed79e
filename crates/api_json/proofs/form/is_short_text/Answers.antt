use Rattle.std.proofs.Common.{◌∙◌}
use Rattle.api_json.proofs.FormLemmas.{and_utf8}
use Rattle.api_json.proofs.form.is_short_text.Goals as goal

pub returns : goal.returns
returns c = c.is_within.ensures ∙ and_utf8 _ c.args.text.now c.utf8.text
