use Rattle.std.proofs.Common.{◌∙◌}
use Rattle.api_json.proofs.IdLemmas.{all_texts}
use Rattle.api_json.proofs.ids.are_strings.Goals as goal

pub returns : goal.returns
returns c = c.all_strings.ensures ∙ all_texts c.args.items.now
