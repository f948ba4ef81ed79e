use Rattle.std.proofs.Common.{◌∙◌}
use Rattle.api_json.proofs.IdLemmas.{ids_all}
use Rattle.api_json.proofs.ids.are_ids_in.Goals as goal

pub returns : goal.returns
returns c = c.are_few_ids.ensures ∙ ids_all c.args.items.now c.requires
