use Rattle.std.proofs.Common.{◌∙◌, map}
use Rattle.serde_json.specs.View.{view}
use Rattle.api_calls.specs.Form as form
use Rattle.api_json.specs.Tables.{row_of}
use Rattle.api_json.proofs.FormLemmas.{all_names}
use Rattle.api_json.proofs.form.are_known.Goals as goal

pub returns-in-Some : goal.returns-in-Some
returns-in-Some c = c.has_known_keys.ensures
    ∙ all_names (form.is_known (map row_of c.args.rows.now)) (view c.args.object.now) c.in-Some.members.now.entries c.in-Some.ensures
