use Rattle.std.proofs.Common.{sym, ◌∙◌}
use Rattle.std.specs.Str.{bytes_eq}
use Rattle.api_json.specs.Tables.{row_of}
use Rattle.api_json.proofs.FormLemmas.{list_any_map}
use Rattle.api_json.proofs.form.is_known.Goals as goal

pub returns : goal.returns
returns c = c.has_name.ensures ∙ sym (list_any_map (λ row. bytes_eq row.name c.args.name.now) row_of c.args.rows.now)
