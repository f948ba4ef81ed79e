use Rattle.std.proofs.Common.{sym, ◌∙◌, List, ℕ, Bor}
use Rattle.std.specs.Str.{bytes_eq}
use Rattle.api_json.proofs.FormLemmas.{list_any_map}
use Rattle.api_json.proofs.form.is_choice.Goals as goal

pub returns : goal.returns
returns c = c.is_among.ensures
    ∙ sym (list_any_map (λ choice. bytes_eq choice c.args.text.now) (λ (t : Bor (List ℕ)). t.now) c.args.texts.now)
