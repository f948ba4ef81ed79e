-- All items were gone through, and each is a text.
use Rattle.std.proofs.Common.{◌≡◌, ℕ, true, List, [], map, Option, arith, ap, sym, ◌∙◌, take_all}
use Rattle.std.specs.Prelude.{is_some, unwrap_or}
use Rattle.serde_json.specs.Find.{as_str}
use Rattle.serde_json.specs.View.{items_view, view}
use Rattle.serde_json.specs.declared.value.Value.{Value}
use Rattle.api_calls.specs.Form as form
use Rattle.api_json.proofs.IdLemmas.{texts_map}
use Rattle.api_json.proofs.ids.copied.Goals as goal

pub returns : goal.returns
returns c =
    let items = c.args.items.now in
    let texts : is_some (form.texts_of (items_view items)) ≡ true = sym c.if-not-are_strings.ensures in
    c.loop-item.invariant
    ∙ ap (map (λ (v : Value). unwrap_or (as_str (view v)) [])) (take_all c.loop-item.item-index items (omega arith))
    ∙ ap (λ (o : Option (List (List ℕ))). unwrap_or o []) (sym (texts_map items texts))
