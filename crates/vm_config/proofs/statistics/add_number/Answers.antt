use Rattle.std.proofs.Common.{ℕ, List, Option, sym, ap, ◌∙◌}
use Rattle.serde_json.specs.Data.{Data, put}
use Rattle.serde_json.specs.View.{view, members_view}
use Rattle.serde_json.proofs.Views.{members_view-insert_entry}
use Rattle.vm_config.specs.Numbers.{with_number}
use Rattle.vm_config.proofs.statistics.add_number.Goals as goal

pub returns : goal.returns
returns c =
    let es = c.args.members.now.entries in
    ap members_view c.in_ok-insert.ensures.entries
    ∙ members_view-insert_entry es c.in_ok-from_str.field-0 c.from.result
    ∙ ap (λ (name : List ℕ). put name (view c.from.result) (members_view es)) c.in_ok-from_str.ensures.ok
    ∙ ap (λ (d : Data). put c.args.name.now d (members_view es)) c.from.ensures
    ∙ ap (λ (o : Option ℕ). with_number c.args.name.now o (members_view es)) (sym c.in-Some.is)
