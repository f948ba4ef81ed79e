use Rattle.std.proofs.Common.{ap, ◌∙◌}
use Rattle.serde_json.specs.Data.{Members, object}
use Rattle.serde_json.proofs.Views.{view-Object}
use Rattle.vm_config.specs.Numbers.{numbered}
use Rattle.vm_config.proofs.NumberLemmas.{statistics_numbered}
use Rattle.vm_config.proofs.statistics.statistics_value.Goals as goal

pub returns : goal.returns
returns c =
    view-Object c.in_ok-members.members
    ∙ ap (λ (ms : Members). object ms)
    (c.in_ok-members.ensures ∙ ap numbered c.rows_of-rows.ensures ∙ statistics_numbered c.args.amount_mib c.args.told.now)
