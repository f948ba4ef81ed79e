use Rattle.std.proofs.Common.{ap, ◌∙◌}
use Rattle.std.specs.FinMap.{get}
use Rattle.vm_types.specs.Saved.{Saved}
use Rattle.snapshot_merge.proofs.Checked.{whole_by}
use Rattle.snapshot_merge.proofs.Planned.{table_err}
use Rattle.snapshot_merge.proofs.finding.find_rest.Goals as goal

pub returns-in-Ok-clause-finds : goal.returns-in-Ok-clause-finds
returns-in-Ok-clause-finds g c = λ told given there begins size.
    c.check_pages.ensures.finds (c.in-Ok.ensures.lasts.still told) given
    (ap (λ (m : Saved). get m c.args.name.now) (c.in-Ok.ensures.same told).saved ∙ there)
    (record { begins = begins; size = size; table = c.in-Ok.ensures.finds told given there begins size })

pub returns-in-Err-clause-finds : goal.returns-in-Err-clause-finds
returns-in-Err-clause-finds g c = λ told given there begins size.
    table_err given c.args.header c.in-Err.why (c.in-Err.ensures.finds told given there begins size)

pub returns-in-Ok-clause-whole : goal.returns-in-Ok-clause-whole
returns-in-Ok-clause-whole g c =
    whole_by c.check_pages.result c.args.header c.in-Ok.runs c.requires c.in-Ok.ensures.runs c.check_pages.ensures.kept
