use Rattle.std.proofs.Common.{ap, ◌∙◌}
use Rattle.std.specs.FinMap.{get}
use Rattle.vm_types.specs.Saved.{Saved}
use Rattle.snapshot_merge.proofs.Planned.{diff_of_table}
use Rattle.snapshot_merge.proofs.finding.find_diff.Goals as goal

pub returns-in-Ok-clause-finds : goal.returns-in-Ok-clause-finds
returns-in-Ok-clause-finds g c = λ told.
    let known = g.F.Files.known in
    let name = c.args.name.now in
    let found = rw c.in-Ok-Some.field-0-is at (c.in-Ok-Some.ensures.found told) in
    let kept = ap (λ (m : Saved). get m name) (c.in-Ok-Some.ensures.same told).saved in
    diff_of_table c.in-Ok-Some.start.size c.in-Ok-Some.start.bytes.items (get (known c.args.files.now).saved name) c.in-Ok.header c.find_rest.result found
    (λ given front size. c.in-Ok.ensures.judged given (c.deref.ensures.value ∙ front) size)
    (λ given there begins size. c.find_rest.ensures.finds (c.in-Ok-Some.ensures.lasts.still told) given (kept ∙ there) begins size)
