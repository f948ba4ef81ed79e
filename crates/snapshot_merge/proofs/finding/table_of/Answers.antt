use Rattle.std.proofs.Common.{ℕ, ◌+◌, take, ap, ◌∙◌}
use Rattle.std.specs.FinMap.{get}
use Rattle.snapshot_merge.proofs.Planned.{front_is}
use Rattle.snapshot_merge.proofs.finding.table_of.Goals as goal

pub returns-in-Ok-clause-finds : goal.returns-in-Ok-clause-finds
returns-in-Ok-clause-finds g c = λ told given there begins size.
    c.judge_table.ensures.judged given
    (c.deref.ensures.value ∙ front_is (get (g.F.Files.known c.args.files.now).saved c.args.name.now) given c.in-Ok.bytes.items _ there (c.in-Ok.ensures.bytes told) c.in-Ok.ensures.size
    ∙ ap (λ (n : ℕ). take (64 + n) given) c.table_size.ensures.size)
    begins size
