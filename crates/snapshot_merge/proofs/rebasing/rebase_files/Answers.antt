use Rattle.std.proofs.Common.{◌≡◌, List, ℕ, Option, Ok, Err, sym, ◌∙◌, ap, subst}
use Rattle.std.specs.FinMap.{get}
use Rattle.vm_types.specs.Saved.{Saved}
use Rattle.snapshot_merge.specs.Answering.{IsStartIn}
use Rattle.snapshot_merge.specs.Plans.{Plan, both_in, merged_by, planned_in}
use Rattle.snapshot_merge.proofs.Planned.{merged_as, plan_bad, plan_good}
use Rattle.snapshot_merge.proofs.Refusing.{since}
use Rattle.snapshot_merge.proofs.rebasing.rebase_files.Goals as goal

pub returns-in-Ok-merge_of-clause-rebased : goal.returns-in-Ok-merge_of-clause-rebased
returns-in-Ok-merge_of-clause-rebased g c = λ told.
    let old = g.F.Files.known c.args.files.now in
    let mid = g.F.Files.known c.find.new.files in
    let base = c.args.base.now in
    let diff = c.args.diff.now in
    let found = c.in-Ok.ensures.finds told in
    let same = c.in-Ok.ensures.same told in
    let there : both_in mid.saved base diff ≡ Ok found.0 = ap (λ (s : Saved). both_in s base diff) same.saved ∙ found.1.0 in
    let plan : Plan = record { diff = found.0.1; merge = c.in-Ok-merge_of.rest } in
    let is : planned_in mid.saved base diff ≡ Ok plan =
    plan_good (both_in mid.saved base diff) found.0 c.in-Ok.pair (get old.saved diff) there found.1.1 c.in-Ok-merge_of.rest c.in-Ok-merge_of.ensures in
    let start : IsStartIn (get mid.saved diff) c.in-Ok.pair.diff found.0.1 =
    subst (λ (o : Option (List ℕ)). IsStartIn o c.in-Ok.pair.diff found.0.1) (ap (λ (s : Saved). get s diff) (sym same.saved)) found.1.1.start in
    since base diff c.run.result old mid (g.F.Files.known c.run.new.files) same
    (c.run.ensures.rebased (c.in-Ok.ensures.lasts.still told) plan is (λ i. c.in-Ok-merge_of.rest) start)

pub returns-clause-rebased : goal.returns-clause-rebased
returns-clause-rebased g c = λ told.
    let old = g.F.Files.known c.args.files.now in
    let mid = g.F.Files.known c.find.new.files in
    let base = c.args.base.now in
    let diff = c.args.diff.now in
    let found = c.in-Ok.ensures.finds told in
    let same = c.in-Ok.ensures.same told in
    let there : both_in mid.saved base diff ≡ Ok found.0 = ap (λ (s : Saved). both_in s base diff) same.saved ∙ found.1.0 in
    let is : planned_in mid.saved base diff ≡ Err c.in-Err-merge_of.why =
    plan_bad (both_in mid.saved base diff) found.0 c.in-Ok.pair (get old.saved diff) there found.1.1 c.in-Err-merge_of.why c.in-Err-merge_of.ensures in
    let again : merged_by (both_in mid.saved base diff) ≡ c.was_merged.result =
    merged_as (both_in mid.saved base diff) found.0 c.in-Ok.pair (get old.saved diff) there found.1.1 ∙ sym c.was_merged.ensures in
    since base diff c.refuse.result old mid (g.F.Files.known c.refuse.new.files) same
    (c.refuse.ensures.refused (c.in-Ok.ensures.lasts.still told) diff is again)
