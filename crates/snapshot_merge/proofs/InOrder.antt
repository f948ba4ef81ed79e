-- Diffs that are merged in order leave a file of the copy that they make.
use Rattle.std.proofs.Common.{◌≡◌, ℕ, suc, ◌+◌, ◌<◌, ◌≤◌, List, [], ◌∷◌, length, Result, Ok, refl, sym, ap, subst, ◌∙◌, arith}
use Rattle.refusals.specs.declared.refusal.Refusal.{Refusal}
use Rattle.snap_memory.specs.declared.header.MemHeader.{MemHeader}
use Rattle.snap_diff.specs.Copies.{DiffCopy, JoinAll, MemoryCopy, overlaid, overlaid_all}
use Rattle.snapshot_merge.specs.declared.merge.Merge.TheVariants.{Begin}
use Rattle.gate_file.specs.Stages.{text_after}
use Rattle.snapshot_merge.specs.Calls.{stages}
use Rattle.snapshot_merge.specs.InOrder.{AreDiffFiles, MergeAll}
use Rattle.snapshot_merge.specs.Memories.{IsMemoryFile}
use Rattle.snapshot_merge.specs.Merges.{open_slots}
use Rattle.snapshot_merge.specs.Plans.{Plan}
use Rattle.snapshot_merge.proofs.Overlaid.{from_start_as, is_begun, one_more}

pub same_plan : (p q : Plan) → ◌≡◌ {A = Result Plan Refusal} (Ok p) (Ok q) → p ≡ q
same_plan p q is = cc

pub some_merged : (files : List (List ℕ)) (diffs : List DiffCopy) (given : List ℕ) (m : MemoryCopy) (is : IsMemoryFile given m) → AreDiffFiles files diffs
    → JoinAll m diffs → open_slots is.head.slots + length diffs ≤ 100 → (last : List ℕ) × MergeAll given files last
some_merged [] [] given m is are joins room = (given, refl)
some_merged [] (d ∷ diffs) given m is are joins room = absurd are
some_merged (file ∷ files) [] given m is are joins room = absurd are
some_merged (file ∷ files) (d ∷ diffs) given m is (first, rest) (joins, more) room =
    let left : open_slots is.head.slots < 100 = omega (arith, room) in
    let next = from_start_as given file is.head m d is.holds first joins.pages left in
    let count : open_slots next.0.head.slots ≡ suc (open_slots is.head.slots) =
    ap (λ (h : MemHeader). open_slots h.slots) next.1 ∙ one_more given file is.head m d is.holds first joins.pages left in
    let later = some_merged files diffs (text_after (stages (Begin (open_slots is.head.slots)) d) given) (overlaid m d) next.0 rest more (omega (arith, room, count)) in
    (later.0, (record { diff = d; merge = Begin (open_slots is.head.slots) }, is_begun given file m d is first joins.pages joins.parent left, later.1))

pub all_merged : (files : List (List ℕ)) (diffs : List DiffCopy) (given last : List ℕ) (m : MemoryCopy) (is : IsMemoryFile given m) → AreDiffFiles files diffs
    → JoinAll m diffs → open_slots is.head.slots + length diffs ≤ 100 → MergeAll given files last → IsMemoryFile last (overlaid_all m diffs)
all_merged [] [] given last m is are joins room same = subst (λ (text : List ℕ). IsMemoryFile text m) same is
all_merged [] (d ∷ diffs) given last m is are joins room merges = absurd are
all_merged (file ∷ files) [] given last m is are joins room merges = absurd are
all_merged (file ∷ files) (d ∷ diffs) given last m is (first, rest) (joins, more) room (plan, planned_is, merges) =
    let left : open_slots is.head.slots < 100 = omega (arith, room) in
    let next = from_start_as given file is.head m d is.holds first joins.pages left in
    let count : open_slots next.0.head.slots ≡ suc (open_slots is.head.slots) =
    ap (λ (h : MemHeader). open_slots h.slots) next.1 ∙ one_more given file is.head m d is.holds first joins.pages left in
    let begun : Plan = record { diff = d; merge = Begin (open_slots is.head.slots) } in
    let same : plan ≡ begun = same_plan plan begun (sym planned_is ∙ is_begun given file m d is first joins.pages joins.parent left) in
    all_merged files diffs (text_after (stages (Begin (open_slots is.head.slots)) d) given) last (overlaid m d) next.0 rest more (omega (arith, room, count))
    (subst (λ (p : Plan). MergeAll (text_after (stages p.merge p.diff) given) files last) same merges)
