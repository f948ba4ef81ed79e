use Rattle.std.proofs.Common.{◌≡◌, string_bytes, sym, ap, ◌∙◌}
use Rattle.serde_json.specs.Data.{put}
use Rattle.serde_json.specs.View.{view, members_view}
use Rattle.serde_json.proofs.Views.{members_view-insert_entry}
use Rattle.metadata_store.specs.MergePatch.{merge_patch, remove, value_at}
use Rattle.metadata_store.proofs.Members.{found_or_null, members_view-remove_entry, merge_null, merge_other, view-Null}
use Rattle.metadata_store.proofs.merge.+merge.Goals as goal

pub merge_member-returns-then-is_null : goal.merge_member-returns-then-is_null
merge_member-returns-then-is_null t c =
    let es = c.args.members.now.entries in
    ap members_view c.remove.ensures.entries
    ∙ members_view-remove_entry c.as_str.result.now es
    ∙ ap (λ name. remove name (members_view es)) c.as_str.ensures.value
    ∙ sym (merge_null (string_bytes c.args.name.now) (view c.args.change.now) (members_view es) (sym c.is_null.ensures ∙ c.if-is_null.true))

pub merge_member-returns : goal.merge_member-returns
merge_member-returns t c =
    let es = c.args.members.now.entries in
    let named : string_bytes c.in_ok-clone.field-0 ≡ string_bytes c.args.name.now = c.in_ok-clone.ensures.cases in
    let old : view c.unwrap_or-old.result.now ≡ value_at (string_bytes c.args.name.now) (members_view es) =
    ap (λ r. view r.now) c.unwrap_or-old.ensures
    ∙ found_or_null c.get.result _ c.as_str-2.result.now es c.get.ensures.value view-Null
    ∙ ap (λ name. value_at name (members_view es)) c.as_str-2.ensures.value in
    ap members_view c.in_ok-insert.ensures.entries
    ∙ members_view-insert_entry es c.in_ok-clone.field-0 c.in_ok-merged.merged
    ∙ ap (λ name. put name (view c.in_ok-merged.merged) (members_view es)) named
    ∙ ap (λ d. put (string_bytes c.args.name.now) d (members_view es)) (c.in_ok-merged.ensures ∙ ap (λ d. merge_patch d (view c.args.change.now)) old)
    ∙ sym (merge_other (string_bytes c.args.name.now) (view c.args.change.now) (members_view es) (sym c.is_null.ensures ∙ c.if-is_null.false))
