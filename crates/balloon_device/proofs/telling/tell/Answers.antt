use Rattle.std.proofs.Common.{◌≡◌, ◌∙◌, ℕ, List, ap, arith, length, sym}
use Rattle.le_fields.specs.Fields.{field_at}
use Rattle.balloon_device.specs.Statistics.{all_told, with_value}
use Rattle.balloon_device.proofs.Entries.{told_first}
use Rattle.balloon_device.proofs.telling.tell.Goals as goal

pub loop-held-preserved : goal.loop-held-preserved
loop-held-preserved c =
    let held = c.loop-held.held in
    let so_far = c.loop-held.so_far in
    let bytes = c.as_slice-bytes.ensures.bytes in
    let tag : c.value16-tag.result ≡ field_at held 0 2 = c.value16-tag.ensures ∙ ap (λ (l : List ℕ). field_at l 0 2) bytes in
    let value : c.value64-value.result ≡ field_at held 2 8 = c.value64-value.ensures ∙ ap (λ (l : List ℕ). field_at l 2 8) bytes in
    let told : c.set.new.self ≡ with_value (field_at held 0 2) (field_at held 2 8) so_far =
    c.set.ensures ∙ (λ i. with_value (tag i) (value i) so_far) in
    (λ i. all_told (c.skip.ensures i) (told i))
    ∙ sym (told_first held so_far (omega (arith, c.loop-held-test.true, ap length c.as_slice.ensures.bytes)))
    ∙ c.loop-held.invariant
