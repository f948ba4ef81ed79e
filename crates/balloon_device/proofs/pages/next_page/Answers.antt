use Rattle.std.proofs.Common.{◌≡◌, ◌≤◌, ◌∙◌, ◌*◌, ℕ, List, ap, arith, length, length-drop, sym}
use Rattle.le_fields.specs.Fields.{field_at}
use Rattle.balloon_device.proofs.Working.{next_inside, next_outside}
use Rattle.balloon_device.proofs.pages.next_page.Goals as goal

pub returns-then-is_inside-clause-page : goal.returns-then-is_inside-clause-page
returns-then-is_inside-clause-page c =
    let held = c.loop-list.list.held in
    let number : c.value32-number.result ≡ field_at held 0 4 =
    c.value32-number.ensures ∙ ap (λ (l : List ℕ). field_at l 0 4) c.as_slice-in-loop-list.ensures.bytes in
    sym c.loop-list.invariant.0
    ∙ next_inside c.args.pages (c.value32-number.result * 4096) c.loop-list.list.from held c.skip.new.self
    (omega (arith, c.loop-list-test.true, ap length c.as_slice.ensures.bytes)) c.skip.ensures (omega (arith, number))
    (sym c.is_inside.ensures ∙ c.if-is_inside.true)

pub loop-list-preserved : goal.loop-list-preserved
loop-list-preserved c =
    let held = c.loop-list.list.held in
    let long : 4 ≤ length held = omega (arith, c.loop-list-test.true, ap length c.as_slice.ensures.bytes) in
    let number : c.value32-number.result ≡ field_at held 0 4 =
    c.value32-number.ensures ∙ ap (λ (l : List ℕ). field_at l 0 4) c.as_slice-in-loop-list.ensures.bytes in (
      next_outside c.args.pages (c.value32-number.result * 4096) c.loop-list.list.from held c.skip.new.self long c.skip.ensures
          (omega (arith, number)) (sym c.is_inside.ensures ∙ c.if-is_inside.false) ∙ c.loop-list.invariant.0,
      c.loop-list.invariant.1,
      omega (arith, ap length c.skip.ensures, length-drop 4 held, c.loop-list.invariant.2),
    )
