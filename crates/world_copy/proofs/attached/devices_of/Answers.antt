use Rattle.std.proofs.Common.{◌≡◌, ◌∷◌, ◌++◌, [], sym, ap, ◌∙◌, append-nil, arith}
use Rattle.std.proofs.lemmas.List.{nil_from_length}
use Rattle.std.specs.Vec.Iter.{into_iter_items}
use Rattle.world_copy.proofs.Moving.{one_moved}
use Rattle.world_copy.proofs.attached.devices_of.Goals as goal

pub loop-device-init : goal.loop-device-init
loop-device-init c =
    ap (λ l. l ++ into_iter_items c.into_iter-rest.result) c.new-devices.ensures.items ∙ c.into_iter-rest.ensures.rest

pub loop-device-preserved : goal.loop-device-preserved
loop-device-preserved c =
    let same : c.in-Some.device ≡ c.into_device.result =
    let outer = c.device.view_is in
    let inner = c.into_device.ensures in cc in
    one_moved c.loop-device.devices.items _ (into_iter_items c.loop-device.rest) (into_iter_items c.next.new.self) _ _
    c.in_ok-push.ensures.items
    (c.in-Some.ensures.items ∙ ap (λ x. x ∷ into_iter_items c.next.new.self) same) c.loop-device.invariant

pub returns : goal.returns
returns c =
    let none : into_iter_items c.loop-device.rest ≡ [] =
    nil_from_length (into_iter_items c.loop-device.rest) (omega (arith, c.in_default.ensures.cases.0, c.loop-device.rest.rest.ok)) in
    sym (ap (λ l. c.loop-device.devices.items ++ l) none ∙ append-nil c.loop-device.devices.items) ∙ c.loop-device.invariant
