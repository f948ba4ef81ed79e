use Rattle.std.proofs.Common.{◌≡◌, ◌∷◌, ◌++◌, [], sym, ap, ◌∙◌, append-nil, arith}
use Rattle.std.proofs.lemmas.List.{nil_from_length}
use Rattle.std.specs.Vec.Iter.{into_iter_items}
use Rattle.world_copy.proofs.Moving.{one_moved}
use Rattle.world_copy.proofs.attached.ports_of.Goals as goal

pub loop-port-init : goal.loop-port-init
loop-port-init c =
    ap (λ l. l ++ into_iter_items c.into_iter-rest.result) c.new-ports.ensures.items ∙ c.into_iter-rest.ensures.rest

pub loop-port-preserved : goal.loop-port-preserved
loop-port-preserved c =
    let same : c.in-Some.port ≡ c.saved.inside.value =
    let outer = c.port.view_is in
    let inner = c.saved.view_is in cc in
    one_moved c.loop-port.ports.items _ (into_iter_items c.loop-port.rest) (into_iter_items c.next.new.self) _ _
    c.in_ok-push.ensures.items
    (c.in-Some.ensures.items ∙ ap (λ x. x ∷ into_iter_items c.next.new.self) same) c.loop-port.invariant

pub returns : goal.returns
returns c =
    let none : into_iter_items c.loop-port.rest ≡ [] =
    nil_from_length (into_iter_items c.loop-port.rest) (omega (arith, c.in_default.ensures.cases.0, c.loop-port.rest.rest.ok)) in
    sym (ap (λ l. c.loop-port.ports.items ++ l) none ∙ append-nil c.loop-port.ports.items) ∙ c.loop-port.invariant
