use Rattle.std.proofs.Common.{◌≡◌, ◌++◌, ℕ, [], length, map, append-nil, refl, sym, ap, ◌∙◌, arith}
use Rattle.std.specs.Vec.Iter.{into_iter_items}
use Rattle.std.proofs.lemmas.List.Elements.{All-push, All-same}
use Rattle.vm_types.specs.declared.ids.PlaceId.TheVariants as at
use Rattle.turn_table.specs.Rule.{IsNew}
use Rattle.machine_places.specs.declared.place.MachinePlace.TheVariants as kind
use Rattle.machine_places.specs.Laid.{id_of, ids_from, place_of}
use Rattle.machine_places.proofs.Growing.{ids_more, map_more, none_left, one_put}
use Rattle.machine_places.proofs.listing.place_ports.Goals as goal

pub loop-port-init : goal.loop-port-init
loop-port-init c =
    let rest = c.into_iter-rest.ensures.rest in
    record {
      places = ap (λ l. map place_of c.args.places.now.items ++ map kind.Port l) rest;
      ids = sym (append-nil (map id_of c.args.places.now.items));
      all = omega (arith, ap length rest);
      len = omega arith;
      room = refl;
      new = c.requires.new;
    }

pub loop-port-preserved : goal.loop-port-preserved
loop-port-preserved c =
    let h = c.loop-port.invariant in
    let made = c.new.ensures in
    let items = c.push_reserved.ensures.items in
    let next = c.in-Some.ensures.items in
    record {
      places = one_put place_of kind.Port c.loop-port.places.items c.push_reserved.new.self.items c.new.result (into_iter_items c.loop-port.rest) (into_iter_items c.next.new.self) c.in-Some.port _ items next made.is.1 h.places;
      ids = ids_more at.Port (map id_of c.args.places.now.items) (map id_of c.loop-port.places.items) (map id_of c.push_reserved.new.self.items) c.loop-port.number _ h.ids refl (map_more id_of c.loop-port.places.items c.push_reserved.new.self.items c.new.result (at.Port c.loop-port.number) items made.is.0);
      all = omega (arith, h.all, ap length next);
      len = omega (arith, h.len, c.push_reserved.ensures.len);
      room = c.push_reserved.ensures.capacity ∙ h.room;
      new = All-same IsNew c.push_reserved.new.self.items _ items (All-push IsNew c.loop-port.places.items c.new.result h.new made.new);
    }

pub returns-clause-places : goal.returns-clause-places
returns-clause-places c =
    let h = c.loop-port.invariant in
    let none : into_iter_items c.loop-port.rest ≡ [] = none_left (into_iter_items c.loop-port.rest) (omega (arith, c.in_default.ensures.cases.0, c.loop-port.rest.rest.ok)) in
    sym (ap (λ l. map place_of c.loop-port.places.items ++ map kind.Port l) none ∙ append-nil (map place_of c.loop-port.places.items)) ∙ h.places

pub returns-clause-ids : goal.returns-clause-ids
returns-clause-ids c =
    let h = c.loop-port.invariant in
    let all : c.loop-port.number ≡ length c.args.ports.items = omega (arith, h.all, c.in_default.ensures.cases.0, c.loop-port.rest.rest.ok) in
    h.ids ∙ ap (λ (n : ℕ). map id_of c.args.places.now.items ++ ids_from at.Port 0 n) all

pub returns-clause-len : goal.returns-clause-len
returns-clause-len c =
    let h = c.loop-port.invariant in
    omega (arith, h.len, h.all, c.in_default.ensures.cases.0, c.loop-port.rest.rest.ok)
