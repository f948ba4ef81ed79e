use Rattle.std.proofs.Common.{◌≡◌, map, length, refl, sym, ap, ◌∙◌, subst, arith, rules}
use Rattle.guest_pages.specs.Made.{made_of}
use Rattle.std.proofs.lemmas.List.{length-map}
use Rattle.machine_places.specs.Laid.{AreLaid, place_of}
use Rattle.machine_places.proofs.Named.{as_many}
use Rattle.vm_world.specs.Worlds.{world_with}
use Rattle.slice_runner.specs.Opened.{world_of}
use Rattle.slice_runner.proofs.Opening.{bare_first}
use Rattle.slice_runner.proofs.sharing.open.Goals as goal

pub take_all-board-requires-clause-all : goal.take_all-board-requires-clause-all
take_all-board-requires-clause-all c = (
  c.args.parts.pages.items,
  c.args.parts.ports.items,
  c.args.parts.board,
  ap (map place_of) c.in-Err.ensures.back ∙ c.place_all.ensures.laid.places_are,
  c.requires.room.for_pages,
  c.requires.room.for_ports,
)

pub returns-in-Err-clause-back : goal.returns-in-Err-clause-back
returns-in-Err-clause-back c =
    let p = c.args.parts in
    let back = c.take_all-board.ensures.all p.pages.items p.ports.items p.board (ap (map place_of) c.in-Err.ensures.back ∙ c.place_all.ensures.laid.places_are) in
    record { pages = back.0; world = λ i. world_with (back.0 i) (back.2 i) (back.1 i) p.timer p.harts.items p.devices.items }

pub invariant_of-result-clause-counted : goal.invariant_of-result-clause-counted
invariant_of-result-clause-counted c =
    let p = c.args.parts in
    let size = c.size_of-actors.ensures.layout in
    let many = as_many (length p.pages.items) (length p.ports.items) c.place_all.new.places.items c.place_all.ensures.laid.ids_are in
    omega (arith, c.in-Ok.ensures.count, many, ap (λ l. l.pages) size, ap (λ l. l.ports) size)

pub invariant_of-result-clause-few : goal.invariant_of-result-clause-few
invariant_of-result-clause-few c = omega (arith, ap (λ l. l.pages) c.size_of-actors.ensures.layout, c.requires.few.0)

pub mark_made-requires-clause-room : goal.mark_made-requires-clause-room
mark_made-requires-clause-room c =
    let same : c.deref.result.now ≡ c.args.parts.pages.items = search rules in omega (arith, ap length same, c.requires.room.for_made)

pub returns-in-Ok-clause-opened : goal.returns-in-Ok-clause-opened
returns-in-Ok-clause-opened c =
    let made = c.in-Ok.ensures in
    let same : c.deref.result.now ≡ c.args.parts.pages.items = search rules in
    let marks = c.mark_made.ensures ∙ ap made_of same in
    let w = world_of c.args.parts in
    let view = made.view in
    record {
      seat = bare_first _ _ _ _ w made.seat view c.size_of-actors.ensures.layout marks c.place_all.ensures.laid;
      all = ap (λ v. v.parts) view ∙ sym made.whole;
      parts = ap (λ v. v.parts) view ∙ c.size_of-actors.ensures.parts;
      layout = c.size_of-actors.ensures.layout;
      made = marks;
      laid = subst (λ r. AreLaid w.pages w.ports w.board r.opens) (sym (ap (λ v. v.round) view)) c.place_all.ensures.laid;
      timer = refl;
      harts = refl;
      devices = refl;
      no_pages = c.requires.room.no_pages;
      for_pages = c.requires.room.for_pages;
      no_ports = c.requires.room.no_ports;
      for_ports = c.requires.room.for_ports;
    }

pub invariant_of-result-clause-marked : goal.invariant_of-result-clause-marked
invariant_of-result-clause-marked c =
    let same : c.deref.result.now ≡ c.args.parts.pages.items = search rules in
    omega (arith, ap length (c.mark_made.ensures ∙ ap made_of same), length-map c.args.parts.pages.items (λ p. p.made), ap (λ l. l.pages) c.size_of-actors.ensures.layout)
