use Rattle.std.proofs.Common.{◌≡◌, ◌++◌, ◌∷◌, [], length, map, ap, ◌∙◌, append_assoc}
use Rattle.std.proofs.lemmas.List.Elements.{All-nil, All-push, All-same}
use Rattle.vm_types.specs.declared.ids.PlaceId.TheVariants as at
use Rattle.turn_table.specs.Rule.{IsNew}
use Rattle.machine_places.specs.declared.place.MachinePlace.TheVariants as kind
use Rattle.machine_places.specs.Laid.{id_of, ids_from, place_of}
use Rattle.machine_places.proofs.Growing.{map_more}
use Rattle.machine_places.proofs.listing.place_all.Goals as goal

pub place_pages-requires-clause-new : goal.place_pages-requires-clause-new
place_pages-requires-clause-new c = All-same IsNew _ _ c.requires.empty (All-nil IsNew)

pub returns-clause-laid : goal.returns-clause-laid
returns-clause-laid c =
    let items = c.push_reserved.ensures.items in
    let made = c.new.ensures.is in
    let pages = map kind.Page c.args.pages.items in
    let ports = map kind.Port c.args.ports.items in
    let page_ids = ids_from at.Page 0 (length c.args.pages.items) in
    let port_ids = ids_from at.Port 0 (length c.args.ports.items) in
    let first : map place_of c.place_pages.new.places.items ≡ pages = c.place_pages.ensures.places ∙ ap (λ l. map place_of l ++ pages) c.requires.empty in
    let ids : map id_of c.place_pages.new.places.items ≡ page_ids = c.place_pages.ensures.ids ∙ ap (λ l. map id_of l ++ page_ids) c.requires.empty in
    record {
      places_are = map_more place_of c.place_ports.new.places.items c.push_reserved.new.self.items c.new.result (kind.Board c.args.board) items made.1
          ∙ ap (λ l. l ++ kind.Board c.args.board ∷ []) (c.place_ports.ensures.places ∙ ap (λ l. l ++ ports) first) ∙ append_assoc pages ports (kind.Board c.args.board ∷ []);
      ids_are = map_more id_of c.place_ports.new.places.items c.push_reserved.new.self.items c.new.result at.Board items made.0
          ∙ ap (λ l. l ++ at.Board ∷ []) (c.place_ports.ensures.ids ∙ ap (λ l. l ++ port_ids) ids) ∙ append_assoc page_ids port_ids (at.Board ∷ []);
    }

pub returns-clause-new : goal.returns-clause-new
returns-clause-new c =
    All-same IsNew _ _ c.push_reserved.ensures.items (All-push IsNew c.place_ports.new.places.items c.new.result c.place_ports.ensures.new c.new.ensures.new)
