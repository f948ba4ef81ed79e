-- The items of the first of some events.
use Rattle.std.proofs.Common.{◌≡◌, ℕ, zero, suc, refl, ap, List, [], ◌∷◌, take}
use Rattle.vm_types.specs.declared.entry.Entry.{Entry}
use Rattle.script_text.specs.declared.item.Item.{Item}
use Rattle.serve_host.specs.Events.{event_items, item_of}

pub items_take : (n : ℕ) (es : List Entry) → event_items (take n es) ≡ take n (event_items es)
items_take zero es = refl
items_take (suc n) [] = refl
items_take (suc n) (e ∷ es) = ap (λ (l : List Item). item_of e ∷ l) (items_take n es)
