-- A trace that is told of one step or event more, or of no more.
use Rattle.std.proofs.Common.{◌≡◌, ◌≤◌, ◌+◌, ℕ, sym, ap, ◌∙◌, List, [], ◌∷◌, ◌++◌, append_assoc, length, take, arith}
use Rattle.std.proofs.lemmas.List.{length-map, length-replicate, take-replicate}
use lib.ListN.{replicate-append-replicate}
use Rattle.vm_types.specs.declared.entry.Entry.{Entry}
use Rattle.vm_types.specs.declared.ids.ActorId.{ActorId}
use Rattle.script_text.specs.declared.item.Item.{Item}
use Rattle.script_text.specs.declared.item.Item.TheVariants as item
use Rattle.serve_host.specs.Events.{event_items, item_of}
use Rattle.serve_host.specs.Tracing.{steps_of}
use Rattle.serve_host.proofs.Items.{items_take}

pub steps_more : (old mid now : List Item) (actor : ActorId) (n : ℕ) → mid ≡ old ++ steps_of actor n
    → now ≡ mid ++ item.Step actor 1 ∷ [] → now ≡ old ++ steps_of actor (n + 1)
steps_more old mid now actor n before added =
    added ∙ ap (λ (l : List Item). l ++ item.Step actor 1 ∷ []) before ∙ append_assoc old (steps_of actor n) (item.Step actor 1 ∷ [])
    ∙ ap (λ (l : List Item). old ++ l) (replicate-append-replicate n 1 (item.Step actor 1))

-- the trace took the first of the items
abbrev pub TookFirst : List Item → List Item → List Item → Type 0
TookFirst old now items = (n : ℕ) × (n ≤ length items) × (now ≡ old ++ take n items)

pub steps_first : (old mid now : List Item) (actor : ActorId) (count n : ℕ) → n ≤ count → mid ≡ old ++ steps_of actor n → now ≡ mid
    → TookFirst old now (steps_of actor count)
steps_first old mid now actor count n few before same = (
  n,
  omega (arith, few, length-replicate count (item.Step actor 1)),
  same ∙ before ∙ ap (λ (l : List Item). old ++ l) (sym (take-replicate n count (item.Step actor 1) few)),
)

pub events_first : (old mid now : List Item) (events : List Entry) (n : ℕ) → n ≤ length events
    → mid ≡ old ++ event_items (take n events) → now ≡ mid → TookFirst old now (event_items events)
events_first old mid now events n few before same = (
  n,
  omega (arith, few, length-map events item_of),
  same ∙ before ∙ ap (λ (l : List Item). old ++ l) (items_take n events),
)
