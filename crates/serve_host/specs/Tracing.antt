-- What is known of a trace, and what each call leaves of that.
use Rattle.std.specs.Prelude.{ℕ, ◌≡◌, ◌≤◌, List, [], ◌∷◌, ◌++◌, length, replicate, take, Option, Some, Result, MatchResult}
use Rattle.vm_types.specs.declared.ids.ActorId.{ActorId}
use Rattle.vm_outside.specs.Known.{Health, Tells}
use Rattle.script_text.specs.declared.item.Item.{Item}
use Rattle.script_text.specs.declared.item.Item.TheVariants as item

-- The path under which a trace was opened. The items that it took, the oldest first. Those that it had taken when it was finished
-- last: they are where the trace is kept.
pub record TraceKnown : Type 0 where
  pub health : Health
  pub path : Option (List ℕ)
  pub took : List Item
  pub kept : List Item

-- it is the trace of the same path
abbrev pub TraceStays : TraceKnown → TraceKnown → Type 0
TraceStays old new = Tells old.health → new.path ≡ old.path

-- a new trace of this path, which took nothing yet
pub record IsNew (under : List ℕ) (trace : TraceKnown) : Type 0 where
  pub path : trace.path ≡ Some under
  pub took : trace.took ≡ []
  pub kept : trace.kept ≡ []

-- `open`: where it fails, the trace is what it was
abbrev pub Opens : {T E : Type 0} → TraceKnown → List ℕ → Result T E → TraceKnown → Type 0
Opens old under result new =
    MatchResult result (λ _. IsNew under new) (λ _. (new.path ≡ old.path) × (new.took ≡ old.took))

-- what is kept stays so until the trace is finished or opened
abbrev pub KeepsSame : TraceKnown → TraceKnown → Type 0
KeepsSame old new = Tells old.health → new.kept ≡ old.kept

-- `add` takes the item behind the others; where it fails, it takes none
abbrev pub Adds : {T E : Type 0} → List Item → List Item → Result T E → Item → Type 0
Adds old new result item = MatchResult result (λ _. new ≡ old ++ item ∷ []) (λ _. new ≡ old)

-- so many events of an actor, each an item
abbrev pub steps_of : ActorId → ℕ → List Item
steps_of actor count = replicate count (item.Step actor 1)

-- `add_steps` and `add_events` take these items behind the others; where they fail, they take the first of them, or none
abbrev pub AddsAll : {T E : Type 0} → List Item → List Item → Result T E → List Item → Type 0
AddsAll old new result items =
    MatchResult result (λ _. new ≡ old ++ items)
    (λ _. (n : ℕ) × (n ≤ length items) × (new ≡ old ++ take n items))
