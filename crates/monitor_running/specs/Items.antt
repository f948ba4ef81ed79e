-- What telling a slice's events, and a drain or none, leave of the trace and the sink.
use Rattle.std.specs.Prelude.{ℕ, ◌≡◌, ◌⊎◌, false, List, [], ◌++◌, take, Result, MatchResult}
use Rattle.vm_types.specs.declared.entry.Entry.{Entry}
use Rattle.vm_types.specs.declared.ids.ActorId.{ActorId}
use Rattle.vm_outside.specs.Passing.{TakesPart}
use Rattle.script_text.specs.declared.item.Item.{Item}
use Rattle.serve_host.specs.Events.{event_items}
use Rattle.serve_host.specs.Tracing.{steps_of}
use Rattle.vm_world.specs.Worlds.{WorldValue}
use Rattle.monitor_running.specs.declared.telling.Untold.{Untold}
use Rattle.monitor_running.specs.declared.telling.Untold.TheVariants as untold
use Rattle.flat_trace.specs.Events.{drain_items}

-- the first of the items were told
abbrev pub TellsPart : List Item → List Item → List Item → Type 0
TellsPart old its new = (n : ℕ) × (new ≡ old ++ take n its)

-- its console holds nothing any more
abbrev pub drained_world : WorldValue → WorldValue
drained_world w = record w { board = record w.board { console = [] } }

-- the trace has these items more, and then the item of the drain, if there was anything to drain
pub record HasDrained (w : WorldValue) (took more : List Item) (v : WorldValue) (now : List Item) : Type 0 where
  pub world : v ≡ drained_world w
  pub told : now ≡ took ++ (more ++ drain_items w.board.console)

-- a guest that is on may keep what its console holds: the trace has these items more, and the sink took nothing
pub record HasKept (w : WorldValue) (took more : List Item) (taken : List ℕ) (v : WorldValue) (now : List Item) (all : List ℕ) :
    Type 0 where
  pub on : w.board.off ≡ false
  pub world : v ≡ w
  pub told : now ≡ took ++ more
  pub sunk : all ≡ taken

-- the trace has these items more, and the console was drained and its bytes taken, or it keeps them
abbrev pub HasGoneOn : WorldValue → List Item → List Item → List ℕ → WorldValue → List Item → List ℕ → Type 0
HasGoneOn w took more taken v now all =
    (HasDrained w took more v now × (all ≡ taken ++ w.board.console)) ⊎ HasKept w took more taken v now all

-- where the trace fails nothing is drained; where the sink does, it took a front of what was
abbrev pub DrainStops : Untold → WorldValue → List Item → List ℕ → WorldValue → List Item → List ℕ → Type 0
DrainStops untold.Trace w took taken v now all = (v ≡ w) × (now ≡ took) × (all ≡ taken)
DrainStops untold.Sink w took taken v now all = HasDrained w took [] v now × TakesPart taken all w.board.console

abbrev pub Drains : {T : Type 0} → Result T Untold → WorldValue → List Item → List ℕ → WorldValue → List Item → List ℕ → Type 0
Drains result w took taken v now all =
    MatchResult result (λ _. HasDrained w took [] v now × (all ≡ taken ++ w.board.console))
    (λ why. DrainStops why w took taken v now all)

-- the same, or the console keeps what it holds
abbrev pub MayDrain : {T : Type 0} → Result T Untold → WorldValue → List Item → List ℕ → WorldValue → List Item → List ℕ → Type 0
MayDrain result w took taken v now all =
    MatchResult result (λ _. HasGoneOn w took [] taken v now all) (λ why. DrainStops why w took taken v now all)

-- where these items were to be told
abbrev pub TellStops : Untold → List Item → WorldValue → List Item → List ℕ → WorldValue → List Item → List ℕ → Type 0
TellStops untold.Trace its w took taken v now all = (v ≡ w) × TellsPart took its now × (all ≡ taken)
TellStops untold.Sink its w took taken v now all = HasDrained w took its v now × TakesPart taken all w.board.console

abbrev pub TellsItems : {T : Type 0} → Result T Untold → List Item → WorldValue → List Item → List ℕ → WorldValue → List Item
    → List ℕ → Type 0
TellsItems result its w took taken v now all =
    MatchResult result (λ _. HasGoneOn w took its taken v now all) (λ why. TellStops why its w took taken v now all)

abbrev pub TellsSlice : {T : Type 0} → Result T Untold → List Entry → WorldValue → List Item → List ℕ → WorldValue
    → List Item → List ℕ → Type 0
TellsSlice result events w took taken v now all = TellsItems result (event_items events) w took taken v now all

abbrev pub TellsSteps : {T : Type 0} → Result T Untold → ActorId → ℕ → WorldValue → List Item → List ℕ → WorldValue
    → List Item → List ℕ → Type 0
TellsSteps result actor count w took taken v now all = TellsItems result (steps_of actor count) w took taken v now all
