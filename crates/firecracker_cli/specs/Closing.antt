-- The end of serving: what the trace and the sink are told last.
use Rattle.std.specs.Prelude.{ℕ, ◌≡◌, ◌⊎◌, List, ◌++◌, Result, MatchResult}
use Rattle.vm_types.specs.Causes.{Rose}
use Rattle.vm_types.specs.declared.exit.Exit.{Exit}
use Rattle.vm_types.specs.declared.exit.Object.{Object}
use Rattle.vm_types.specs.declared.exit.Object.TheVariants as object
use Rattle.vm_outside.specs.Known.{Health}
use Rattle.script_text.specs.declared.item.Item.{Item}
use Rattle.flat_machine.specs.Machine.{Machine, console_of}
use Rattle.flat_trace.specs.Events.{drain_items}
use Rattle.firecracker_cli.specs.Serving.{closing_line}

-- The trace has the item of a drain, if the console held anything, and the sink then took these bytes.
pub record Drained (m : Machine) (text : List ℕ) (took : List Item) (taken : List ℕ) (now : List Item) (all : List ℕ) :
    Type 0 where
  pub told : now ≡ took ++ drain_items (console_of m)
  pub shown : all ≡ taken ++ text

-- where the sink failed it took a front of that
pub record DrainedInPart (m : Machine) (text : List ℕ) (took : List Item) (taken : List ℕ) (now : List Item) (all : List ℕ) :
    Type 0 where
  pub rest : List ℕ
  pub drained : Drained m text took taken now (all ++ rest)

-- where the trace failed nothing of it happened, or all that the trace has was shown
abbrev pub DrainStops : Object → Machine → List ℕ → List Item → List ℕ → List Item → List ℕ → Type 0
DrainStops object.Trace m text took taken now all =
    ((now ≡ took) × (all ≡ taken)) ⊎ Drained m (console_of m) took taken now all
DrainStops object.Sink m text took taken now all = DrainedInPart m text took taken now all
DrainStops other m text took taken now all = ⊥

-- this is shown last, of which what the console holds is drained
abbrev pub Drains : {T : Type 0} → Result T Object → Machine → List ℕ → List Item → List ℕ → List Item → List ℕ → Type 0
Drains result m text took taken now all =
    MatchResult result (λ _. Drained m text took taken now all) (λ why. DrainStops why m text took taken now all)

-- what serving that came to its end shows last
abbrev pub last_shown : Machine → List ℕ
last_shown m = console_of m ++ closing_line m

-- the count of the trace or the sink rose, as it is named
abbrev pub CloseFault : Object → Health → Health → Health → Health → Type 0
CloseFault object.Trace trace traced sink sunk = Rose trace.faults traced.faults
CloseFault object.Sink trace traced sink sunk = Rose sink.faults sunk.faults
CloseFault other trace traced sink sunk = ⊥

-- it ends so, or for such a fault
abbrev pub EndsOr : Exit → Exit → Health → Health → Health → Health → Type 0
EndsOr exit result trace traced sink sunk =
    (result ≡ exit) ⊎ ((name : Object) × (result ≡ Exit.Fault name) × CloseFault name trace traced sink sunk)
