-- The acts of a slice's events, the items of a drain, and what a clock answered in them.
use Rattle.std.specs.Prelude.{ℕ, List, [], ◌∷◌, map}
use Rattle.vm_types.specs.declared.ids.ActorId.{ActorId}
use Rattle.vm_types.specs.declared.entry.Entry.{Entry}
use Rattle.script_text.specs.declared.item.HostReply.TheVariants as given
use Rattle.script_text.specs.declared.item.Item.{Item}
use Rattle.script_text.specs.declared.item.Item.TheVariants as item
use Rattle.serve_host.specs.Events.{item_of}
use Rattle.flat_machine.specs.Run.{Act}

-- none of them brings a request
abbrev pub quiet_act : Item → Act
quiet_act it = record { item = it; outcomes = [] }

abbrev pub event_acts : List Entry → List Act
event_acts es = map (λ e. quiet_act (item_of e)) es

-- a console that holds something is drained
abbrev pub drain_items : List ℕ → List Item
drain_items [] = []
drain_items (byte ∷ bytes) = item.Console ∷ []

-- what the clock answered the timer
abbrev pub answer_by : Item → List ℕ → List ℕ
answer_by (item.Reply ActorId.Timer (given.Now nanoseconds)) more = nanoseconds ∷ more
answer_by it more = more

abbrev pub answers_in : List Item → List ℕ
answers_in [] = []
answers_in (it ∷ its) = answer_by it (answers_in its)
