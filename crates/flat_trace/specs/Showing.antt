-- What an item of a trace does to the flat machine, and what is seen of it outside.
use Rattle.std.specs.Prelude.{ℕ, ◌≡◌, Bool, true, false, List, [], ◌∷◌, ◌++◌, map, Option, Some, None}
use Rattle.vm_types.specs.declared.ids.ActorId.{ActorId}
use Rattle.vm_types.specs.declared.reply.Reply.{Reply}
use Rattle.flat_guest.specs.Given.{Given}
use Rattle.flat_guest.specs.Given.Given.{Host, Nothing}
use Rattle.script_text.specs.declared.item.Item.{Item}
use Rattle.script_text.specs.declared.item.Item.TheVariants as item
use Rattle.responses.specs.Output.{console_line}
use Rattle.responses.specs.declared.form.ResponseForm.TheVariants.{Http}
use Rattle.responses.specs.Responses.{Response, all_written}
use Rattle.flat_guest.specs.Guest.{Guest}
use Rattle.flat_machine.specs.Given.{reply_given}
use Rattle.flat_machine.specs.Items.{Answers, ItemStep, Talks, response_lines}
use Rattle.flat_machine.specs.Machine.{Machine, console_of, is_off, running}
use Rattle.flat_machine.specs.Outcome.{Outcome}
use Rattle.flat_machine.specs.Run.{Act}

-- What an item shows: nothing; a new connection; these bytes of a connection, with what is answered to them; or these bytes
-- of the console, as they are.
pub data Out : Type 0 where
  Quiet : Out
  Opened : Out
  Heard : List ℕ → List Response → Out
  Shown : List ℕ → Out

-- the event of an actor of the guest that runs, which may have turned itself off in the slice that the event is of
abbrev pub HasEvent : Option Guest → ActorId → Given → Machine → Machine → Type 0
HasEvent None actor given m n = ⊥
HasEvent (Some g) actor given m n = Answers g actor given m [] n

-- bytes that came beside the slice in which the guest turned itself off are answered no more
abbrev pub Hears : Bool → List ℕ → List Outcome → Machine → Out → Machine → Type 0
Hears true bytes outcomes m out n = (outcomes ≡ []) × (out ≡ Heard bytes []) × (n ≡ m)
Hears false bytes outcomes m out n =
    (responses : List Response) × (out ≡ Heard bytes responses) × Talks bytes outcomes m responses n

-- from m the item, whose requests went so, shows this and leaves n; a trace has no other items
abbrev pub TraceStep : Item → List Outcome → Machine → Out → Machine → Type 0
TraceStep (item.Step actor count) outcomes m out n =
    (outcomes ≡ []) × (out ≡ Quiet) × (count ≡ 1) × HasEvent (running m) actor Nothing m n
TraceStep (item.Reply actor reply) outcomes m out n =
    (outcomes ≡ []) × (out ≡ Quiet)
    × (given : Reply) × (reply_given reply ≡ Host given) × HasEvent (running m) actor (Host given) m n
TraceStep item.Console outcomes m out n =
    (out ≡ Shown (console_of m)) × ItemStep item.Console outcomes m (console_line (console_of m)) n
TraceStep (item.Bytes bytes) outcomes m out n = Hears (is_off m) bytes outcomes m out n
TraceStep item.Connect outcomes m out n = (out ≡ Opened) × ItemStep item.Connect outcomes m [] n
TraceStep (item.Lineage lineage) outcomes m out n = (out ≡ Quiet) × ItemStep (item.Lineage lineage) outcomes m [] n
TraceStep it outcomes m out n = ⊥

-- from m the acts, one after another, show this and leave n
abbrev pub Run : List Act → Machine → List Out → Machine → Type 0
Run [] m outs n = (outs ≡ []) × (m ≡ n)
Run (act ∷ acts) m outs n =
    (out : Out) × (mid : Machine) × (rest : List Out)
    × (outs ≡ out ∷ rest) × TraceStep act.item act.outcomes m out mid × Run acts mid rest n

abbrev pub items_of : List Act → List Item
items_of acts = map (λ act. act.item) acts

-- what the sink takes
abbrev pub shown_by : Out → List ℕ
shown_by (Shown bytes) = bytes
shown_by out = []

abbrev pub shown : List Out → List ℕ
shown [] = []
shown (out ∷ outs) = shown_by out ++ shown outs

-- what is said on connections
abbrev pub said_by : Out → List Out
said_by Opened = Opened ∷ []
said_by (Heard bytes responses) = Heard bytes responses ∷ []
said_by out = []

abbrev pub said : List Out → List Out
said [] = []
said (out ∷ outs) = said_by out ++ said outs

-- what a connection gives and takes with these: the bytes, and the bytes of what is answered
abbrev pub given_by : Out → List ℕ
given_by (Heard bytes responses) = bytes
given_by out = []

abbrev pub given : List Out → List ℕ
given [] = []
given (out ∷ outs) = given_by out ++ given outs

abbrev pub replied_by : Out → List ℕ
replied_by (Heard bytes responses) = all_written Http responses
replied_by out = []

abbrev pub replied : List Out → List ℕ
replied [] = []
replied (out ∷ outs) = replied_by out ++ replied outs

-- what a replay writes for it: the lines of what is answered, and of what is shown
abbrev pub line_by : Out → List ℕ
line_by Quiet = []
line_by Opened = []
line_by (Heard bytes responses) = response_lines responses
line_by (Shown bytes) = console_line bytes

abbrev pub lines : List Out → List ℕ
lines [] = []
lines (out ∷ outs) = line_by out ++ lines outs
