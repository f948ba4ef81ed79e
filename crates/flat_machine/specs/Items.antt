-- What an item of a script does to the flat machine.
use Rattle.std.specs.Prelude.{ℕ, ◌≡◌, ◌⊎◌, nat_lt, Bool, ◌&&◌, not, if◌then◌else◌, List, [], ◌++◌, Option, Some, None, MatchBool, slice_get, length}
use Rattle.std.specs.FinMap.{insert}
use Rattle.vm_types.specs.declared.ids.ActorId.{ActorId}
use Rattle.vm_types.specs.declared.ids.ActorId.TheVariants.{Hart as HartId}
use Rattle.vm_types.specs.declared.entry.Entry.{Entry}
use Rattle.vm_types.specs.declared.entry.Step.{Step}
use Rattle.vm_types.specs.declared.op.Op.{Op}
use Rattle.vm_types.specs.declared.reply.Reply.{Reply}
use Rattle.flat_guest.specs.Given.{Given}
use Rattle.hart_trace.specs.Asks.{is_host_op}
use Rattle.http_stream.specs.Stream.{Connection}
use Rattle.http_stream.specs.Sent.{sent}
use Rattle.http_stream.specs.Conversation.{arrived, new_connection, Conversation, ConversationFront}
use Rattle.script_text.specs.declared.item.Item.{Item}
use Rattle.script_text.specs.declared.item.Item.TheVariants as item
use Rattle.script_text.specs.declared.output.Misfit.{Misfit}
use Rattle.script_text.specs.declared.output.Misfit.TheVariants as misfit
use Rattle.script_text.specs.Output.{misfit_line, register_line, memory_line, waits_line}
use Rattle.responses.specs.Output.{console_line}
use Rattle.responses.specs.declared.form.ResponseForm.TheVariants.{Line}
use Rattle.responses.specs.Responses.{Response, all_written}
use Rattle.guest_memory.specs.Memory.{read_from}
use Rattle.guest_memory.specs.Ram.{is_ram}
use Rattle.rv_supervisor.specs.declared.regs.Regs.{Regs}
use Rattle.hart_trace.specs.States.{Hart, LeadsTo}
use Rattle.hart_trace.specs.Shown.{register_of}
use Rattle.flat_guest.specs.Guest.{Guest, Wants, is_actor}
use Rattle.flat_guest.specs.Steps.{FlatStep, IsUnstamped, StepsBy, is_given}
use Rattle.gate_file.specs.Runs.{save_calls}
use Rattle.flat_machine.specs.Given.{reply_given}
use Rattle.flat_machine.specs.Outcome.{Outcome}
use Rattle.flat_machine.specs.Machine.{Machine, console_of, drained, running}
use Rattle.flat_machine.specs.Requests.{RequestStep}

-- ---- bytes on the connection

-- the bytes that an item puts on the connection
abbrev pub bytes_of : Item → List ℕ
bytes_of (item.Bytes bytes) = bytes
bytes_of (item.Api method path body) = sent method path body
bytes_of it = []

-- everything that the connection gives with these bytes is answered so
abbrev pub Talks : List ℕ → List Outcome → Machine → List Response → Machine → Type 0
Talks bytes outcomes m responses n =
    (after : Connection) × (mid : Machine)
    × Conversation RequestStep outcomes (arrived m.connection bytes) m responses after mid
    × (n ≡ record mid { connection = after })

-- only the first of it, and something is still due
abbrev pub TalksFront : List ℕ → List Outcome → Machine → List Response → Machine → Type 0
TalksFront bytes outcomes m responses n =
    (after : Connection) × (mid : Machine)
    × ConversationFront RequestStep outcomes (arrived m.connection bytes) m responses after mid
    × (n ≡ record mid { connection = after })

-- the lines of what was answered
abbrev pub response_lines : List Response → List ℕ
response_lines responses = all_written Line responses

abbrev pub TalkLines : List ℕ → List Outcome → Machine → List ℕ → Machine → Type 0
TalkLines bytes outcomes m text n =
    (responses : List Response) × Talks bytes outcomes m responses n × (text ≡ response_lines responses)

abbrev pub FrontLines : List ℕ → List Outcome → Machine → List ℕ → Machine → Type 0
FrontLines bytes outcomes m text n =
    (responses : List Response) × TalksFront bytes outcomes m responses n × (text ≡ response_lines responses)

-- ---- events, and what is shown

-- a line that doesn't apply changes nothing
abbrev pub Misfits : Misfit → Machine → List ℕ → Machine → Type 0
Misfits why m text n = (text ≡ misfit_line why) × (n ≡ m)

-- where fewer events were made than were asked for and the guest is on, the actor waits for a host object's reply
abbrev pub steps_text : ℕ → ℕ → Bool → List ℕ
steps_text count made off = if nat_lt made count && not off then waits_line made else []

-- the events of an actor
pub record Moves (g : Guest) (actor : ActorId) (count : ℕ) (m : Machine) (text : List ℕ) (n : Machine) : Type 0 where
  pub entries : List Entry
  pub end : Guest
  pub made : StepsBy g actor count entries end
  pub writes : text ≡ steps_text count (length entries) end.board.off
  pub leaves : n ≡ record m { guest = Some end }

-- of the guest that runs
abbrev pub StepsLine : Option Guest → ActorId → ℕ → Machine → List ℕ → Machine → Type 0
StepsLine None actor count m text n = Misfits misfit.NotRunning m text n
StepsLine (Some g) actor count m text n =
    MatchBool (is_actor g actor) (Moves g actor count m text n) (Misfits misfit.NoActor m text n)

-- the event in which the actor's act on a host object is answered so
pub record Answers (g : Guest) (actor : ActorId) (given : Given) (m : Machine) (text : List ℕ) (n : Machine) : Type 0 where
  pub entry : Entry
  pub end : Guest
  pub unstamped : IsUnstamped entry
  pub step : FlatStep g (record { actor = actor; given = given }) entry end
  pub quiet : text ≡ []
  pub leaves : n ≡ record m { guest = Some end }

-- what is given is to be a reply to an act on a host object, and to fit it
abbrev pub Replies : Guest → ActorId → Given → Machine → List ℕ → Machine → Type 0
Replies g actor given m text n =
    (op : Op) × Wants g actor op
    × MatchBool (is_host_op op)
    (MatchBool (is_given op given) (Answers g actor given m text n) (Misfits misfit.Unfit m text n))
    (Misfits misfit.NotWaiting m text n)

abbrev pub RepliesLine : Option Guest → ActorId → Given → Machine → List ℕ → Machine → Type 0
RepliesLine None actor given m text n = Misfits misfit.NotRunning m text n
RepliesLine (Some g) actor given m text n =
    MatchBool (is_actor g actor) (Replies g actor given m text n) (Misfits misfit.NoActor m text n)

-- a register of the hart that these steps lead to
abbrev pub ShowsFrom : Option Regs → List Step → ℕ → List ℕ → Type 0
ShowsFrom None steps number text = ⊥
ShowsFrom (Some start) steps number text =
    (h : Hart) × LeadsTo start steps h × (text ≡ register_line (register_of h number))

abbrev pub Shows : Guest → ℕ → ℕ → List ℕ → Type 0
Shows g k number text = ShowsFrom (slice_get g.starts k) (g.steps (HartId k)) number text

abbrev pub RegisterLine : Option Guest → ℕ → ℕ → Machine → List ℕ → Machine → Type 0
RegisterLine None k number m text n = Misfits misfit.NoMachine m text n
RegisterLine (Some g) k number m text n =
    MatchBool (is_actor g (HartId k)) (Shows g k number text × (n ≡ m)) (Misfits misfit.NoActor m text n)

-- bytes of RAM
abbrev pub MemoryLine : Option Guest → ℕ → ℕ → Machine → List ℕ → Machine → Type 0
MemoryLine None at len m text n = Misfits misfit.NoMachine m text n
MemoryLine (Some g) at len m text n =
    MatchBool (is_ram (length g.memory.bytes) at len) ((text ≡ memory_line (read_from g.memory at len)) × (n ≡ m))
    (Misfits misfit.OutsideMemory m text n)

-- ---- an item

-- an item that brings no request; a file line's file is made, written whole and synced
abbrev pub QuietStep : Item → Machine → List ℕ → Machine → Type 0
QuietStep item.Nothing m text n = (text ≡ []) × (n ≡ m)
QuietStep (item.File name content) m text n =
    (text ≡ [])
    × (n ≡ record m { saved = insert m.saved name content; calls = m.calls ++ save_calls name content })
QuietStep (item.Lineage lineage) m text n =
    (text ≡ []) × (n ≡ record m { ids = record m.ids { lineage = lineage } })
QuietStep item.Connect m text n = (text ≡ []) × (n ≡ record m { connection = new_connection })
QuietStep (item.Step actor count) m text n = StepsLine (running m) actor count m text n
QuietStep (item.Reply actor reply) m text n = RepliesLine (running m) actor (reply_given reply) m text n
QuietStep item.Console m text n = (text ≡ console_line (console_of m)) × (n ≡ drained m)
QuietStep (item.Register hart number) m text n = RegisterLine m.guest hart number m text n
QuietStep (item.Memory address len) m text n = MemoryLine m.guest address len m text n
QuietStep it m text n = ⊥

-- from m the item, whose requests went so, writes the text and leaves n
abbrev pub ItemStep : Item → List Outcome → Machine → List ℕ → Machine → Type 0
ItemStep (item.Bytes bytes) outcomes m text n = TalkLines bytes outcomes m text n
ItemStep (item.Api method path body) outcomes m text n = TalkLines (sent method path body) outcomes m text n
ItemStep it outcomes m text n = (outcomes ≡ []) × QuietStep it m text n

-- As far as an item came that was not done to its end: nothing of it, or the first of its requests.
abbrev pub PartStep : Item → List Outcome → Machine → List ℕ → Machine → Type 0
PartStep it outcomes m text n =
    ((outcomes ≡ []) × (text ≡ []) × (n ≡ m)) ⊎ FrontLines (bytes_of it) outcomes m text n
