-- How an item goes, and why one is not done to its end.
use Rattle.std.specs.Prelude.{◌≡◌, ◌⊎◌, ℕ, ◌+◌, false, List, [], ◌∷◌}
use Rattle.vm_types.specs.Causes.{RoseBy}
use Rattle.vm_types.specs.Saved.{SameOthers}
use Rattle.vm_outside.specs.Calls.{MakesFront}
use Rattle.vm_outside.specs.Known.{FilesKnown, Tells}
use Rattle.http_stream.specs.declared.request.Request.{Request}
use Rattle.http_stream.specs.Stream.{Connection}
use Rattle.http_stream.specs.Cuts.{Reads}
use Rattle.http_stream.specs.Sent.{sent}
use Rattle.http_stream.specs.Conversation.{arrived, new_connection, Conversation, ConversationFront}
use Rattle.gate_file.specs.Runs.{save_calls}
use Rattle.script_text.specs.declared.item.Item.{Item}
use Rattle.flat_machine.specs.Outcome.{Outcome, AreAnswered, failed_in}
use Rattle.flat_machine.specs.Items.{ItemStep, PartStep, bytes_of}
use Rattle.flat_machine.specs.Machine.{AreFilesOf, Machine}
use Rattle.monitor_machine.specs.Replying.{AsksFiles}
use Rattle.monitor_core.specs.declared.item_error.ItemError.{ItemError}
use Rattle.monitor_core.specs.declared.item_error.ItemError.TheVariants.{FilesFailed, OutOfMemory}
use Rattle.monitor_core.specs.declared.monitor.Monitor.{Monitor}
use Rattle.monitor_core.specs.State.{IsMonitor, IsOwn}

-- ---- the connection

-- Everything that the connection c gives is answered, each in its way, which leaves d. It says nothing of the answers, so
-- it holds whether or not the files tell what they hold.
abbrev pub Gave : List Outcome → Connection → Connection → Type 0
Gave outcomes c d =
    Conversation {W = Outcome} {M = Unit {0}} {A = Unit {0}} (λ how given m said n. Unit {0}) outcomes c tt [] d tt

-- only the first of it, and something is still due
abbrev pub GaveFront : List Outcome → Connection → Connection → Type 0
GaveFront outcomes c d =
    ConversationFront {W = Outcome} {M = Unit {0}} {A = Unit {0}} (λ how given m said n. Unit {0}) outcomes c tt [] d tt

-- the connection after an item: with its bytes everything that is due was answered; or it is a new one; or as it was
abbrev pub Leads : Item → List Outcome → Connection → Connection → Type 0
Leads (Item.Bytes bytes) outcomes c d = Gave outcomes (arrived c bytes) d
Leads (Item.Api method path body) outcomes c d = Gave outcomes (arrived c (sent method path body)) d
Leads Item.Connect outcomes c d = (outcomes ≡ []) × (d ≡ new_connection)
Leads item outcomes c d = (outcomes ≡ []) × (d ≡ c)

-- ---- the files

-- each request that was answered 500 has a fault of the files; where the machine answered every one there is none
pub record CountsFaults (outcomes : List Outcome) (before now : ℕ) : Type 0 where
  pub rose : RoseBy (failed_in outcomes) before now
  pub kept : AreAnswered outcomes → now ≡ before

-- one of the requests calls the files
abbrev pub HasFiling : List Request → Type 0
HasFiling [] = ⊥
HasFiling (r ∷ rs) = AsksFiles r ⊎ HasFiling rs

-- one of the requests that the connection gives calls the files
abbrev pub GivesFiling : Connection → Type 0
GivesFiling c = (c.failed ≡ false) × (rs : List Request) × (d : Connection) × Reads c.pending rs d × HasFiling rs

-- the files are called for a file line and for such a request alone
abbrev pub CallsFiles : Monitor → Item → Type 0
CallsFiles monitor (Item.File name content) = Unit {0}
CallsFiles monitor (Item.Bytes bytes) = GivesFiling (arrived monitor.front bytes)
CallsFiles monitor (Item.Api method path body) = GivesFiling (arrived monitor.front (sent method path body))
CallsFiles monitor item = ⊥

-- ---- an item

-- an item that was done: how its requests went, and what it did to each machine that the monitor was
pub record ItemGoes (item : Item) (text : List ℕ) (monitor after : Monitor) (known left : FilesKnown) : Type 0 where
  pub outcomes : List Outcome
  pub given : Leads item outcomes monitor.front after.front
  pub counted : CountsFaults outcomes known.health.faults left.health.faults
  pub uncalled : (CallsFiles monitor item → ⊥) → left.health.faults ≡ known.health.faults
  pub went : Tells known.health → (m : Machine) → IsMonitor monitor known m
      → (n : Machine) × ItemStep item outcomes m text n × IsMonitor after left n

abbrev pub IsFile : Item → Type 0
IsFile (Item.File name content) = Unit {0}
IsFile item = ⊥

-- an item is not done for want of memory, which a file line never meets, or where the files failed at a file line
abbrev pub ItemCause : Item → ItemError → Type 0
ItemCause item FilesFailed = IsFile item
ItemCause item OutOfMemory = IsFile item → ⊥

-- the fault of a file line is one more than those of the requests
abbrev pub error_failures : ItemError → ℕ
error_failures FilesFailed = 1
error_failures OutOfMemory = 0

-- The files are the machine's. But at a file line its own name may hold anything, and the first of its calls were made
-- behind the machine's.
abbrev pub LeavesFiles : Item → Machine → FilesKnown → Type 0
LeavesFiles (Item.File name content) m left =
    SameOthers m.saved name left.saved × MakesFront (save_calls name content) m.calls left.calls
LeavesFiles item m left = AreFilesOf left m

-- as far as the connection came: as it was, or with the item's bytes the first of what is due was answered
abbrev pub LeadsFront : Item → List Outcome → Connection → Connection → Type 0
LeadsFront item part c d = ((part ≡ []) × (d ≡ c)) ⊎ GaveFront part (arrived c (bytes_of item)) d

-- an item that was not done to its end: the first of its requests went so, and their text is not told
pub record ItemStops (why : ItemError) (item : Item) (monitor after : Monitor) (known left : FilesKnown) : Type 0 where
  pub part : List Outcome
  pub unwritten : List ℕ
  pub given : LeadsFront item part monitor.front after.front
  pub cause : ItemCause item why
  pub rose : RoseBy (failed_in part + error_failures why) known.health.faults left.health.faults
  pub uncalled : (CallsFiles monitor item → ⊥) → left.health.faults ≡ known.health.faults
  pub same : part ≡ [] → after ≡ record monitor { front = after.front }
  pub went : Tells known.health → (m : Machine) → IsMonitor monitor known m
      → (n : Machine) × PartStep item part m unwritten n × IsOwn after n × LeavesFiles item n left
