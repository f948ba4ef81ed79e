-- The flat machine as data.
use Rattle.std.specs.Prelude.{ℕ, ◌≡◌, Bool, true, false, List, [], Option, Some, None}
use Rattle.vm_types.specs.Saved.{Saved}
use Rattle.vm_outside.specs.Calls.{FileCall}
use Rattle.vm_outside.specs.Known.{FilesKnown}
use Rattle.serde_json.specs.Data.{Data, null}
use Rattle.http_stream.specs.Stream.{Connection}
use Rattle.http_stream.specs.Conversation.{new_connection}
use Rattle.vm_config.specs.declared.config.Config.{Config}
use Rattle.vm_config.specs.declared.config.Phase.{Phase}
use Rattle.vm_config.specs.declared.config.Phase.TheVariants as phase
use Rattle.vm_config.specs.Changes.{default_config}
use Rattle.api_rules.specs.declared.ids.Ids.{Ids}
use Rattle.guest_devices.specs.Devices.{FlatDevice}
use Rattle.flat_guest.specs.Guest.{Guest}

-- its id, its lineage with the snapshots that it knows, what was configured, the metadata, the connection on which
-- requests come, what each name holds in the files, the calls that were made on them, the oldest first, the guest once it
-- has started, and whether the guest stands still
pub record Machine : Type 0 where
  pub id : List ℕ
  pub ids : Ids
  pub config : Config
  pub metadata : Data
  pub connection : Connection
  pub saved : Saved
  pub calls : List FileCall
  pub guest : Option Guest
  pub paused : Bool

-- of no lineage, and without a snapshot
abbrev pub first_ids : Ids
first_ids = record { lineage = 0; base = None; next = 1 }

-- a machine that has not started, over files that hold this and on which these calls were made
abbrev pub new_machine : List ℕ → Saved → List FileCall → Machine
new_machine id saved calls = record {
  id = id;
  ids = first_ids;
  config = default_config;
  metadata = null;
  connection = new_connection;
  saved = saved;
  calls = calls;
  guest = None;
  paused = false;
}

-- what is known of the files is what the machine has of them
pub record AreFilesOf (known : FilesKnown) (m : Machine) : Type 0 where
  pub saved_is : known.saved ≡ m.saved
  pub calls_is : known.calls ≡ m.calls

abbrev pub phase_by : Option Guest → Bool → Phase
phase_by None paused = phase.NotStarted
phase_by (Some g) false = phase.Running
phase_by (Some g) true = phase.Paused

abbrev pub phase_of : Machine → Phase
phase_of m = phase_by m.guest m.paused

-- the guest that runs: one that stands still is none
abbrev pub running_by : Option Guest → Bool → Option Guest
running_by guest true = None
running_by guest false = guest

abbrev pub running : Machine → Option Guest
running m = running_by m.guest m.paused

-- the guest has turned itself off
abbrev pub off_by : Option Guest → Bool
off_by None = false
off_by (Some g) = g.board.off

abbrev pub is_off : Machine → Bool
is_off m = off_by m.guest

-- the guest's devices
abbrev pub devices_of : Option Guest → List FlatDevice
devices_of None = []
devices_of (Some g) = g.devices

-- the console's bytes that were not drained
abbrev pub console_by : Option Guest → List ℕ
console_by None = []
console_by (Some g) = g.board.console

abbrev pub console_of : Machine → List ℕ
console_of m = console_by m.guest

-- they are drained
abbrev pub drained_guest : Option Guest → Option Guest
drained_guest None = None
drained_guest (Some g) = Some (record g { board = record g.board { console = [] } })

abbrev pub drained : Machine → Machine
drained m = record m { guest = drained_guest m.guest }
