-- How bytes go that come on the connection.
use Rattle.std.specs.Prelude.{◌≡◌, ℕ, List}
use Rattle.vm_outside.specs.Known.{FilesKnown, Tells}
use Rattle.http_stream.specs.Conversation.{arrived}
use Rattle.flat_machine.specs.Outcome.{Outcome}
use Rattle.flat_machine.specs.Items.{Talks}
use Rattle.flat_machine.specs.Machine.{Machine}
use Rattle.responses.specs.declared.form.ResponseForm.TheVariants.{Http}
use Rattle.responses.specs.Responses.{Response, all_written}
use Rattle.monitor_core.specs.declared.monitor.Monitor.{Monitor}
use Rattle.monitor_core.specs.Going.{CountsFaults, Gave, GivesFiling}
use Rattle.monitor_core.specs.State.{IsMonitor}

-- Everything that the connection gives with these bytes was answered: how that went, the bytes of the replies, and what it
-- did to each machine that the monitor was.
pub record HearGoes (bytes text : List ℕ) (monitor after : Monitor) (known left : FilesKnown) : Type 0 where
  pub outcomes : List Outcome
  pub responses : List Response
  pub writes : text ≡ all_written Http responses
  pub given : Gave outcomes (arrived monitor.front bytes) after.front
  pub counted : CountsFaults outcomes known.health.faults left.health.faults
  pub uncalled : (GivesFiling (arrived monitor.front bytes) → ⊥) → left.health.faults ≡ known.health.faults
  pub went : Tells known.health → (m : Machine) → IsMonitor monitor known m
      → (n : Machine) × Talks bytes outcomes m responses n × IsMonitor after left n
