-- What comes of the first thing that is due on the connection.
use Rattle.std.specs.Prelude.{◌≡◌, ℕ, List, Bool, true, false}
use Rattle.vm_outside.specs.Known.{FilesKnown}
use Rattle.http_stream.specs.declared.request.Next.{Next}
use Rattle.http_stream.specs.Conversation.{Takes, IsQuiet}
use Rattle.monitor_machine.specs.declared.outcome.Outcome.{Outcome}
use Rattle.monitor_machine.specs.Replying.{Replies}
use Rattle.responses.specs.declared.form.ResponseForm.{ResponseForm}
use Rattle.monitor_core.specs.declared.monitor.Monitor.{Monitor}
use Rattle.monitor_core.specs.Going.{GivesFiling}

-- it was answered, and taken from the connection
pub record Replied (form : ResponseForm) (monitor after : Monitor) (text written : List ℕ) (known left : FilesKnown) : Type 0 where
  pub given : Next
  pub takes : Takes monitor.front given after.front
  pub how : Outcome
  pub replies : Replies form given how monitor.machine after.machine text written known left
  pub uncalled : (GivesFiling monitor.front → ⊥) → left.health.faults ≡ known.health.faults

-- nothing was due
pub record Rests (monitor after : Monitor) (text written : List ℕ) (known left : FilesKnown) : Type 0 where
  pub quiet : IsQuiet monitor.front
  pub same : after ≡ monitor
  pub writes : written ≡ text
  pub kept : left ≡ known

abbrev pub RepliedOrRests :
    ResponseForm → Bool → Monitor → Monitor → List ℕ → List ℕ → FilesKnown → FilesKnown → Type 0
RepliedOrRests form true monitor after text written known left = Replied form monitor after text written known left
RepliedOrRests form false monitor after text written known left = Rests monitor after text written known left
