-- What comes of something that is due.
use Rattle.std.specs.Prelude.{◌≡◌, ◌≤◌, ℕ, List, ◌++◌, true, false, Ok}
use Rattle.vm_types.specs.Causes.{Rose}
use Rattle.vm_outside.specs.Known.{FilesKnown, Tells}
use Rattle.http_stream.specs.declared.request.Request.{Request}
use Rattle.http_stream.specs.declared.request.Next.{Next}
use Rattle.api_calls.specs.declared.call.ApiCall.{ApiCall}
use Rattle.api_calls.specs.Call.{call_of}
use Rattle.guest_devices.specs.declared.device.Device.{Device}
use Rattle.flat_machine.specs.Outcome as flat
use Rattle.flat_machine.specs.Machine.{Machine}
use Rattle.flat_machine.specs.Requests.{RequestStep}
use Rattle.responses.specs.declared.form.ResponseForm.{ResponseForm}
use Rattle.responses.specs.Responses.{Response, all_written}
use Rattle.api_rules.specs.declared.answer.Answer.{Answer}
use Rattle.api_rules.specs.Table.{needs_files}
use Rattle.monitor_machine.specs.declared.machine.LiveMachine.{LiveMachine}
use Rattle.monitor_machine.specs.declared.outcome.Outcome.{Outcome}
use Rattle.monitor_machine.specs.declared.outcome.Outcome.TheVariants.{Answered, Failed, NoMemory}
use Rattle.monitor_machine.specs.State.{IsMachine}

-- the request is a call that reads or writes files
abbrev pub AsksFiles : Request → Type 0
AsksFiles request = (it : ApiCall) × (call_of request ≡ Ok it) × (needs_files it ≡ true)

-- how a request went, as the flat machine has it
abbrev pub WentAs : Outcome → flat.Outcome → Type 0
WentAs Answered outcome = (kept : List Device) × (outcome ≡ flat.Outcome.Answered kept)
WentAs Failed outcome = (left : flat.Left) × (outcome ≡ flat.Outcome.Failed left)
WentAs NoMemory outcome = outcome ≡ flat.Outcome.NoMemory

-- each 500 has a fault of its own, and an answer has none
abbrev pub OutcomeCause : Outcome → ℕ → ℕ → Type 0
OutcomeCause Answered before now = now ≡ before
OutcomeCause Failed before now = Rose before now
OutcomeCause NoMemory before now = before ≤ now

-- the response to a request, with which its connection goes on
abbrev pub open_response : Answer → Response
open_response answer = record { answer = answer; closes = false }

-- What was due was answered so, its responses are behind what was written, and each machine that it was is the machine
-- after it.
pub record Replies (form : ResponseForm) (given : Next) (how : Outcome) (live after : LiveMachine)
    (text written : List ℕ) (known left : FilesKnown) : Type 0 where
  pub cause : OutcomeCause how known.health.faults left.health.faults
  pub outcome : flat.Outcome
  pub went_as : WentAs how outcome
  pub responses : List Response
  pub writes : written ≡ text ++ all_written form responses
  pub went : Tells known.health → (m : Machine) → IsMachine live known m
      → (n : Machine) × RequestStep outcome given m responses n × IsMachine after left n
