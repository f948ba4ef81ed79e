-- What is due is answered by the machine, and taken from the connection.
use Rattle.std.proofs.Common.{◌≡◌, sym, subst, List, ℕ}
use Rattle.vm_outside.specs.Known.{FilesKnown}
use Rattle.http_stream.specs.declared.request.Next.{Next}
use Rattle.http_stream.specs.Stream.{Connection}
use Rattle.http_stream.specs.Conversation.{Takes}
use Rattle.responses.specs.declared.form.ResponseForm.{ResponseForm}
use Rattle.monitor_machine.specs.declared.machine.LiveMachine.{LiveMachine}
use Rattle.monitor_machine.specs.declared.outcome.Outcome.{Outcome}
use Rattle.monitor_machine.specs.Replying.{Replies}
use Rattle.monitor_core.specs.declared.monitor.Monitor.{Monitor}
use Rattle.monitor_core.specs.Going.{GivesFiling}
use Rattle.monitor_core.specs.Replying.{Replied}

pub replied : (form : ResponseForm) (monitor : Monitor) (how : Outcome) (skipped : Connection) (machine : LiveMachine) (text written : List ℕ)
    (known left : FilesKnown) (given : Next) (d : Connection) → Takes monitor.front given d
    → ((given : Next) (d : Connection) → Takes monitor.front given d → skipped ≡ d)
    → Replies form given how monitor.machine machine text written known left
    → ((GivesFiling monitor.front → ⊥) → left.health.faults ≡ known.health.faults)
    → Replied form monitor (record monitor { front = skipped; machine = machine }) text written known left
replied form monitor how skipped machine text written known left given d takes taken replies uncalled = record {
  given = given;
  takes = subst (λ (f : Connection). Takes monitor.front given f) (sym (taken given d takes)) takes;
  how = how;
  replies = replies;
  uncalled = uncalled;
}
