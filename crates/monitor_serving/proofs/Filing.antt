-- What leaves the files of the machine as they are.
use Rattle.std.proofs.Common.{◌≡◌, ℕ, Bool, true, false, refl, sym, ap, ◌∙◌, List, [], ◌∷◌, Option, Some, None}
use Rattle.vm_types.specs.declared.ids.ActorId.{ActorId}
use Rattle.vm_outside.specs.Known.{FilesKnown}
use Rattle.script_text.specs.declared.item.Item.{Item}
use Rattle.script_text.specs.declared.item.Item.TheVariants as item
use Rattle.flat_guest.specs.Given.{Given}
use Rattle.flat_guest.specs.Given.Given.{Host, Nothing}
use Rattle.flat_machine.specs.Machine.{AreFilesOf, Machine, is_off, running}
use Rattle.flat_machine.specs.Outcome.{Outcome}
use Rattle.flat_machine.specs.Run.{Act}
use Rattle.flat_trace.specs.Showing.{HasEvent, Hears, Out, Run, TraceStep, said, said_by}
use Rattle.flat_trace.specs.Showing.Out.{Quiet, Opened, Heard, Shown}

-- one machine has the files of another
pub record SameFiled (m n : Machine) : Type 0 where
  pub saved : n.saved ≡ m.saved
  pub calls : n.calls ≡ m.calls

pub filed : (known left : FilesKnown) (m n : Machine) → left ≡ known → SameFiled m n → AreFilesOf known m → AreFilesOf left n
filed known left m n same files is = record {
  saved_is = ap (λ (k : FilesKnown). k.saved) same ∙ is.saved_is ∙ sym files.saved;
  calls_is = ap (λ (k : FilesKnown). k.calls) same ∙ is.calls_is ∙ sym files.calls;
}

filed_by : (m n k : Machine) → n ≡ k → SameFiled m k → SameFiled m n
filed_by m n k is same = record {
  saved = ap (λ (x : Machine). x.saved) is ∙ same.saved;
  calls = ap (λ (x : Machine). x.calls) is ∙ same.calls;
}

pub filed_beside : (m n : Machine) → n ≡ record m { guest = n.guest } → SameFiled m n
filed_beside m n beside = filed_by m n (record m { guest = n.guest }) beside (record { saved = refl; calls = refl })

-- of one that leads to it
pub filed_ahead : (m told n : Machine) → SameFiled m n → SameFiled told n → SameFiled m told
filed_ahead m told n since ahead = record { saved = sym ahead.saved ∙ since.saved; calls = sym ahead.calls ∙ since.calls }

-- ---- an item that says nothing on a connection

event_filed : (actor : ActorId) (given : Given) (m n : Machine) → HasEvent (running m) actor given m n → SameFiled m n
event_filed actor given m n =
    elim (running m) as (λ guest. HasEvent guest actor given m n → SameFiled m n) [
      | None ↦ λ event. absurd event
      | Some g ↦ λ event. filed_by m n _ event.leaves (record { saved = refl; calls = refl })
    ]

heard_filed : (off : Bool) (bytes : List ℕ) (outcomes : List Outcome) (m : Machine) (out : Out) (n : Machine)
    → Hears off bytes outcomes m out n → said_by out ≡ [] → SameFiled m n
heard_filed true bytes outcomes m out n (none, is, same) quiet = filed_by m n m same (record { saved = refl; calls = refl })
heard_filed false bytes outcomes m out n (responses, is, talks) quiet =
    absurd (let some : Heard bytes responses ∷ [] ≡ [] = sym (ap said_by is) ∙ quiet in cc)

step_filed : (it : Item) (outcomes : List Outcome) (m : Machine) (out : Out) (n : Machine) → TraceStep it outcomes m out n
    → said_by out ≡ [] → SameFiled m n
step_filed (item.Step actor count) outcomes m out n step quiet = event_filed actor Nothing m n step.3
step_filed (item.Reply actor reply) outcomes m out n step quiet = event_filed actor (Host step.2) m n step.4
step_filed item.Console outcomes m out n step quiet = filed_by m n _ step.1.1.1 (record { saved = refl; calls = refl })
step_filed (item.Bytes bytes) outcomes m out n step quiet = heard_filed (is_off m) bytes outcomes m out n step quiet
step_filed item.Connect outcomes m out n step quiet = filed_by m n _ step.1.1.1 (record { saved = refl; calls = refl })
step_filed (item.Lineage lineage) outcomes m out n step quiet = filed_by m n _ step.1.1.1 (record { saved = refl; calls = refl })
step_filed item.Nothing outcomes m out n step quiet = absurd step
step_filed (item.File name content) outcomes m out n step quiet = absurd step
step_filed (item.Api method path body) outcomes m out n step quiet = absurd step
step_filed (item.Register hart number) outcomes m out n step quiet = absurd step
step_filed (item.Memory address len) outcomes m out n step quiet = absurd step

-- ---- and a run of such

silent : (out : Out) (outs : List Out) → said (out ∷ outs) ≡ [] → (said_by out ≡ []) × (said outs ≡ [])
silent Quiet outs none = (refl, none)
silent (Shown bytes) outs none = (refl, none)
silent Opened outs none = cc
silent (Heard bytes responses) outs none = cc

pub run_filed : (acts : List Act) (m : Machine) (outs : List Out) (n : Machine) → Run acts m outs n → said outs ≡ [] → SameFiled m n
run_filed [] m outs n (none, is) quiet = filed_by m n m (sym is) (record { saved = refl; calls = refl })
run_filed (act ∷ acts) m outs n (out, mid, rest, is, step, run) quiet =
    let parts = silent out rest (sym (ap said is) ∙ quiet) in
    let first = step_filed act.item act.outcomes m out mid step parts.0 in
    let more = run_filed acts mid rest n run parts.1 in
    record { saved = more.saved ∙ first.saved; calls = more.calls ∙ first.calls }
