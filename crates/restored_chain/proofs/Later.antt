-- Lists and traces that begin on a new connection.
use Rattle.std.proofs.Common.{◌≡◌, ℕ, List, [], ◌∷◌, ◌++◌, refl, sym, subst}
use Rattle.http_stream.specs.Stream.{Connection}
use Rattle.http_stream.specs.Conversation.{new_connection}
use Rattle.script_text.specs.declared.item.Item.TheVariants as item
use Rattle.flat_machine.specs.Machine.{Machine}
use Rattle.flat_machine.specs.Run.{Act, Run}
use Rattle.flat_trace.specs.Events.{quiet_act}
use Rattle.flat_trace.specs.Showing as trace
use Rattle.flat_trace.specs.Showing.{Out}
use Rattle.alike_runs.specs.Alike.{Alike}
use Rattle.alike_runs.specs.Twins.{Twins}
use Rattle.alike_runs.proofs.Runs.{run_alike}
use Rattle.alike_runs.proofs.Traces.{trace_alike}
use Rattle.alike_runs.proofs.Turned.{all_turned, turned_machine}

-- the machine on a new connection
abbrev pub anew : Machine → Machine
anew m = record m { connection = new_connection }

-- such a list goes on from there
pub run_anew : (acts : List Act) (m n : Machine) (text : List ℕ) → Run (quiet_act item.Connect ∷ acts) m text n → (rest : List ℕ) × Run acts (anew m) rest n × (text ≡ rest)
run_anew acts m n text (first, mid, rest, (none, (said, is)), more, joined) =
    (rest, subst (λ (q : Machine). Run acts q rest n) is more, subst (λ (t : List ℕ). text ≡ t ++ rest) said joined)

pub anew_run : (acts : List Act) (m n : Machine) (text : List ℕ) → Run acts (anew m) text n → Run (quiet_act item.Connect ∷ acts) m text n
anew_run acts m n text run = ([], anew m, text, (refl, (refl, refl)), run, refl)

pub trace_anew : (acts : List Act) (m n : Machine) (outs : List Out) → trace.Run (quiet_act item.Connect ∷ acts) m outs n
    → (rest : List Out) × (outs ≡ trace.Opened ∷ rest) × trace.Run acts (anew m) rest n
trace_anew acts m n outs (out, mid, rest, split, (opened, (none, (said, is))), more) =
    (rest, subst (λ (o : Out). outs ≡ o ∷ rest) opened split, subst (λ (q : Machine). trace.Run acts q rest n) is more)

pub anew_trace : (acts : List Act) (m n : Machine) (outs rest : List Out) → outs ≡ trace.Opened ∷ rest → trace.Run acts (anew m) rest n
    → trace.Run (quiet_act item.Connect ∷ acts) m outs n
anew_trace acts m n outs rest split run = (trace.Opened, anew m, rest, split, (refl, (refl, (refl, refl))), run)

-- ---- machines that are alike on each connection

module _ (m p : Machine) (alike : (c : Connection) → Alike [] (record m { connection = c }) (record p { connection = c })) where
  pub later_forth : (acts : List Act) (text : List ℕ) (end : Machine) → Run (quiet_act item.Connect ∷ acts) m text end
      → (other : Machine) × (twins : List Twins) × Run (quiet_act item.Connect ∷ acts) p text other × Alike twins end other
  later_forth acts text end run =
      let own = run_anew acts m end text run in
      let on = run_alike acts [] (anew m) (anew p) end own.0 (alike new_connection) own.1 in (
        on.l,
        on.front ++ [],
        anew_run acts p on.l text (subst (λ (t : List ℕ). Run acts (anew p) t on.l) (sym own.2) on.is),
        on.stays,
      )

  pub later_back : (acts : List Act) (text : List ℕ) (other : Machine) → Run (quiet_act item.Connect ∷ acts) p text other
      → (end : Machine) × (twins : List Twins) × Run (quiet_act item.Connect ∷ acts) m text end × Alike twins end other
  later_back acts text other run =
      let own = run_anew acts p other text run in
      let on = run_alike acts [] (anew p) (anew m) other own.0 (turned_machine [] (anew m) (anew p) (alike new_connection)) own.1 in (
        on.l,
        all_turned (on.front ++ []),
        anew_run acts m on.l text (subst (λ (t : List ℕ). Run acts (anew m) t on.l) (sym own.2) on.is),
        turned_machine (on.front ++ []) other on.l on.stays,
      )

  pub trace_forth : (acts : List Act) (outs : List Out) (end : Machine) → trace.Run (quiet_act item.Connect ∷ acts) m outs end
      → (other : Machine) × (twins : List Twins) × trace.Run (quiet_act item.Connect ∷ acts) p outs other × Alike twins end other
  trace_forth acts outs end run =
      let own = trace_anew acts m end outs run in
      let on = trace_alike acts [] (anew m) (anew p) end own.0 (alike new_connection) own.2 in
      (on.l, on.front ++ [], anew_trace acts p on.l outs own.0 own.1 on.is, on.stays)

  pub trace_back : (acts : List Act) (outs : List Out) (other : Machine) → trace.Run (quiet_act item.Connect ∷ acts) p outs other
      → (end : Machine) × (twins : List Twins) × trace.Run (quiet_act item.Connect ∷ acts) m outs end × Alike twins end other
  trace_back acts outs other run =
      let own = trace_anew acts p other outs run in
      let on = trace_alike acts [] (anew p) (anew m) other own.0 (turned_machine [] (anew m) (anew p) (alike new_connection)) own.2 in (
        on.l,
        all_turned (on.front ++ []),
        anew_trace acts m on.l outs own.0 own.1 on.is,
        turned_machine (on.front ++ []) other on.l on.stays,
      )
