use Rattle.std.proofs.Common.{◌≡◌, refl, ap, subst, ◌∙◌, List, ℕ}
use Rattle.http_stream.specs.Sent.{sent}
use Rattle.script_text.specs.declared.item.Item.{Item}
use Rattle.monitor_core.specs.declared.item_error.ItemError.{ItemError}
use Rattle.responses.specs.declared.form.ResponseForm.TheVariants.{Line}
use Rattle.gate_file.specs.Runs.{RunsAll, RunsPart, save_calls}
use Rattle.monitor_machine.specs.declared.machine.LiveMachine.{LiveMachine}
use Rattle.monitor_core.specs.declared.monitor.Monitor.{Monitor}
use Rattle.monitor_core.specs.Talking.{HasHalted, HasTalked}
use Rattle.monitor_core.proofs.Items.{api_goes, api_stops, bytes_goes, bytes_stops, connect_goes, console_goes, file_goes, file_stops, lineage_goes, nothing_goes, on, on_memory, quiet_stops, reply_goes, shown_goes, step_goes}
use Rattle.monitor_core.proofs.monitor.Monitor.item.Goals as goal

pub returns-in-Nothing-clause-goes : goal.returns-in-Nothing-clause-goes
returns-in-Nothing-clause-goes g c = nothing_goes _ _ _ _ c.in-Nothing.is c.new.ensures

pub returns-in-Ok-clause-goes : goal.returns-in-Ok-clause-goes
returns-in-Ok-clause-goes g c =
    file_goes _ _ _ _ c.in-File.name c.in-File.content _ c.in-File.is c.new-in-Ok.ensures c.in-Ok.ensures.called.kept
    (λ told. subst (λ (name : List ℕ). RunsAll name (save_calls name c.in-File.content) c.in-File.content (g.F.Files.known c.args.files.now) (g.F.Files.known c.save_file.new.files)) c.as_str.ensures
    (subst (λ (content : List ℕ). RunsAll c.as_str.result.now (save_calls c.as_str.result.now content) content (g.F.Files.known c.args.files.now) (g.F.Files.known c.save_file.new.files)) c.as_slice.ensures (c.in-Ok.ensures.saved told)))

pub returns-in-File-clause-stops : goal.returns-in-File-clause-stops
returns-in-File-clause-stops g c =
    file_stops _ _ _ _ c.in-File.name c.in-File.content c.in-File.is c.in-Err.ensures.called.failed
    (λ told. subst (λ (name : List ℕ). RunsPart name (save_calls name c.in-File.content) (g.F.Files.known c.args.files.now) (g.F.Files.known c.save_file.new.files)) c.as_str.ensures
    (subst (λ (content : List ℕ). RunsPart c.as_str.result.now (save_calls c.as_str.result.now content) (g.F.Files.known c.args.files.now) (g.F.Files.known c.save_file.new.files)) c.as_slice.ensures (c.in-Err.ensures.begun told)))

pub returns-in-Lineage-clause-goes : goal.returns-in-Lineage-clause-goes
returns-in-Lineage-clause-goes g c =
    lineage_goes _ c.args.self.now c.set_lineage.new.self (g.F.Files.known c.args.files.now) c.in-Lineage.lineage _ c.in-Lineage.is c.new-in-Lineage.ensures
    c.set_lineage.ensures.front (c.set_lineage.ensures.goes (g.F.Files.known c.args.files.now))

pub returns-in-Connect-clause-goes : goal.returns-in-Connect-clause-goes
returns-in-Connect-clause-goes g c =
    connect_goes _ c.args.self.now c.connect.new.self (g.F.Files.known c.args.files.now) _ c.in-Connect.is c.new-in-Connect.ensures
    (ap (λ (q : Monitor). q.front) c.connect.ensures.front) (c.connect.ensures.goes (g.F.Files.known c.args.files.now))

pub returns-in-Bytes-clause-goes : goal.returns-in-Bytes-clause-goes
returns-in-Bytes-clause-goes g c =
    let known = g.F.Files.known in
    bytes_goes c.args.item c.args.self.now c.take_bytes.new.self (known c.args.files.now) (known c.take_bytes.new.files) c.in-Bytes.bytes c.in_ok-take_bytes-in-Bytes.field-0 c.in-Bytes.is
    (subst (λ (b : List ℕ). HasTalked Line (on c.args.self.now b) c.take_bytes.new.self c.in_ok-take_bytes-in-Bytes.field-0 (known c.args.files.now) (known c.take_bytes.new.files)) c.as_slice-in-Bytes.ensures c.in_ok-take_bytes-in-Bytes.ensures.ok)

pub returns-in_err-take_bytes-in-Bytes-clause-stops : goal.returns-in_err-take_bytes-in-Bytes-clause-stops
returns-in_err-take_bytes-in-Bytes-clause-stops g c =
    let known = g.F.Files.known in
    on_memory _ _ c.from_residual.ensures.1
    (bytes_stops ItemError.OutOfMemory c.args.item c.args.self.now c.take_bytes.new.self (known c.args.files.now) (known c.take_bytes.new.files) c.in-Bytes.bytes c.in-Bytes.is refl
    (subst (λ (b : List ℕ). HasHalted Line b c.args.self.now c.take_bytes.new.self (known c.args.files.now) (known c.take_bytes.new.files)) c.as_slice-in-Bytes.ensures c.in_err-take_bytes-in-Bytes.ensures.err))

pub returns-in-Step-clause-goes : goal.returns-in-Step-clause-goes
returns-in-Step-clause-goes g c =
    let known = g.F.Files.known c.args.files.now in
    step_goes c.args.item c.args.self.now c.step.new.self known c.in-Step.actor c.in-Step.count _ c.in-Step.is (c.in_ok-step-in-Step.ensures.ok known)

pub returns-in_err-step-in-Step-clause-stops : goal.returns-in_err-step-in-Step-clause-stops
returns-in_err-step-in-Step-clause-stops g c =
    on_memory _ _ c.from_residual-in_err-step-in-Step.ensures.1
    (quiet_stops ItemError.OutOfMemory c.args.item (Item.Step c.in-Step.actor c.in-Step.count) c.args.self.now (record c.args.self.now { machine = c.step.new.self }) (g.F.Files.known c.args.files.now) c.in-Step.is refl (λ file. file)
    (ap (λ (l : LiveMachine). record c.args.self.now { machine = l }) c.in_err-step-in-Step.ensures.err) (λ m files. files))

pub returns-in-Api-clause-goes : goal.returns-in-Api-clause-goes
returns-in-Api-clause-goes g c =
    let known = g.F.Files.known in
    let same : sent c.as_slice-in-Api.result.now c.as_slice-in-Api-2.result.now c.as_slice-in-Api-3.result.now ≡ sent c.in-Api.method c.in-Api.path c.in-Api.body
    = ap (λ (b : List ℕ). sent b c.as_slice-in-Api-2.result.now c.as_slice-in-Api-3.result.now) c.as_slice-in-Api.ensures
    ∙ (ap (λ (b : List ℕ). sent c.in-Api.method b c.as_slice-in-Api-3.result.now) c.as_slice-in-Api-2.ensures
    ∙ ap (λ (b : List ℕ). sent c.in-Api.method c.in-Api.path b) c.as_slice-in-Api-3.ensures) in
    api_goes c.args.item c.args.self.now c.take_request.new.self (known c.args.files.now) (known c.take_request.new.files) c.in-Api.method c.in-Api.path c.in-Api.body c.in_ok-take_request-in-Api.field-0 c.in-Api.is
    (subst (λ (b : List ℕ). HasTalked Line (on c.args.self.now b) c.take_request.new.self c.in_ok-take_request-in-Api.field-0 (known c.args.files.now) (known c.take_request.new.files)) same c.in_ok-take_request-in-Api.ensures.ok)

pub returns-in_err-take_request-in-Api-clause-stops : goal.returns-in_err-take_request-in-Api-clause-stops
returns-in_err-take_request-in-Api-clause-stops g c =
    let known = g.F.Files.known in
    let same : sent c.as_slice-in-Api.result.now c.as_slice-in-Api-2.result.now c.as_slice-in-Api-3.result.now ≡ sent c.in-Api.method c.in-Api.path c.in-Api.body
    = ap (λ (b : List ℕ). sent b c.as_slice-in-Api-2.result.now c.as_slice-in-Api-3.result.now) c.as_slice-in-Api.ensures
    ∙ (ap (λ (b : List ℕ). sent c.in-Api.method b c.as_slice-in-Api-3.result.now) c.as_slice-in-Api-2.ensures
    ∙ ap (λ (b : List ℕ). sent c.in-Api.method c.in-Api.path b) c.as_slice-in-Api-3.ensures) in
    on_memory _ _ c.from_residual-in_err-take_request-in-Api.ensures.1
    (api_stops ItemError.OutOfMemory c.args.item c.args.self.now c.take_request.new.self (known c.args.files.now) (known c.take_request.new.files) c.in-Api.method c.in-Api.path c.in-Api.body c.in-Api.is refl
    (subst (λ (b : List ℕ). HasHalted Line b c.args.self.now c.take_request.new.self (known c.args.files.now) (known c.take_request.new.files)) same c.in_err-take_request-in-Api.ensures.err))

pub returns-in-Reply-clause-goes : goal.returns-in-Reply-clause-goes
returns-in-Reply-clause-goes g c =
    let known = g.F.Files.known c.args.files.now in
    reply_goes c.args.item c.args.self.now c.reply.new.self known c.in-Reply.actor c.in-Reply.reply _ c.in-Reply.is (c.in_ok-reply-in-Reply.ensures.ok known)

pub returns-in_err-reply-in-Reply-clause-stops : goal.returns-in_err-reply-in-Reply-clause-stops
returns-in_err-reply-in-Reply-clause-stops g c =
    on_memory _ _ c.from_residual-in_err-reply-in-Reply.ensures.1
    (quiet_stops ItemError.OutOfMemory c.args.item (Item.Reply c.in-Reply.actor c.in-Reply.reply) c.args.self.now (record c.args.self.now { machine = c.reply.new.self }) (g.F.Files.known c.args.files.now) c.in-Reply.is refl (λ file. file)
    (ap (λ (l : LiveMachine). record c.args.self.now { machine = l }) c.in_err-reply-in-Reply.ensures.err) (λ m files. files))

pub returns-in-Console-clause-goes : goal.returns-in-Console-clause-goes
returns-in-Console-clause-goes g c =
    let known = g.F.Files.known c.args.files.now in
    console_goes c.args.item c.args.self.now c.take_console.new.self known _ c.in-Console.is (c.in_ok-take_console-in-Console.ensures.ok known)

pub returns-in_err-take_console-in-Console-clause-stops : goal.returns-in_err-take_console-in-Console-clause-stops
returns-in_err-take_console-in-Console-clause-stops g c =
    on_memory _ _ c.from_residual-in_err-take_console-in-Console.ensures.1
    (quiet_stops ItemError.OutOfMemory c.args.item Item.Console c.args.self.now (record c.args.self.now { machine = c.take_console.new.self }) (g.F.Files.known c.args.files.now) c.in-Console.is refl (λ file. file)
    (ap (λ (l : LiveMachine). record c.args.self.now { machine = l }) c.in_err-take_console-in-Console.ensures.err) (λ m files. files))

pub returns-in-Register-clause-goes : goal.returns-in-Register-clause-goes
returns-in-Register-clause-goes g c =
    let known = g.F.Files.known c.args.files.now in
    shown_goes c.args.item _ c.args.self.now known _ c.in-Register.is (refl, refl)
    (λ m here. (refl, c.in_ok-register-in-Register.ensures known m here))

pub returns-in_err-register-in-Register-clause-stops : goal.returns-in_err-register-in-Register-clause-stops
returns-in_err-register-in-Register-clause-stops g c =
    on_memory _ _ c.from_residual-in_err-register-in-Register.ensures.1
    (quiet_stops ItemError.OutOfMemory c.args.item _ c.args.self.now c.args.self.now (g.F.Files.known c.args.files.now) c.in-Register.is refl (λ file. file) refl (λ m files. files))

pub returns-clause-goes : goal.returns-clause-goes
returns-clause-goes g c =
    let known = g.F.Files.known c.args.files.now in
    shown_goes c.args.item _ c.args.self.now known _ c.in-Memory.is (refl, refl)
    (λ m here. (refl, c.in_ok-memory-in-Memory.ensures known m here))

pub returns-in_err-memory-in-Memory-clause-stops : goal.returns-in_err-memory-in-Memory-clause-stops
returns-in_err-memory-in-Memory-clause-stops g c =
    on_memory _ _ c.from_residual-in_err-memory-in-Memory.ensures.1
    (quiet_stops ItemError.OutOfMemory c.args.item _ c.args.self.now c.args.self.now (g.F.Files.known c.args.files.now) c.in-Memory.is refl (λ file. file) refl (λ m files. files))
