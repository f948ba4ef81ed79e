use Rattle.vm_outside.specs.Known.{Tells}
use Rattle.gate_file.proofs.Steps.{on_err}
use Rattle.snap_writer.specs.Create.{CreatesPart}
use Rattle.snap_writer.proofs.Both.{memory_fails, state_fails, memory_closed, memory_stays_closed, state_closed, state_stays_closed, created}
use Rattle.snap_writer.proofs.creating.write_files.Goals as goal

pub returns-in_err-fill_memory-clause-begun : goal.returns-in_err-fill_memory-clause-begun
returns-in_err-fill_memory-clause-begun g c =
    let known = g.F.Files.known in
    let memory = c.args.memory.now in let head = c.args.head.now in let bytes = c.args.pages.now in let state = c.args.state.now in let body = c.args.body.now in
    let part : Tells (known c.args.files.now).health → CreatesPart memory head bytes state body (known c.args.files.now) (known c.fill_memory.new.files) = λ t.
    memory_fails memory head bytes state body c.requires.differ _ _ (c.in_err-fill_memory.ensures.begun t) in
    on_err _ _ part

pub returns-in_err-fill_state-clause-begun : goal.returns-in_err-fill_state-clause-begun
returns-in_err-fill_state-clause-begun g c =
    let known = g.F.Files.known in
    let memory = c.args.memory.now in let head = c.args.head.now in let bytes = c.args.pages.now in let state = c.args.state.now in let body = c.args.body.now in
    let part : Tells (known c.args.files.now).health → CreatesPart memory head bytes state body (known c.args.files.now) (known c.fill_state.new.files) = λ t.
    let told = c.fill_memory.ensures.called.lasts.still t in
    state_fails memory head bytes state body c.requires.differ _ _ (c.in_ok-fill_memory.ensures.filled t) _ (c.in_err-fill_state.ensures.begun told) in
    on_err _ _ part

pub returns-in_err-open_file-clause-begun : goal.returns-in_err-open_file-clause-begun
returns-in_err-open_file-clause-begun g c =
    let known = g.F.Files.known in
    let memory = c.args.memory.now in let head = c.args.head.now in let bytes = c.args.pages.now in let state = c.args.state.now in let body = c.args.body.now in
    let part : Tells (known c.args.files.now).health → CreatesPart memory head bytes state body (known c.args.files.now) (known c.open_file.new.files) = λ t.
    let told = c.fill_memory.ensures.called.lasts.still t in
    let told2 = c.fill_state.ensures.called.lasts.still told in
    let first = c.in_ok-fill_memory.ensures.filled t in
    let second = c.in_ok-fill_state.ensures.filled told in
    memory_stays_closed memory head bytes state body c.requires.differ _ _ first _ second _
    (c.in_err-open_file.ensures.begun told2 _ (memory_closed memory head bytes state body c.requires.differ _ _ first _ second)) in
    on_err _ _ part

pub returns-in_err-open_file-2-clause-begun : goal.returns-in_err-open_file-2-clause-begun
returns-in_err-open_file-2-clause-begun g c =
    let known = g.F.Files.known in
    let memory = c.args.memory.now in let head = c.args.head.now in let bytes = c.args.pages.now in let state = c.args.state.now in let body = c.args.body.now in
    let part : Tells (known c.args.files.now).health → CreatesPart memory head bytes state body (known c.args.files.now) (known c.open_file-2.new.files) = λ t.
    let told = c.fill_memory.ensures.called.lasts.still t in
    let told2 = c.fill_state.ensures.called.lasts.still told in
    let told3 = c.open_file.ensures.called.lasts.still told2 in
    let first = c.in_ok-fill_memory.ensures.filled t in
    let second = c.in_ok-fill_state.ensures.filled told in
    let third = c.in_ok-open_file.ensures.opened told2 _ (memory_closed memory head bytes state body c.requires.differ _ _ first _ second) in
    state_stays_closed memory head bytes state body c.requires.differ _ _ first _ second _ third _
    (c.in_err-open_file-2.ensures.begun told3 _ (state_closed memory head bytes state body c.requires.differ _ _ first _ second _ third)) in
    on_err _ _ part

pub returns-clause-created : goal.returns-clause-created
returns-clause-created g c = λ t.
    let memory = c.args.memory.now in let head = c.args.head.now in let bytes = c.args.pages.now in let state = c.args.state.now in let body = c.args.body.now in
    let told = c.fill_memory.ensures.called.lasts.still t in
    let told2 = c.fill_state.ensures.called.lasts.still told in
    let told3 = c.open_file.ensures.called.lasts.still told2 in
    let first = c.in_ok-fill_memory.ensures.filled t in
    let second = c.in_ok-fill_state.ensures.filled told in
    let third = c.in_ok-open_file.ensures.opened told2 _ (memory_closed memory head bytes state body c.requires.differ _ _ first _ second) in
    created memory head bytes state body c.requires.differ _ _ first _ second _ third _
    (c.in_ok-open_file-2.ensures.opened told3 _ (state_closed memory head bytes state body c.requires.differ _ _ first _ second _ third))
