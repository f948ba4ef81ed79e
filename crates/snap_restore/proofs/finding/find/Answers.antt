use Rattle.snap_restore.proofs.Both.{both_good, memory_err, state_err}
use Rattle.snap_restore.proofs.finding.find.Goals as goal

pub returns-in-Err-clause-finds : goal.returns-in-Err-clause-finds
returns-in-Err-clause-finds g c = λ told.
    state_err (g.F.Files.known c.args.files.now).saved c.args.names.now c.as_str.result.now c.in-Err.why c.as_str.ensures (c.in-Err.ensures.finds told)

pub returns-in-Err-find_memory-clause-finds : goal.returns-in-Err-find_memory-clause-finds
returns-in-Err-find_memory-clause-finds g c = λ told.
    let known = g.F.Files.known in
    memory_err (known c.args.files.now).saved (known c.find_state.new.files).saved c.args.names.now c.as_str.result.now c.as_str-memory.result.now
    c.in-Ok.saved.identity c.in-Ok.saved.copy c.in-Err-find_memory.why c.as_str.ensures c.as_str-memory.ensures (c.find_state.ensures.same told).saved
    (c.in-Ok.ensures.finds told) (c.in-Err-find_memory.ensures.finds (c.find_state.ensures.lasts.still told))

pub returns-in-Ok-load_pages-clause-finds : goal.returns-in-Ok-load_pages-clause-finds
returns-in-Ok-load_pages-clause-finds g c = λ told.
    let known = g.F.Files.known in
    let mid = c.find_state.ensures.lasts.still told in
    both_good (known c.args.files.now).saved (known c.find_state.new.files).saved (known c.find_memory.new.files).saved c.args.names.now
    c.as_str.result.now c.as_str-memory.result.now c.in-Ok.saved.identity c.in-Ok.saved.copy _ c.as_str.ensures c.as_str-memory.ensures
    (c.find_state.ensures.same told).saved (c.find_memory.ensures.same mid).saved (c.in-Ok.ensures.finds told) (c.in_default.ensures.finds mid)
    (c.in-Ok-load_pages.ensures.bytes (c.find_memory.ensures.lasts.still mid))
