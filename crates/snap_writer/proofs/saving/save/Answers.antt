use Rattle.std.proofs.Common.{◌∷◌, ◌++◌}
use Rattle.gate_file.specs.Gate.{open_calls}
use Rattle.gate_file.specs.Runs.{RunsPart}
use Rattle.gate_file.proofs.Steps.{on_err, part_more, part_then, runs_then, there_after}
use Rattle.vm_outside.specs.Known.{Tells}
use Rattle.snap_writer.specs.Create.{memory_calls}
use Rattle.snap_writer.specs.Saving.{saving_calls}
use Rattle.snap_writer.proofs.saving.save.Goals as goal

pub returns-in_err-fill_memory-clause-begun : goal.returns-in_err-fill_memory-clause-begun
returns-in_err-fill_memory-clause-begun g c =
    let known = g.F.Files.known in
    let name = c.args.name.now in let head = c.args.head.now in let bytes = c.args.pages.now in
    let part : Tells (known c.args.files.now).health → RunsPart name (saving_calls name head bytes) (known c.args.files.now) (known c.fill_memory.new.files) = λ t.
    part_more name (memory_calls name head bytes) (open_calls name (head ++ bytes)) _ _ (c.in_err-fill_memory.ensures.begun t) in
    on_err _ _ part

pub returns-in_err-open_file-clause-begun : goal.returns-in_err-open_file-clause-begun
returns-in_err-open_file-clause-begun g c =
    let known = g.F.Files.known in
    let name = c.args.name.now in let head = c.args.head.now in let bytes = c.args.pages.now in
    let part : Tells (known c.args.files.now).health → RunsPart name (saving_calls name head bytes) (known c.args.files.now) (known c.open_file.new.files) = λ t.
    let told = c.fill_memory.ensures.called.lasts.still t in
    let first = c.in_ok-fill_memory.ensures.filled t in
    part_then name (memory_calls name head bytes) (open_calls name (head ++ bytes)) (0 ∷ head ++ bytes) _ _ _ first
    (c.in_err-open_file.ensures.begun told _ (there_after name (memory_calls name head bytes) (0 ∷ head ++ bytes) _ _ first)) in
    on_err _ _ part

pub returns-clause-saved : goal.returns-clause-saved
returns-clause-saved g c = λ t.
    let name = c.args.name.now in let head = c.args.head.now in let bytes = c.args.pages.now in
    let told = c.fill_memory.ensures.called.lasts.still t in
    let first = c.in_ok-fill_memory.ensures.filled t in
    runs_then name (memory_calls name head bytes) (open_calls name (head ++ bytes)) (0 ∷ head ++ bytes) (1 ∷ head ++ bytes) _ _ _ first
    (c.in_ok-open_file.ensures.opened told _ (there_after name (memory_calls name head bytes) (0 ∷ head ++ bytes) _ _ first))
