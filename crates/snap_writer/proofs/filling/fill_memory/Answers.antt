use Rattle.std.proofs.Common.{◌≡◌, ◌+◌, ◌++◌, ◌∷◌, length, arith}
use Rattle.std.specs.Int.{div_ceil}
use Rattle.vm_outside.specs.Known.{Tells}
use Rattle.gate_file.specs.Gate.{fill_calls}
use Rattle.gate_file.specs.Runs.{RunsPart}
use Rattle.gate_file.proofs.Steps.{on_err, part_more}
use Rattle.snap_writer.specs.Blocks.{block_size, block_writes}
use Rattle.snap_writer.specs.Create.{memory_writes}
use Rattle.snap_writer.proofs.Runs.{body_fails, body_there, rest_fails, filled}
use Rattle.snap_writer.proofs.filling.fill_memory.Goals as goal

pub returns-in_err-close_file-clause-begun : goal.returns-in_err-close_file-clause-begun
returns-in_err-close_file-clause-begun g c =
    let known = g.F.Files.known in
    let name = c.args.name.now in
    let head = c.args.head.now in
    let bytes = c.args.pages.now in
    let part : Tells (known c.args.files.now).health → RunsPart name (fill_calls name (memory_writes head bytes) (head ++ bytes)) (known c.args.files.now) (known c.close_file.new.files) = λ t.
    part_more name _ _ _ _ (c.in_err-close_file.ensures.begun t) in
    on_err _ _ part

pub returns-in_err-write_at-clause-begun : goal.returns-in_err-write_at-clause-begun
returns-in_err-write_at-clause-begun g c =
    let known = g.F.Files.known in
    let name = c.args.name.now in
    let head = c.args.head.now in
    let bytes = c.args.pages.now in
    let writes = block_writes (1 + length head) (div_ceil (length bytes) block_size) bytes in
    let part : Tells (known c.args.files.now).health → RunsPart name (fill_calls name (memory_writes head bytes) (head ++ bytes)) (known c.args.files.now) (known c.write_at.new.self) = λ t.
    body_fails name head (head ++ bytes) writes _ _ (c.in_ok-close_file.ensures.closed t) _ (c.in_err-write_at.ensures.begun (c.close_file.ensures.called.lasts.still t)) in
    on_err _ _ part

pub returns-in_err-write_pages-clause-begun : goal.returns-in_err-write_pages-clause-begun
returns-in_err-write_pages-clause-begun g c =
    let known = g.F.Files.known in
    let name = c.args.name.now in
    let head = c.args.head.now in
    let bytes = c.args.pages.now in
    let writes = block_writes (1 + length head) (div_ceil (length bytes) block_size) bytes in
    let start : 1 + length head ≡ length (0 ∷ head) = omega arith in
    let part : Tells (known c.args.files.now).health → RunsPart name (fill_calls name (memory_writes head bytes) (head ++ bytes)) (known c.args.files.now) (known c.write_pages.new.files) = λ t.
    let closed = c.close_file.ensures.called.lasts.still t in
    let wrote = c.write_at.ensures.called.lasts.still closed in
    let first = c.in_ok-close_file.ensures.closed t in
    let second = c.in_ok-write_at.ensures.written closed in
    rest_fails name head (head ++ bytes) writes _ _ first _ second _
    (c.in_err-write_pages.ensures.begun wrote head (body_there name head (head ++ bytes) writes _ _ first _ second) start) in
    on_err _ _ part

pub returns-clause-filled : goal.returns-clause-filled
returns-clause-filled g c = λ t.
    let name = c.args.name.now in
    let head = c.args.head.now in
    let bytes = c.args.pages.now in
    let writes = block_writes (1 + length head) (div_ceil (length bytes) block_size) bytes in
    let start : 1 + length head ≡ length (0 ∷ head) = omega arith in
    let closed = c.close_file.ensures.called.lasts.still t in
    let wrote = c.write_at.ensures.called.lasts.still closed in
    let first = c.in_ok-close_file.ensures.closed t in
    let second = c.in_ok-write_at.ensures.written closed in
    filled name head (head ++ bytes) writes _ _ first _ second _ (c.in_ok-write_pages.ensures.filled wrote head (body_there name head (head ++ bytes) writes _ _ first _ second) start)
