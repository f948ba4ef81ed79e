use Rattle.std.proofs.Common.{◌∙◌, ◌∷◌, ap}
use Rattle.snap_diff.specs.Headers.{behind_gate}
use Rattle.snap_diff.proofs.Starts.{gated, start_is, start_size, start_then}
use Rattle.snap_diff.proofs.header.DiffHeader.encode_behind_gate.Goals as goal

pub returns-clause-bytes : goal.returns-clause-bytes
returns-clause-bytes c =
    start_is c.args.self.now c.args.runs.now c.write_behind_gate.new.out.items c.write_items.new.out.items
    (c.in_ok-write_behind_gate.ensures.bytes ∙ ap (behind_gate.puts c.args.self.now) c.new-start.ensures.items) c.in_ok-write_items.ensures.bytes

pub returns-clause-size : goal.returns-clause-size
returns-clause-size c =
    start_size c.args.self.now c.args.runs.now c.write_items.new.out.items c.requires.count
    (start_is c.args.self.now c.args.runs.now c.write_behind_gate.new.out.items c.write_items.new.out.items
    (c.in_ok-write_behind_gate.ensures.bytes ∙ ap (behind_gate.puts c.args.self.now) c.new-start.ensures.items) c.in_ok-write_items.ensures.bytes)

pub returns-clause-file : goal.returns-clause-file
returns-clause-file c = λ stored size full.
    start_then c.args.self.now c.args.runs.now (1 ∷ c.write_items.new.out.items) stored c.requires.version
    (gated c.args.self.now c.in_ok-write_behind_gate.ensures.fits) c.requires.names
    c.in_ok-write_items.ensures.fit c.requires.count c.requires.table
    (start_is c.args.self.now c.args.runs.now c.write_behind_gate.new.out.items c.write_items.new.out.items
    (c.in_ok-write_behind_gate.ensures.bytes ∙ ap (behind_gate.puts c.args.self.now) c.new-start.ensures.items) c.in_ok-write_items.ensures.bytes)
    size full
