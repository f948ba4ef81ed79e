use Rattle.std.proofs.Common.{ap, ◌∙◌}
use Rattle.snap_memory.specs.Headers.{behind_gate}
use Rattle.snap_memory.proofs.Fronts.{encoded, length-encoded, written_is}
use Rattle.snap_memory.proofs.header.MemHeader.encode_behind_gate.Goals as goal

pub returns-clause-begins : goal.returns-clause-begins
returns-clause-begins c =
    encoded c.args.self.now c.write_behind_gate.new.out.items c.in_ok-write_behind_gate.ensures.fits c.requires
    (c.in_ok-write_behind_gate.ensures.bytes ∙ ap (behind_gate.puts c.args.self.now) c.new-behind.ensures.items)

pub returns-clause-size : goal.returns-clause-size
returns-clause-size c =
    length-encoded c.args.self.now c.write_behind_gate.new.out.items c.in_ok-write_behind_gate.ensures.fits
    (c.in_ok-write_behind_gate.ensures.bytes ∙ ap (behind_gate.puts c.args.self.now) c.new-behind.ensures.items)

pub returns-clause-bytes : goal.returns-clause-bytes
returns-clause-bytes c =
    written_is c.args.self.now c.write_behind_gate.new.out.items
    (c.in_ok-write_behind_gate.ensures.bytes ∙ ap (behind_gate.puts c.args.self.now) c.new-behind.ensures.items)
