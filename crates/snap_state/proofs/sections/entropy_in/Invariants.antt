use Rattle.std.proofs.Common.{◌≡◌, drop}
use Rattle.snap_state.specs.Sections.{entropy_in}
use Rattle.snap_state.proofs.sections.entropy_in.Given as goal

abbrev pub invariant-loop-section : goal.invariant-loop-section
invariant-loop-section l = entropy_in (drop l.section-index l.sections) ≡ entropy_in l.sections
