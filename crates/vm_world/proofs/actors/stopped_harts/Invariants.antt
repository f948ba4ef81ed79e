use Rattle.std.proofs.Common.{◌≡◌, replicate}
use Rattle.hart_trace.specs.States.{fresh}
use Rattle.hart_trace.specs.Stopped.{stopped_regs}
use Rattle.vm_world.proofs.actors.stopped_harts.Given as goal

abbrev pub invariant-loop-number : goal.invariant-loop-number
invariant-loop-number l = l.harts.items ≡ replicate l._number (fresh stopped_regs)
