-- What may still come where an instruction is begun or not.
use Rattle.std.specs.Prelude.{◌≡◌, List, ◌++◌, if◌then◌else◌}
use Rattle.vm_types.specs.declared.op.Op.{Op}
use Rattle.vm_types.specs.declared.reply.Reply.{Reply}
use Rattle.vm_types.specs.declared.entry.Step.{Step}
use Rattle.rv_supervisor.specs.declared.regs.Regs.{Regs}
use Rattle.rv_doing.specs.Doing.{Doing, Ends, Asks}
use Rattle.hart_trace.specs.Traces.{Completes, Lead, joined, opening, going, is_full}

-- the rest of what is begun, and then whole groups
abbrev pub Rest : Doing → List Step → Regs → Type 0
Rest d steps end =
    (first : List Step) × (groups : List (List Step)) × (after : Regs)
    × Completes d first after × Lead after groups end × (first ++ joined groups ≡ steps)

abbrev pub doing_wants : Doing → Op
doing_wants (Ends r) = opening r.turn r
doing_wants (Asks op ends) = op

abbrev pub doing_next : Doing → Reply → Doing
doing_next (Ends r) reply = going r.turn r reply
doing_next (Asks op ends) reply = if is_full reply then Asks op ends else Ends (ends reply)
