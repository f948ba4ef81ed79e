-- Faults that are named, and counts that rose.
use Rattle.std.proofs.Common.{◌≡◌, inl, inr, true, sym, ◌∙◌, subst, arith}
use Rattle.vm_types.specs.Causes.{Rose}
use Rattle.vm_types.specs.declared.exit.Exit.{Exit}
use Rattle.vm_types.specs.declared.exit.Object.{Object}
use Rattle.vm_types.specs.declared.exit.Object.TheVariants as object
use Rattle.vm_outside.specs.Known.{Health, Lasts}
use Rattle.vm_outside.proofs.Passing.{later_rose, rose_later}
use Rattle.monitor_serving.specs.Connections.{EndCause}
use Rattle.monitor_serving.specs.declared.served.Served.{Served}
use Rattle.monitor_serving.specs.declared.served.Served.TheVariants as served
use Rattle.firecracker_cli.specs.Serving.{EndsWell, NoneFailed, ServeCause, ServeKnown, ServersLast}
use Rattle.firecracker_cli.specs.Closing.{CloseFault, EndsOr}
use Rattle.firecracker_cli.specs.SoFar.{BeginCause, exit_of}

-- a call of an object that had no part in it
none_rose : Rose 0 0 → ⊥
none_rose rose = omega (arith, rose)

abbrev pub at_rest : Health
at_rest = record { tells = true; faults = 0 }

-- the first call that failed, or one behind it
pub open_told : (o : Object) (before now : ServeKnown)
    → ((words : Health) → BeginCause o before.hosts.slices.trace.health now.hosts.slices.trace.health words words before.listener.health now.listener.health)
    → ServeCause (Exit.Fault o) before now
open_told object.Trace before now cause = cause at_rest
open_told object.Listener before now cause = cause at_rest
open_told object.Words before now cause = absurd (none_rose (cause at_rest))
open_told object.Source before now cause = absurd (cause at_rest)
open_told object.Sink before now cause = absurd (cause at_rest)
open_told object.Files before now cause = absurd (cause at_rest)

pub draw_told : (o : Object) (before now : ServeKnown) (trace : Health) → Lasts before.hosts.slices.trace.health trace
    → ((listener : Health) → BeginCause o trace now.hosts.slices.trace.health before.words.health now.words.health listener listener)
    → ServeCause (Exit.Fault o) before now
draw_told object.Trace before now trace lasts cause =
    later_rose before.hosts.slices.trace.health.faults trace.faults now.hosts.slices.trace.health.faults lasts.later (cause at_rest)
draw_told object.Words before now trace lasts cause = cause at_rest
draw_told object.Listener before now trace lasts cause = absurd (none_rose (cause at_rest))
draw_told object.Source before now trace lasts cause = absurd (cause at_rest)
draw_told object.Sink before now trace lasts cause = absurd (cause at_rest)
draw_told object.Files before now trace lasts cause = absurd (cause at_rest)

-- what was told once
pub still_told : (exit : Exit) (before mid now : ServeKnown) → ServersLast mid now → ServeCause exit before mid
    → ServeCause exit before now
still_told (Exit.Fault object.Trace) before mid now lasts cause =
    rose_later before.hosts.slices.trace.health.faults mid.hosts.slices.trace.health.faults now.hosts.slices.trace.health.faults cause
    lasts.hosts.trace.later
still_told (Exit.Fault object.Sink) before mid now lasts cause =
    rose_later before.hosts.slices.sink.health.faults mid.hosts.slices.sink.health.faults now.hosts.slices.sink.health.faults cause
    lasts.hosts.sink.later
still_told (Exit.Fault object.Listener) before mid now lasts cause =
    rose_later before.listener.health.faults mid.listener.health.faults now.listener.health.faults cause lasts.listener.later
still_told (Exit.Fault object.Words) before mid now lasts cause =
    rose_later before.words.health.faults mid.words.health.faults now.words.health.faults cause lasts.words.later
still_told (Exit.Fault object.Source) before mid now lasts cause = absurd cause
still_told (Exit.Fault object.Files) before mid now lasts cause = absurd cause
still_told Exit.Done before mid now lasts cause = tt
still_told Exit.Usage before mid now lasts cause = absurd cause
still_told (Exit.Script line) before mid now lasts cause = absurd cause
still_told Exit.OutOfMemory before mid now lasts cause = tt

-- a fault with which serving ended
end_told : (end : Served) (before old now : ServeKnown) → ServersLast before old
    → EndCause end old.hosts now.hosts old.listener.health now.listener.health → ServeCause (exit_of end) before now
end_told (served.Fault object.Trace) before old now lasts cause =
    later_rose before.hosts.slices.trace.health.faults old.hosts.slices.trace.health.faults now.hosts.slices.trace.health.faults
    lasts.hosts.trace.later cause
end_told (served.Fault object.Sink) before old now lasts cause =
    later_rose before.hosts.slices.sink.health.faults old.hosts.slices.sink.health.faults now.hosts.slices.sink.health.faults
    lasts.hosts.sink.later cause
end_told (served.Fault object.Listener) before old now lasts cause =
    later_rose before.listener.health.faults old.listener.health.faults now.listener.health.faults lasts.listener.later cause
end_told (served.Fault object.Source) before old now lasts cause = absurd cause
end_told (served.Fault object.Files) before old now lasts cause = absurd cause
end_told (served.Fault object.Words) before old now lasts cause = absurd cause
end_told served.Ended before old now lasts cause = tt
end_told served.Off before old now lasts cause = tt
end_told served.OutOfMemory before old now lasts cause = tt

fault_told : (o : Object) (before mid now : ServeKnown) → ServersLast before mid
    → CloseFault o mid.hosts.slices.trace.health now.hosts.slices.trace.health mid.hosts.slices.sink.health now.hosts.slices.sink.health
    → ServeCause (Exit.Fault o) before now
fault_told object.Trace before mid now lasts cause =
    later_rose before.hosts.slices.trace.health.faults mid.hosts.slices.trace.health.faults now.hosts.slices.trace.health.faults
    lasts.hosts.trace.later cause
fault_told object.Sink before mid now lasts cause =
    later_rose before.hosts.slices.sink.health.faults mid.hosts.slices.sink.health.faults now.hosts.slices.sink.health.faults
    lasts.hosts.sink.later cause
fault_told object.Source before mid now lasts cause = absurd cause
fault_told object.Files before mid now lasts cause = absurd cause
fault_told object.Words before mid now lasts cause = absurd cause
fault_told object.Listener before mid now lasts cause = absurd cause

-- how the command ends then
pub close_told : (end : Served) (exit result : Exit) (before old mid now : ServeKnown) → exit ≡ exit_of end → ServersLast before old
    → EndCause end old.hosts mid.hosts old.listener.health mid.listener.health → ServersLast before mid → ServersLast mid now
    → EndsOr exit result mid.hosts.slices.trace.health now.hosts.slices.trace.health mid.hosts.slices.sink.health now.hosts.slices.sink.health
    → ServeCause result before now
close_told end exit result before old mid now same first cause served last (inl is) =
    subst (λ (e : Exit). ServeCause e before now) (sym (is ∙ same))
    (still_told (exit_of end) before mid now last (end_told end before old mid first cause))
close_told end exit result before old mid now same first cause served last (inr (o, is, fault)) =
    subst (λ (e : Exit). ServeCause e before now) (sym is) (fault_told o before mid now served fault)

-- where no count rose
pub ends_well : (exit : Exit) (before now : ServeKnown) → ServeCause exit before now → NoneFailed before now → EndsWell exit
ends_well Exit.Done before now cause kept = tt
ends_well Exit.OutOfMemory before now cause kept = tt
ends_well Exit.Usage before now cause kept = absurd cause
ends_well (Exit.Script line) before now cause kept = absurd cause
ends_well (Exit.Fault object.Trace) before now cause kept = absurd (kept.trace cause)
ends_well (Exit.Fault object.Sink) before now cause kept = absurd (kept.sink cause)
ends_well (Exit.Fault object.Words) before now cause kept = absurd (kept.words cause)
ends_well (Exit.Fault object.Listener) before now cause kept = absurd (kept.listener cause)
ends_well (Exit.Fault object.Source) before now cause kept = absurd cause
ends_well (Exit.Fault object.Files) before now cause kept = absurd cause
