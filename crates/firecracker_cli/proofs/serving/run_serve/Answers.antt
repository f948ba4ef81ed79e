use Rattle.std.proofs.Common.{ℕ, List, inl, refl, subst}
use Rattle.vm_types.specs.declared.exit.Exit.{Exit}
use Rattle.vm_outside.specs.Known.{FilesKnown}
use Rattle.flat_machine.specs.Machine.{new_machine}
use Rattle.monitor_core.specs.State.{IsMonitor}
use Rattle.firecracker_cli.proofs.Beginnings.{nothing_served}
use Rattle.firecracker_cli.proofs.serving.run_serve.Goals as goal

pub returns-in_default-clause-so_far : goal.returns-in_default-clause-so_far
returns-in_default-clause-so_far g c = λ tells. nothing_served _ _ Exit.OutOfMemory _ (inl (refl, record { path = refl; took = refl })) refl refl refl refl refl

pub returns-in-Ok-new-clause-so_far : goal.returns-in-Ok-new-clause-so_far
returns-in-Ok-new-clause-so_far g c = λ tells.
    c.serve_on.ensures.so_far tells
    (subst (λ (i : List ℕ). (known : FilesKnown) → IsMonitor c.in-Ok-new.monitor known (new_machine i known.saved known.calls))
    c.in-Ok.ensures c.in-Ok-new.ensures)

pub returns-in-Err-clause-so_far : goal.returns-in-Err-clause-so_far
returns-in-Err-clause-so_far g c = λ tells. nothing_served _ _ Exit.OutOfMemory _ (inl (refl, record { path = refl; took = refl })) refl refl refl refl refl
