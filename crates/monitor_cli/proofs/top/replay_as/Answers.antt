use Rattle.std.proofs.Common.{List, ℕ, refl, subst}
use Rattle.flat_machine.specs.Machine.{new_machine}
use Rattle.monitor_cli.specs.Known.{all_known}
use Rattle.monitor_cli.specs.Lines.{BeforeLast}
use Rattle.monitor_cli.proofs.Commanding.{nothing_begun}
use Rattle.monitor_cli.proofs.top.replay_as.Goals as goal

pub returns-in-Ok-clause-so_far : goal.returns-in-Ok-clause-so_far
returns-in-Ok-clause-so_far g c = λ told.
    let old = c.args.out.now in
    let new = c.replay.new.out in
    subst (λ (id : List ℕ). BeforeLast c.replay.result (new_machine id (g.F.Files.known old.files).saved (g.F.Files.known old.files).calls) (all_known (g.I.Source.known old.source) (g.O.Sink.known old.sink) (g.F.Files.known old.files))
    (g.I.Source.known new.source).left (g.O.Sink.known new.sink) (g.F.Files.known new.files))
    c.in-Ok.ensures (c.replay.ensures.so_far told)

pub returns-in-Err-clause-so_far : goal.returns-in-Err-clause-so_far
returns-in-Err-clause-so_far g c = λ told. nothing_begun _ _ (record { saved_is = refl; calls_is = refl })
