-- A sink that takes a line.
use Rattle.std.proofs.Common.{inl, inr, ℕ, List, [], take, drop, Result, Ok, Err, take-append-drop, refl}
use Rattle.std.proofs.lemmas.List.{append-nil}
use Rattle.vm_outside.specs.Known.{Called, SinkKnown}
use Rattle.vm_outside.specs.Passing.{TakesAll}
use Rattle.rebase_cli.specs.Command.{TookLine}

pub took_line : {T E : Type 0} (line : List ℕ) (before now : SinkKnown) (result : Result T E) → TakesAll before.taken now.taken result line
    → Called before.health now.health result → TookLine line before now
took_line line before now (Ok value) takes called =
    record { front = line; rest = []; took = takes; parts = append-nil line; cause = inl (refl, called.kept) }
took_line line before now (Err why) takes called =
    record { front = take takes.0 line; rest = drop takes.0 line; took = takes.2; parts = take-append-drop takes.0 line; cause = inr called.failed }
