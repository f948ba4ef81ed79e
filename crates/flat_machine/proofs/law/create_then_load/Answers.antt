use Rattle.flat_machine.proofs.Carries.{finds_of, loaded_of}
use Rattle.flat_machine.proofs.law.create_then_load.Goals as goal

pub returns-clause-finds : goal.returns-clause-finds
returns-clause-finds c = finds_of

pub returns-clause-loads : goal.returns-clause-loads
returns-clause-loads c = λ m n k p g it load copy full there differ of whole creates names same loads.
    loaded_of m n k g it load copy full there differ of whole creates names same p loads
