use Rattle.snapshot_chain.proofs.Loaded.{allows_last, finds_last, loads_last, some_merge}
use Rattle.snapshot_chain.proofs.law.merged_then_load.Goals as goal

pub returns-clause-merges : goal.returns-clause-merges
returns-clause-merges c = some_merge

pub returns-clause-loads : goal.returns-clause-loads
returns-clause-loads c = λ first last savings base merged files k p load is led few text texts merges memory_there state_there loads.
    loads_last first last savings base files is led few text texts merged merges k p load memory_there state_there loads

pub returns-clause-finds : goal.returns-clause-finds
returns-clause-finds c = λ first last savings base merged files saved names is led few text texts merges memory_there state_there.
    finds_last first last savings base files is led few text texts merged merges saved names memory_there state_there

pub returns-clause-answered : goal.returns-clause-answered
returns-clause-answered c = λ first last savings base merged files k given load is led few text texts merges memory_there state_there asks.
    allows_last first last savings base files is led few text texts merged merges k given load memory_there state_there asks
