-- Each is a lemma on the tree.
use Rattle.dev_core.proofs.Inside.{broken_keeps, collect_all_keeps, past_inside, put_all_keeps, returned_keeps}
use Rattle.dev_core.proofs.law.pieces_stay.Goals as goal

pub returns-clause-past : goal.returns-clause-past
returns-clause-past c = past_inside

pub returns-clause-collect : goal.returns-clause-collect
returns-clause-collect c = collect_all_keeps

pub returns-clause-put : goal.returns-clause-put
returns-clause-put c = put_all_keeps

pub returns-clause-returned : goal.returns-clause-returned
returns-clause-returned c = returned_keeps

pub returns-clause-broken : goal.returns-clause-broken
returns-clause-broken c = broken_keeps
