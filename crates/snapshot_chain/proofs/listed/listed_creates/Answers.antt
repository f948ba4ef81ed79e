use Rattle.snapshot_chain.proofs.Listing.{are_creates, diff_files, full_files}
use Rattle.snapshot_chain.proofs.listed.listed_creates.Goals as goal

pub returns-clause-chain : goal.returns-clause-chain
returns-clause-chain c = are_creates

pub returns-clause-full : goal.returns-clause-full
returns-clause-full c = full_files

pub returns-clause-diff : goal.returns-clause-diff
returns-clause-diff c = λ s memory state parent of_memory of_state. diff_files s memory state of_memory of_state parent
