use Rattle.alike_runs.proofs.Loaded.{loaded_alike}
use Rattle.alike_runs.proofs.law.saved_is_loaded.Goals as goal

pub returns : goal.returns
returns c = loaded_alike
