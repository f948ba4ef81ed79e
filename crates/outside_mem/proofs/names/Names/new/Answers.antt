use Rattle.std.proofs.Common.{of_calls}
use Rattle.outside_mem.proofs.Naming.{all_nothing}
use Rattle.outside_mem.proofs.names.Names.new.Goals as goal

pub returns : goal.returns
returns c = all_nothing _ _ _ _ c.from_fn.ensures.items (search of_calls)
