use Rattle.std.proofs.Common.{rules}
use Rattle.boot_loader.proofs.loading.do_fit.Goals as goal

pub returns-then-do_loads_fit : goal.returns-then-do_loads_fit
returns-then-do_loads_fit c = search rules
