use Rattle.std.proofs.Common.{arith}
use Rattle.boot_loader.specs.Loading.{loads_of}
use Rattle.boot_loader.proofs.Filled.{booted}
use Rattle.boot_loader.proofs.booting.boot.Goals as goal

pub load-requires-clause-pages : goal.load-requires-clause-pages
load-requires-clause-pages c =
    let size = c.in-Ok.ensures.count in
    omega (arith, size, c.requires)

pub returns-in-Ok-load-clause-few : goal.returns-in-Ok-load-clause-few
returns-in-Ok-load-clause-few c =
    let size = c.in-Ok.ensures.count in
    omega (arith, size, c.requires, c.load.ensures.pages)

pub returns-in-Ok-load-clause-memory : goal.returns-in-Ok-load-clause-memory
returns-in-Ok-load-clause-memory c =
    booted _ c.args.mem_size_mib _ (loads_of c.args.loads.now) _ (omega (arith, c.requires)) c.in-Ok.ensures.memory c.in-Ok-load.ensures.memory
