use Rattle.outside_real.proofs.Untold.{untold_any}
use Rattle.outside_real.proofs.output.OutputSink.TheImpl.Goals as goal

pub write-tells : goal.write-tells
write-tells g x c = record { bound = search; some = search; bytes = untold_any; called = search }
