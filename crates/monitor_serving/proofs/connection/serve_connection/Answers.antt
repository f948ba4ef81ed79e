use Rattle.monitor_serving.proofs.Settling.{breaks_idle}
use Rattle.monitor_serving.proofs.connection.serve_connection.Goals as goal

pub returns-in_default-clause-served : goal.returns-in_default-clause-served
returns-in_default-clause-served g c = λ tell tells. breaks_idle _
