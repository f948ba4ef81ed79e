use Rattle.http_front.proofs.Judging.{window_of}
use Rattle.http_front.proofs.rules.window.Goals as goal

pub returns : goal.returns
returns c = window_of c.args.stream.now c.min.result c.min.ensures
