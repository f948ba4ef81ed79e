-- So do those that are left.
use Rattle.std.proofs.Common.{sym, ap, subst, ◌∙◌}
use Rattle.block_device.specs.Serving.{StayPlaced}
use Rattle.block_device.specs.Working.{Working}
use Rattle.block_device.proofs.Works.{serve_more}
use Rattle.block_device.proofs.work.BlockWork.serve_on.Goals as goal

pub returns-in-None-clause-work : goal.returns-in-None-clause-work
returns-in-None-clause-work c pages which small is =
    serve_more pages which c.args.self.now c.in-Serve.at c.in-Serve.stage c.give.new.stage c.give.new.from c.give.new.to
    small is (sym (ap (λ (w : Working). w.stage) c.self.view_is) ∙ c.in-Serve.is)
    (subst (λ (w : Working). StayPlaced w.from w.to c.give.new.from c.give.new.to) c.self.view_is c.give.ensures.placed)
    c.give.ensures.stage c.are_few.ensures
