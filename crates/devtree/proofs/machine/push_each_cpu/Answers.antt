use Rattle.devtree.specs.Coding.{all_of}
use Rattle.devtree.specs.Machine as machine
use Rattle.devtree.proofs.Nodes.{pushed_more}
use Rattle.devtree.proofs.machine.push_each_cpu.Goals as goal

pub loop-hart-preserved : goal.loop-hart-preserved
loop-hart-preserved c =
    pushed_more machine.cpu (all_of c.args.tokens.now.items) _ _ c.loop-hart.hart c.loop-hart.invariant c.in_ok-push_cpu.ensures
