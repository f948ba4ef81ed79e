use Rattle.std.proofs.Common.{arith}
use Rattle.devtree.specs.Coding.{now_of}
use Rattle.devtree.proofs.Passes.{bytes_more}
use Rattle.devtree.proofs.flat.structure_of.Goals as goal

pub loop-token-preserved : goal.loop-token-preserved
loop-token-preserved c =
    bytes_more (now_of c.args.names.now) c.args.tokens.now c.loop-token.token-index _ _ _ (omega (arith, c.loop-token-test.true)) c.loop-token.invariant c.in_ok-push_token.ensures
