use Rattle.std.proofs.Common.{arith}
use Rattle.devtree.proofs.Passes.{noting_more}
use Rattle.devtree.proofs.flat.names_of.Goals as goal

pub loop-token-preserved : goal.loop-token-preserved
loop-token-preserved c =
    noting_more c.args.tokens.now c.loop-token.token-index _ _ _ (omega (arith, c.loop-token-test.true)) c.loop-token.invariant c.in_ok-note_token.ensures
