use Rattle.std.proofs.Common.{◌≡◌, take}
use Rattle.devtree.specs.Coding.{all_of, now_of}
use Rattle.devtree.specs.Flat as flat
use Rattle.devtree.proofs.flat.names_of.Given as goal

abbrev pub invariant-loop-token : goal.invariant-loop-token
invariant-loop-token l = now_of l.names.items ≡ flat.names_of (all_of (take l.token-index l.tokens))
