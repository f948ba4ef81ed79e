use Rattle.std.proofs.Common.{◌≡◌, take}
use Rattle.std.specs.List.{flat_map}
use Rattle.devtree.specs.Coding.{all_of, now_of}
use Rattle.devtree.specs.Flat as flat
use Rattle.devtree.proofs.flat.structure_of.Given as goal

abbrev pub invariant-loop-token : goal.invariant-loop-token
invariant-loop-token l = l.out.items ≡ flat_map (flat.bytes_of (now_of l.names)) (all_of (take l.token-index l.tokens))
