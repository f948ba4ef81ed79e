use Rattle.std.proofs.Common.{◌≡◌, take}
use Rattle.devtree.specs.Coding.{now_of}
use Rattle.devtree.specs.Flat as flat
use Rattle.devtree.proofs.flat.strings_of.Given as goal

abbrev pub invariant-loop-name : goal.invariant-loop-name
invariant-loop-name l = l.strings.items ≡ flat.strings_of (now_of (take l.name-index l.names))
