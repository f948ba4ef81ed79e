use Rattle.std.proofs.Common.{◌≡◌, ◌++◌}
use Rattle.devtree.specs.Coding.{all_of}
use Rattle.devtree.specs.Flat.{tokens_of_all}
use Rattle.devtree.specs.Machine as machine
use Rattle.devtree.proofs.machine.push_devices.Given as goal

abbrev pub invariant-loop-device : goal.invariant-loop-device
invariant-loop-device l = all_of l.tokens.items ≡ all_of l.initial.tokens.items ++ tokens_of_all (machine.nodes_from machine.device 0 l.device)
