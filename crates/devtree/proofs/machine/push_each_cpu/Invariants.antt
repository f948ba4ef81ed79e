use Rattle.std.proofs.Common.{◌≡◌, ◌++◌}
use Rattle.devtree.specs.Coding.{all_of}
use Rattle.devtree.specs.Flat.{tokens_of_all}
use Rattle.devtree.specs.Machine as machine
use Rattle.devtree.proofs.machine.push_each_cpu.Given as goal

abbrev pub invariant-loop-hart : goal.invariant-loop-hart
invariant-loop-hart l = all_of l.tokens.items ≡ all_of l.initial.tokens.items ++ tokens_of_all (machine.nodes_from machine.cpu 0 l.hart)
