use Rattle.std.proofs.Common.{ℕ, List, [], ◌++◌, ap, ◌∙◌}
use Rattle.devtree.specs.Coding.{all_of}
use Rattle.devtree.specs.Flat.{tokens_of}
use Rattle.devtree.specs.Machine as machine
use Rattle.devtree.proofs.Nodes.{pushed_all}
use Rattle.devtree.proofs.machine.push_all.Goals as goal

pub returns : goal.returns
returns c =
    let config = c.args.config.now in
    pushed_all [] machine.root_properties (machine.chosen (machine.args_by config.boot_source) c.args.initrd) (machine.memory config.machine.mem_size_mib) (machine.cpus config.machine.vcpu_count) (machine.soc c.args.devices)
    (all_of c.args.tokens.now.items) (all_of c.open_root.new.tokens.items) (all_of c.push_chosen.new.tokens.items) (all_of c.push_memory.new.tokens.items) (all_of c.push_cpus.new.tokens.items) (all_of c.push_soc.new.tokens.items) (all_of c.close.new.tokens.items)
    c.in_ok-open_root.ensures
    (c.in_ok-push_chosen.ensures ∙ ap (λ (t : List ℕ). all_of c.open_root.new.tokens.items ++ tokens_of (machine.chosen t c.args.initrd)) c.args_by.ensures)
    c.in_ok-push_memory.ensures c.in_ok-push_cpus.ensures c.in_ok-push_soc.ensures c.in_ok-close.ensures
