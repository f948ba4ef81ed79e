use Rattle.std.proofs.Common.{ℕ, List, ◌++◌, ap, ◌∙◌}
use Rattle.devtree.specs.Coding.{all_of}
use Rattle.devtree.specs.Flat.{file_by, tokens_of}
use Rattle.devtree.specs.Machine as machine
use Rattle.devtree.specs.declared.token.Token.{Token}
use Rattle.devtree.proofs.machine.write_tree.Goals as goal

pub returns : goal.returns
returns c =
    c.in_ok-tree.ensures
    ∙ ap file_by (
    ap all_of c.as_slice.ensures.value
    ∙ c.in_ok-push_all.ensures
    ∙ ap (λ (l : List Token). all_of l ++ tokens_of (machine.tree_with c.args.config.now c.args.initrd c.in_ok-devices.devices)) c.new-tokens.ensures.items
    ∙ ap (λ (n : ℕ). tokens_of (machine.tree_with c.args.config.now c.args.initrd n)) c.in_ok-devices.ensures)
