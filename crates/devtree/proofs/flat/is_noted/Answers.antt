use Rattle.std.proofs.Common.{sym, ◌∙◌, List, ℕ, Bor}
use Rattle.std.specs.Str.{bytes_eq}
use Rattle.devtree.proofs.Passes.{list_any_map}
use Rattle.devtree.proofs.flat.is_noted.Goals as goal

pub returns : goal.returns
returns c = c.is_among.ensures
    ∙ sym (list_any_map (λ known. bytes_eq known c.args.name.now) (λ (t : Bor (List ℕ)). t.now) c.args.names.now)
