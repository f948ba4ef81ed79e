use Rattle.std.proofs.Common.{ℕ, List, length, replicate}
use Rattle.devtree.specs.Flat as flat
use Rattle.devtree.proofs.Passes.{four_pieces}
use Rattle.devtree.proofs.flat.joined.Goals as goal

pub returns : goal.returns
returns c =
    let structure : List ℕ = c.args.structure.now in
    let strings : List ℕ = c.args.strings.now in
    four_pieces _ _ _ _ _ (flat.header (length structure) (length strings)) (replicate 16 0) structure strings
    c.new-file.ensures.items c.in_ok-push_header.ensures c.in_ok-extend_from_slice.ensures.items c.in_ok-extend_from_slice-2.ensures.items c.in_ok-extend_from_slice-3.ensures.items
