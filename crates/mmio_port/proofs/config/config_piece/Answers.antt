use Rattle.std.proofs.Common.{◌≡◌, ◌++◌, ◌∙◌, ℕ, ap, arith, drop, length, replicate, take}
use Rattle.std.proofs.lemmas.List.{length-take-le}
use Rattle.mmio_port.proofs.Zeros.{shown_front}
use Rattle.mmio_port.proofs.config.config_piece.Goals as goal

pub returns : goal.returns
returns c =
    let count = c.config_length-count.result in
    let config = c.args.state.now.config in
    let long : length (take count config) ≡ count = length-take-le count config (omega (arith, c.config_length-count.ensures.most)) in
    shown_front (take count config) _ _ count c.args.at c.args.len c.copy_from_slice.ensures.after long (omega arith)
    (omega (arith, c.config_length-count.ensures.most)) (omega (arith, c.requires)) c.from_slice.ensures
    ∙ ap (λ (n : ℕ). take c.args.len (drop c.args.at (take n config) ++ replicate c.args.len 0)) c.config_length-count.ensures.length
