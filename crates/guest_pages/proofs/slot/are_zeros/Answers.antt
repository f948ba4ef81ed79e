use Rattle.std.proofs.Common.{◌==◌, ◌&&◌, ℕ, Bool, List, get_or, ap, arith, sym, ◌∙◌}
use Rattle.std.proofs.lemmas.List.{take_all}
use Rattle.std.proofs.lemmas.List.Folds.{list_all_more}
use Rattle.guest_pages.specs.Made.{are_zeros}
use Rattle.guest_pages.proofs.Greatest.{most_zero}
use Rattle.guest_pages.proofs.slot.are_zeros.Goals as goal

pub loop-byte-preserved : goal.loop-byte-preserved
loop-byte-preserved c =
    let piece : List ℕ = c.args.piece.now in
    let i : ℕ = c.loop-byte.byte-index in
    let byte : ℕ = get_or piece i 0 in
    ap (λ (n : ℕ). n == 0) c.max-most.ensures
    ∙ most_zero c.loop-byte.most byte
    ∙ ap (λ (b : Bool). b && (byte == 0)) c.loop-byte.invariant
    ∙ sym (list_all_more (λ (n : ℕ). n == 0) piece i 0 c.loop-byte-test.true)

pub returns : goal.returns
returns c =
    let past = c.loop-byte-test.false in
    c.loop-byte.invariant ∙ ap are_zeros (take_all _ c.args.piece.now (omega (arith, past)))
