use Rattle.std.proofs.Common.{ℕ, take, drop, ap, sym, ◌∙◌, arith, length-drop, drop-drop}
use Rattle.guest_pages.specs.Pages.{flat_of}
use Rattle.guest_pages.proofs.Copying.{copied_more}
use Rattle.guest_pages.proofs.reading.copy_pages.Goals as goal

pub loop-done-preserved : goal.loop-done-preserved
loop-done-preserved c =
    let done : ℕ = c.loop-done.done in
    let count : ℕ = c.min-count.result in
    let all = (flat_of c.args.pages.now.pages).bytes in
    let from = drop c.args.offset all in
    let size = length-drop c.args.offset all in
    let piece_is = c.copy_from_slice.ensures.after ∙ c.piece.ensures.bytes ∙ ap (take count) (sym (drop-drop done c.args.offset all)) in
    record {
      some = omega arith;
      copied = copied_more from c.loop-done.out c.args.out.now c.copy_from_slice.new.self done count c.loop-done.invariant.copied piece_is (omega arith) (omega (arith, size, c.requires.whole, c.requires.inside));
    }
