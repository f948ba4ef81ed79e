use Rattle.std.proofs.Common.{◌≡◌, ℕ, ◌-◌, true, List, get_or, arith, sym, ◌∙◌}
use Rattle.std.specs.Char.{is_ascii_digit}
use Rattle.std.proofs.lemmas.Int.Digits.{digits_value_more}
use Rattle.std.proofs.lemmas.List.Folds.{list_all_more}
use Rattle.metadata_service.proofs.Lives.{digit_value_is, cut_more}
use Rattle.metadata_service.proofs.token.life_of.Goals as goal

pub loop-b-preserved : goal.loop-b-preserved
loop-b-preserved c =
    let text : List ℕ = c.args.text.now in
    let i : ℕ = c.loop-b.b-index in
    let d : ℕ = get_or text i 0 in
    let here : is_ascii_digit d ≡ true = sym c.if-not-is_ascii_digit.ensures.value in
    let range = c.if-not-is_ascii_digit.ensures.cases in
    record {
      digits = list_all_more is_ascii_digit text i 0 c.loop-b-test.true
          ∙ grind (arith, c.loop-b.invariant.digits, here);
      value_is = c.min-seconds.ensures ∙ cut_more c.loop-b.seconds _ (d - 48) _ 21601 c.loop-b.invariant.value_is
          (rw (← digit_value_is d range.0 range.1) (digits_value_more 10 text i c.loop-b-test.true));
    }
