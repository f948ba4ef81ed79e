use Rattle.std.proofs.Common.{ℕ, ◌≤◌, ◌+◌, ◌*◌, List, length, take, arith, sym, ap, ◌∙◌}
use Rattle.std.specs.Str.Parse.{digits_value}
use Rattle.std.proofs.lemmas.Int.Digits.{digits_value_more}
use Rattle.script_words.proofs.Forms.{address_parts, each_hex, power_fits, power_more}
use Rattle.script_words.proofs.hex_number.address_value.Goals as goal

pub hex_value-requires : goal.hex_value-requires
hex_value-requires c = each_hex c.args.text.now c.loop-c.c-index (address_parts c.args.text.now c.requires).digits c.loop-c-test.true

pub overflow_mul-value : goal.overflow_mul-value
overflow_mul-value c =
    let few : length c.args.text.now ≤ 16 = (address_parts c.args.text.now c.requires).few in
    omega (arith, power_fits c.loop-c.c-index c.loop-c.value 0 (omega (arith, few, c.loop-c-test.true)) c.loop-c.invariant.small (omega arith))

pub overflow_add-value : goal.overflow_add-value
overflow_add-value c =
    let few : length c.args.text.now ≤ 16 = (address_parts c.args.text.now c.requires).few in
    omega (arith, power_fits c.loop-c.c-index c.loop-c.value c.hex_value.result (omega (arith, few, c.loop-c-test.true)) c.loop-c.invariant.small c.hex_value.ensures.small)

pub loop-c-preserved : goal.loop-c-preserved
loop-c-preserved c =
    let text : List ℕ = c.args.text.now in
    let i : ℕ = c.loop-c.c-index in
    record {
      value_is = ap (λ (v : ℕ). v * 16 + c.hex_value.result) c.loop-c.invariant.value_is
          ∙ (ap (λ (d : ℕ). digits_value 16 (take i text) * 16 + d) c.hex_value.ensures.value ∙ sym (digits_value_more 16 text i c.loop-c-test.true));
      small = power_more i c.loop-c.value c.hex_value.result c.loop-c.invariant.small c.hex_value.ensures.small;
    }
