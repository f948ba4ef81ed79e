-- What entries of bytes tell has 64 bits.
use Rattle.std.proofs.Common.{◌≡◌, ℕ, zero, suc, ◌+◌, ◌*◌, ◌^◌, ◌<◌, ◌≤◌, nat_lt, refl, sym, subst, ◌∙◌, Bool, true, false, if◌then◌else◌, Option, Some, None, List, length, drop, take, slice_set, arith, length-set, length-take}
use Rattle.std.specs.List.{All}
use Rattle.std.proofs.lemmas.List.{length-replicate}
use Rattle.std.proofs.lemmas.List.Elements.{All-drop, All-replicate, All-set, All-take}
use Rattle.le_fields.specs.Fields.{IsByte, field_at, little_endian}
use Rattle.le_fields.proofs.Halves.{field_take}
use Rattle.le_fields.proofs.Values.{value_below}
use Rattle.balloon_device.specs.declared.statistics.Statistics.{Statistics}
use Rattle.balloon_device.specs.Statistics.{known_tags, no_statistics, with_entries, with_value}
use Rattle.balloon_device.specs.Work.{AreSmall, IsSmallValue}

pub none_small : AreSmall no_statistics
none_small = (length-replicate {A = Option ℕ} known_tags None, All-replicate IsSmallValue known_tags None tt)

field_small : (bytes : List ℕ) → All IsByte bytes → field_at bytes 2 8 < 2 ^ 64
field_small bytes all =
    let eight : List ℕ = take 8 (drop 2 bytes) in
    let below : little_endian eight < 256 ^ length eight =
    value_below eight (All-take IsByte 8 (drop 2 bytes) (All-drop IsByte 2 bytes all)) in
    subst (λ (n : ℕ). n < 2 ^ 64) (sym (field_take bytes 2 8))
    (most_eight (length eight) (little_endian eight) (omega (arith, length-take 8 (drop 2 bytes))) below)
  where
    most_eight : (n value : ℕ) → n ≤ 8 → value < 256 ^ n → value < 2 ^ 64
    most_eight zero value few below = omega (arith, below)
    most_eight (suc zero) value few below = omega (arith, below)
    most_eight (suc (suc zero)) value few below = omega (arith, below)
    most_eight (suc (suc (suc zero))) value few below = omega (arith, below)
    most_eight (suc (suc (suc (suc zero)))) value few below = omega (arith, below)
    most_eight (suc (suc (suc (suc (suc zero))))) value few below = omega (arith, below)
    most_eight (suc (suc (suc (suc (suc (suc zero)))))) value few below = omega (arith, below)
    most_eight (suc (suc (suc (suc (suc (suc (suc zero))))))) value few below = omega (arith, below)
    most_eight (suc (suc (suc (suc (suc (suc (suc (suc zero)))))))) value few below = omega (arith, below)
    most_eight (suc (suc (suc (suc (suc (suc (suc (suc (suc n))))))))) value few below = absurd (omega (arith, few))

value_by : (test : Bool) (tag value : ℕ) (s : Statistics) → value < 2 ^ 64 → AreSmall s
    → AreSmall (if test then record { values = slice_set s.values tag (Some value) } else s)
value_by true tag value s below small =
    (length-set s.values tag (Some value) ∙ small.0, All-set IsSmallValue s.values tag (Some value) below small.1)
value_by false tag value s below small = small

pub entries_small : (count : ℕ) (bytes : List ℕ) (s : Statistics) → All IsByte bytes → AreSmall s
    → AreSmall (with_entries count bytes s)
entries_small zero bytes s all small = small
entries_small (suc count) bytes s all small =
    entries_small count (drop 10 bytes) _ (All-drop IsByte 10 bytes all)
    (value_by (nat_lt (field_at bytes 0 2) known_tags) (field_at bytes 0 2) (field_at bytes 2 8) s (field_small bytes all) small)
