-- One entry of statistics after another.
use Rattle.std.proofs.Common.{◌≡◌, ℕ, suc, ◌+◌, ◌-◌, ◌*◌, ◌/◌, ◌<◌, ◌≤◌, refl, sym, ap, ◌∙◌, List, length, drop, arith, length-drop}
use Rattle.std.proofs.lemmas.List.{drop-drop}
use Rattle.le_fields.specs.Fields.{field_at}
use Rattle.balloon_device.specs.declared.statistics.Statistics.{Statistics}
use Rattle.balloon_device.specs.Statistics.{Telling, all_told, with_entries, with_value}

none_whole : (n : ℕ) → n < 10 → n / 10 ≡ 0
none_whole n few = omega (arith, few)

-- fewer than 10 bytes are no entry
pub told_all : (bytes : List ℕ) (s : Statistics) → length bytes < 10 → all_told bytes s ≡ record { begun = bytes; so_far = s }
told_all bytes s few = rw (none_whole (length bytes) few) refl

-- and no more are behind all entries
pub begun_few : (bytes : List ℕ) (s : Statistics) → length (all_told bytes s).begun < 10
begun_few bytes s = omega (arith, length-drop (10 * (length bytes / 10)) bytes)

suc_whole : (n : ℕ) → 10 ≤ n → n / 10 ≡ suc ((n - 10) / 10)
suc_whole n some = omega (arith, some)

more_bytes : (k : ℕ) → 10 * suc k ≡ 10 + 10 * k
more_bytes k = omega arith

-- the first entry, and then the others
pub told_first : (bytes : List ℕ) (s : Statistics) → 10 ≤ length bytes
    → all_told bytes s ≡ all_told (drop 10 bytes) (with_value (field_at bytes 0 2) (field_at bytes 2 8) s)
told_first bytes s some =
    let shorter : length (drop 10 bytes) ≡ length bytes - 10 = length-drop 10 bytes in
    let count : length bytes / 10 ≡ suc (length (drop 10 bytes) / 10) =
    suc_whole (length bytes) some ∙ ap (λ (n : ℕ). suc (n / 10)) (sym shorter) in
    let k : ℕ = length (drop 10 bytes) / 10 in
    let behind : drop (10 * suc k) bytes ≡ drop (10 * k) (drop 10 bytes) =
    ap (λ (n : ℕ). drop n bytes) (more_bytes k) ∙ sym (drop-drop (10 * k) 10 bytes) in
    ap (λ (n : ℕ). told_by n) count ∙ (λ i. record {
      begun = behind i;
      so_far = with_entries k (drop 10 bytes) (with_value (field_at bytes 0 2) (field_at bytes 2 8) s);
    })
  where
    told_by : ℕ → Telling
    told_by n = record { begun = drop (10 * n) bytes; so_far = with_entries n bytes s }
