-- The drives that a PUT and a PATCH name, their files and their limits.
use Rattle.std.proofs.Common.{◌≡◌, ℕ, true, List, None}
use Rattle.std.specs.Prelude.{codes}
use Rattle.std.proofs.lemmas.Bool.{and_parts}
use Rattle.serde_json.specs.Data.{Data, object, Members}
use Rattle.serde_json.specs.Find.{get}
use Rattle.api_calls.specs.declared.test.Test.TheVariants as test
use Rattle.api_calls.specs.Form.{text_at, holds, is_path, is_id, object_passes, row_passes, refusal}
use Rattle.api_calls.specs.Fields.{drive, drive_patch}
use Rattle.api_calls.specs.Call.{limiter_at, text_or_none}
use Rattle.api_calls.specs.Limits.{is_limiter}
use Rattle.api_calls.proofs.Bodies.{passed, form_parts, id_text, file_path, optional_path, held}
use Rattle.api_calls.proofs.Limits.{limiter_is}

-- the limits of either
abbrev IsLimited : Data → Type 0
IsLimited d = holds is_limiter (limiter_at (codes "rate_limiter") d) ≡ true

-- ---- a PUT

abbrev pub IsDrive : Data → Type 0
IsDrive d =
    (is_id (text_or_none (text_at (codes "drive_id") d)) ≡ true)
    × (is_path (text_or_none (text_at (codes "path_on_host") d)) ≡ true)
    × IsLimited d

pub drive_is : (named : List ℕ) (ms : Members) → refusal (drive named) (object ms) ≡ None → IsDrive (object ms)
unfolding object_passes row_passes
drive_is named ms none =
    let all = passed (drive named) (object ms) none in
    let theres = form_parts _ _ _ (object ms) test.There all.0 in
    let kinds = form_parts _ _ _ (object ms) test.Kind all.1 in
    let ranges = form_parts _ _ _ (object ms) test.Range all.2 in
    let there = theres.0 in
    let kind = kinds.0 in
    let range = ranges.0 in (
      id_text (codes "drive_id") (object ms) (and_parts _ _ there).0 (and_parts _ _ kind).0 (and_parts _ _ range).0,
      file_path (codes "path_on_host") (object ms) (and_parts _ _ (and_parts _ _ there).1).0 (and_parts _ _ (and_parts _ _ kind).1).0
          (and_parts _ _ (and_parts _ _ range).1).0,
      limiter_is (codes "rate_limiter") (object ms) (theres.1, kinds.1, ranges.1),
    )

-- ---- a PATCH

abbrev pub IsPatch : Data → Type 0
IsPatch d =
    (is_id (text_or_none (text_at (codes "drive_id") d)) ≡ true)
    × (holds is_path (text_at (codes "path_on_host") d) ≡ true)
    × IsLimited d

pub patch_is : (named : List ℕ) (ms : Members) → refusal (drive_patch named) (object ms) ≡ None → IsPatch (object ms)
unfolding object_passes row_passes
patch_is named ms none =
    let all = passed (drive_patch named) (object ms) none in
    let theres = form_parts _ _ _ (object ms) test.There all.0 in
    let kinds = form_parts _ _ _ (object ms) test.Kind all.1 in
    let ranges = form_parts _ _ _ (object ms) test.Range all.2 in
    let there = theres.0 in
    let kind = kinds.0 in
    let range = ranges.0 in (
      id_text (codes "drive_id") (object ms) (and_parts _ _ there).0 (and_parts _ _ kind).0 (and_parts _ _ range).0,
      held _ _ (optional_path (get (codes "path_on_host") (object ms)) (and_parts _ _ (and_parts _ _ kind).1).0 (and_parts _ _ (and_parts _ _ range).1).0),
      limiter_is (codes "rate_limiter") (object ms) (theres.1, kinds.1, ranges.1),
    )
