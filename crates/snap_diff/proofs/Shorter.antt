-- How long the files of a diff are.
use Rattle.std.proofs.Common.{◌≡◌, ℕ, ◌+◌, ◌*◌, ◌≤◌, true, List, ◌++◌, length, sym, ap, ◌∙◌, arith, length-append}
use Rattle.std.proofs.lemmas.List.{length-map}
use Rattle.file_format.specs.declared.version.Version.TheVariants.{One, Two}
use Rattle.snap_diff.specs.declared.run.Run.{Run}
use Rattle.snap_diff.specs.Copies.{DiffCopy, IsDiff}
use Rattle.snap_diff.specs.Headers.{header}
use Rattle.snap_diff.specs.Runs.{kinds_of, run_of, stored_in}
use Rattle.snap_diff.specs.Diffs.{header_in, parts, parts_in, runs_in, stored_pages, table_bytes}
use Rattle.snap_diff.proofs.Files.{bytes_of_parts}
use Rattle.snap_diff.proofs.Filled.{as_many_kinds}
use Rattle.snap_diff.proofs.Fronts as fronts
use Rattle.snap_diff.proofs.Tables.{size_of_table}
use Rattle.snap_diff.proofs.Written.{few_runs, many_are, size_of_filled}

many_back : (d : DiffCopy) → length d.numbers ≡ length (kinds_of (length d.numbers) d.bytes)
many_back d = sym (as_many_kinds (length d.numbers) d.bytes)

module _ (d : DiffCopy) (is : IsDiff d) where
  size_in_one : length (parts.bytes (parts_in One d)) ≡ 64 + 4100 * length d.numbers
  size_in_one =
      let runs : List Run = runs_in One d in
      omega (
        arith,
        ap length (bytes_of_parts (parts_in One d)),
        length-append (header.bytes (header_in One d)) (table_bytes One runs ++ d.bytes),
        fronts.length-header (header_in One d),
        length-append (table_bytes One runs) d.bytes,
        size_of_table One runs,
        length-map d.numbers (λ number. run_of number true),
        is.size,
      )

  size_in_two : length (parts.bytes (parts_in Two d)) ≡ 64 + 12 * length (runs_in Two d) + 4096 * stored_in (runs_in Two d)
  size_in_two =
      let kinds = kinds_of (length d.numbers) d.bytes in
      let runs : List Run = runs_in Two d in
      let stored : List ℕ = stored_pages Two (length d.numbers) d.bytes in
      let many = as_many_kinds (length d.numbers) d.bytes in
      omega (
        arith,
        ap length (bytes_of_parts (parts_in Two d)),
        length-append (header.bytes (header_in Two d)) (table_bytes Two runs ++ stored),
        fronts.length-header (header_in Two d),
        length-append (table_bytes Two runs) stored,
        size_of_table Two runs,
        size_of_filled kinds d.bytes (is.size ∙ ap (λ (n : ℕ). 4096 * n) (many_back d)),
        many_are d.numbers kinds many,
      )

  -- longer by eight bytes for each run at most, and shorter by each page of zeros
  pub shorter : length (parts.bytes (parts_in Two d)) + 4096 * length d.numbers
      ≤ length (parts.bytes (parts_in One d)) + 8 * length (runs_in Two d) + 4096 * stored_in (runs_in Two d)
  shorter = omega (arith, size_in_one, size_in_two, few_runs d.numbers (kinds_of (length d.numbers) d.bytes))
