-- What bytes are found as when they are read as a table.
use Rattle.std.proofs.Common.{◌≡◌, ℕ, ◌==◌, ◌&&◌, ◌++◌, Bool, true, false, List, [], ◌∷◌, length, Some, Err, refl, sym, ap, ◌∙◌, arith}
use Rattle.std.proofs.lemmas.Bool.{and_parts, eqb-true}
use Rattle.std.proofs.lemmas.List.{append-nil}
use Rattle.file_format.specs.Format.{IsBytes}
use Rattle.file_format.specs.Kinds.{times}
use Rattle.file_format.specs.Reading.{Takes}
use Rattle.file_format.specs.declared.error.ReadError.{ReadError}
use Rattle.file_format.specs.declared.error.ReadError.TheVariants.{Bad, Memory}
use Rattle.snap_diff.specs.declared.header.DiffHeader.{DiffHeader}
use Rattle.snap_diff.specs.declared.run.Run.{Run}
use Rattle.snap_diff.specs.Diffs.{IsTable, TableFound, entry, is_table, table_bytes}
use Rattle.snap_diff.proofs.Tables.{table_only, table_reads}

no_rest : (rest : List ℕ) → length rest ≡ 0 → rest ≡ []
no_rest [] is = refl
no_rest (b ∷ bs) is = absurd (omega (arith, is))

module _ (h : DiffHeader) (table : List ℕ) where
  reads_table : (runs : List Run) → IsTable h table runs → (times h.count (entry h.version)).reads table ≡ Some (runs, [])
  reads_table runs is = ap (times h.count (entry h.version)).reads is.bytes ∙ table_reads h.version runs h.count is.fit is.count

  -- a read that was given up
  pub table_stuck : (e : ReadError) (left : List ℕ) → Takes (times h.count (entry h.version)) table left (Err e) → TableFound h table (Err e)
  table_stuck Bad left e = λ runs is. let f = reads_table runs is in absurd cc
  table_stuck Memory left e = tt

  pub table_taken : (runs : List Run) (left : List ℕ) (b : Bool) → IsBytes table → (times h.count (entry h.version)).reads table ≡ Some (runs, left)
      → b ≡ ((length left == 0) && is_table h runs) → b ≡ true → IsTable h table runs
  table_taken runs left b bytes read is holds =
      let two = and_parts (length left == 0) (is_table h runs) (sym is ∙ holds) in
      let none : left ≡ [] = no_rest left (eqb-true (length left) 0 two.0) in
      let takes = table_only h.version h.count table left runs bytes read in
      record {
        count = takes.0;
        fit = takes.1.0;
        bytes = takes.1.1 ∙ ap (λ (l : List ℕ). table_bytes h.version runs ++ l) none ∙ append-nil (table_bytes h.version runs);
        valid = two.1;
      }

  pub table_not : (runs : List Run) (left : List ℕ) (b : Bool) → (times h.count (entry h.version)).reads table ≡ Some (runs, left)
      → b ≡ ((length left == 0) && is_table h runs) → b ≡ false → (others : List Run) → ¬ (IsTable h table others)
  table_not runs left b read is fails others other =
      let f = reads_table others other in
      let same : ◌≡◌ {A = List Run × List ℕ} (runs, left) (others, []) = cc in
      let one : b ≡ ((length {A = ℕ} [] == 0) && is_table h others) = is ∙ ap (λ (x : List Run × List ℕ). (length x.1 == 0) && is_table h x.0) same in
      let passes : is_table h others ≡ true = other.valid in
      absurd (let all : b ≡ true = one ∙ passes in cc)
