-- The start of a file that is written.
use Rattle.std.proofs.Common.{◌≡◌, ℕ, ◌+◌, ◌*◌, true, List, [], ◌∷◌, ◌++◌, length, refl, sym, ap, subst, ◌∙◌, arith, append_assoc, length-append}
use Rattle.std.specs.Prelude.{IsTrue}
use Rattle.std.specs.List.{AllByRecursion}
use Rattle.file_format.specs.Kinds.{fixed}
use Rattle.file_format.specs.Laws.{all_same}
use Rattle.file_format.specs.Readers.{put_all}
use Rattle.file_format.specs.declared.version.Version.{Version}
use Rattle.file_format.specs.declared.version.Version.TheVariants.{Two}
use Rattle.snap_diff.specs.declared.header.DiffHeader.{DiffHeader}
use Rattle.snap_diff.specs.declared.run.Run.{Run}
use Rattle.snap_diff.specs.Headers.{are_names, behind_gate, header}
use Rattle.snap_diff.specs.Diffs.{IsDiffFile, are_stored, copy_of, entry, is_table, table_bytes}
use Rattle.snap_diff.proofs.Files.{made}
use Rattle.snap_diff.proofs.Fronts as fronts
use Rattle.snap_diff.proofs.Tables.{size_of_table}

-- what was written behind an open gate is the header
pub gated : (h : DiffHeader) → behind_gate.Fits h → header.Fits h
unfolding header fixed
gated h fits = (refl, fits)

written_is : (h : DiffHeader) (behind : List ℕ) → behind ≡ behind_gate.puts h [] → 1 ∷ behind ≡ header.bytes h
unfolding header fixed
written_is h behind written = ap (λ (l : List ℕ). 1 ∷ l) (written ∙ behind_gate.same h [])

pub start_is : (h : DiffHeader) (runs : List Run) (middle start : List ℕ) → middle ≡ behind_gate.puts h [] → start ≡ put_all (entry Two).puts runs middle
    → 1 ∷ start ≡ header.bytes h ++ table_bytes Two runs
start_is h runs middle start first second =
    ap (λ (l : List ℕ). 1 ∷ l) (second ∙ all_same (entry Two) runs middle)
    ∙ ap (λ (l : List ℕ). l ++ table_bytes Two runs) (written_is h middle first)

pub start_size : (h : DiffHeader) (runs : List Run) (start : List ℕ) → length runs ≡ h.count → 1 ∷ start ≡ header.bytes h ++ table_bytes Two runs
    → length start ≡ 63 + 12 * h.count
start_size h runs start count is =
    omega (arith, ap length is, length-append (header.bytes h) (table_bytes Two runs), fronts.length-header h, size_of_table Two runs, count)

pub start_then : (h : DiffHeader) (runs : List Run) (file stored : List ℕ) → h.version ≡ Two → header.Fits h → IsTrue (are_names h.names)
    → AllByRecursion (entry Two).Fits runs → length runs ≡ h.count → IsTrue (is_table h runs) → file ≡ header.bytes h ++ table_bytes Two runs
    → length stored ≡ 4096 * h.stored → IsTrue (are_stored Two h.stored stored)
    → IsDiffFile (file ++ stored) (copy_of (record { header = h; runs = runs; stored = stored }))
start_then h runs file stored two fits valid fit count table is size full =
    made (file ++ stored) (record { header = h; runs = runs; stored = stored })
    (record { head = fits; count = count; fit = subst (λ (v : Version). AllByRecursion (entry v).Fits runs) (sym two) fit; size = size })
    valid table (subst (λ (v : Version). are_stored v h.stored stored ≡ true) (sym two) full) (
    ap (λ (l : List ℕ). l ++ stored) is
    ∙ append_assoc (header.bytes h) (table_bytes Two runs) stored
    ∙ ap (λ (v : Version). header.bytes h ++ (table_bytes v runs ++ stored)) (sym two)
    )
