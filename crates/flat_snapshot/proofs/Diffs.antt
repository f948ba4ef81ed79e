-- What a create of a diff writes is the file of the diff of two copies.
use Rattle.std.proofs.Common.{◌≡◌, ℕ, zero, suc, ◌+◌, ◌*◌, ◌<◌, ◌≤◌, ◌==◌, Bool, true, false, cond, List, ◌∷◌, length, refl, sym, ap, subst, ◌∙◌, arith, inl, inr}
use Rattle.std.specs.Prelude.{IsTrue}
use Rattle.std.specs.List.{list_any}
use Rattle.std.proofs.lemmas.Bool.{cases_lt, eqb-false, or_parts}
use Rattle.vm_types.specs.declared.identity.Identity.{Identity}
use Rattle.file_format.specs.declared.version.Version.TheVariants.{Two}
use Rattle.snap_diff.specs.Copies.{DiffCopy, IsDiffOf, rises}
use Rattle.snap_diff.specs.Diffs.{IsDiffFile, parts, parts_in}
use Rattle.snap_diff.specs.Headers.{are_names, names, names_of}
use Rattle.snap_diff.proofs.Files.{opened_parts}
use Rattle.snap_diff.proofs.Laying.{size_of_pages}
use Rattle.snap_diff.proofs.Tables.{rises_on}
use Rattle.snap_diff.proofs.Written.{written_file}
use Rattle.flat_guest.specs.Guest.{Guest, numbers_written, unwritten}
use Rattle.flat_snapshot.specs.Files.{diff_file, diff_head, diff_in, memory_in}
use Rattle.flat_snapshot.specs.Unwritten.{KeepsUnwritten}

-- ---- the numbers of the pages that were written

rise_by : (pages low i : ℕ) (numbers : List ℕ) (b : Bool) → low ≤ i → i < pages → rises pages (suc i) numbers ≡ true → rises pages low numbers ≡ true
    → rises pages low (cond b (i ∷ numbers) numbers) ≡ true
rise_by pages low i numbers true above below behind same = rises_on pages low i numbers above below ∙ behind
rise_by pages low i numbers false above below behind same = same

pub written_rise : (written : ℕ → Bool) (pages low i count : ℕ) → low ≤ i → i + count ≤ pages → rises pages low (numbers_written written i count) ≡ true
written_rise written pages low i zero above fits = refl
written_rise written pages low i (suc count) above fits =
    rise_by pages low i (numbers_written written (suc i) count) (written i) above (omega (arith, fits))
    (written_rise written pages (suc i) (suc i) count (omega arith) (omega (arith, fits)))
    (written_rise written pages low (suc i) count (omega (arith, above)) (omega (arith, fits)))

few_by : (i count : ℕ) (numbers : List ℕ) (b : Bool) → length numbers ≤ count → length (cond b (i ∷ numbers) numbers) ≤ suc count
few_by i count numbers true few = omega (arith, few)
few_by i count numbers false few = omega (arith, few)

pub written_few : (written : ℕ → Bool) (i count : ℕ) → length (numbers_written written i count) ≤ count
written_few written i zero = omega arith
written_few written i (suc count) = few_by i count (numbers_written written (suc i) count) (written i) (written_few written (suc i) count)

lacks_by : (written : ℕ → Bool) (i count k : ℕ) (b : Bool) → written i ≡ b → i ≤ k
    → list_any (λ n. n == k) (cond b (i ∷ numbers_written written (suc i) count) (numbers_written written (suc i) count)) ≡ false
    → (suc i ≤ k → list_any (λ n. n == k) (numbers_written written (suc i) count) ≡ false → written k ≡ false)
    → written k ≡ false
lacks_by written i count k true is above none rest =
    let parts = or_parts (i == k) (list_any (λ n. n == k) (numbers_written written (suc i) count)) none in
    let other = eqb-false i k parts.0 in
    rest (omega (arith, above, other)) parts.1
lacks_by written i count k false is above none rest = elim (cases_lt i k) [
  | inl more ↦ rest (omega (arith, more)) none
  | inr less ↦ (let same : k ≡ i = omega (arith, above, less) in ap written same ∙ is)
]

-- a page whose number isn't among them was not written
pub lacks_unwritten : (written : ℕ → Bool) (i count k : ℕ) → i ≤ k → k < i + count
    → list_any (λ n. n == k) (numbers_written written i count) ≡ false → written k ≡ false
lacks_unwritten written i zero k above below none = absurd (omega (arith, above, below))
lacks_unwritten written i (suc count) k above below none =
    lacks_by written i count k (written i) refl above none
    (λ more rest. lacks_unwritten written (suc i) count k more (omega (arith, below)) rest)

-- ---- the diff of a guest that went on by events

pub diff_of_both : (old new : Identity) (before pages : ℕ) (g h : Guest) → pages ≡ before → KeepsUnwritten (unwritten g) h
    → IsDiffOf (memory_in old before g) (memory_in new pages h) (diff_in old new pages h)
diff_of_both old new before pages g h same keeps = record {
  pages = same;
  rise = written_rise h.written pages 0 0 pages (omega arith) (omega arith);
  written = refl;
  others = λ number below none. keeps.pages number (lacks_unwritten h.written 0 pages number (omega arith) (omega (arith, below)) none);
}

-- ---- its file

file_is : (d : DiffCopy) → diff_file d ≡ parts.bytes (parts_in Two d)
unfolding diff_head
file_is d = opened_parts (parts_in Two d)

pub is_file : (parent identity : Identity) (pages : ℕ) (g : Guest) → names.Fits (names_of (diff_in parent identity pages g))
    → IsTrue (are_names (names_of (diff_in parent identity pages g))) → length g.memory.bytes ≡ 4096 * pages
    → IsDiffFile (diff_file (diff_in parent identity pages g)) (diff_in parent identity pages g)
is_file parent identity pages g fits valid whole =
    let d : DiffCopy = diff_in parent identity pages g in
    let rise = written_rise g.written pages 0 0 pages (omega arith) (omega arith) in
    subst (λ (file : List ℕ). IsDiffFile file d) (sym (file_is d))
    (written_file d (record { rise = rise; size = size_of_pages d.numbers pages 0 g.memory.bytes rise whole }) fits valid)
