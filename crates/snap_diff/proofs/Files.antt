-- When bytes are the file of a diff.
use Rattle.std.proofs.Common.{◌≡◌, ℕ, ◌+◌, ◌*◌, ◌≤◌, ◌==◌, ◌&&◌, Bool, true, false, cond, List, [], ◌∷◌, ◌++◌, length, drop, take, Option, Some, None}
use Rattle.std.proofs.Common.{Result, Ok, Err, refl, sym, ap, subst, ◌∙◌, append_assoc, arith, length-append}
use Rattle.std.specs.Prelude.{IsTrue}
use Rattle.std.specs.List.{AllByRecursion}
use Rattle.std.proofs.lemmas.Bool.{and_parts, eq-eqb, eqb-true}
use Rattle.std.proofs.lemmas.List.{append-nil, drop_at, length-drop, length-take, length-take-le, take-append-drop, take_at}
use Rattle.refusals.specs.declared.refusal.Refusal.{Refusal}
use Rattle.refusals.specs.declared.refusal.Refusal.TheVariants as refusal
use Rattle.file_format.specs.Format.{IsBytes}
use Rattle.file_format.specs.Kinds.{raw, times}
use Rattle.file_format.specs.Starts.{is_closed, is_other}
use Rattle.file_format.specs.Versions.{version_of}
use Rattle.file_format.specs.declared.version.Version.{Version}
use Rattle.snap_diff.specs.declared.header.DiffHeader.{DiffHeader}
use Rattle.snap_diff.specs.declared.header.DiffNames.{DiffNames}
use Rattle.snap_diff.specs.declared.run.Run.{Run}
use Rattle.snap_diff.specs.Copies.{DiffCopy, IsDiff}
use Rattle.snap_diff.specs.Headers.{are_names, behind_gate, header, magic, names, names_of}
use Rattle.snap_diff.specs.Runs.{are_runs, stored_in}
use Rattle.snap_diff.specs.Diffs.{Begins, DiffParts, IsDiffFile, IsTable, are_stored, copy_of, entry, entry_size, is_table, is_valid, parts, size_behind, table_bytes, table_size}
use Rattle.snap_diff.specs.Found.{diff_found, header_read, pages_read, rest_read, table_read}
use Rattle.snap_diff.proofs.Fronts as fronts
use Rattle.snap_diff.proofs.Tables.{IsFrom, bytes_behind, bytes_front, numbers_rise, runs_of_bytes, size_of_bytes, size_of_table, table_only, table_reads}

-- the parts of a file
pub bytes_of_parts : (p : DiffParts) → parts.bytes p ≡ header.bytes p.header ++ (table_bytes p.header.version p.runs ++ p.stored)
unfolding parts times raw
bytes_of_parts p = refl

-- a file that was opened: its gate, what stands between that and the pages, and the pages
opened : (h : DiffHeader) (rest : List ℕ) → 1 ∷ drop 1 (header.bytes h ++ rest) ≡ header.bytes h ++ rest
opened h rest =
    let begins = fronts.begins_so h in
    ap (λ (l : List ℕ). 1 ∷ drop 1 (l ++ rest)) begins.1 ∙ ap (λ (l : List ℕ). l ++ rest) (sym begins.1)

pub opened_parts : (p : DiffParts) → 1 ∷ drop 1 (header.bytes p.header ++ table_bytes p.header.version p.runs) ++ p.stored ≡ parts.bytes p
opened_parts p =
    let table : List ℕ = table_bytes p.header.version p.runs in
    ap (λ (l : List ℕ). l ++ p.stored) (opened p.header table)
    ∙ append_assoc (header.bytes p.header) table p.stored
    ∙ sym (bytes_of_parts p)

-- they fit
pub record Fit (p : DiffParts) : Type 0 where
  pub head : header.Fits p.header
  pub count : length p.runs ≡ p.header.count
  pub fit : AllByRecursion (entry p.header.version).Fits p.runs
  pub size : length p.stored ≡ 4096 * p.header.stored

pub parts_fit : (p : DiffParts) → parts.Fits p → Fit p
unfolding parts times raw
parts_fit p fits = record { head = fits.0; count = fits.1.1.0.0; fit = fits.1.1.0.1; size = fits.1.1.1 }

pub fits_of : (p : DiffParts) → Fit p → parts.Fits p
unfolding parts times raw
fits_of p f = (f.head, (refl, ((f.count, f.fit), f.size)))

pub all_valid : (p : DiffParts) → IsTrue (are_names p.header.names) → IsTrue (is_table p.header p.runs)
    → IsTrue (are_stored p.header.version p.header.stored p.stored) → IsTrue (is_valid p)
all_valid p valid table stored =
    ap (λ (b : Bool). b && is_table p.header p.runs && are_stored p.header.version p.header.stored p.stored) valid
    ∙ ap (λ (b : Bool). b && are_stored p.header.version p.header.stored p.stored) table ∙ stored

-- a file is its header, table and pages
pub made : (given : List ℕ) (p : DiffParts) → Fit p → IsTrue (are_names p.header.names) → IsTrue (is_table p.header p.runs)
    → IsTrue (are_stored p.header.version p.header.stored p.stored)
    → given ≡ header.bytes p.header ++ (table_bytes p.header.version p.runs ++ p.stored) → IsDiffFile given (copy_of p)
made given p fit valid table stored is = record {
  parts_of = p;
  fits = fits_of p fit;
  valid = all_valid p valid table stored;
  bytes = is ∙ sym (bytes_of_parts p);
  copy = refl;
}

from_zero : (runs : List Run) → IsFrom 0 runs
from_zero [] = tt
from_zero (r ∷ runs) = omega arith

-- the rules of parts
module _ (p : DiffParts) (fit : Fit p) (valid : is_valid p ≡ true) where
  both : ((are_names p.header.names && is_table p.header p.runs) ≡ true) × (are_stored p.header.version p.header.stored p.stored ≡ true)
  both = and_parts (are_names p.header.names && is_table p.header p.runs) (are_stored p.header.version p.header.stored p.stored) valid

  pub header_good : are_names p.header.names ≡ true
  header_good = (and_parts (are_names p.header.names) (is_table p.header p.runs) both.0).0

  pub table_good : is_table p.header p.runs ≡ true
  table_good = (and_parts (are_names p.header.names) (is_table p.header p.runs) both.0).1

  pub stored_good : are_stored p.header.version p.header.stored p.stored ≡ true
  stored_good = both.1

  pub runs_good : are_runs p.header.version p.header.names.pages p.runs ≡ true
  runs_good = (and_parts (are_runs p.header.version p.header.names.pages p.runs) (stored_in p.runs == p.header.stored) table_good).0

  pub many_stored : stored_in p.runs ≡ p.header.stored
  many_stored = eqb-true (stored_in p.runs) p.header.stored (and_parts (are_runs p.header.version p.header.names.pages p.runs) (stored_in p.runs == p.header.stored) table_good).1

  pub copy_whole : IsDiff (copy_of p)
  copy_whole = record {
    rise = numbers_rise p.header.version p.header.names.pages 0 p.runs runs_good (from_zero p.runs);
    size = size_of_bytes p.runs p.stored (ap (λ (n : ℕ). 4096 * n) many_stored ∙ sym fit.size);
  }

names_in : (g : DiffHeader) → header.Fits g → names.Fits g.names
unfolding header behind_gate
names_in g fits = fits.1.0.1.1

module _ (given : List ℕ) (d : DiffCopy) (is : IsDiffFile given d) where
  abbrev p : DiffParts
  p = is.parts_of

  abbrev h : DiffHeader
  h = is.parts_of.header

  fit : Fit p
  fit = parts_fit p is.fits

  shape : given ≡ header.bytes h ++ (table_bytes h.version p.runs ++ p.stored)
  shape = is.bytes ∙ bytes_of_parts p

  pub begins : Begins given h
  begins = record {
    fits = fit.head;
    valid = header_good p fit is.valid;
    behind = table_bytes h.version p.runs ++ p.stored;
    bytes = shape;
  }

  pub whole : IsDiff d
  whole = subst IsDiff (sym is.copy) (copy_whole p fit is.valid)

  of_names : h.names ≡ names_of d
  of_names = ap names_of (sym is.copy)

  pub names_good : are_names (names_of d) ≡ true
  names_good = subst (λ (n : DiffNames). are_names n ≡ true) of_names (header_good p fit is.valid)

  pub names_fit : names.Fits (names_of d)
  names_fit = subst (λ (n : DiffNames). names.Fits n) of_names (names_in h fit.head)

  table_long : length (table_bytes h.version p.runs) ≡ table_size h
  table_long = size_of_table h.version p.runs ∙ ap (λ (n : ℕ). entry_size h.version * n) fit.count

  rest_is : drop 64 given ≡ table_bytes h.version p.runs ++ p.stored
  rest_is = ap (drop 64) shape ∙ drop_at (header.bytes h) (table_bytes h.version p.runs ++ p.stored) 64 (fronts.length-header h)

  rest_long : length (table_bytes h.version p.runs ++ p.stored) ≡ size_behind h
  rest_long = omega (arith, length-append (table_bytes h.version p.runs) p.stored, table_long, fit.size)

  pub stored_size : 4096 * stored_in p.runs ≡ length p.stored
  stored_size = ap (λ (n : ℕ). 4096 * n) (many_stored p fit is.valid) ∙ sym fit.size

  pub size_of_file : length given ≡ 64 + size_behind h
  size_of_file = omega (arith, ap length shape, length-append (header.bytes h) (table_bytes h.version p.runs ++ p.stored), fronts.length-header h, rest_long)

  pub table_is : IsTable h (take (table_size h) (drop 64 given)) p.runs
  table_is = record {
    count = fit.count;
    fit = fit.fit;
    bytes = ap (take (table_size h)) rest_is ∙ take_at (table_bytes h.version p.runs) p.stored (table_size h) table_long;
    valid = table_good p fit is.valid;
  }

  pub stored_is : drop (table_size h) (drop 64 given) ≡ p.stored
  stored_is = ap (drop (table_size h)) rest_is ∙ drop_at (table_bytes h.version p.runs) p.stored (table_size h) table_long

  -- where the file is of bytes, so is the diff
  pub copy_of_bytes : IsBytes given → IsBytes d.bytes
  copy_of_bytes bytes =
      subst (λ (c : DiffCopy). IsBytes c.bytes) (sym is.copy)
      (runs_of_bytes p.runs p.stored (subst IsBytes stored_is (bytes_behind (table_size h) (drop 64 given) (bytes_behind 64 given bytes))))

  rest_again : rest_read h (drop 64 given) ≡ Ok d
  rest_again =
      let rest : List ℕ = drop 64 given in
      let table : List ℕ = take (table_size h) rest in
      let pages : List ℕ = drop (table_size h) rest in
      let size : length rest ≡ size_behind h = ap length rest_is ∙ rest_long in
      ap (λ (b : Bool). cond b (table_read h pages ((times h.count (entry h.version)).reads table)) (Err refusal.BadField)) (eq-eqb _ _ size)
      ∙ ap (λ (l : List ℕ). table_read h pages ((times h.count (entry h.version)).reads l)) table_is.bytes
      ∙ ap (table_read h pages) (table_reads h.version p.runs h.count fit.fit fit.count)
      ∙ ap (λ (b : Bool). cond b (pages_read h p.runs pages) (Err refusal.BadField)) table_is.valid
      ∙ ap (pages_read h p.runs) stored_is
      ∙ ap (λ (b : Bool). cond b (Ok (copy_of p)) (Err refusal.BadField)) (stored_good p fit is.valid)
      ∙ ap (λ (c : DiffCopy). Ok c) (sym is.copy)

  begins_front : Begins (take 64 given) h
  begins_front = record {
    fits = fit.head;
    valid = begins.valid;
    behind = [];
    bytes = ap (take 64) shape ∙ take_at (header.bytes h) (table_bytes h.version p.runs ++ p.stored) 64 (fronts.length-header h) ∙ sym (append-nil (header.bytes h));
  }

  pub found_again : diff_found (Some given) ≡ Ok d
  found_again = fronts.front_read (take 64 given) (drop 64 given) h begins_front ∙ rest_again

pub one : (given : List ℕ) (c d : DiffCopy) → IsDiffFile given c → IsDiffFile given d → c ≡ d
one given c d a b =
    let same : ◌≡◌ {A = Result DiffCopy Refusal} (Ok c) (Ok d) = sym (found_again given c a) ∙ found_again given d b in cc

-- ---- what is found is a diff

no_refusal : (b : Bool) (why : Refusal) (r : Result DiffCopy Refusal) (v : DiffCopy) → cond b (Err why) r ≡ Ok v → (b ≡ false) × (r ≡ Ok v)
no_refusal true why r v is = absurd cc
no_refusal false why r v is = (refl, is)

accepted : (b : Bool) (why : Refusal) (r : Result DiffCopy Refusal) (v : DiffCopy) → cond b r (Err why) ≡ Ok v → (b ≡ true) × (r ≡ Ok v)
accepted true why r v is = (refl, is)
accepted false why r v is = absurd cc

none_left : (rest : List ℕ) → length rest ≡ 0 → rest ≡ []
none_left [] is = refl
none_left (b ∷ bs) is = absurd (omega (arith, is))

-- all of a front that was read
pub whole_front : (h : DiffHeader) (front rest : List ℕ) → length front ≤ 64 → front ≡ header.bytes h ++ rest → front ≡ header.bytes h
whole_front h front rest size is =
    let none : rest ≡ [] = none_left rest (omega (arith, size, ap length is, length-append (header.bytes h) rest, fronts.length-header h)) in
    is ∙ ap (λ (l : List ℕ). header.bytes h ++ l) none ∙ append-nil (header.bytes h)

-- a table that was read to its end
pub whole_table : (v : Version) (runs : List Run) (table left : List ℕ) (count : ℕ) → length table ≡ entry_size v * count → length runs ≡ count
    → table ≡ table_bytes v runs ++ left → table ≡ table_bytes v runs
whole_table v runs table left count size many is =
    let long = size_of_table v runs ∙ ap (λ (n : ℕ). entry_size v * n) many in
    let none : left ≡ [] = none_left left (omega (arith, size, ap length is, length-append (table_bytes v runs) left, long)) in
    is ∙ ap (λ (l : List ℕ). table_bytes v runs ++ l) none ∙ append-nil (table_bytes v runs)

module _ (given : List ℕ) (h : DiffHeader) (d : DiffCopy) (fits : header.Fits h) (valid : are_names h.names ≡ true) (front : take 64 given ≡ header.bytes h)
    (size : length (drop 64 given) ≡ size_behind h) where
  abbrev rest : List ℕ
  rest = drop 64 given

  abbrev table : List ℕ
  table = take (table_size h) (drop 64 given)

  abbrev pages : List ℕ
  pages = drop (table_size h) (drop 64 given)

  runs_found : (runs : List Run) (left : List ℕ) → IsBytes table → (times h.count (entry h.version)).reads table ≡ Some (runs, left)
      → table_read h pages (Some (runs, left)) ≡ Ok d → IsDiffFile given d
  runs_found runs left bytes read is =
      let found : DiffParts = record { header = h; runs = runs; stored = pages } in
      let good = accepted (is_table h runs) refusal.BadField (pages_read h runs pages) d is in
      let full = accepted (are_stored h.version h.stored pages) refusal.BadField (Ok (copy_of found)) d good.1 in
      let same : copy_of found ≡ d = (let e : ◌≡◌ {A = Result DiffCopy Refusal} (Ok (copy_of found)) (Ok d) = full.1 in cc) in
      let takes = table_only h.version h.count table left runs bytes read in
      let long : length table ≡ table_size h = length-take-le (table_size h) rest (omega (arith, size)) in
      let all : table ≡ table_bytes h.version runs = whole_table h.version runs table left h.count long takes.0 takes.1.1 in
      let fit : Fit found = record { head = fits; count = takes.0; fit = takes.1.0; size = omega (arith, size, length-drop (table_size h) rest) } in
      subst (λ (e : DiffCopy). IsDiffFile given e) same
      (made given found fit valid good.0 full.0 (
      sym (take-append-drop 64 given)
      ∙ ap (λ (l : List ℕ). l ++ rest) front
      ∙ ap (λ (l : List ℕ). header.bytes h ++ l) (sym (take-append-drop (table_size h) rest) ∙ ap (λ (l : List ℕ). l ++ pages) all)
      ))

  table_found : (o : Option (List Run × List ℕ)) → IsBytes table → (times h.count (entry h.version)).reads table ≡ o
      → table_read h pages o ≡ Ok d → IsDiffFile given d
  table_found None bytes read is = absurd cc
  table_found (Some (runs, left)) bytes read is = runs_found runs left bytes read is

header_found : (given : List ℕ) (d : DiffCopy) (o : Option (DiffHeader × List ℕ)) → IsBytes given → header.reads (take 64 given) ≡ o → header_read (drop 64 given) o ≡ Ok d → IsDiffFile given d
header_found given d None bytes read is = absurd cc
header_found given d (Some (h, left)) bytes read is =
    let rest : List ℕ = drop 64 given in
    let takes = header.only (take 64 given) h left (bytes_front 64 given bytes) read in
    let front : take 64 given ≡ header.bytes h = whole_front h (take 64 given) left (omega (arith, length-take 64 given)) takes.1 in
    let valid = accepted (are_names h.names) refusal.BadField (rest_read h rest) d is in
    let reads : Option (List Run × List ℕ) = (times h.count (entry h.version)).reads (take (table_size h) rest) in
    let size = accepted (length rest == size_behind h) refusal.BadField (table_read h (drop (table_size h) rest) reads) d valid.1 in
    table_found given h d takes.0 valid.0 front (eqb-true _ _ size.0) reads (bytes_front (table_size h) rest (bytes_behind 64 given bytes)) refl size.1

pub found_good : (given : List ℕ) (d : DiffCopy) → IsBytes given → diff_found (Some given) ≡ Ok d → IsDiffFile given d
found_good given d bytes is =
    let rest : Result DiffCopy Refusal = header_read (drop 64 given) (header.reads (take 64 given)) in
    let opened = no_refusal (is_closed 64 (take 64 given)) refusal.GateClosed (cond (is_other (magic (version_of (take 64 given))) (take 64 given)) (Err refusal.WrongMagic) rest) d is in
    let known = no_refusal (is_other (magic (version_of (take 64 given))) (take 64 given)) refusal.WrongMagic rest d opened.1 in
    header_found given d (header.reads (take 64 given)) bytes refl known.1
