-- A diff file: 64 bytes of header, a table of runs, and the pages that are stored. Numbers are little-endian.
use Rattle.std.specs.Prelude.{◌≡◌, ℕ, zero, suc, ◌+◌, ◌*◌, ◌==◌, ◌&&◌, Bool, true, false, IsTrue, List, ◌++◌, length, map, refl}
use Rattle.std.specs.Prelude.{Result, Ok, Err}
use Rattle.std.specs.List.{AllByRecursion, flat_map, list_all}
use Rattle.std.proofs.Common.{ap, sym}
use Rattle.file_format.specs.Format.{Format}
use Rattle.file_format.specs.Kinds.{number32, raw, times, just, nothing, ◌&◌, made_of, variant, chosen_by}
use Rattle.file_format.specs.declared.error.ReadError.{ReadError}
use Rattle.file_format.specs.declared.error.ReadError.TheVariants.{Bad, Memory}
use Rattle.file_format.specs.declared.version.Version.{Version}
use Rattle.file_format.specs.declared.version.Version.TheVariants.{One, Two}
use Rattle.guest_memory.specs.Ram.{page_size}
use Rattle.snap_diff.specs.declared.header.DiffHeader.{DiffHeader}
use Rattle.snap_diff.specs.declared.run.Run.{Run}
use Rattle.snap_diff.specs.Copies.{DiffCopy}
use Rattle.snap_diff.specs.Headers.{are_names, header, names_of}
use Rattle.snap_diff.specs.Runs.{are_runs, bytes_of, filled_of, kinds_of, numbers_of, run_of, runs_of, stored_in}

-- ---- the table

-- the kind of a run: 0 zeros, 1 stored
abbrev pub kind_number : Bool → ℕ
kind_number false = 0
kind_number true = 1

abbrev pub run_kinds : ℕ → Format Bool
run_kinds zero = just false
run_kinds (suc zero) = just true
run_kinds (suc (suc n)) = nothing

pub run_kinds_are : (n : ℕ) (kind : Bool) → (run_kinds n).Fits kind → n ≡ kind_number kind
run_kinds_are zero kind fits = sym (ap kind_number fits)
run_kinds_are (suc zero) kind fits = sym (ap kind_number fits)
run_kinds_are (suc (suc n)) kind fits = absurd fits

unfoldable pub run_kind : Format Bool
run_kind = chosen_by number32 run_kinds kind_number run_kinds_are

-- In version 1 the number of a page, which is stored. In version 2 the number of the first page, how many pages, and their
-- kind.
unfoldable pub entry : Version → Format Run
entry One = variant (λ number. run_of number true) (λ r. r.first) (λ _. refl) number32
entry Two =
    made_of (λ r. (r.first, (r.length, r.stored)))
    (λ (first, (length, stored)). record { first = first; length = length; stored = stored })
    (λ _. refl) (λ _. refl)
    (number32 & number32 & run_kind)

abbrev pub entry_size : Version → ℕ
entry_size One = 4
entry_size Two = 12

-- ---- the encoding

-- a diff as its file has it: the header, the runs, and the bytes of the stored pages
pub record DiffParts : Type 0 where
  pub header : DiffHeader
  pub runs : List Run
  pub stored : List ℕ

-- behind a header are as many entries and as many pages as it says
abbrev pub behind : DiffHeader → Format DiffParts
behind h =
    variant (λ (runs, stored). record { header = h; runs = runs; stored = stored }) (λ p. (p.runs, p.stored)) (λ _. refl)
    (times h.count (entry h.version) & raw (page_size * h.stored))

pub header_is : (h : DiffHeader) (p : DiffParts) → (behind h).Fits p → h ≡ p.header
header_is h p fits = sym (ap (λ (q : DiffParts). q.header) fits.0)

unfoldable pub parts : Format DiffParts
parts = chosen_by header behind (λ p. p.header) header_is

-- ---- which files there are

-- in version 2 no page of zeros is stored
abbrev pub are_stored : Version → ℕ → List ℕ → Bool
are_stored One count stored = true
are_stored Two count stored = list_all (λ kind. kind) (kinds_of count stored)

-- the runs rise inside the memory, and have as many stored pages as the header says
abbrev pub is_table : DiffHeader → List Run → Bool
is_table h runs = are_runs h.version h.names.pages runs && (stored_in runs == h.stored)

abbrev pub is_valid : DiffParts → Bool
is_valid p = are_names p.header.names && is_table p.header p.runs && are_stored p.header.version p.header.stored p.stored

-- the diff that they are
abbrev pub copy_of : DiffParts → DiffCopy
copy_of p = record {
  pages = p.header.names.pages;
  parent = p.header.names.parent;
  identity = p.header.names.identity;
  numbers = numbers_of p.runs;
  bytes = bytes_of p.runs p.stored;
}

-- these bytes are a file of this copy; its gate is open
pub record IsDiffFile (given : List ℕ) (d : DiffCopy) : Type 0 where
  pub parts_of : DiffParts
  pub fits : parts.Fits parts_of
  pub valid : IsTrue (is_valid parts_of)
  pub bytes : given ≡ parts.bytes parts_of
  pub copy : d ≡ copy_of parts_of

-- ---- the parts of a diff, in each version

-- in version 1 a run for each page, and in version 2 one for as many pages of one kind as follow each other
abbrev pub runs_in : Version → DiffCopy → List Run
runs_in One d = map (λ number. run_of number true) d.numbers
runs_in Two d = runs_of d.numbers (kinds_of (length d.numbers) d.bytes)

-- of so many pages all, or those that aren't zeros
abbrev pub stored_pages : Version → ℕ → List ℕ → List ℕ
stored_pages One count bytes = bytes
stored_pages Two count bytes = filled_of (kinds_of count bytes) bytes

abbrev pub header_in : Version → DiffCopy → DiffHeader
header_in v d = record {
  version = v;
  names = names_of d;
  count = length (runs_in v d);
  stored = stored_in (runs_in v d);
}

abbrev pub parts_in : Version → DiffCopy → DiffParts
parts_in v d = record { header = header_in v d; runs = runs_in v d; stored = stored_pages v (length d.numbers) d.bytes }

-- ---- for the parts of the code

-- these bytes begin with this header, whatever follows it
pub record Begins (given : List ℕ) (h : DiffHeader) : Type 0 where
  pub fits : header.Fits h
  pub valid : IsTrue (are_names h.names)
  pub behind : List ℕ
  pub bytes : given ≡ header.bytes h ++ behind

-- the header at a front whose gate, magic and version were tested
abbrev pub Found : List ℕ → Result DiffHeader ReadError → Type 0
Found given (Ok h) = Begins given h
Found given (Err Bad) = (h : DiffHeader) → ¬ (Begins given h)
Found given (Err Memory) = Unit {0}

-- the entries of these runs, one behind the other
abbrev pub table_bytes : Version → List Run → List ℕ
table_bytes v = flat_map (entry v).bytes

-- how many bytes there are behind the header
abbrev pub table_size : DiffHeader → ℕ
table_size h = entry_size h.version * h.count

abbrev pub size_behind : DiffHeader → ℕ
size_behind h = table_size h + page_size * h.stored

-- these bytes are the table of these runs
pub record IsTable (h : DiffHeader) (table : List ℕ) (runs : List Run) : Type 0 where
  pub count : length runs ≡ h.count
  pub fit : AllByRecursion (entry h.version).Fits runs
  pub bytes : table ≡ table_bytes h.version runs
  pub valid : IsTrue (is_table h runs)

-- the table at bytes behind a header
abbrev pub TableFound : DiffHeader → List ℕ → Result (List Run) ReadError → Type 0
TableFound h table (Ok runs) = IsTable h table runs
TableFound h table (Err Bad) = (runs : List Run) → ¬ (IsTable h table runs)
TableFound h table (Err Memory) = Unit {0}
