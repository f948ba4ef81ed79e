-- Runs of pages: what the entries of a diff's table are, of either version.
use Rattle.std.specs.Prelude.{ℕ, zero, suc, ◌+◌, ◌*◌, ◌==◌, nat_le, nat_lt, ◌&&◌, ◌||◌, not, Bool, true, false, if◌then◌else◌}
use Rattle.std.specs.Prelude.{List, [], ◌∷◌, ◌++◌, take, drop, replicate}
use Rattle.std.specs.Bool.{beq}
use Rattle.file_format.specs.Readers.{are_zeros}
use Rattle.file_format.specs.declared.version.Version.{Version}
use Rattle.file_format.specs.declared.version.Version.TheVariants.{One, Two}
use Rattle.guest_memory.specs.Ram.{page_size}
use Rattle.snap_diff.specs.declared.run.Run.{Run}

-- ---- the pages of runs

-- so many numbers, from this one on
abbrev pub numbers_from : ℕ → ℕ → List ℕ
numbers_from first zero = []
numbers_from first (suc count) = first ∷ numbers_from (suc first) count

-- which pages the runs have
abbrev pub numbers_of : List Run → List ℕ
numbers_of [] = []
numbers_of (r ∷ runs) = numbers_from r.first r.length ++ numbers_of runs

-- and the bytes of these, one page behind the other: those of a stored run are the next of these, those of another are zeros
abbrev pub bytes_of : List Run → List ℕ → List ℕ
bytes_of [] stored = []
bytes_of (r ∷ runs) stored =
    if r.stored then take (page_size * r.length) stored ++ bytes_of runs (drop (page_size * r.length) stored)
    else replicate (page_size * r.length) 0 ++ bytes_of runs stored

-- how many pages are stored
abbrev pub stored_in : List Run → ℕ
stored_in [] = 0
stored_in (r ∷ runs) = (if r.stored then r.length else 0) + stored_in runs

-- ---- which runs a table can have

-- a page at least, and all inside a memory of so many
abbrev pub is_inside : ℕ → Run → Bool
is_inside pages r = nat_le 1 r.length && nat_le (r.first + r.length) pages

-- In version 1 each page is a run of its own. In version 2 runs that touch differ in kind: else they are one run.
abbrev pub may_touch : Version → Run → Run → Bool
may_touch One r s = true
may_touch Two r s = not (beq r.stored s.stored)

-- the second run may come next: it begins behind the first
abbrev pub may_follow : Version → Run → Run → Bool
may_follow v r s = nat_le (r.first + r.length) s.first && (may_touch v r s || nat_lt (r.first + r.length) s.first)

-- the first of them is inside the memory, and the second may follow it
abbrev pub heads : Version → ℕ → List Run → Bool
heads v pages [] = true
heads v pages (r ∷ []) = is_inside pages r
heads v pages (r ∷ s ∷ runs) = is_inside pages r && may_follow v r s

-- each is inside the memory, and they rise
abbrev pub are_runs : Version → ℕ → List Run → Bool
are_runs v pages [] = true
are_runs v pages (r ∷ runs) = heads v pages (r ∷ runs) && are_runs v pages runs

-- ---- pages of zeros

-- which of so many pages have a byte that isn't zero
abbrev pub kinds_of : ℕ → List ℕ → List Bool
kinds_of zero bytes = []
kinds_of (suc count) bytes = not (are_zeros (take page_size bytes)) ∷ kinds_of count (drop page_size bytes)

-- the pages that are of this kind, one behind the other
abbrev pub filled_of : List Bool → List ℕ → List ℕ
filled_of [] bytes = []
filled_of (kind ∷ kinds) bytes = (if kind then take page_size bytes else []) ++ filled_of kinds (drop page_size bytes)

-- those numbers of pages that are of this kind
abbrev pub chosen : List ℕ → List Bool → List ℕ
chosen (number ∷ numbers) (kind ∷ kinds) = if kind then number ∷ chosen numbers kinds else chosen numbers kinds
chosen numbers kinds = []

-- ---- the runs of given pages, in version 2: as few as there can be

abbrev pub run_of : ℕ → Bool → Run
run_of number kind = record { first = number; length = 1; stored = kind }

-- a page of this number and kind is the next of the run
abbrev pub goes_on : Run → ℕ → Bool → Bool
goes_on r number kind = (r.first + r.length == number) && beq r.stored kind

-- this run, with as many of the pages as go on with it, and those of the others
abbrev pub runs_from : Run → List ℕ → List Bool → List Run
runs_from r (number ∷ numbers) (kind ∷ kinds) =
    if goes_on r number kind then runs_from (record r { length = suc r.length }) numbers kinds
    else r ∷ runs_from (run_of number kind) numbers kinds
runs_from r numbers kinds = r ∷ []

abbrev pub runs_of : List ℕ → List Bool → List Run
runs_of (number ∷ numbers) (kind ∷ kinds) = runs_from (run_of number kind) numbers kinds
runs_of numbers kinds = []
