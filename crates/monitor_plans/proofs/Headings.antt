-- What stands before the pages of a diff, and which pages these are.
use Rattle.std.proofs.Common.{◌≡◌, ◌==◌, ℕ, suc, ◌+◌, ◌*◌, ◌≤◌, nat_le, nat_lt, Bool, true, false, not, ◌&&◌, cond, List, [], ◌∷◌, ◌++◌, Some, length, drop, slice_get, refl, sym, ap, ◌∙◌, arith}
use Rattle.std.specs.List.{list_all}
use Rattle.std.specs.Prelude.{IsTrue, ◌/◌}
use Rattle.std.proofs.lemmas.Bool.{and_from, and_parts, eq-eqb, le-leb, leb-true, lt-ltb}
use Rattle.std.proofs.lemmas.List.{length-map}
use Rattle.vm_types.specs.declared.identity.Identity.{Identity}
use Rattle.file_format.specs.Identities.{is_numbered, is_same}
use Rattle.guest_pages.specs.Marks.{marked_from}
use Rattle.guest_pages.specs.Pages.{PageValue, flat_of, marks_of}
use Rattle.flat_guest.specs.Guest.{Guest, numbers_written}
use Rattle.file_format.specs.declared.version.Version.TheVariants.{Two}
use Rattle.snap_diff.specs.declared.header.DiffNames.{DiffNames}
use Rattle.snap_diff.specs.declared.run.Run.{Run}
use Rattle.snap_diff.specs.Copies.{pages_at, rises}
use Rattle.snap_diff.specs.Diffs.{is_table, runs_in, stored_pages, table_bytes}
use Rattle.snap_diff.specs.Headers.{header}
use Rattle.snap_diff.specs.Runs.{are_runs, chosen, kinds_of, runs_of, stored_in}
use Rattle.snap_diff.proofs.Filled.{as_many_kinds}
use Rattle.snap_diff.proofs.Written.{few_runs, filled_at, runs_are, stored_chosen}
use Rattle.flat_snapshot.specs.Files.{diff_head, diff_in, saved_pages}
use Rattle.snap_writer.specs.Selected.{are_there}
use Rattle.snap_writer.proofs.ByKind.{few_chosen}
use Rattle.snap_writer.proofs.Selecting.{length-pages}
use Rattle.vm_world.specs.Worlds.{IsWorld, WorldValue}
use Rattle.monitor_plans.specs.Headings.{HasParent, kinds_in}

-- the pages that are marked are those that were written
by_mark : (mark wrote : Bool) (i : ℕ) (marks : List Bool) (others : List ℕ) → mark ≡ wrote → marked_from (suc i) marks ≡ others
    → marked_from i (mark ∷ marks) ≡ cond wrote (i ∷ others) others
by_mark true wrote i marks others is rest =
    ap (λ (l : List ℕ). i ∷ l) rest ∙ ap (λ (c : Bool). cond c (i ∷ others) others) is
by_mark false wrote i marks others is rest = rest ∙ ap (λ (c : Bool). cond c (i ∷ others) others) is

marked_written : (marks : List Bool) (i : ℕ) (written : ℕ → Bool)
    → ((k : ℕ) (m : Bool) → slice_get marks k ≡ Some m → m ≡ written (i + k))
    → marked_from i marks ≡ numbers_written written i (length marks)
marked_written [] i written are = refl
marked_written (b ∷ marks) i written are =
    let first : i + 0 ≡ i = omega arith in
    let next : (k : ℕ) → i + suc k ≡ suc i + k = λ k. omega arith in
    by_mark b (written i) i marks (numbers_written written (suc i) (length marks)) (are 0 b refl ∙ ap written first)
    (marked_written marks (suc i) written (λ k m is. are (suc k) m is ∙ ap written (next k)))

pub numbers_are : (w : WorldValue) (g : Guest) (pages : ℕ) (numbers : List ℕ) → IsWorld w g → length w.pages ≡ pages
    → numbers ≡ marked_from 0 (marks_of w.pages) → numbers ≡ numbers_written g.written 0 pages
numbers_are w g pages numbers is long marked =
    let zero_first : (k : ℕ) → k ≡ 0 + k = λ k. omega arith in
    marked
    ∙ marked_written (marks_of w.pages) 0 g.written (λ k m there. is.marks_are k m there ∙ ap g.written (zero_first k))
    ∙ ap (λ (n : ℕ). numbers_written g.written 0 n) (length-map w.pages (λ (p : PageValue). p.marked) ∙ long)

-- their numbers rise
pub rises_marked : (marks : List Bool) (i low pages : ℕ) → low ≤ i → i + length marks ≤ pages
    → rises pages low (marked_from i marks) ≡ true
rises_marked [] i low pages from to = refl
rises_marked (true ∷ marks) i low pages from to =
    let a : nat_le low i ≡ true = le-leb low i from in
    let b : nat_lt i pages ≡ true = lt-ltb i pages (omega (arith, to)) in
    let c = rises_marked marks (suc i) (suc i) pages (omega arith) (omega (arith, to)) in
    rw (a, b, c) refl
rises_marked (false ∷ marks) i low pages from to = rises_marked marks (suc i) low pages (omega (arith, from)) (omega (arith, to))

pub numbers_rise : (pages : List PageValue) (count : ℕ) (numbers : List ℕ) → length pages ≡ count
    → numbers ≡ marked_from 0 (marks_of pages) → rises count 0 numbers ≡ true
numbers_rise pages count numbers long marked =
    ap (rises count 0) marked
    ∙ rises_marked (marks_of pages) 0 0 count (omega arith) (omega (arith, long, length-map pages (λ (p : PageValue). p.marked)))

-- they are numbers of pages, and no more than there are pages
marked_few : (marks : List Bool) (i : ℕ) → length (marked_from i marks) ≤ length marks
marked_few [] i = omega arith
marked_few (true ∷ marks) i = let few = marked_few marks (suc i) in omega (arith, few)
marked_few (false ∷ marks) i = let few = marked_few marks (suc i) in omega (arith, few)

marked_below : (marks : List Bool) (i count : ℕ) → i + length marks ≤ count
    → list_all (λ n. nat_lt n count) (marked_from i marks) ≡ true
marked_below [] i count to = refl
marked_below (true ∷ marks) i count to =
    let first : nat_lt i count ≡ true = lt-ltb i count (omega (arith, to)) in
    let more = marked_below marks (suc i) count (omega (arith, to)) in
    rw (first, more) refl
marked_below (false ∷ marks) i count to = marked_below marks (suc i) count (omega (arith, to))

pub are_pages : (pages : List PageValue) (numbers : List ℕ) → numbers ≡ marked_from 0 (marks_of pages)
    → are_there numbers (length pages) ≡ true
are_pages pages numbers marked =
    let marks = marks_of pages in
    let long : length marks ≡ length pages = length-map pages (λ (p : PageValue). p.marked) in
    let few : nat_le (length (marked_from 0 marks)) (length pages) ≡ true =
    le-leb (length (marked_from 0 marks)) (length pages) (omega (arith, marked_few marks 0, long)) in
    let below = marked_below marks 0 (length pages) (omega (arith, long)) in
    ap (λ (ns : List ℕ). are_there ns (length pages)) marked ∙ rw (few, below) refl

-- no more than there are pages
pub few_numbers : (pages : List PageValue) (numbers : List ℕ) → numbers ≡ marked_from 0 (marks_of pages) → length numbers ≤ length pages
few_numbers pages numbers marked =
    let many = ap length marked in
    let marks = marked_few (marks_of pages) 0 in
    omega (arith, many, marks, length-map pages (λ (p : PageValue). p.marked))

pub few_there : (numbers : List ℕ) (count : ℕ) → are_there numbers count ≡ true → length numbers ≤ count
few_there numbers count there =
    leb-true (length numbers) count (and_parts (nat_le (length numbers) count) (list_all (λ n. nat_lt n count) numbers) there).0

-- a header of a diff since another snapshot
pub is_diff : (parent identity : Identity) → IsTrue (is_numbered identity) → HasParent (Some parent) identity
    → (is_numbered parent && is_numbered identity && not (is_same parent identity)) ≡ true
is_diff parent identity own (other, differ) =
    and_from _ (not (is_same parent identity)) (and_from (is_numbered parent) (is_numbered identity) other own)
    (ap not differ)

-- ---- the pages that are stored

-- of a memory that is there, each kind by its own page
pub kinds_here : (count : ℕ) (ns bytes given : List ℕ) → given ≡ pages_at ns bytes → length bytes ≡ 4096 * count → are_there ns count ≡ true
    → kinds_of (length given / 4096) given ≡ kinds_of (length ns) (pages_at ns bytes)
kinds_here count ns bytes given is whole there =
    let size = length-pages ns count bytes whole (and_parts (nat_le (length ns) count) (list_all (λ n. nat_lt n count) ns) there).1 in
    let many : length (pages_at ns bytes) / 4096 ≡ length ns = omega (arith, size) in
    ap (λ (l : List ℕ). kinds_of (length l / 4096) l) is ∙ ap (λ (n : ℕ). kinds_of n (pages_at ns bytes)) many

-- one for each page
pub as_many_in : (pages : List PageValue) (ns : List ℕ) → length (kinds_in pages ns) ≡ length ns
as_many_in pages ns = as_many_kinds (length ns) (pages_at ns (flat_of pages).bytes)

-- the runs that they are fit the header
pub table_is : (parent identity : Identity) (pages count stored : ℕ) (ns some : List ℕ) (kinds : List Bool) (runs : List Run)
    → runs ≡ runs_of ns kinds → some ≡ chosen ns kinds → stored ≡ length some → length kinds ≡ length ns → rises pages 0 ns ≡ true
    → is_table (record {
      version = Two;
      names = record { pages = pages; parent = parent; identity = identity };
      count = count;
      stored = stored;
    }) runs ≡ true
table_is parent identity pages count stored ns some kinds runs runs_is some_is filled many rise =
    and_from (are_runs Two pages runs) (stored_in runs == stored)
    (ap (are_runs Two pages) runs_is ∙ runs_are pages 0 ns kinds rise)
    (eq-eqb (stored_in runs) stored
    (ap stored_in runs_is ∙ stored_chosen ns kinds many ∙ ap (λ (l : List ℕ). length l) (sym some_is) ∙ sym filled))

-- no more of either than there are pages
pub few_of : (pages : ℕ) (ns some : List ℕ) (kinds : List Bool) (runs : List Run) → runs ≡ runs_of ns kinds → some ≡ chosen ns kinds
    → length ns ≤ pages → (length runs ≤ pages) × (length some ≤ pages)
few_of pages ns some kinds runs runs_is some_is few = (
  omega (arith, ap (λ (l : List Run). length l) runs_is, few_runs ns kinds, few),
  omega (arith, ap (λ (l : List ℕ). length l) some_is, few_chosen ns kinds, few),
)

-- the kinds of pages of a memory are those of each guest that it is
pub kinds_there : (w : WorldValue) (g : Guest) (memory : List PageValue) (ns : List ℕ) → IsWorld w g → memory ≡ w.pages
    → kinds_in memory ns ≡ kinds_of (length ns) (pages_at ns g.memory.bytes)
kinds_there w g memory ns is same =
    ap (λ (ps : List PageValue). kinds_in ps ns) same ∙ (λ i. kinds_of (length ns) (pages_at ns (is.memory_is i).bytes))

pub memory_whole : (w : WorldValue) (g : Guest) (memory : List PageValue) (count pages : ℕ) → IsWorld w g → memory ≡ w.pages
    → length (flat_of memory).bytes ≡ 4096 * count → count ≡ length memory → pages ≡ length w.pages → length g.memory.bytes ≡ 4096 * pages
memory_whole w g memory count pages is same whole many all =
    let bytes : length (flat_of w.pages).bytes ≡ length g.memory.bytes = (λ i. length (is.memory_is i).bytes) in
    let here : length (flat_of memory).bytes ≡ length (flat_of w.pages).bytes = ap (λ (ps : List PageValue). length (flat_of ps).bytes) same in
    let long : length memory ≡ length w.pages = ap (λ (ps : List PageValue). length ps) same in
    omega (arith, bytes, here, long, whole, many, all)

-- they are what is saved of a diff
pub saved_are : (parent : Identity) (pages : ℕ) (ns : List ℕ) (kinds : List Bool) (g : Guest) → ns ≡ numbers_written g.written 0 pages
    → kinds ≡ kinds_of (length ns) (pages_at ns g.memory.bytes) → rises pages 0 ns ≡ true → length g.memory.bytes ≡ 4096 * pages
    → pages_at (chosen ns kinds) g.memory.bytes ≡ saved_pages (Some parent) pages g
saved_are parent pages ns kinds g are kinds_are rise whole =
    ap (λ (ks : List Bool). pages_at (chosen ns ks) g.memory.bytes) kinds_are
    ∙ sym (filled_at pages 0 ns g.memory.bytes rise whole)
    ∙ ap (λ (l : List ℕ). stored_pages Two (length l) (pages_at l g.memory.bytes)) are

-- the header and the table
pub diff_head_is : (parent identity : Identity) (pages count stored : ℕ) (ns start head : List ℕ) (kinds : List Bool) (runs : List Run) (g : Guest)
    → ns ≡ numbers_written g.written 0 pages → kinds ≡ kinds_of (length ns) (pages_at ns g.memory.bytes) → runs ≡ runs_of ns kinds
    → count ≡ length runs → stored ≡ stored_in runs
    → 1 ∷ start ≡ header.bytes (record { version = Two; names = record { pages = pages; parent = parent; identity = identity }; count = count; stored = stored }) ++ table_bytes Two runs
    → head ≡ start → head ≡ diff_head (diff_in parent identity pages g)
unfolding diff_head
diff_head_is parent identity pages count stored ns start head kinds runs g are kinds_are runs_are many filled written same =
    let names : DiffNames = record { pages = pages; parent = parent; identity = identity } in
    let all : runs ≡ runs_in Two (diff_in parent identity pages g) =
    runs_are ∙ ap (runs_of ns) kinds_are ∙ ap (λ (l : List ℕ). runs_of l (kinds_of (length l) (pages_at l g.memory.bytes))) are in
    same ∙ ap (drop 1) written
    ∙ ap (λ (n : ℕ). drop 1 (header.bytes (record { version = Two; names = names; count = n; stored = stored }) ++ table_bytes Two runs)) many
    ∙ ap (λ (n : ℕ). drop 1 (header.bytes (record { version = Two; names = names; count = length runs; stored = n }) ++ table_bytes Two runs)) filled
    ∙ ap (λ (rs : List Run). drop 1 (header.bytes (record { version = Two; names = names; count = length rs; stored = stored_in rs }) ++ table_bytes Two rs)) all
