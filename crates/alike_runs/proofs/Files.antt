-- Files that are alike, and what a create and a file that is put leave of them.
use Rattle.std.proofs.Common.{◌≡◌, ◌≢◌, ◌≤◌, ℕ, suc, Bool, true, false, cond, refl, sym, ap, subst, ◌∙◌, List, [], ◌∷◌, ◌++◌, length, drop, Option, Some, None, is_none, is_some, ◌⊎◌, inl, inr, arith, length-append}
use Rattle.std.proofs.lemmas.Slice.Eq.{bytes_eq-Decides}
use Rattle.std.proofs.lemmas.Map.Text.{is_eq-slice_cmp}
use Rattle.std.specs.Cmp.Lexicographic.{nat_list_cmp_total, slice_cmp}
use Rattle.std.specs.FinMap.{get, get-remove, insert, remove}
use Rattle.std.specs.Ordering.{eq_by_cmp, nat_cmp}
use Rattle.std.specs.Str.{bytes_eq}
use Rattle.std.proofs.lemmas.Bool.{false_from_ne_true}
use Rattle.vm_types.specs.Saved.{Saved}
use Rattle.vm_types.specs.declared.identity.Identity.{Identity}
use Rattle.gate_file.proofs.Inserts.{got_other, got_there}
use Rattle.vm_outside.proofs.Imaging.{got}
use Rattle.file_format.specs.Identities.{identity}
use Rattle.file_format.specs.Kinds.{byte, fixed, number32, number64}
use Rattle.file_format.specs.declared.version.Version.TheVariants.{Two}
use Rattle.snap_memory.specs.Headers.{header, new_header}
use Rattle.snap_diff.specs.Copies.{DiffCopy}
use Rattle.snap_diff.specs.Diffs.{header_in, runs_in, stored_pages, table_bytes}
use Rattle.snap_diff.specs.Headers as diffs
use Rattle.snap_diff.proofs.Fronts as diff_fronts
use Rattle.snap_state.specs.declared.copy.StateCopy.{StateCopy}
use Rattle.flat_snapshot.specs.Files.{diff_head, memory_head, state_body}
use Rattle.alike_runs.specs.Twins.{AlikeBase, AreTwins, IsAmong, IsTwin, Twins}
use Rattle.alike_runs.specs.Files.{AlikeBytes, AlikeFile, AlikeFiles, AreFiles, diff_as}
use Rattle.alike_runs.specs.Files.AreFiles.{StateFiles, MemoryFiles, DiffFiles}

-- ---- with more twins than before

pub among_from : (front twins : List Twins) (t : Twins) → IsAmong t twins → IsAmong t (front ++ twins)
among_from [] twins t among = among
among_from (new ∷ front) twins t among = inr (among_from front twins t among)

module _ (front twins : List Twins) where
  pub twin_from : (i j : Identity) → IsTwin twins i j → IsTwin (front ++ twins) i j
  twin_from i j (inl same) = inl same
  twin_from i j (inr among) = inr (among_from front twins (record { first = i; second = j }) among)

  files_from : (t : Twins) (a b : List ℕ) → AreFiles twins t a b → AreFiles (front ++ twins) t a b
  files_from t a b (StateFiles copy first second) = StateFiles copy first second
  files_from t a b (MemoryFiles pages bytes first second) = MemoryFiles pages bytes first second
  files_from t a b (DiffFiles i j d twin first second) = DiffFiles i j d (twin_from i j twin) first second

  pub bytes_from : (a b : List ℕ) → AlikeBytes twins a b → AlikeBytes (front ++ twins) a b
  bytes_from a b (inl same) = inl same
  bytes_from a b (inr (t, among, files)) = inr (t, among_from front twins t among, files_from t a b files)

  pub file_from : (a b : Option (List ℕ)) → AlikeFile twins a b → AlikeFile (front ++ twins) a b
  file_from None None alike = tt
  file_from None (Some b) alike = absurd alike
  file_from (Some a) None alike = absurd alike
  file_from (Some a) (Some b) alike = bytes_from a b alike

  pub base_from : (a b : Option Identity) → AlikeBase twins a b → AlikeBase (front ++ twins) a b
  base_from None None alike = tt
  base_from None (Some b) alike = absurd alike
  base_from (Some a) None alike = absurd alike
  base_from (Some a) (Some b) alike = twin_from a b alike

-- numbers that fall from below one fall from below each that is larger
pub twins_below : (next later : ℕ) (twins : List Twins) → next ≤ later → AreTwins next twins → AreTwins later twins
twins_below next later [] le are = tt
twins_below next later (t ∷ twins) le (below, same, are) = (omega (arith, le, below), same, are)

-- ---- how long they are

same_header : (pages : ℕ) (i j : Identity) → length (header.bytes (new_header pages i)) ≡ length (header.bytes (new_header pages j))
unfolding header fixed byte number32 identity number64
same_header pages i j = refl

dropped : (a b : List ℕ) → length a ≡ length b → length (drop 1 a) ≡ length (drop 1 b)
dropped [] [] same = refl
dropped [] (y ∷ b) same = absurd (omega (arith, same))
dropped (x ∷ a) [] same = absurd (omega (arith, same))
dropped (x ∷ a) (y ∷ b) same = omega (arith, same)

pub memory_long : (pages : ℕ) (i j : Identity) → length (memory_head i pages) ≡ length (memory_head j pages)
unfolding memory_head
memory_long pages i j = dropped (header.bytes (new_header pages i)) (header.bytes (new_header pages j)) (same_header pages i j)

pub diff_long : (p q i j : Identity) (d : DiffCopy) → length (diff_head (diff_as p i d)) ≡ length (diff_head (diff_as q j d))
unfolding diff_head
diff_long p q i j d =
    let table : List ℕ = table_bytes Two (runs_in Two d) in
    dropped (diffs.header.bytes (header_in Two (diff_as p i d)) ++ table) (diffs.header.bytes (header_in Two (diff_as q j d)) ++ table)
    (omega (
      arith,
      length-append (diffs.header.bytes (header_in Two (diff_as p i d))) table,
      length-append (diffs.header.bytes (header_in Two (diff_as q j d))) table,
      diff_fronts.length-header (header_in Two (diff_as p i d)),
      diff_fronts.length-header (header_in Two (diff_as q j d)),
    ))

pub state_long : (i j : Identity) (copy : StateCopy) → length (state_body i copy) ≡ length (state_body j copy)
unfolding state_body identity number32 number64
state_long i j copy = refl

joined : (a b c : List ℕ) → length a ≡ length b → length (a ++ c) ≡ length (b ++ c)
joined a b c same = omega (arith, length-append a c, length-append b c, same)

module _ (twins : List Twins) where
  files_long : (t : Twins) (a b : List ℕ) → AreFiles twins t a b → length a ≡ length b
  files_long t a b (StateFiles copy first second) =
      ap length first ∙ ap suc (state_long t.first t.second copy) ∙ sym (ap length second)
  files_long t a b (MemoryFiles pages bytes first second) =
      ap length first
      ∙ ap suc (joined (memory_head t.first pages) (memory_head t.second pages) bytes (memory_long pages t.first t.second))
      ∙ sym (ap length second)
  files_long t a b (DiffFiles i j d twin first second) =
      ap length first
      ∙ ap suc (joined (diff_head (diff_as i t.first d)) (diff_head (diff_as j t.second d)) (stored_pages Two (length d.numbers) d.bytes) (diff_long i j t.first t.second d))
      ∙ sym (ap length second)

  pub bytes_long : (a b : List ℕ) → AlikeBytes twins a b → length a ≡ length b
  bytes_long a b (inl same) = ap length same
  bytes_long a b (inr (t, among, files)) = files_long t a b files

  pub file_there : (a b : Option (List ℕ)) → AlikeFile twins a b → is_some a ≡ is_some b
  file_there None None alike = refl
  file_there None (Some b) alike = absurd alike
  file_there (Some a) None alike = absurd alike
  file_there (Some a) (Some b) alike = refl

  pub base_none : (a b : Option Identity) → AlikeBase twins a b → is_none a ≡ is_none b
  base_none None None alike = refl
  base_none None (Some b) alike = absurd alike
  base_none (Some a) None alike = absurd alike
  base_none (Some a) (Some b) alike = refl

  -- ---- files that are put

  pub file_same : (a : Option (List ℕ)) → AlikeFile twins a a
  file_same None = tt
  file_same (Some a) = inl refl

  put_by : (b : Bool) (x y : List ℕ) (old other : Option (List ℕ)) → AlikeBytes twins x y → AlikeFile twins old other
      → AlikeFile twins (cond b (Some x) old) (cond b (Some y) other)
  put_by true x y old other bytes alike = bytes
  put_by false x y old other bytes alike = alike

  pub put_alike : (a b : Saved) (name x y : List ℕ) → AlikeBytes twins x y → AlikeFiles twins a b
      → AlikeFiles twins (insert a name x) (insert b name y)
  put_alike a b name x y bytes alike q =
      subst (λ (o : Option (List ℕ)). AlikeFile twins o (get (insert b name y) q)) (sym (got a name x q))
      (subst (λ (o : Option (List ℕ)). AlikeFile twins (cond (eq_by_cmp (slice_cmp nat_cmp) q name) (Some x) (get a q)) o) (sym (got b name y q))
      (put_by (eq_by_cmp (slice_cmp nat_cmp) q name) x y (get a q) (get b q) bytes (alike q)))

-- ---- a file that is put, or is none

abbrev pub put_or : Saved → List ℕ → Option (List ℕ) → Saved
put_or saved name None = remove saved name
put_or saved name (Some text) = insert saved name text

is_name : (name : List ℕ) → eq_by_cmp (slice_cmp nat_cmp) name name ≡ true
is_name name = is_eq-slice_cmp name name ∙ (bytes_eq-Decides name name).1 refl

no_name : (q name : List ℕ) → q ≢ name → eq_by_cmp (slice_cmp nat_cmp) q name ≡ false
no_name q name differs =
    is_eq-slice_cmp q name ∙ false_from_ne_true (bytes_eq q name) (λ same. differs ((bytes_eq-Decides q name).0 same))

pub put_there : (saved : Saved) (name : List ℕ) (o : Option (List ℕ)) → get (put_or saved name o) name ≡ o
put_there saved name None =
    get-remove nat_list_cmp_total saved name name ∙ ap (λ (b : Bool). cond b None (get saved name)) (is_name name)
put_there saved name (Some text) = got_there saved name text

pub put_other : (saved : Saved) (name : List ℕ) (o : Option (List ℕ)) (q : List ℕ) → q ≢ name → get (put_or saved name o) q ≡ get saved q
put_other saved name None q differs =
    get-remove nat_list_cmp_total saved name q ∙ ap (λ (b : Bool). cond b None (get saved q)) (no_name q name differs)
put_other saved name (Some text) q differs = got_other saved name text q differs

-- a name is this one, or not
abbrev pub Named : List ℕ → List ℕ → Type 0
Named q name = (q ≡ name) ⊎ (q ≢ name)

named_by : (q name : List ℕ) (b : Bool) → bytes_eq q name ≡ b → Named q name
named_by q name true is = inl ((bytes_eq-Decides q name).0 is)
named_by q name false nay = inr (λ is. let bad : true ≡ false = sym ((bytes_eq-Decides q name).1 is) ∙ nay in cc)

pub named : (q name : List ℕ) → Named q name
named q name = named_by q name (bytes_eq q name) refl
