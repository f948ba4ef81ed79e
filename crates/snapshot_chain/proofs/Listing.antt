-- The creates of a chain are a list with which files agree.
use Rattle.std.proofs.Common.{◌≡◌, ◌≢◌, ◌<◌, ℕ, List, [], ◌∷◌, Option, Some, None, inl, inr, refl, sym, ◌∙◌, ap, subst, arith}
use Rattle.std.specs.Prelude.{IsTrue}
use Rattle.vm_types.specs.declared.identity.Identity.{Identity}
use Rattle.gate_file.specs.Pairs.{Target, text_of}
use Rattle.file_format.specs.Identities.{identity, is_numbered}
use Rattle.api_calls.specs.declared.call.SnapshotType.{SnapshotType}
use Rattle.api_calls.specs.declared.call.SnapshotType.TheVariants as snapshot
use Rattle.snap_diff.specs.Copies.{IsDiffOf, IsWhole}
use Rattle.snap_diff.specs.Diffs.{IsDiffFile}
use Rattle.snap_state.specs.Files.{Encodes}
use Rattle.snapshot_merge.specs.Memories.{IsMemoryFile}
use Rattle.flat_snapshot.specs.Files.{diff_file, memory_file, state_body, state_file}
use Rattle.create_lists.specs.Listed.{AreCreates, AreFilesOf, Create, IsAmong, diff_since, memory_of, saved_of}
use Rattle.snapshot_chain.specs.Chains as chains
use Rattle.snapshot_chain.specs.Chains.{DiffsLead, IsSaving, Saving, identity_of, memory_text, state_text}
use Rattle.snapshot_chain.specs.Listed.{create_of, creates_of, diffs_from}
use Rattle.snapshot_chain.proofs.Created.{copy_saved, diff_is_file, diff_text, full_file, full_text, is_diff, number_rises, state_is}

-- ---- its files

same_text : (x y : List ℕ) (o : Option (List ℕ)) → o ≡ Some x → o ≡ Some y → x ≡ y
same_text x y o first second = let same : ◌≡◌ {A = Option (List ℕ)} (Some x) (Some y) = sym first ∙ second in cc

state_encodes : (type : SnapshotType) (s : Saving) (base : Option Identity) → IsSaving type s → Encodes (state_file (identity_of s) s.copy) (saved_of (create_of base s))
unfolding state_body
state_encodes type s base is = record { saved = copy_saved type s is; bytes = refl }

module _ (s : Saving) (memory state : Target) (of_memory : memory_text s ≡ Some (text_of memory)) (of_state : state_text s ≡ Some (text_of state)) where
  state_of : (type : SnapshotType) (base : Option Identity) → IsSaving type s → Encodes (text_of state) (saved_of (create_of base s))
  state_of type base is =
      subst (λ (text : List ℕ). Encodes text (saved_of (create_of base s)))
      (same_text (state_file (identity_of s) s.copy) (text_of state) (state_text s) (state_is type s is) of_state)
      (state_encodes type s base is)

  pub full_files : IsSaving snapshot.Full s → AreFilesOf (create_of None s) memory state
  full_files is = record {
    memory_is = subst (λ (text : List ℕ). IsMemoryFile text (memory_of (create_of None s)))
        (same_text (memory_file (identity_of s) s.copy.pages s.guest.memory.bytes) (text_of memory) (memory_text s) (full_text s is) of_memory)
        (full_file s is).0;
    state_is = state_of snapshot.Full None is;
  }

  pub diff_files : (parent : Identity) → IsSaving snapshot.Diff s → s.before.ids.base ≡ Some parent → identity.Fits parent → IsTrue (is_numbered parent) → parent ≢ identity_of s
      → AreFilesOf (create_of (Some parent) s) memory state
  diff_files parent is base of numbered other = record {
    memory_is = subst (λ (text : List ℕ). IsDiffFile text (diff_since parent (create_of (Some parent) s)))
        (same_text (diff_file (chains.diff_since parent s)) (text_of memory) (memory_text s) (diff_text s parent is base of numbered other) of_memory)
        (diff_is_file s parent is base of numbered other);
    state_is = state_of snapshot.Diff (Some parent) is;
  }

-- ---- a chain

-- each diff has a greater number than the create before it
later : (type : SnapshotType) (first last : Saving) (savings : List Saving) → IsSaving type first → DiffsLead first savings last
    → (c : Create) → IsAmong c (diffs_from first savings) → first.before.ids.next < c.identity.number
later type first last [] of same c among = absurd among
later type first last (s ∷ savings) of (is, follows, rest) c (inl same) =
    let number : c.identity.number ≡ s.before.ids.next = ap (λ (x : Create). x.identity.number) same in
    let rise = number_rises type first s of is follows in
    omega (arith, number, rise)
later type first last (s ∷ savings) of (is, follows, rest) c (inr among) =
    let rise = number_rises type first s of is follows in
    let more = later snapshot.Diff s last savings is rest c among in
    omega (arith, rise, more)

one_more : (x : Create) (others : List Create) → ((c : Create) → IsAmong c others → x.identity.number < c.identity.number)
    → ((c e : Create) → IsAmong c others → IsAmong e others → c.identity ≡ e.identity → c ≡ e)
    → (c e : Create) → IsAmong c (x ∷ others) → IsAmong e (x ∷ others) → c.identity ≡ e.identity → c ≡ e
one_more x others above differ c e (inl here) (inl there) same = here ∙ sym there
one_more x others above differ c e (inl here) (inr among) same =
    let number : x.identity.number ≡ e.identity.number = ap (λ (y : Create). y.identity.number) (sym here) ∙ ap (λ (i : Identity). i.number) same in
    let rise = above e among in
    absurd (omega (arith, number, rise))
one_more x others above differ c e (inr among) (inl there) same =
    let number : x.identity.number ≡ c.identity.number = ap (λ (y : Create). y.identity.number) (sym there) ∙ ap (λ (i : Identity). i.number) (sym same) in
    let rise = above c among in
    absurd (omega (arith, number, rise))
one_more x others above differ c e (inr among) (inr other) same = differ c e among other same

one : (type : SnapshotType) (base : Option Identity) (first last : Saving) (savings : List Saving) → IsSaving type first → DiffsLead first savings last
    → (c e : Create) → IsAmong c (create_of base first ∷ diffs_from first savings) → IsAmong e (create_of base first ∷ diffs_from first savings) → c.identity ≡ e.identity → c ≡ e
one type base first last [] of leads = one_more (create_of base first) [] (λ c among. absurd among) (λ c e among other same. absurd among)
one type base first last (s ∷ savings) of (is, follows, rest) =
    one_more (create_of base first) (diffs_from first (s ∷ savings)) (later type first last (s ∷ savings) of (is, follows, rest))
    (one snapshot.Diff (Some (identity_of first)) s last savings is rest)

whole_more : (x : Create) (others : List Create) → IsWhole (memory_of x) → ((c : Create) → IsAmong c others → IsWhole (memory_of c))
    → (c : Create) → IsAmong c (x ∷ others) → IsWhole (memory_of c)
whole_more x others all rest c (inl here) = subst (λ (y : Create). IsWhole (memory_of y)) (sym here) all
whole_more x others all rest c (inr among) = rest c among

whole : (type : SnapshotType) (base : Option Identity) (first last : Saving) (savings : List Saving) → IsSaving type first → DiffsLead first savings last
    → (c : Create) → IsAmong c (create_of base first ∷ diffs_from first savings) → IsWhole (memory_of c)
whole type base first last [] of leads = whole_more (create_of base first) [] of.whole (λ c among. absurd among)
whole type base first last (s ∷ savings) of (is, follows, rest) =
    whole_more (create_of base first) (diffs_from first (s ∷ savings)) of.whole (whole snapshot.Diff (Some (identity_of first)) s last savings is rest)

some_same : (i j : Identity) → ◌≡◌ {A = Option Identity} (Some i) (Some j) → i ≡ j
some_same i j is = cc

-- the create since which a diff has the pages that were written
abbrev BaseAmong : List Create → Create → Identity → Type 0
BaseAmong creates e parent =
    (c : Create) × (IsAmong c creates × (c.identity ≡ parent) × IsDiffOf (memory_of c) (memory_of e) (diff_since parent e))

based : (type : SnapshotType) (base : Option Identity) (first last : Saving) (savings : List Saving) → IsSaving type first → DiffsLead first savings last
    → (e : Create) (parent : Identity) → IsAmong e (diffs_from first savings) → e.base ≡ Some parent → BaseAmong (create_of base first ∷ diffs_from first savings) e parent
based type base first last [] of leads e parent among is_base = absurd among
based type base first last (s ∷ savings) of (is, follows, rest) e parent (inl here) is_base =
    let same : identity_of first ≡ parent = some_same (identity_of first) parent (ap (λ (x : Create). x.base) (sym here) ∙ is_base) in
    let since : IsDiffOf (memory_of (create_of base first)) (memory_of (create_of (Some (identity_of first)) s)) (diff_since (identity_of first) (create_of (Some (identity_of first)) s)) =
    is_diff type first s of is follows in (
      create_of base first,
      (
        inl refl,
        same,
        subst (λ (x : Create). IsDiffOf (memory_of (create_of base first)) (memory_of x) (diff_since parent x)) (sym here)
            (subst (λ (i : Identity). IsDiffOf (memory_of (create_of base first)) (memory_of (create_of (Some (identity_of first)) s)) (diff_since i (create_of (Some (identity_of first)) s))) same since),
      ),
    )
based type base first last (s ∷ savings) of (is, follows, rest) e parent (inr among) is_base =
    let found = based snapshot.Diff (Some (identity_of first)) s last savings is rest e parent among is_base in
    (found.0, (inr found.1.0, found.1.1, found.1.2))

pub are_creates : (first last : Saving) (savings : List Saving) → IsSaving snapshot.Full first → DiffsLead first savings last → AreCreates (creates_of first savings)
are_creates first last savings of leads = record {
  whole = whole snapshot.Full None first last savings of leads;
  one = one snapshot.Full None first last savings of leads;
  based = by_place;
}
  where
    by_place : (e : Create) (parent : Identity) → IsAmong e (creates_of first savings) → e.base ≡ Some parent → BaseAmong (creates_of first savings) e parent
    by_place e parent (inl here) is_base = let none : ◌≡◌ {A = Option Identity} None (Some parent) = ap (λ (x : Create). x.base) (sym here) ∙ is_base in absurd cc
    by_place e parent (inr among) is_base = based snapshot.Full None first last savings of leads e parent among is_base
