-- What a create left, and that each diff is of the memory before it.
use Rattle.std.proofs.Common.{◌≡◌, ◌≢◌, ℕ, ◌+◌, ◌<◌, ◌==◌, ◌&&◌, Bool, true, false, not, List, [], ◌∷◌, ◌++◌, Option, Some, None, refl, sym, ap, subst, ◌∙◌, ◌⊎◌, inl, inr, arith}
use Rattle.std.specs.Prelude.{IsTrue}
use Rattle.std.specs.FinMap.{get, insert}
use Rattle.std.proofs.lemmas.Bool.{and_parts, eqb-true, false_from_ne_true}
use Rattle.vm_types.specs.declared.identity.Identity.{Identity}
use Rattle.gate_file.proofs.Inserts.{got_other, got_there}
use Rattle.http_stream.specs.Conversation.{arrived}
use Rattle.file_format.specs.Identities.{identity, is_numbered, is_same}
use Rattle.api_calls.specs.declared.call.SnapshotType.{SnapshotType}
use Rattle.api_calls.specs.declared.call.SnapshotType.TheVariants as snapshot
use Rattle.snap_memory.specs.Headers as memory
use Rattle.snap_diff.specs.Copies.{IsDiffOf, LeadBy}
use Rattle.snap_diff.specs.Diffs.{IsDiffFile}
use Rattle.snap_diff.specs.Headers as diffs
use Rattle.snapshot_merge.specs.Memories.{IsMemoryFile}
use Rattle.file_format.specs.Versions.{current_version}
use Rattle.snap_state.specs.Files.{IsSaved}
use Rattle.flat_guest.specs.Changes.{reset_guest}
use Rattle.flat_guest.specs.Guest.{Guest, unwritten}
use Rattle.flat_snapshot.specs.Carried.{carried_guest}
use Rattle.flat_snapshot.specs.Copies.{IsCopyOf}
use Rattle.flat_snapshot.specs.Files.{diff_file, head_of, memory_file, saved_pages, state_file}
use Rattle.flat_snapshot.specs.Unwritten.{KeepsUnwritten}
use Rattle.flat_snapshot.proofs.Diffs.{diff_of_both, is_file}
use Rattle.flat_snapshot.proofs.Loaded.{memory_is, new_valid}
use Rattle.flat_snapshot.proofs.Unwritten.{keeps_joined, keeps_same}
use Rattle.flat_machine.specs.Between.{GoesOn, NoCreate, SomeCreate}
use Rattle.flat_machine.specs.Machine.{Machine}
use Rattle.flat_machine.specs.Requests.{created, parent_in, parent_of}
use Rattle.flat_machine.proofs.Between.{front_on, joined, run_on}
use Rattle.flat_machine.proofs.Carries.{created_is, saved_is}
use Rattle.flat_machine.proofs.Fields.{new_fits}
use Rattle.snapshot_chain.specs.Chains.{DiffsLead, Follows, IsInside, IsLeft, IsLoaded, IsSaving, Saving, diff_since, identity_of, memory_of, memory_text, state_text, steps_of}

-- ---- what stands under the two names

module _ (type : SnapshotType) (s : Saving) (is : IsSaving type s) where
  pub after_is : s.after ≡ created s.before s.guest s.asked.files (parent_in s.before s.asked) s.copy
  after_is =
      created_is s.before s.after is.had s.asked s.copy is.there
      (subst (λ (g : Guest). IsCopyOf s.before.config g s.copy) is.guest_is is.is_copy) is.leaves
      ∙ ap (λ (g : Guest). created s.before g s.asked.files (parent_in s.before s.asked) s.copy) (sym is.guest_is)

  -- the copy is one that a state file can have, and so is the header of its memory
  pub copy_saved : IsSaved current_version (record { identity = identity_of s; copy = s.copy })
  copy_saved =
      saved_is s.before s.after is.had s.asked s.copy is.there
      (subst (λ (g : Guest). IsCopyOf s.before.config g s.copy) is.guest_is is.is_copy) is.leaves

  pub fits : memory.header.Fits (memory.new_header s.copy.pages (identity_of s))
  fits = new_fits (identity_of s) s.copy copy_saved

  pub state_is : state_text s ≡ Some (state_file (identity_of s) s.copy)
  state_is =
      ap (λ (m : Machine). get m.saved s.asked.files.snapshot_path) after_is
      ∙ got_there _ s.asked.files.snapshot_path (state_file (identity_of s) s.copy)

  abbrev text_since : Option Identity → List ℕ
  text_since parent = 1 ∷ head_of parent (identity_of s) s.copy.pages s.guest ++ saved_pages parent s.copy.pages s.guest

  pub text_is : (parent : Option Identity) → parent_in s.before s.asked ≡ parent → memory_text s ≡ Some (text_since parent)
  text_is parent of =
      ap (λ (m : Machine). get m.saved s.asked.files.mem_file_path) after_is
      ∙ ap (λ (p : Option Identity). get (insert (insert s.before.saved s.asked.files.mem_file_path (text_since p)) s.asked.files.snapshot_path (state_file (identity_of s) s.copy)) s.asked.files.mem_file_path) of
      ∙ got_other (insert s.before.saved s.asked.files.mem_file_path (text_since parent)) s.asked.files.snapshot_path (state_file (identity_of s) s.copy) s.asked.files.mem_file_path is.names
      ∙ got_there s.before.saved s.asked.files.mem_file_path (text_since parent)

pub full_text : (s : Saving) → IsSaving snapshot.Full s → memory_text s ≡ Some (memory_file (identity_of s) s.copy.pages s.guest.memory.bytes)
full_text s is = text_is snapshot.Full s is None (ap (λ (t : SnapshotType). parent_of t s.before.ids.base) is.type_is)

-- with a header into which nothing was merged
pub full_file : (s : Saving) → IsSaving snapshot.Full s
    → (file : IsMemoryFile (memory_file (identity_of s) s.copy.pages s.guest.memory.bytes) (memory_of s)) × (file.head ≡ memory.new_header s.copy.pages (identity_of s))
full_file s is = (
  record {
    head = memory.new_header s.copy.pages (identity_of s);
    holds = record {
      fits = fits snapshot.Full s is;
      valid = new_valid s.copy.pages (identity_of s) (copy_saved snapshot.Full s is).numbered;
      pages = refl;
      identity = refl;
      whole = is.whole;
      bytes = memory_is (identity_of s) s.copy.pages s.guest.memory.bytes;
    };
    settled = refl;
  },
  refl,
)

-- ---- a diff

differs : (a b : Identity) → a ≢ b → is_same a b ≡ false
differs a b other = false_from_ne_true (is_same a b) (λ e.
    let both = and_parts (a.lineage == b.lineage) (a.number == b.number) e in
    other (λ i. record { lineage = eqb-true a.lineage b.lineage both.0 i; number = eqb-true a.number b.number both.1 i }))

all_three : (a b c : Bool) → a ≡ true → b ≡ true → c ≡ false → (a && b && not c) ≡ true
all_three a b c p q r = rw (p, q, r) refl

names_fit : (pages : ℕ) (parent own : Identity) → identity.Fits parent → memory.header.Fits (memory.new_header pages own)
    → diffs.names.Fits (record { pages = pages; parent = parent; identity = own })
unfolding memory.header diffs.names
names_fit pages parent own of fits = (fits.1.1.0, (of, fits.1.1.1.0))

module _ (s : Saving) (parent : Identity) (is : IsSaving snapshot.Diff s) (base : s.before.ids.base ≡ Some parent) (of : identity.Fits parent)
    (numbered : IsTrue (is_numbered parent)) (other : parent ≢ identity_of s) where
  pub diff_text : memory_text s ≡ Some (diff_file (diff_since parent s))
  diff_text = text_is snapshot.Diff s is (Some parent) (ap (λ (t : SnapshotType). parent_of t s.before.ids.base) is.type_is ∙ base)

  pub diff_is_file : IsDiffFile (diff_file (diff_since parent s)) (diff_since parent s)
  diff_is_file =
      is_file parent (identity_of s) s.copy.pages s.guest
      (names_fit s.copy.pages parent (identity_of s) of (fits snapshot.Diff s is))
      (all_three (is_numbered parent) (is_numbered (identity_of s)) (is_same parent (identity_of s)) numbered (copy_saved snapshot.Diff s is).numbered (differs parent (identity_of s) other))
      is.whole

-- ---- a machine that goes on from a create

-- its memory is the one that was saved, of which nothing is written, and no number up to that one is given again
record GoesFrom (first : Saving) (start : Machine) : Type 0 where
  pub guest : Guest
  pub there : start.guest ≡ Some guest
  pub keeps : KeepsUnwritten (unwritten first.guest) guest
  pub next : start.ids.next ≡ first.before.ids.next + 1

left_goes : (type : SnapshotType) (first : Saving) (start : Machine) → IsSaving type first → IsLeft first start → GoesFrom first start
left_goes type first start of (c, is) =
    let left = is ∙ ap (λ (m : Machine). record m { connection = c }) (after_is type first of) in
    record {
      guest = unwritten first.guest;
      there = ap (λ (m : Machine). m.guest) left;
      keeps = keeps_same (unwritten first.guest) (unwritten first.guest) refl;
      next = ap (λ (m : Machine). m.ids.next) left;
    }

loaded_goes : (first : Saving) (start : Machine) → IsLoaded first start → GoesFrom first start
loaded_goes first start (k, load, is) = record {
  guest = carried_guest first.copy first.guest.memory.bytes;
  there = ap (λ (m : Machine). m.guest) is;
  keeps = record { size = refl; unwritten = λ i none. none; pages = λ i none. refl };
  next = ap (λ (m : Machine). m.ids.next) is;
}

goes_from : (type : SnapshotType) (first : Saving) (start : Machine) → IsSaving type first → IsLeft first start ⊎ IsLoaded first start → GoesFrom first start
goes_from type first start of (inl same) = left_goes type first start of same
goes_from type first start of (inr loaded) = loaded_goes first start loaded

-- ---- a diff that follows another create

some_same : {A : Type 0} (a b : A) → Some a ≡ Some b → a ≡ b
some_same a b is = cc

keeps_reset : (g h : Guest) → KeepsUnwritten g h → KeepsUnwritten g (reset_guest h)
keeps_reset g h is = record { size = is.size; unwritten = is.unwritten; pages = is.pages }

module _ (type : SnapshotType) (first s : Saving) (of : IsSaving type first) (is : IsSaving snapshot.Diff s) (follows : Follows first s) where
  start : GoesFrom first follows.start
  start = goes_from type first follows.start of follows.from

  between : GoesOn start.guest follows.start follows.between
  between = run_on follows.acts follows.start follows.between follows.text start.guest start.there follows.ran

  by_place : IsInside follows.between s.before → GoesOn start.guest follows.start s.before
  by_place (inl same) = subst (λ (m : Machine). GoesOn start.guest follows.start m) (sym same) between
  by_place (inr (bytes, outcomes, said, c, front)) =
      joined follows.start follows.between s.before start.guest between
      (front_on outcomes (arrived follows.between.connection bytes) c follows.between s.before said between.guest between.there front)

  on : GoesOn start.guest follows.start s.before
  on = by_place follows.inside

  pub number_rises : first.before.ids.next < s.before.ids.next
  number_rises =
      let rise = on.numbers in
      let next = start.next in
      omega (arith, rise, next)

  pub is_other : identity_of first ≢ identity_of s
  is_other same =
      let number : first.before.ids.next ≡ s.before.ids.next = ap (λ (i : Identity). i.number) same in
      omega (arith, number, number_rises)

  by_since : NoCreate follows.start s.before start.guest on.guest ⊎ SomeCreate follows.start s.before → KeepsUnwritten (unwritten first.guest) on.guest
  by_since (inl none) = keeps_joined (unwritten first.guest) start.guest on.guest start.keeps none.keeps
  by_since (inr some) =
      let number : some.base.number ≡ first.before.ids.next = ap (λ (i : Identity). i.number) (some_same some.base (identity_of first) (sym some.base_is ∙ follows.base)) in
      let new = some.new in
      let next = start.next in
      absurd (omega (arith, number, new, next))

  keeps : KeepsUnwritten (unwritten first.guest) s.guest
  keeps =
      subst (λ (h : Guest). KeepsUnwritten (unwritten first.guest) h) (sym is.guest_is)
      (keeps_reset (unwritten first.guest) is.had
      (subst (λ (h : Guest). KeepsUnwritten (unwritten first.guest) h) (some_same on.guest is.had (sym on.there ∙ is.there)) (by_since on.since)))

  as_many : s.copy.pages ≡ first.copy.pages
  as_many =
      let one = of.whole in
      let two = is.whole in
      let size = keeps.size in
      omega (arith, one, two, size)

  pub is_diff : IsDiffOf (memory_of first) (memory_of s) (diff_since (identity_of first) s)
  is_diff = diff_of_both (identity_of first) (identity_of s) first.copy.pages s.copy.pages first.guest s.guest as_many keeps

pub lead : (type : SnapshotType) (first last : Saving) (savings : List Saving) → IsSaving type first → DiffsLead first savings last
    → LeadBy (memory_of first) (steps_of first savings) (memory_of last)
lead type first last [] of same = ap memory_of same
lead type first last (s ∷ savings) of (is, follows, rest) = (is.whole, is_diff type first s of is follows, lead snapshot.Diff s last savings is rest)
