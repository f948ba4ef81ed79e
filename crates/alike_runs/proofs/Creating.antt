-- Machines that are alike stay so where both create a snapshot, or both fail to.
use Rattle.std.proofs.Common.{◌≡◌, ◌≢◌, ◌<◌, ℕ, ◌+◌, refl, sym, ap, subst, ◌∙◌, List, [], ◌∷◌, ◌++◌, map, take, Option, Some, None, inl, inr, arith}
use Rattle.std.specs.Prelude.{IsTrue}
use Rattle.std.specs.FinMap.{get, insert}
use Rattle.vm_types.specs.Saved.{Saved}
use Rattle.vm_types.specs.declared.identity.Identity.{Identity}
use Rattle.vm_outside.specs.Calls.{FileCall}
use Rattle.file_format.specs.Identities.{is_numbered}
use Rattle.file_format.specs.Versions.{current_version}
use Rattle.api_calls.specs.declared.call.SnapshotCreate.{SnapshotCreate}
use Rattle.api_calls.specs.declared.call.SnapshotFiles.{SnapshotFiles}
use Rattle.api_calls.specs.declared.call.SnapshotType.{SnapshotType}
use Rattle.api_calls.specs.declared.call.SnapshotType.TheVariants as snapshot
use Rattle.api_rules.specs.Ids.{spent}
use Rattle.guest_devices.specs.declared.device.Device.{Device}
use Rattle.snap_state.specs.declared.copy.StateCopy.{StateCopy}
use Rattle.snap_state.specs.Files.{IsSaved}
use Rattle.flat_guest.specs.Changes.{reset_guest}
use Rattle.flat_guest.specs.Guest.{Guest, unwritten}
use Rattle.flat_snapshot.specs.Files.{head_of, saved_pages, state_file}
use Rattle.flat_machine.specs.Machine.{Machine}
use Rattle.flat_machine.specs.Outcome.{Left}
use Rattle.flat_machine.specs.Requests.{CreateFails, Creates, IsCutShort, calls_in, created, next_identity, parent_in, parent_of}
use Rattle.alike_runs.specs.Alike.{Alike, AlikeGuests}
use Rattle.alike_runs.specs.Files.{AlikeCalls, AlikeFile, AlikeFiles, shape_of}
use Rattle.alike_runs.specs.Files.AreFiles.{StateFiles}
use Rattle.alike_runs.specs.Twins.{AlikeBase, AreTwins, Twins}
use Rattle.alike_runs.proofs.Calls.{calls_both, calls_front, calls_many}
use Rattle.alike_runs.proofs.Changed.{calls_alike, memory_both}
use Rattle.alike_runs.proofs.Files.{Named, base_from, file_from, file_same, named, put_alike, put_or, put_other, put_there, twins_below}
use Rattle.alike_runs.proofs.Lineages.{lineage_small, other_fits}
use Rattle.alike_runs.proofs.Guests.{copy_alike, reset_alike, unwritten_alike}

some_guest : (g h : Guest) → ◌≡◌ {A = Option Guest} (Some g) (Some h) → g ≡ h
some_guest g h is = cc

parent_alike : (more : List Twins) (type : SnapshotType) (a b : Option Identity) → AlikeBase more a b
    → AlikeBase more (parent_of type a) (parent_of type b)
parent_alike more snapshot.Full a b alike = tt
parent_alike more snapshot.Diff a b alike = alike

module _ (twins : List Twins) (m n : Machine) (alike : Alike twins m n) where
  -- the next snapshot of each
  abbrev pub next_twins : Twins
  next_twins = record { first = next_identity m; second = next_identity n }

  abbrev pub more : List Twins
  more = next_twins ∷ twins

  more_twins : AreTwins (m.ids.next + 1) more
  more_twins = (omega arith, sym alike.next, alike.twins_are)

  base_more : AlikeBase more m.ids.base n.ids.base
  base_more = base_from (next_twins ∷ []) twins m.ids.base n.ids.base alike.base

  parents : (it : SnapshotCreate) → AlikeBase more (parent_in m it) (parent_in n it)
  parents it = parent_alike more it.snapshot_type m.ids.base n.ids.base base_more

  saved_more : AlikeFiles more m.saved n.saved
  saved_more name = file_from (next_twins ∷ []) twins (get m.saved name) (get n.saved name) (alike.saved name)

  -- a copy that a file of the first can have, under its next identity, is one that a file of the second can have
  saved_too : (copy : StateCopy) → IsSaved current_version (record { identity = next_identity m; copy = copy })
      → IsSaved current_version (record { identity = next_identity n; copy = copy })
  saved_too copy saved =
      let own = saved.fits.1.0 in
      let small = alike.lineages.0 (lineage_small (next_identity m) own) in
      record {
        fits = (saved.fits.0, (other_fits (next_identity m) (next_identity n) own small (sym alike.next), saved.fits.1.1));
        valid = saved.valid;
        numbered =
            subst (λ (k : ℕ). IsTrue (is_numbered (record { lineage = n.ids.lineage; number = k }))) alike.next saved.numbered;
      }

  -- ---- answered

  module _ (it : SnapshotCreate) (copy : StateCopy) (x y : Guest) (both : AlikeGuests x y) where
    calls_are : AlikeCalls (calls_in m x it copy) (calls_in n y it copy)
    calls_are =
        calls_alike more next_twins (inl refl) copy x y both it.files.mem_file_path it.files.snapshot_path (parent_in m it)
        (parent_in n it) (parents it)

    created_alike : Alike more (created m x it.files (parent_in m it) copy) (created n y it.files (parent_in n it) copy)
    created_alike = record {
      twins_are = more_twins;
      id = alike.id;
      lineages = alike.lineages;
      next = ap (λ (k : ℕ). k + 1) alike.next;
      base = inr (inl refl);
      config = alike.config;
      metadata = alike.metadata;
      connection = alike.connection;
      saved =
          put_alike more
          (insert m.saved it.files.mem_file_path
          (1 ∷ head_of (parent_in m it) (next_identity m) copy.pages x ++ saved_pages (parent_in m it) copy.pages x))
          (insert n.saved it.files.mem_file_path
          (1 ∷ head_of (parent_in n it) (next_identity n) copy.pages y ++ saved_pages (parent_in n it) copy.pages y))
          it.files.snapshot_path (state_file (next_identity m) copy) (state_file (next_identity n) copy)
          (inr (next_twins, inl refl, StateFiles copy refl refl))
          (put_alike more m.saved n.saved it.files.mem_file_path
          (1 ∷ head_of (parent_in m it) (next_identity m) copy.pages x ++ saved_pages (parent_in m it) copy.pages x)
          (1 ∷ head_of (parent_in n it) (next_identity n) copy.pages y ++ saved_pages (parent_in n it) copy.pages y)
          (memory_both more next_twins (inl refl) copy x y both (parent_in m it) (parent_in n it) (parents it)) saved_more);
      calls = calls_both m.calls n.calls (calls_in m x it copy) (calls_in n y it copy) alike.calls calls_are;
      g = unwritten x;
      h = unwritten y;
      first = refl;
      second = refl;
      guests = unwritten_alike x y both;
      paused = alike.paused;
    }

  pub creates_alike : (it : SnapshotCreate) (kept : List Device) (k : Machine) (o p : Option Guest) → o ≡ Some alike.g → p ≡ Some alike.h
      → Creates o m it kept k → (l : Machine) × Creates p n it kept l × Alike more k l
  creates_alike it kept k None p first second x = absurd cc
  creates_alike it kept k (Some g) None first second x = absurd cc
  creates_alike it kept k (Some g) (Some h) first second (copy, of, tells, saved, is) =
      let here : AlikeGuests g h =
      subst (λ (q : Guest). AlikeGuests q h) (sym (some_guest g alike.g first))
      (subst (λ (q : Guest). AlikeGuests alike.g q) (sym (some_guest h alike.h second)) alike.guests) in
      let reset : AlikeGuests (reset_guest g) (reset_guest h) = reset_alike g h here in
      let l : Machine = created n (reset_guest h) it.files (parent_in n it) copy in (
        l,
        (copy, copy_alike m.config n.config (reset_guest g) (reset_guest h) copy alike.config reset of, tells, saved_too copy saved, refl),
        subst (λ (q : Machine). Alike more q l) (sym is) (created_alike it copy (reset_guest g) (reset_guest h) reset),
      )

  -- ---- a call on the files failed

  -- the second's files then
  abbrev left_saved : SnapshotFiles → Left → Saved
  left_saved files left = put_or (put_or n.saved files.mem_file_path left.memory) files.snapshot_path left.state

  module _ (files : SnapshotFiles) (left : Left) (new : Saved) (memory : get new files.mem_file_path ≡ left.memory)
      (state : get new files.snapshot_path ≡ left.state)
      (others : (q : List ℕ) → q ≢ files.mem_file_path → q ≢ files.snapshot_path → get new q ≡ get m.saved q) where
    state_is : get (left_saved files left) files.snapshot_path ≡ left.state
    state_is = put_there (put_or n.saved files.mem_file_path left.memory) files.snapshot_path left.state

    memory_by : Named files.mem_file_path files.snapshot_path → get (left_saved files left) files.mem_file_path ≡ left.memory
    memory_by (inl same) =
        ap (λ (q : List ℕ). get (left_saved files left) q) same
        ∙ state_is ∙ sym state ∙ ap (λ (q : List ℕ). get new q) (sym same) ∙ memory
    memory_by (inr differ) =
        put_other (put_or n.saved files.mem_file_path left.memory) files.snapshot_path left.state files.mem_file_path differ
        ∙ put_there n.saved files.mem_file_path left.memory

    memory_is : get (left_saved files left) files.mem_file_path ≡ left.memory
    memory_is = memory_by (named files.mem_file_path files.snapshot_path)

    others_are : (q : List ℕ) → q ≢ files.mem_file_path → q ≢ files.snapshot_path → get (left_saved files left) q ≡ get n.saved q
    others_are q first second =
        put_other (put_or n.saved files.mem_file_path left.memory) files.snapshot_path left.state q second
        ∙ put_other n.saved files.mem_file_path left.memory q first

    at_name : (q name : List ℕ) (o : Option (List ℕ)) → q ≡ name → get new name ≡ o → get (left_saved files left) name ≡ o
        → AlikeFile twins (get new q) (get (left_saved files left) q)
    at_name q name o is first second =
        subst (λ (x : Option (List ℕ)). AlikeFile twins (get new q) x)
        (ap (λ (t : List ℕ). get new t) is ∙ first ∙ sym second ∙ ap (λ (t : List ℕ). get (left_saved files left) t) (sym is))
        (file_same twins (get new q))

    by_names : (q : List ℕ) → Named q files.mem_file_path → Named q files.snapshot_path
        → AlikeFile twins (get new q) (get (left_saved files left) q)
    by_names q (inl is) other = at_name q files.mem_file_path left.memory is memory memory_is
    by_names q (inr differs) (inl is) = at_name q files.snapshot_path left.state is state state_is
    by_names q (inr differs) (inr also) =
        subst (λ (x : Option (List ℕ)). AlikeFile twins x (get (left_saved files left) q)) (sym (others q differs also))
        (subst (λ (x : Option (List ℕ)). AlikeFile twins (get m.saved q) x) (sym (others_are q differs also)) (alike.saved q))

    left_alike : AlikeFiles twins new (left_saved files left)
    left_alike q = by_names q (named q files.mem_file_path) (named q files.snapshot_path)

  module _ (it : SnapshotCreate) (left : Left) (k : Machine) (x y : Guest) (both : AlikeGuests x y) (short : IsCutShort x m it left k) where
    reset : AlikeGuests (reset_guest x) (reset_guest y)
    reset = reset_alike x y both

    all_calls : AlikeCalls (calls_in m (reset_guest x) it short.copy) (calls_in n (reset_guest y) it short.copy)
    all_calls = calls_are it short.copy (reset_guest x) (reset_guest y) reset

    abbrev begun_calls : List FileCall
    begun_calls = n.calls ++ take left.begun (calls_in n (reset_guest y) it short.copy)

    abbrev other : Machine
    other = record n { saved = left_saved it.files left; calls = begun_calls; ids = spent (n.ids.next + 1) n.ids }

    short_too : IsCutShort y n it left other
    short_too = record {
      copy = short.copy;
      is_copy = copy_alike m.config n.config (reset_guest x) (reset_guest y) short.copy alike.config reset short.is_copy;
      tells = short.tells;
      saved = saved_too short.copy short.saved;
      lacks =
          subst (λ (c : ℕ). left.begun < c)
          (calls_many (calls_in m (reset_guest x) it short.copy) (calls_in n (reset_guest y) it short.copy) all_calls) short.lacks;
      begun = refl;
      memory = memory_is it.files left k.saved short.memory short.state short.others;
      state = state_is it.files left k.saved short.memory short.state short.others;
      others = others_are it.files left k.saved short.memory short.state short.others;
      leaves = refl;
    }

    short_alike : Alike twins k other
    short_alike =
        subst (λ (q : Machine). Alike twins q other) (sym short.leaves) (record {
          twins_are = twins_below m.ids.next (m.ids.next + 1) twins (omega arith) alike.twins_are;
          id = alike.id;
          lineages = alike.lineages;
          next = ap (λ (c : ℕ). c + 1) alike.next;
          base = alike.base;
          config = alike.config;
          metadata = alike.metadata;
          connection = alike.connection;
          saved = left_alike it.files left k.saved short.memory short.state short.others;
          calls =
              ap (λ (l : List FileCall). map shape_of l) short.begun
              ∙ calls_both m.calls n.calls (take left.begun (calls_in m (reset_guest x) it short.copy))
              (take left.begun (calls_in n (reset_guest y) it short.copy)) alike.calls
              (calls_front left.begun (calls_in m (reset_guest x) it short.copy) (calls_in n (reset_guest y) it short.copy) all_calls);
          g = alike.g;
          h = alike.h;
          first = alike.first;
          second = alike.second;
          guests = alike.guests;
          paused = alike.paused;
        })

  pub fails_alike : (it : SnapshotCreate) (left : Left) (k : Machine) (o p : Option Guest) → o ≡ Some alike.g → p ≡ Some alike.h
      → CreateFails o m it left k → (l : Machine) × CreateFails p n it left l × Alike twins k l
  fails_alike it left k None p first second x = absurd x
  fails_alike it left k (Some g) None first second x = absurd cc
  fails_alike it left k (Some g) (Some h) first second short =
      let here : AlikeGuests g h =
      subst (λ (q : Guest). AlikeGuests q h) (sym (some_guest g alike.g first))
      (subst (λ (q : Guest). AlikeGuests alike.g q) (sym (some_guest h alike.h second)) alike.guests) in
      (other it left k g h here short, short_too it left k g h here short, short_alike it left k g h here short)
