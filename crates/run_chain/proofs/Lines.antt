-- What each line of a run's script leaves of a machine that has started.
use Rattle.std.proofs.Common.{◌≡◌, ◌<◌, ◌^◌, ◌∙◌, ◌&&◌, ℕ, Bool, true, false, not, refl, sym, ap, subst, List, [], ◌∷◌, Option, Some, None, Ok, Result, nat_le, arith}
use Rattle.std.specs.Prelude.{is_none}
use Rattle.std.proofs.lemmas.Bool.{leb-true}
use Rattle.vm_types.specs.Saved.{Saved}
use Rattle.vm_types.specs.declared.identity.Identity.{Identity}
use Rattle.vm_types.specs.declared.ids.ActorId.{ActorId}
use Rattle.http_stream.specs.Conversation.{new_connection}
use Rattle.api_calls.specs.declared.call.ApiCall.TheVariants as call
use Rattle.api_calls.specs.declared.call.SnapshotCreate.{SnapshotCreate}
use Rattle.api_calls.specs.declared.call.SnapshotType.{SnapshotType}
use Rattle.api_calls.specs.declared.call.SnapshotType.TheVariants as snapshot
use Rattle.api_calls.specs.declared.call.VmState.TheVariants.{Paused, Resumed}
use Rattle.api_calls.specs.declared.call.ApiCall.{ApiCall}
use Rattle.vm_config.specs.declared.config.Phase.{Phase}
use Rattle.vm_config.specs.declared.config.Phase.TheVariants as phase
use Rattle.refusals.specs.declared.refusal.Refusal.{Refusal}
use Rattle.refusals.specs.declared.refusal.Refusal.TheVariants as refusal
use Rattle.api_rules.specs.Table.{decision, first_refusal, is_diff, is_paused, misplaced, unless, when_allowed}
use Rattle.flat_guest.specs.Guest.{Guest, is_actor}
use Rattle.flat_guest.specs.Start.{timer_restarted}
use Rattle.flat_machine.specs.Items.{StepsLine}
use Rattle.flat_machine.specs.Machine.{Machine, phase_by, phase_of, running_by}
use Rattle.flat_machine.specs.Requests.{halted}
use Rattle.flat_machine.proofs.Between.{by_either}
use Rattle.run_chain.proofs.Heard.{Heard, leaves_by}

-- It has started and runs or stands still, its pages are tracked, its next snapshot has this number, this one is its base, and
-- these are its files.
pub record IsOn (paused : Bool) (next : ℕ) (base : Option Identity) (saved : Saved) (m : Machine) : Type 0 where
  pub guest : Guest
  pub there : m.guest ≡ Some guest
  pub stands : m.paused ≡ paused
  pub tracked : m.config.machine.track_dirty_pages ≡ true
  pub next_is : m.ids.next ≡ next
  pub base_is : m.ids.base ≡ base
  pub empty : m.connection ≡ new_connection
  pub saved_is : m.saved ≡ saved

on_is : (paused : Bool) (next : ℕ) (base : Option Identity) (saved : Saved) (m n : Machine) → n ≡ m → IsOn paused next base saved m
    → IsOn paused next base saved n
on_is paused next base saved m n is on = subst (λ (q : Machine). IsOn paused next base saved q) (sym is) on

running_of : (m : Machine) (g : Guest) → m.guest ≡ Some g → m.paused ≡ false → phase_of m ≡ phase.Running
running_of m g there runs = ap (λ (o : Option Guest). phase_by o m.paused) there ∙ ap (λ (b : Bool). phase_by (Some g) b) runs

standing_of : (m : Machine) (g : Guest) → m.guest ≡ Some g → m.paused ≡ true → phase_of m ≡ phase.Paused
standing_of m g there stands = ap (λ (o : Option Guest). phase_by o m.paused) there ∙ ap (λ (b : Bool). phase_by (Some g) b) stands

-- ---- steps

module _ (next : ℕ) (base : Option Identity) (saved : Saved) (m n : Machine) (actor : ActorId) (count : ℕ) (text : List ℕ)
    (on : IsOn false next base saved m) where
  steps_by : (guest : Option Guest) (paused : Bool) → paused ≡ false → StepsLine (running_by guest paused) actor count m text n
      → IsOn false next base saved n
  steps_by guest true runs x = absurd cc
  steps_by None false runs x = on_is false next base saved m n x.1 on
  steps_by (Some g) false runs x =
      by_either (is_actor g actor)
      (λ moves. on_is false next base saved (record m { guest = Some moves.end }) n moves.leaves
      (record {
        guest = moves.end;
        there = refl;
        stands = on.stands;
        tracked = on.tracked;
        next_is = on.next_is;
        base_is = on.base_is;
        empty = on.empty;
        saved_is = on.saved_is;
      }))
      (λ none. on_is false next base saved m n none.1 on) x

  pub steps_on : StepsLine (running_by m.guest m.paused) actor count m text n → IsOn false next base saved n
  steps_on x = steps_by m.guest m.paused on.stands x

-- ---- it stands still, and runs again

module _ (next : ℕ) (base : Option Identity) (saved : Saved) (m n : Machine) where
  pause_decided : (p : Phase) → p ≡ phase.Running → decision p m.config m.ids (call.PatchVm Paused) ≡ Ok (call.PatchVm Paused)
  pause_decided p runs = ap (λ (x : Phase). decision x m.config m.ids (call.PatchVm Paused)) runs

  halted_on : (g : Guest) (paused : Bool) (guest : Option Guest) → guest ≡ Some g → paused ≡ false
      → (h : Guest) × (halted paused guest ≡ Some h)
  halted_on g true guest there runs = absurd cc
  halted_on g false None there runs = absurd cc
  halted_on g false (Some own) there runs = (timer_restarted own, refl)

  pub pauses_on : IsOn false next base saved m → Heard (call.PatchVm Paused) m n → IsOn true next base saved n
  pauses_on on heard =
      let decides = pause_decided (phase_of m) (running_of m on.guest on.there on.stands) in
      let left = leaves_by (call.PatchVm Paused) m n (call.PatchVm Paused) heard decides refl in
      let own = halted_on on.guest m.paused m.guest on.there on.stands in
      on_is true next base saved (record m { guest = halted m.paused m.guest; paused = true; connection = new_connection }) n
      (heard.leaves ∙ ap (λ (q : Machine). record q { connection = new_connection }) left.1)
      (record {
        guest = own.0;
        there = own.1;
        stands = refl;
        tracked = on.tracked;
        next_is = on.next_is;
        base_is = on.base_is;
        empty = refl;
        saved_is = on.saved_is;
      })

  resume_decided : (p : Phase) → p ≡ phase.Paused → decision p m.config m.ids (call.PatchVm Resumed) ≡ Ok (call.PatchVm Resumed)
  resume_decided p stands = ap (λ (x : Phase). decision x m.config m.ids (call.PatchVm Resumed)) stands

  pub resumes_on : IsOn true next base saved m → Heard (call.PatchVm Resumed) m n → IsOn false next base saved n
  resumes_on on heard =
      let decides = resume_decided (phase_of m) (standing_of m on.guest on.there on.stands) in
      let left = leaves_by (call.PatchVm Resumed) m n (call.PatchVm Resumed) heard decides refl in
      on_is false next base saved (record m { paused = false; connection = new_connection }) n
      (heard.leaves ∙ ap (λ (q : Machine). record q { connection = new_connection }) left.1)
      (record {
        guest = on.guest;
        there = on.there;
        stands = refl;
        tracked = on.tracked;
        next_is = on.next_is;
        base_is = on.base_is;
        empty = refl;
        saved_is = on.saved_is;
      })

  -- with the guest that it had
  pub resumes_guest : IsOn true next base saved m → Heard (call.PatchVm Resumed) m n → n.guest ≡ m.guest
  resumes_guest on heard =
      let decides = resume_decided (phase_of m) (standing_of m on.guest on.there on.stands) in
      let left = leaves_by (call.PatchVm Resumed) m n (call.PatchVm Resumed) heard decides refl in
      ap (λ (q : Machine). q.guest) (heard.leaves ∙ ap (λ (q : Machine). record q { connection = new_connection }) left.1)

-- ---- a create is allowed

-- by the phase, its type, whether pages are tracked, whether there is no base, and whether no number is left
abbrev decided_by : Phase → SnapshotType → Bool → Bool → Bool → SnapshotCreate → Result ApiCall Refusal
decided_by p type tracks none late it =
    unless (misplaced (when_allowed (call.CreateSnapshot it)) p)
    (unless
    (first_refusal
    ((not (is_paused p), refusal.NotPaused)
    ∷ (is_diff type && not tracks, refusal.NotTracked)
    ∷ (is_diff type && none, refusal.NoBase)
    ∷ (late, refusal.NoSlotLeft)
    ∷ [])) (Ok (call.CreateSnapshot it)))

module _ (m : Machine) (it : SnapshotCreate) (next : ℕ) (saved : Saved) (below : next < 2 ^ 63) where
  under : (k : ℕ) → k ≡ next → nat_le (2 ^ 63) k ≡ false
  under k is = by_test (nat_le (2 ^ 63) k) refl
    where
      by_test : (b : Bool) → nat_le (2 ^ 63) k ≡ b → b ≡ false
      by_test true high = absurd (let over = leb-true (2 ^ 63) k high in omega (arith, over, is, below))
      by_test false low = refl

  pub full_decided : (base : Option Identity) → IsOn true next base saved m → it.snapshot_type ≡ snapshot.Full
      → decision (phase_of m) m.config m.ids (call.CreateSnapshot it) ≡ Ok (call.CreateSnapshot it)
  full_decided base on full =
      let tracks : Bool = m.config.machine.track_dirty_pages in
      let none : Bool = is_none m.ids.base in
      let late : Bool = nat_le (2 ^ 63) m.ids.next in
      ap (λ (p : Phase). decided_by p it.snapshot_type tracks none late it) (standing_of m on.guest on.there on.stands)
      ∙ ap (λ (t : SnapshotType). decided_by phase.Paused t tracks none late it) full
      ∙ ap (λ (b : Bool). decided_by phase.Paused snapshot.Full tracks none b it) (under m.ids.next on.next_is)

  pub diff_decided : (parent : Identity) → IsOn true next (Some parent) saved m → it.snapshot_type ≡ snapshot.Diff
      → decision (phase_of m) m.config m.ids (call.CreateSnapshot it) ≡ Ok (call.CreateSnapshot it)
  diff_decided parent on diff =
      let tracks : Bool = m.config.machine.track_dirty_pages in
      let none : Bool = is_none m.ids.base in
      let late : Bool = nat_le (2 ^ 63) m.ids.next in
      ap (λ (p : Phase). decided_by p it.snapshot_type tracks none late it) (standing_of m on.guest on.there on.stands)
      ∙ ap (λ (t : SnapshotType). decided_by phase.Paused t tracks none late it) diff
      ∙ ap (λ (b : Bool). decided_by phase.Paused snapshot.Diff b none late it) on.tracked
      ∙ ap (λ (o : Option Identity). decided_by phase.Paused snapshot.Diff true (is_none o) late it) on.base_is
      ∙ ap (λ (b : Bool). decided_by phase.Paused snapshot.Diff true false b it) (under m.ids.next on.next_is)
