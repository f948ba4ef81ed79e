-- The journals of a slice: each is its actor's, follows its wants, and is stamped.
use Rattle.std.proofs.Common.{◌≡◌, ℕ, zero, suc, ◌+◌, ◌-◌, ◌<◌, ◌≤◌, ◌==◌, nat_lt, Bool, true, false, cond, refl, sym, ap, ◌∙◌, subst, arith}
use Rattle.std.proofs.Common.{List, [], ◌∷◌, ◌++◌, length, map, slice_get, Some}
use Rattle.std.proofs.lemmas.Bool.{eqb-true, eqb-false, ltb-false, ltb-true, ne_eqb}
use Rattle.std.specs.List.{AllByRecursion}
use Rattle.vm_types.specs.declared.entry.Entry.{Entry}
use Rattle.vm_types.specs.declared.ids.ActorId.{ActorId}
use Rattle.vm_types.specs.Ids.{same_actor}
use Rattle.vm_types.specs.Serial.{Follows, IsPlaced, OutFits}
use Rattle.stamp_merge.specs.declared.layout.Layout.{Layout}
use Rattle.stamp_merge.specs.Journals.{AreOwn, all_of, journal_at}
use Rattle.stamp_merge.specs.Legal.{AreFollowed}
use Rattle.stamp_merge.specs.Merged.{journals_of}
use Rattle.stamp_merge.specs.Stamps.{AreStamped, OutIsZero, Stamped}
use Rattle.stamp_merge.proofs.Serial.{same_actor-eq, same_actor-refl}
use Rattle.stamp_merge.proofs.Stamps.{Climbs-from_stamped}
use Rattle.slice_runner.specs.declared.worker.Track.{Track}
use Rattle.slice_runner.specs.Runs.{HasRun}
use Rattle.slice_runner.specs.Slices.{IsThere}
use Rattle.slice_runner.specs.Staff.{journals_from}
use Rattle.slice_runner.specs.Stops.{actor_of}
use Rattle.slice_runner.specs.Values.{ActorState, actor_next, actor_wants, route_among}

abbrev pub Journals : Type 0
Journals = List (ActorId × List Entry)

append_all : (P : Entry → Type 0) (xs ys : List Entry) → AllByRecursion P xs → AllByRecursion P ys → AllByRecursion P (xs ++ ys)
append_all P [] ys h k = k
append_all P (x ∷ xs) ys h k = (h.0, append_all P xs ys h.1 k)

every : (P R : Entry → Type 0) (xs : List Entry) → ((e : Entry) → P e → R e) → AllByRecursion P xs → AllByRecursion R xs
every P R [] to h = tt
every P R (x ∷ xs) to h = (to x h.0, every P R xs to h.1)

-- ---- the actors at two places differ

timer_apart : (harts k : ℕ) (t : Bool) → same_actor ActorId.Timer (cond t (ActorId.Hart k) (ActorId.Device (k - harts))) ≡ false
timer_apart harts k true = refl
timer_apart harts k false = refl

apart_timer : (harts k : ℕ) (t : Bool) → same_actor (cond t (ActorId.Hart k) (ActorId.Device (k - harts))) ActorId.Timer ≡ false
apart_timer harts k true = refl
apart_timer harts k false = refl

others_apart : (harts i j : ℕ) (s t : Bool) → nat_lt i harts ≡ s → nat_lt j harts ≡ t → (i ≡ j → ⊥)
    → same_actor (cond s (ActorId.Hart i) (ActorId.Device (i - harts))) (cond t (ActorId.Hart j) (ActorId.Device (j - harts))) ≡ false
others_apart harts i j true true left right ne = ne_eqb i j ne
others_apart harts i j true false left right ne = refl
others_apart harts i j false true left right ne = refl
others_apart harts i j false false left right ne =
    let from = ltb-false i harts left in
    let to = ltb-false j harts right in
    ne_eqb (i - harts) (j - harts) (λ is. ne (omega (arith, from, to, is)))

pub are_apart : (harts i j : ℕ) → (i ≡ j → ⊥) → same_actor (actor_of harts i) (actor_of harts j) ≡ false
are_apart harts zero zero ne = absurd (ne refl)
are_apart harts zero (suc j) ne = timer_apart harts j (nat_lt j harts)
are_apart harts (suc i) zero ne = apart_timer harts i (nat_lt i harts)
are_apart harts (suc i) (suc j) ne = others_apart harts i j (nat_lt i harts) (nat_lt j harts) refl refl (λ is. ne (ap suc is))

there_by : (harts devices k : ℕ) (t : Bool) → nat_lt k harts ≡ t → k < harts + devices
    → IsThere harts devices (cond t (ActorId.Hart k) (ActorId.Device (k - harts)))
there_by harts devices k true is lt = ltb-true k harts is
there_by harts devices k false is lt =
    let from = ltb-false k harts is in
    let below : k - harts < devices = omega (arith, from, lt) in below

pub is_there : (harts devices k : ℕ) → k < harts + (devices + 1) → IsThere harts devices (actor_of harts k)
is_there harts devices zero lt = tt
is_there harts devices (suc k) lt = there_by harts devices k (nat_lt k harts) refl (omega (arith, lt))

-- a place that is not this one is one of the next ones
later : (harts k n : ℕ) (a : ActorId) → same_actor (actor_of harts k) a ≡ false
    → ((i : ℕ) → suc k ≤ i → i < n → same_actor (actor_of harts i) a ≡ false)
    → (j : ℕ) → k ≤ j → j < n → (b : Bool) → (k == j) ≡ b → same_actor (actor_of harts j) a ≡ false
later harts k n a here rest j from to true same =
    let e : k ≡ j = eqb-true k j same in subst (λ (m : ℕ). same_actor (actor_of harts m) a ≡ false) e here
later harts k n a here rest j from to false away =
    let ne = eqb-false k j away in rest j (omega (arith, from, ne)) to

-- ---- all actors, from the one at place k on, that came from these states to those

abbrev pub Crew : {Q : Type 0} → Layout → (ActorId → ActorState) → (ActorId → ActorState) → ℕ → ℕ → List (Track Q) → Type 0
Crew layout start lasts harts k [] = Unit {0}
Crew layout start lasts harts k (t ∷ ts) =
    (t.work.actor ≡ actor_of harts k)
    × HasRun actor_wants actor_next layout (actor_of harts k) (start (actor_of harts k)) t.work.journal.items (lasts (actor_of harts k)) t.work.clock
    × Crew layout start lasts harts (suc k) ts

abbrev pub track_journals : {Q : Type 0} → List (Track Q) → Journals
track_journals {Q} ts = map (λ (t : Track Q). (t.work.actor, t.work.journal.items)) ts

pub journals_are : {Q : Type 0} (ts : List (Track Q)) → journals_of (journals_from ts) ≡ track_journals ts
journals_are [] = refl
journals_are (t ∷ ts) = ap (λ (l : Journals). (t.work.actor, t.work.journal.items) ∷ l) (journals_are ts)

module _ {Q : Type 0} (layout : Layout) (start lasts : ActorId → ActorState) (harts : ℕ) where
  same_as : (t : Track Q) (k : ℕ) (a : ActorId) → t.work.actor ≡ actor_of harts k → same_actor t.work.actor a ≡ same_actor (actor_of harts k) a
  same_as t k a is = ap (λ (b : ActorId). same_actor b a) is

  -- what holds of each journal holds of the one of any actor
  journal_by : (P : List Entry → Type 0) (k : ℕ) (ts : List (Track Q)) → Crew layout start lasts harts k ts → P []
      → ((t : Track Q) (n : ℕ)
      → HasRun actor_wants actor_next layout (actor_of harts n) (start (actor_of harts n)) t.work.journal.items (lasts (actor_of harts n)) t.work.clock
      → P t.work.journal.items)
      → (a : ActorId) → P (journal_at a (track_journals ts))
  journal_by P k [] crew none one a = none
  journal_by P k (t ∷ ts) crew none one a =
      by_test (same_actor t.work.actor a) (one t k crew.1) (journal_by P (suc k) ts crew.2 none one a)
    where
      by_test : (b : Bool) → P t.work.journal.items → P (journal_at a (track_journals ts))
          → P (cond b t.work.journal.items (journal_at a (track_journals ts)))
      by_test true here there = here
      by_test false here there = there

  own_follows : (k : ℕ) (t : Track Q) (a : ActorId) → (t.work.actor ≡ actor_of harts k)
      → HasRun actor_wants actor_next layout (actor_of harts k) (start (actor_of harts k)) t.work.journal.items (lasts (actor_of harts k)) t.work.clock
      → (rest : List Entry) → (b : Bool) → same_actor t.work.actor a ≡ b
      → (same_actor t.work.actor a ≡ false → Follows actor_wants actor_next (start a) rest (lasts a))
      → Follows actor_wants actor_next (start a) (cond b t.work.journal.items rest) (lasts a)
  own_follows k t a id run rest true is other =
      let own : actor_of harts k ≡ a = same_actor-eq (actor_of harts k) a (sym (same_as t k a id) ∙ is) in
      subst (λ (b : ActorId). Follows actor_wants actor_next (start b) t.work.journal.items (lasts b)) own run.follows
  own_follows k t a id run rest false is other = other is

  -- an actor follows its wants, or there is none such and it stays as it is
  follow_by : (k : ℕ) (ts : List (Track Q)) (a : ActorId) → Crew layout start lasts harts k ts
      → (((j : ℕ) → k ≤ j → j < k + length ts → same_actor (actor_of harts j) a ≡ false) → start a ≡ lasts a)
      → Follows actor_wants actor_next (start a) (journal_at a (track_journals ts)) (lasts a)
  follow_by k [] a crew none = none (λ j from to. absurd (omega (arith, from, to)))
  follow_by k (t ∷ ts) a crew none =
      let e : k + length (t ∷ ts) ≡ suc k + length ts = omega arith in
      own_follows k t a crew.0 crew.1 (journal_at a (track_journals ts)) (same_actor t.work.actor a) refl
      (λ is. follow_by (suc k) ts a crew.2
      (λ rest. none (λ j from to. later harts k (suc k + length ts) a (sym (same_as t k a crew.0) ∙ is) rest j from (subst (λ (n : ℕ). j < n) e to) (k == j) refl)))

  -- ids that differ
  others : (k n : ℕ) (ts : List (Track Q)) → Crew layout start lasts harts k ts → n < k
      → AllByRecursion (λ (j : ActorId × List Entry). same_actor j.0 (actor_of harts n) ≡ false) (track_journals ts)
  others k n [] crew lt = tt
  others k n (t ∷ ts) crew lt = (
    same_as t k (actor_of harts n) crew.0 ∙ are_apart harts k n (λ is. omega (arith, is, lt)),
    others (suc k) n ts crew.2 (omega (arith, lt)),
  )

  own_by : (k : ℕ) (ts : List (Track Q)) → Crew layout start lasts harts k ts → AreOwn (track_journals ts)
  own_by k [] crew = tt
  own_by k (t ∷ ts) crew = (
    subst (λ (a : ActorId). AllByRecursion (λ (e : Entry). e.actor ≡ a) t.work.journal.items) (sym crew.0) crew.1.own,
    subst (λ (a : ActorId). AllByRecursion (λ (j : ActorId × List Entry). same_actor j.0 a ≡ false) (track_journals ts)) (sym crew.0)
        (others (suc k) k ts crew.2 (omega arith)),
    own_by (suc k) ts crew.2,
  )

  all_by : (P : Entry → Type 0) (k : ℕ) (ts : List (Track Q)) → Crew layout start lasts harts k ts
      → ((t : Track Q) (n : ℕ) → n < k + length ts
      → HasRun actor_wants actor_next layout (actor_of harts n) (start (actor_of harts n)) t.work.journal.items (lasts (actor_of harts n)) t.work.clock
      → AllByRecursion P t.work.journal.items)
      → AllByRecursion P (all_of (track_journals ts))
  all_by P k [] crew one = tt
  all_by P k (t ∷ ts) crew one =
      append_all P t.work.journal.items (all_of (track_journals ts)) (one t k (omega arith) crew.1)
      (all_by P (suc k) ts crew.2 (λ x n lt. one x n (omega (arith, lt))))

  -- the journal at an actor's place
  pub journal_there : (k : ℕ) (ts : List (Track Q)) → Crew layout start lasts harts k ts → (j : ℕ) (t : Track Q)
      → slice_get ts j ≡ Some t → journal_at (actor_of harts (k + j)) (track_journals ts) ≡ t.work.journal.items
  journal_there k [] crew j t is = cc
  journal_there k (u ∷ ts) crew zero t is =
      let e : k ≡ k + 0 = omega arith in
      let same : u ≡ t = cc in
      ap (λ (b : Bool). cond b u.work.journal.items (journal_at (actor_of harts (k + 0)) (track_journals ts)))
      (same_as u k (actor_of harts (k + 0)) crew.0 ∙ ap (λ (n : ℕ). same_actor (actor_of harts k) (actor_of harts n)) (sym e) ∙ same_actor-refl (actor_of harts k))
      ∙ ap (λ (x : Track Q). x.work.journal.items) same
  journal_there k (u ∷ ts) crew (suc j) t is =
      let e : k + suc j ≡ suc k + j = omega arith in
      ap (λ (b : Bool). cond b u.work.journal.items (journal_at (actor_of harts (k + suc j)) (track_journals ts)))
      (same_as u k (actor_of harts (k + suc j)) crew.0 ∙ are_apart harts k (k + suc j) (λ eq. omega (arith, eq)))
      ∙ ap (λ (n : ℕ). journal_at (actor_of harts n) (track_journals ts)) e ∙ journal_there (suc k) ts crew.2 j t is

  module _ (ts : List (Track Q)) (crew : Crew layout start lasts harts 0 ts) where
    abbrev js : Journals
    js = track_journals ts

    stamped : (a : ActorId) → Stamped 0 (journal_at a js)
    stamped a = journal_by (Stamped 0) 0 ts crew tt (λ t n r. r.stamped) a

    pub are_stamped : AreStamped js
    are_stamped = record { own = own_by 0 ts crew; stamped = stamped; out = all_by OutIsZero 0 ts crew (λ t n lt r. r.out) }

    pub are_followed : ((a : ActorId) → ((j : ℕ) → 0 ≤ j → j < 0 + length ts → same_actor (actor_of harts j) a ≡ false) → start a ≡ lasts a)
        → AreFollowed actor_wants actor_next (route_among layout) OutFits start lasts js
    are_followed none = record {
      own = own_by 0 ts crew;
      climb = λ a. Climbs-from_stamped 0 (journal_at a js) (stamped a);
      follow = λ a. follow_by 0 ts a crew (none a);
      placed = all_by (IsPlaced (route_among layout) OutFits) 0 ts crew (λ t n lt r. r.placed);
    }

    pub are_there : (devices : ℕ) → length ts ≡ harts + (devices + 1) → AllByRecursion (λ (e : Entry). IsThere harts devices e.actor) (all_of js)
    are_there devices many =
        all_by (λ (e : Entry). IsThere harts devices e.actor) 0 ts crew
        (λ t n lt r. every (λ (e : Entry). e.actor ≡ actor_of harts n) (λ (e : Entry). IsThere harts devices e.actor) t.work.journal.items
        (λ e is. subst (IsThere harts devices) (sym is) (is_there harts devices n (omega (arith, lt, many)))) r.own)
