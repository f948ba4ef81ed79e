-- Who has every part knows what all did; seats that are cut in two and put together.
use Rattle.std.proofs.Common.{◌≡◌, ◌≢◌, ◌⊎◌, ⊎_elim, inl, inr, ℕ, zero, suc, ◌+◌, ◌-◌, ◌*◌, ◌^◌, ◌<◌, ◌≤◌, Bool, true, false, cond, eqb, eq-eqb, ne_eqb, List, [], ◌∷◌, ◌++◌, length, All, set, replicate, refl, sym, ap, ◌∙◌, subst, arith, append-nil, length-append, Option, Some, None, slice_index}
use Rattle.std.proofs.lemmas.List.{length-set, append_assoc, length-replicate, length-map}
use Rattle.std.specs.List.{AllByRecursion}
use Rattle.std.proofs.lemmas.List.Elements.{All-append, All-nil}
use Rattle.std.specs.List.Sorted.{IsPermutation}
use Rattle.std.proofs.lemmas.List.Sorted.{IsPermutation-refl, IsPermutation-sym, IsPermutation-trans, IsPermutation-append_left, IsPermutation-append_right, IsPermutation-append_comm}
use mathlib.Core.Option as maybe
use mathlib.Core.Logic.{dite}
use native.Mathlib.Decide.{ℕ_discrete}
use lib.ListN.{get_elem?}
use Rattle.atomic_table.specs.Table.{State, keeps, Allows, Splits, Joins, Final, Seen, opening}
use Rattle.atomic_table.proofs.Lists.{at_set, set_here, set_else, set_again, at_longer, at_snoc, at_map}
use Rattle.vm_types.specs.declared.ids.ActorId.{ActorId}
use Rattle.vm_types.specs.declared.op.Op.{Op}
use Rattle.vm_types.specs.declared.reply.Reply.{Reply}
use Rattle.vm_types.specs.declared.entry.Entry.{Entry}
use Rattle.turn_table.specs.declared.held.Held.{Held}
use Rattle.turn_table.specs.declared.view.View.{View}
use Rattle.turn_table.specs.declared.view.Round.{Round}
use Rattle.turn_table.specs.declared.view.Turn.{Turn}
use Rattle.turn_table.specs.declared.view.Noted.{Noted}
use Rattle.turn_table.specs.Views.{entries_at, all_at, parts_of, newcomer, fewer, joined}
use Rattle.turn_table.specs.Rule.{IsAmong, IsAt, Stands, Fits, Leads, IsKept, before_of, IsNew}
use Rattle.turn_table.specs.Steps.{Mine, Told, Settles}
use Rattle.turn_table.proofs.Gathered.{others, split_out, others_set, parts_set}
use Rattle.turn_table.proofs.Taking.{index_at, still_made, there}
use Rattle.turn_table.proofs.Moved.{put, put_here, put_else}

at_joined : {P : Type 0} (i : ℕ) (xs ys : List (Noted P)) → entries_at i (xs ++ ys) ≡ entries_at i xs ++ entries_at i ys
at_joined i [] ys = refl
at_joined i (x ∷ xs) ys =
    let rest = at_joined i xs ys in
    elim (eqb x.place i) as (λ b. cond b (x.entry ∷ entries_at i (xs ++ ys)) (entries_at i (xs ++ ys)) ≡ cond b (x.entry ∷ entries_at i xs) (entries_at i xs) ++ entries_at i ys) [
      | true ↦ ap (λ zs. x.entry ∷ zs) rest
      | false ↦ rest
    ]

none_at : {P : Type 0} (i : ℕ) (xs : List (Noted P)) → length xs ≤ 0 → entries_at i xs ≡ []
none_at i [] h = refl
none_at i (x ∷ xs) h = absurd (omega arith)

-- no act left a place
abbrev no_left : {P : Type 0} → ℕ → List P
no_left i = []

-- of no elements anything is so
none_all : {A : Type 0} (P : A → Type 0) (xs : List A) → length xs ≤ 0 → All P xs
none_all P xs none k d lt = absurd (omega (arith, none, lt))

module _ {P : Type 0} where
  part_le : (vs : List (View P)) (id : ℕ) (v : View P) → get_elem? vs id ≡ maybe.some v → v.parts ≤ parts_of vs
  part_le vs id v at =
      let z : View P = record v { parts = 0 } in
      let h = parts_set vs id v z at in
      omega arith

  -- one seat has all parts, so another has none
  pub no_part : (vs : List (View P)) (id : ℕ) (v : View P) → get_elem? vs id ≡ maybe.some v → v.parts ≡ parts_of vs → (b : ℕ) (u : View P) → get_elem? vs b ≡ maybe.some u → b ≢ id → u.parts ≡ 0
  no_part vs id v at all b u at' ne =
      let z : View P = record u { parts = 0 } in
      let h = parts_set vs b u z at' in
      let p = part_le (set vs b z) id v (set_else vs b id z (λ e. ne (sym e)) ∙ at) in
      omega arith

  all_none : (i : ℕ) (vs : List (View P)) → ((b : ℕ) (u : View P) → get_elem? vs b ≡ maybe.some u → length u.entries ≤ 0) → all_at i vs ≡ []
  all_none i [] h = refl
  all_none i (v ∷ vs) h =
      ap (λ l. l ++ all_at i vs) (none_at i v.entries (h 0 v refl)) ∙ all_none i vs (λ b u at. h (suc b) u at)

  others_none : (i : ℕ) (vs : List (View P)) (id : ℕ) → ((b : ℕ) (u : View P) → get_elem? vs b ≡ maybe.some u → b ≢ id → length u.entries ≤ 0) → others i vs id ≡ []
  others_none i [] id h = refl
  others_none i (v ∷ vs) zero h = all_none i vs (λ b u at. h (suc b) u at (λ e. absurd (omega arith)))
  others_none i (v ∷ vs) (suc id) h =
      ap (λ l. l ++ others i vs id) (none_at i v.entries (h 0 v refl (λ e. absurd (omega arith)))) ∙ others_none i vs id (λ b u at ne. h (suc b) u at (λ e. ne (omega arith)))

  all_snoc : (i : ℕ) (vs : List (View P)) (w : View P) → all_at i (vs ++ w ∷ []) ≡ all_at i vs ++ entries_at i w.entries
  all_snoc i [] w = append-nil (entries_at i w.entries)
  all_snoc i (v ∷ vs) w =
      ap (λ l. entries_at i v.entries ++ l) (all_snoc i vs w) ∙ sym (append_assoc (entries_at i v.entries) (all_at i vs) (entries_at i w.entries))

  parts_snoc : (vs : List (View P)) (w : View P) → parts_of (vs ++ w ∷ []) ≡ parts_of vs + w.parts
  parts_snoc [] w = omega arith
  parts_snoc (v ∷ vs) w = let h = parts_snoc vs w in omega arith

  set_swap : (vs : List (View P)) (a b : ℕ) (x y : View P) → a ≢ b → set (set vs a x) b y ≡ set (set vs b y) a x
  set_swap [] a b x y ne = refl
  set_swap (v ∷ vs) zero zero x y ne = absurd (ne refl)
  set_swap (v ∷ vs) zero (suc b) x y ne = refl
  set_swap (v ∷ vs) (suc a) zero x y ne = refl
  set_swap (v ∷ vs) (suc a) (suc b) x y ne = ap (λ l. v ∷ l) (set_swap vs a b x y (λ e. ne (ap suc e)))

  -- what the seat `other` noted goes behind what the seat id noted
  all_joined : (i : ℕ) (vs : List (View P)) (id : ℕ) (v : View P) (other : ℕ) (w both spent : View P) → get_elem? vs id ≡ maybe.some v → other ≢ id → get_elem? vs other ≡ maybe.some w → entries_at i both.entries ≡ entries_at i v.entries ++ entries_at i w.entries → entries_at i spent.entries ≡ [] → IsPermutation (all_at i (set (set vs id both) other spent)) (all_at i vs)
  all_joined i vs id v other w both spent at ne at' sum nil =
      let a : List Entry = entries_at i v.entries in
      let b : List Entry = entries_at i w.entries in
      let us : List (View P) = set vs other spent in
      let u_id : get_elem? us id ≡ maybe.some v = set_else vs other id spent (λ e. ne (sym e)) ∙ at in
      let new : List (View P) = set us id both in
      let o : List Entry = others i us id in
      let p1 : IsPermutation (all_at i vs) (b ++ others i vs other) = split_out i vs other w at' in
      let q1 : IsPermutation (all_at i us) (entries_at i spent.entries ++ others i us other) = split_out i us other spent (there vs other w spent at') in
      let q2 : IsPermutation (all_at i us) (others i vs other) = subst (λ l. IsPermutation (all_at i us) l) ((λ k. nil k ++ others_set i vs other spent k)) q1 in
      let q3 : IsPermutation (all_at i us) (a ++ o) = split_out i us id v u_id in
      let q4 : IsPermutation (others i vs other) (a ++ o) = IsPermutation-trans (others i vs other) (all_at i us) (a ++ o) (IsPermutation-sym (all_at i us) (others i vs other) q2) q3 in
      let p2 : IsPermutation (all_at i vs) (b ++ (a ++ o)) = IsPermutation-trans (all_at i vs) (b ++ others i vs other) (b ++ (a ++ o)) p1 (IsPermutation-append_right b (others i vs other) (a ++ o) q4) in
      let m : IsPermutation (b ++ (a ++ o)) ((a ++ b) ++ o) = subst (λ l. IsPermutation l ((a ++ b) ++ o)) (append_assoc b a o) (IsPermutation-append_left o (b ++ a) (a ++ b) (IsPermutation-append_comm b a)) in
      let r1 : IsPermutation (all_at i new) (entries_at i both.entries ++ others i new id) = split_out i new id both (there us id v both u_id) in
      let r2 : IsPermutation (all_at i new) ((a ++ b) ++ o) = subst (λ l. IsPermutation (all_at i new) l) (λ k. sum k ++ others_set i us id both k) r1 in
      let r3 : IsPermutation (all_at i new) (all_at i vs) = IsPermutation-trans (all_at i new) ((a ++ b) ++ o) (all_at i vs) r2 (IsPermutation-sym (all_at i vs) ((a ++ b) ++ o) (IsPermutation-trans (all_at i vs) (b ++ (a ++ o)) ((a ++ b) ++ o) p2 m)) in
      subst (λ l. IsPermutation (all_at i l) (all_at i vs)) (set_swap vs other id spent both ne) r3

module _ {P V : Type 0} (touch : V → ActorId → Op → Reply × V) (value : P → V) (made : P → Type 0) (parts : ℕ) where
  stands_on : (r : Round P) (s : State (Held P) (View P)) (views : List (View P)) (base : ℕ) (es : List Entry) (ls : List P) (i : ℕ) → ((b : ℕ) (u : View P) (t : Turn P) → get_elem? s.views b ≡ maybe.some u → u.turn ≡ Some t → get_elem? views b ≡ maybe.some u) → (o : maybe.Option ℕ) → Stands touch value made r s base es ls i o → Stands touch value made r (record { words = s.words; homes = s.homes; views = views }) base es ls i o
  stands_on r s views base es ls i on maybe.none st = st
  stands_on r s views base es ls i on (maybe.some b) st = (st.0, (st.1.0, st.1.1, on b st.1.0 st.1.1 st.1.2 st.1.3, st.1.3, st.1.4))

  fits_none : (r : Round P) (base : ℕ → ℕ) (history : ℕ → List Entry) (lefts : ℕ → List P) (who : ℕ → maybe.Option ℕ) (id : ℕ) (v : View P) (m : Option (Turn P)) → m ≡ None → Fits touch value made r base history lefts who id v m
  fits_none r base history lefts who id v m is = subst (λ n. Fits touch value made r base history lefts who id v n) (sym is) tt

  -- words and slots stay, and so does each view that has a turn
  views_kept : (s : State (Held P) (View P)) (h : IsKept touch value made parts s) (views : List (View P)) → ((b : ℕ) (u : View P) (t : Turn P) → get_elem? s.views b ≡ maybe.some u → u.turn ≡ Some t → get_elem? views b ≡ maybe.some u) → ((b : ℕ) (u : View P) → get_elem? views b ≡ maybe.some u → (get_elem? s.views b ≡ maybe.some u) ⊎ ((u.turn ≡ None) × (length u.entries ≤ 2 ^ 32 * u.parts) × (0 < u.parts → u.round ≡ h.round) × All (IsAmong h.lefts) u.entries)) → parts_of views ≡ parts_of s.views → ((i : ℕ) → IsPermutation (all_at i views) (all_at i s.views)) → IsKept touch value made parts (record { words = s.words; homes = s.homes; views = views })
  views_kept s h views on from sums same = record {
    round = h.round;
    base = h.base;
    history = h.history;
    lefts = h.lefts;
    who = h.who;
    words = h.words;
    homes = h.homes;
    places = λ i lt. stands_on h.round s views (h.base i) (h.history i) (h.lefts i) i on (h.who i) (h.places i lt);
    turns = λ b u at.
        ⊎_elim (λ e. h.turns b u e) (λ n. fits_none h.round h.base h.history h.lefts h.who b u u.turn n.0) (from b u at);
    left = λ b u at. ⊎_elim (λ e. h.left b u e) (λ n. n.3) (from b u at);
    room = λ b u at. ⊎_elim (λ e. h.room b u e) (λ n. n.1) (from b u at);
    knows = λ b u at part. ⊎_elim (λ e. h.knows b u e part) (λ n. n.2 part) (from b u at);
    all = sums ∙ h.all;
    few = h.few;
    noted = λ i. IsPermutation-trans (all_at i views) (all_at i s.views) (h.history i) (same i) (h.noted i);
  }

  pub splits : (id : ℕ) (v : View P) → v.turn ≡ None → v.entries ≡ [] → 1 < v.parts → Splits (IsKept touch value made parts) id v (fewer v) (newcomer 1 v.round)
  splits id v free bare two s h at =
      let n : View P = newcomer 1 v.round in
      let l : View P = fewer v in
      let vs : List (View P) = set s.views id l in
      let empty : length v.entries ≤ 0 = rw bare (omega arith) in
      let one : 0 < v.parts = omega arith in
      let mine : v.round ≡ h.round = h.knows id v at one in
      views_kept s h (vs ++ n ∷ [])
      (λ b u t at' turn.
      at_longer vs (n ∷ []) b u
      (set_else s.views id b l (λ e. let same : u ≡ v = maybe.some-injective u v (sym at' ∙ ap (λ (k : ℕ). get_elem? s.views k) e ∙ at) in
      let none : u.turn ≡ None = ap (λ (z : View P). z.turn) same ∙ free in absurd (cc)) ∙ at'))
      (λ b u at'.
      ⊎_elim (λ old. ⊎_elim (λ e. inr (subst (λ (z : View P). (z.turn ≡ None) × (length z.entries ≤ 2 ^ 32 * z.parts) × (0 < z.parts → z.round ≡ h.round) × All (IsAmong h.lefts) z.entries) e.1 (free, omega (arith, empty), (λ p. mine), h.left id v at)))
      (λ e. inl e.1)
      (at_set s.views id b l u old))
      (λ new. inr (subst (λ (z : View P). (z.turn ≡ None) × (length z.entries ≤ 2 ^ 32 * z.parts) × (0 < z.parts → z.round ≡ h.round) × All (IsAmong h.lefts) z.entries) new (refl, omega arith, (λ p. mine), All-nil (IsAmong h.lefts))))
      (at_snoc vs n u b at'))
      (let a = parts_snoc vs n in let b = parts_set s.views id v l at in omega (arith, a, b, two))
      (λ i.
      let a : all_at i (vs ++ n ∷ []) ≡ all_at i vs = all_snoc i vs n ∙ append-nil (all_at i vs) in
      let p1 : IsPermutation (all_at i vs) (entries_at i v.entries ++ others i vs id) = split_out i vs id l (there s.views id v l at) in
      let p2 : IsPermutation (all_at i vs) (entries_at i v.entries ++ others i s.views id) = subst (λ z. IsPermutation (all_at i vs) (entries_at i v.entries ++ z)) (others_set i s.views id l) p1 in
      let p3 : IsPermutation (all_at i s.views) (entries_at i v.entries ++ others i s.views id) = split_out i s.views id v at in
      subst (λ z. IsPermutation z (all_at i s.views)) (sym a) (IsPermutation-trans (all_at i vs) (entries_at i v.entries ++ others i s.views id) (all_at i s.views) p2 (IsPermutation-sym (all_at i s.views) (entries_at i v.entries ++ others i s.views id) p3)))

  pub joins : (id : ℕ) (v : View P) (other : ℕ) (w : View P) (r : Round P) → v.turn ≡ None → w.turn ≡ None → 0 < v.parts → Joins (IsKept touch value made parts) id v other w (joined v w) (newcomer 0 r)
  joins id v other w r free free' part s h at ne at2 =
      let both : View P = joined v w in
      let spent : View P = newcomer 0 r in
      let at' : get_elem? s.views other ≡ maybe.some w = sym (set_else s.views id other both ne) ∙ at2 in
      let vs : List (View P) = set s.views id both in
      let mine : v.round ≡ h.round = h.knows id v at part in
      let rv = h.room id v at in
      let rw' = h.room other w at' in
      let Ok : View P → Type 0 = λ z. (z.turn ≡ None) × (length z.entries ≤ 2 ^ 32 * z.parts) × (0 < z.parts → z.round ≡ h.round) × All (IsAmong h.lefts) z.entries in
      views_kept s h (set vs other spent)
      (λ b u t old turn.
      set_else vs other b spent (λ e. let same : u ≡ w = maybe.some-injective u w (sym old ∙ ap (λ (k : ℕ). get_elem? s.views k) e ∙ at') in
      let none : u.turn ≡ None = ap (λ (z : View P). z.turn) same ∙ free' in absurd (cc))
      ∙ set_else s.views id b both (λ e. let same : u ≡ v = maybe.some-injective u v (sym old ∙ ap (λ (k : ℕ). get_elem? s.views k) e ∙ at) in
      let none : u.turn ≡ None = ap (λ (z : View P). z.turn) same ∙ free in absurd (cc))
      ∙ old)
      (λ b u new.
      ⊎_elim (λ e. inr (subst Ok e.1 (refl, omega arith, (λ p. absurd (omega arith)), All-nil (IsAmong h.lefts))))
      (λ e. ⊎_elim (λ f. inr (subst Ok f.1 (free, omega (arith, rv, rw', length-append v.entries w.entries), (λ p. mine), All-append (IsAmong h.lefts) v.entries w.entries (h.left id v at) (h.left other w at')))) (λ f. inl f.1) (at_set s.views id b both u e.1))
      (at_set vs other b spent u new))
      (let a = parts_set vs other w spent at2 in let b = parts_set s.views id v both at in omega (arith, a, b))
      (λ i. all_joined i s.views id v other w both spent at ne at' (at_joined i v.entries w.entries) refl)

-- the values of slots that are all at home
abbrev pub homes_of : {A : Type 0} → List (maybe.Option A) → List A
homes_of [] = []
homes_of (maybe.none ∷ hs) = homes_of hs
homes_of (maybe.some a ∷ hs) = a ∷ homes_of hs

all_home : {A : Type 0} (hs : List (maybe.Option A)) → ((i : ℕ) → i < length hs → (a : A) × (get_elem? hs i ≡ maybe.some (maybe.some a))) → (i : ℕ) (a : A) → get_elem? hs i ≡ maybe.some (maybe.some a) → get_elem? (homes_of hs) i ≡ maybe.some a
all_home [] home i a at = absurd (maybe.some-ne-none (maybe.some a) (sym at))
all_home (maybe.none ∷ hs) home i a at =
    let h = home 0 (omega arith) in absurd (maybe.some-ne-none h.0 (sym (maybe.some-injective maybe.none (maybe.some h.0) h.1)))
all_home (maybe.some b ∷ hs) home zero a at = maybe.some-injective (maybe.some b) (maybe.some a) at
all_home (maybe.some b ∷ hs) home (suc i) a at = all_home hs (λ j lt. home (suc j) (omega (arith, lt))) i a at

home_length : {A : Type 0} (hs : List (maybe.Option A)) → ((i : ℕ) → i < length hs → (a : A) × (get_elem? hs i ≡ maybe.some (maybe.some a))) → length (homes_of hs) ≡ length hs
home_length [] home = refl
home_length (maybe.none ∷ hs) home =
    let h = home 0 (omega arith) in absurd (maybe.some-ne-none h.0 (sym (maybe.some-injective maybe.none (maybe.some h.0) h.1)))
home_length (maybe.some b ∷ hs) home = ap suc (home_length hs (λ j lt. home (suc j) (omega (arith, lt))))

module _ {P V : Type 0} (touch : V → ActorId → Op → Reply × V) (value : P → V) (made : P → Type 0) (parts : ℕ) (s : State (Held P) (View P)) (h : IsKept touch value made parts s) (id : ℕ) (v : View P) (at : get_elem? s.views id ≡ maybe.some v) (free : v.turn ≡ None) (whole : v.parts ≡ parts) (part : 0 < v.parts) where
  none_by : (b : ℕ) (u : View P) (m : Option (Turn P)) → Fits touch value made h.round h.base h.history h.lefts h.who b u m → u.parts ≡ 0 → m ≡ None
  none_by b u None f z = refl
  none_by b u (Some t) f z = absurd (omega (arith, f.0, z))

  lacks : (b : ℕ) (u : View P) → get_elem? s.views b ≡ maybe.some u → b ≢ id → u.parts ≡ 0
  lacks b u at' ne = no_part s.views id v at (whole ∙ sym h.all) b u at' ne

  no_turn : (b : ℕ) (u : View P) → get_elem? s.views b ≡ maybe.some u → Dec (b ≡ id) → u.turn ≡ None
  no_turn b u at' (yes e) =
      ap (λ (z : View P). z.turn) (maybe.some-injective u v (sym at' ∙ ap (λ (k : ℕ). get_elem? s.views k) e ∙ at)) ∙ free
  no_turn b u at' (no ne) = none_by b u u.turn (h.turns b u at') (lacks b u at' ne)

  bare_else : (b : ℕ) (u : View P) → get_elem? s.views b ≡ maybe.some u → b ≢ id → length u.entries ≤ 0
  bare_else b u at' ne = let r = h.room b u at' in let z = lacks b u at' ne in omega (arith, r, z)

  -- every place is at home
  home_by : (i : ℕ) (o : maybe.Option ℕ) → Stands touch value made h.round s (h.base i) (h.history i) (h.lefts i) i o → (get_elem? s.words i ≡ maybe.some (2 * (h.base i + length (h.history i)))) × ((now : Held P) × (get_elem? s.homes i ≡ maybe.some (maybe.some now)) × IsAt touch value made h.round (h.history i) (h.lefts i) i now)
  home_by i maybe.none st = st
  home_by i (maybe.some b) st =
      let none : st.1.0.turn ≡ None = no_turn b st.1.0 st.1.2 (ℕ_discrete b id) in
      let some' : st.1.0.turn ≡ Some st.1.1 = st.1.3 in
      absurd (cc)

  pub home : (i : ℕ) → i < length h.round.opens → (get_elem? s.words i ≡ maybe.some (2 * (h.base i + length (h.history i)))) × ((now : Held P) × (get_elem? s.homes i ≡ maybe.some (maybe.some now)) × IsAt touch value made h.round (h.history i) (h.lefts i) i now)
  home i lt = home_by i (h.who i) (h.places i lt)

  home' : (i : ℕ) → i < length s.homes → (a : Held P) × (get_elem? s.homes i ≡ maybe.some (maybe.some a))
  home' i lt = let a = home i (omega (arith, lt, h.homes)) in (a.1.0, a.1.1)

  pub counted : length (homes_of s.homes) ≡ length v.round.opens
  counted = home_length s.homes home' ∙ h.homes ∙ ap (λ (r : Round P). length r.opens) (sym (h.knows id v at part))

  -- the turns of a place may be counted anew
  pub recounted : (i m : ℕ) → i < length h.round.opens → length (h.history i) ≤ m → (k : IsKept touch value made parts (record { words = set s.words i (2 * m); homes = s.homes; views = s.views })) × (k.who i ≡ maybe.none)
  recounted i m lt few =
      let r : Round P = h.round in
      let new : State (Held P) (View P) = record { words = set s.words i (2 * m); homes = s.homes; views = s.views } in
      let base : ℕ → ℕ = put i (m - length (h.history i)) h.base in
      let here : base i ≡ m - length (h.history i) = put_here i (m - length (h.history i)) h.base in
      let count : 2 * m ≡ 2 * (base i + length (h.history i)) = omega (arith, here, few) in (
        record {
          round = r;
          base = base;
          history = h.history;
          lefts = h.lefts;
          who = λ j. maybe.none;
          words = length-set s.words i (2 * m) ∙ h.words;
          homes = h.homes;
          places = λ j lt'.
              dite (ℕ_discrete i j)
              (λ e. subst (λ (k : ℕ). Stands touch value made r new (base k) (h.history k) (h.lefts k) k maybe.none) e
              (set_here s.words i (2 * m) (omega (arith, lt, h.words)) ∙ ap maybe.some count, (home i lt).1))
              (λ ne. let a = home j lt' in (
                set_else s.words i j (2 * m) (λ e. ne (sym e)) ∙ a.0 ∙ ap (λ (b : ℕ). maybe.some (2 * (b + length (h.history j)))) (sym (put_else i j (m - length (h.history i)) h.base ne)),
                a.1,
              ));
          turns = λ b u at'. fits_none touch value made parts r base h.history h.lefts (λ j. maybe.none) b u u.turn (no_turn b u at' (ℕ_discrete b id));
          left = h.left;
          room = h.room;
          knows = h.knows;
          all = h.all;
          few = h.few;
          noted = h.noted;
        },
        refl,
      )

  -- the seat's entries are all that happened
  mine_all : (i : ℕ) → IsPermutation (entries_at i v.entries) (h.history i)
  mine_all i =
      let a : List Entry = entries_at i v.entries in
      let p : IsPermutation (all_at i s.views) (a ++ others i s.views id) = split_out i s.views id v at in
      let q : IsPermutation (all_at i s.views) a = subst (λ l. IsPermutation (all_at i s.views) l) (ap (λ l. a ++ l) (others_none i s.views id bare_else) ∙ append-nil a) p in
      IsPermutation-trans a (all_at i s.views) (h.history i) (IsPermutation-sym (all_at i s.views) a q) (h.noted i)

  -- so it knows what happened to each place, which is at home as it was left
  pub told_of : (now : List (Held P)) → ((i : ℕ) (a : Held P) → get_elem? s.homes i ≡ maybe.some (maybe.some a) → get_elem? now i ≡ maybe.some a) → Told touch value made v now
  told_of now same i lt =
      let mine : v.round ≡ h.round = h.knows id v at part in
      let lt' : i < length h.round.opens = subst (λ (r : Round P). i < length r.opens) mine lt in
      let a = home i lt' in
      let f = a.1.2 in (
        f.0,
        a.1.0,
        h.history i,
        ap (λ (r : Round P). get_elem? r.opens i) mine ∙ f.1,
        same i a.1.0 a.1.1,
        mine_all i,
        subst (λ (r : Round P). Leads touch value made r.number f.0 (h.history i) a.1.0) (sym mine) f.2,
        still_made touch value made parts s h id v at part i a.1.0 f,
      )

  anew : (n : ℕ) (now : Held P) → now.round ≤ n → before_of (n + 1) now ≡ 0
  anew n now old =
      ap (λ (b : Bool). let r : ℕ = cond b now.last 0 in r) (ne_eqb now.round (n + 1) (λ e. absurd (omega (arith, old, e))))

  pub settled : IsKept touch value made parts (record { words = s.words; homes = s.homes; views = set s.views id (newcomer v.parts (record { number = v.round.number + 1; opens = homes_of s.homes })) })
  settled =
      let r : Round P = record { number = v.round.number + 1; opens = homes_of s.homes } in
      let w : View P = newcomer v.parts r in
      let vs : List (View P) = set s.views id w in
      let mine : v.round ≡ h.round = h.knows id v at part in
      let base : ℕ → ℕ = λ i. h.base i + length (h.history i) in
      let n : ℕ = v.round.number in
      record {
        round = r;
        base = base;
        history = λ i. [];
        lefts = λ i. [];
        who = λ i. maybe.none;
        words = h.words ∙ sym h.homes ∙ sym (home_length s.homes home');
        homes = sym (home_length s.homes home');
        places = λ i lt.
            let a = home i (let c = home_length s.homes home' in omega (arith, lt, c, h.homes)) in
            let now : Held P = a.1.0 in
            let f = a.1.2 in
            let old : now.round ≤ n = subst (λ (q : Round P). now.round ≤ q.number) (sym mine) f.2.old in
            let z : before_of (n + 1) now ≡ 0 = anew n now old in (
              a.0 ∙ ap maybe.some (omega arith),
              (now, a.1.1, (now, all_home s.homes home' i now a.1.1, record { history = record { replays = refl; rises = tt; own = tt }; last = record { is = z; low = omega (arith, z) }; id = refl; old = omega (arith, old); stays = λ m. m }, All-nil (λ (p : P). made p → made now.place))),
            );
        turns = λ b u at'.
            ⊎_elim (λ e. fits_none touch value made parts r base (λ i. []) (λ i. []) (λ i. maybe.none) b u u.turn (ap (λ (z : View P). z.turn) (sym e.1)))
            (λ e. fits_none touch value made parts r base (λ i. []) (λ i. []) (λ i. maybe.none) b u u.turn (no_turn b u e.1 (ℕ_discrete b id)))
            (at_set s.views id b w u at');
        left = λ b u at'.
            ⊎_elim (λ e. subst (λ (z : View P). All (IsAmong (no_left {P = P})) z.entries) e.1 (All-nil (IsAmong (no_left {P = P})))) (λ e. none_all (IsAmong (no_left {P = P})) u.entries (bare_else b u e.1 e.0)) (at_set s.views id b w u at');
        room = λ b u at'.
            ⊎_elim (λ e. subst (λ (z : View P). length z.entries ≤ 2 ^ 32 * z.parts) e.1 (omega arith)) (λ e. h.room b u e.1) (at_set s.views id b w u at');
        knows = λ b u at' has.
            ⊎_elim (λ e. ap (λ (z : View P). z.round) (sym e.1)) (λ e. let z = lacks b u e.1 e.0 in absurd (omega (arith, has, z))) (at_set s.views id b w u at');
        all = (let sums = parts_set s.views id v w at in let p = h.all in omega arith);
        few = h.few;
        noted = λ i.
            subst (λ l. IsPermutation l []) (sym (all_none i vs (λ b u at'. ⊎_elim (λ e. subst (λ (z : View P). length z.entries ≤ 0) e.1 (omega arith)) (λ e. bare_else b u e.1 e.0) (at_set s.views id b w u at')))) (IsPermutation-refl []);
      }

  pub settles : (me : Mine P) → v ≡ me.0 → 0 < length h.round.opens → (w : View P) × IsKept touch value made parts (record { words = set s.words 0 (slice_index s.words 0); homes = s.homes; views = set s.views id w }) × Settles touch value made me (w, me.1)
  settles me is lt =
      let r : Round P = record { number = v.round.number + 1; opens = homes_of s.homes } in
      let w : View P = newcomer v.parts r in
      let word = home 0 lt in
      let at0 : get_elem? s.words 0 ≡ maybe.some (slice_index s.words 0) = word.0 ∙ ap maybe.some (sym (index_at s.words 0 _ word.0)) in
      let words : set s.words 0 (slice_index s.words 0) ≡ s.words = set_again s.words 0 (slice_index s.words 0) at0 in (
        w,
        subst (λ (ws : List ℕ). IsKept touch value made parts (record { words = ws; homes = s.homes; views = set s.views id w })) (sym words) settled,
        record {
          opens = homes_of s.homes;
          same = counted ∙ ap (λ (z : View P). length z.round.opens) is;
          told = subst (λ (z : View P). Told touch value made z (homes_of s.homes)) is (told_of (homes_of s.homes) (all_home s.homes home'));
          view = ap (λ (z : View P). newcomer z.parts (record { number = z.round.number + 1; opens = homes_of s.homes })) is;
          slots = refl;
        },
      )

zero_at : (n i : ℕ) → i < n → get_elem? {A = ℕ} (replicate n 0) i ≡ maybe.some 0
zero_at zero i lt = absurd (omega arith)
zero_at (suc n) zero lt = refl
zero_at (suc n) (suc i) lt = zero_at n i (omega arith)

some_at : {A : Type 0} (l : List A) (i : ℕ) → i < length l → (a : A) × (get_elem? l i ≡ maybe.some a)
some_at [] i lt = absurd (omega arith)
some_at (x ∷ xs) zero lt = (x, refl)
some_at (x ∷ xs) (suc i) lt = some_at xs i (omega arith)

one_view : {P : Type 0} (Q : View P → Type 0) (v : View P) (b : ℕ) (u : View P) → get_elem? (v ∷ []) b ≡ maybe.some u → Q v → Q u
one_view Q v zero u at q = subst Q (maybe.some-injective v u at) q
one_view Q v (suc b) u at q = absurd (maybe.some-ne-none u (sym at))

at_start : (ws : List ℕ) (n i : ℕ) → ws ≡ replicate n 0 → i < n → get_elem? ws i ≡ maybe.some 0
at_start ws n i is lt = subst (λ l. get_elem? l i ≡ maybe.some 0) (sym is) (zero_at n i lt)

opened : {P : Type 0} (xs : List (Held P)) → AllByRecursion IsNew xs → (i : ℕ) (x : Held P) → get_elem? xs i ≡ maybe.some x → IsNew x
opened [] all i x at = absurd (maybe.some-ne-none x (sym at))
opened (y ∷ ys) all zero x at = subst IsNew (maybe.some-injective y x at) all.0
opened (y ∷ ys) all (suc i) x at = opened ys all.1 i x at

module _ {P V : Type 0} (touch : V → ActorId → Op → Reply × V) (value : P → V) (made : P → Type 0) (parts : ℕ) where
  pub settles_all : (slots id : ℕ) (me : Mine P) → me.0.turn ≡ None → me.0.parts ≡ parts → 0 < me.0.parts → 0 < slots → Allows (IsKept touch value made parts) slots id me 0 (λ n. n) (λ found after. Settles touch value made me after)
  settles_all slots id me free whole part some s h len at bound =
      let t = settles touch value made parts s h id me.0 at free whole part me refl (omega (arith, some, len, h.homes)) in
      (t.0, keeps, tt, t.1, t.2)

  -- and at the end the slots are as the seat was told
  pub told_last : (id : ℕ) (v : View P) (ws : List ℕ) (xs : List (Held P)) → v.turn ≡ None → v.parts ≡ parts → 0 < v.parts → Final (Seen (IsKept touch value made parts) id v) ws xs → Told touch value made v xs × (length xs ≡ length v.round.opens)
  told_last id v ws xs free whole part f =
      let s = f.0 in
      let h = f.1.0 in
      let at = f.1.1 in (
        told_of touch value made parts s h id v at free whole part xs (λ i a e. f.4 i a e),
        sym f.3 ∙ h.homes ∙ ap (λ (r : Round P). length r.opens) (sym (h.knows id v at part)),
      )

  -- the rule at the start
  pub opens_kept : (ws : List ℕ) (xs : List (Held P)) → ws ≡ replicate (length xs) 0 → AllByRecursion IsNew xs → parts < 2 ^ 16 → IsKept touch value made parts (opening ws xs (newcomer parts (record { number = 0; opens = xs })))
  opens_kept ws xs is new few =
      let r : Round P = record { number = 0; opens = xs } in
      let v : View P = newcomer parts r in
      record {
        round = r;
        base = λ i. 0;
        history = λ i. [];
        lefts = λ i. [];
        who = λ i. maybe.none;
        words = ap (λ l. length l) is ∙ length-replicate (length xs) 0;
        homes = length-map xs maybe.some;
        places = λ i lt.
            let x = some_at xs i lt in
            let n = opened xs new i x.0 x.1 in
            let z : before_of 0 x.0 ≡ 0 = ap (λ (b : Bool). let k : ℕ = cond b x.0.last 0 in k) (eq-eqb x.0.round 0 n.0) ∙ n.1 in (
              at_start ws (length xs) i is lt,
              (x.0, at_map maybe.some xs i x.0 x.1, (x.0, x.1, record { history = record { replays = refl; rises = tt; own = tt }; last = record { is = z; low = omega (arith, z) }; id = refl; old = omega (arith, n.0); stays = λ m. m }, All-nil (λ (p : P). made p → made x.0.place))),
            );
        turns = λ b u at. one_view (λ z. Fits touch value made r (λ i. 0) (λ i. []) (λ i. []) (λ i. maybe.none) b z z.turn) v b u at tt;
        left = λ b u at. one_view (λ (z : View P). All (IsAmong (no_left {P = P})) z.entries) v b u at (All-nil (IsAmong (no_left {P = P})));
        room = λ b u at. one_view (λ z. length z.entries ≤ 2 ^ 32 * z.parts) v b u at (omega arith);
        knows = λ b u at. one_view (λ z. 0 < z.parts → z.round ≡ r) v b u at (λ p. refl);
        all = omega arith;
        few = few;
        noted = λ i. IsPermutation-refl [];
      }
