-- A step at one place, by the one seat that may make it, keeps the rule.
use Rattle.std.proofs.Common.{◌≡◌, ◌≢◌, ⊎_elim, ℕ, eq-eqb, ne_eqb, ◌+◌, ◌*◌, ◌^◌, ◌<◌, ◌≤◌, ◌==◌, Bool, cond, List, [], ◌++◌, length, All, Contains, set, refl, sym, ap, ◌∙◌, subst, arith, append-nil, Option, Some, None}
use Rattle.std.proofs.lemmas.List.{length-set}
use Rattle.std.specs.List.Sorted.{IsPermutation}
use Rattle.std.proofs.lemmas.List.Elements.{All-weaker, Contains-append_left}
use mathlib.Core.Option as maybe
use mathlib.Core.Logic.{dite}
use native.Mathlib.Decide.{ℕ_discrete}
use lib.ListN.{get_elem?}
use Rattle.atomic_table.specs.Table.{State}
use Rattle.atomic_table.proofs.Lists.{at_set, set_else}
use Rattle.vm_types.specs.declared.ids.ActorId.{ActorId}
use Rattle.vm_types.specs.declared.op.Op.{Op}
use Rattle.vm_types.specs.declared.reply.Reply.{Reply}
use Rattle.vm_types.specs.declared.entry.Entry.{Entry}
use Rattle.turn_table.specs.declared.held.Held.{Held}
use Rattle.turn_table.specs.declared.view.View.{View}
use Rattle.turn_table.specs.declared.view.Round.{Round}
use Rattle.turn_table.specs.declared.view.Turn.{Turn}
use Rattle.turn_table.specs.declared.view.Noted.{Noted}
use Rattle.turn_table.specs.Views.{entries_at, all_at}
use Rattle.turn_table.specs.Rule.{IsAmong, IsAt, Stands, Fits, IsKept}
use Rattle.turn_table.proofs.Gathered.{all_more, parts_set}

-- x at i, and else f
abbrev pub put : {X : Type 0} → ℕ → X → (ℕ → X) → ℕ → X
put i x f j = cond (i == j) x (f j)

pub put_here : {X : Type 0} (i : ℕ) (x : X) (f : ℕ → X) → put i x f i ≡ x
put_here {X} i x f = ap (λ (b : Bool). let r : X = cond b x (f i) in r) (eq-eqb i i refl)

pub put_else : {X : Type 0} (i j : ℕ) (x : X) (f : ℕ → X) → i ≢ j → put i x f j ≡ f j
put_else {X} i j x f ne = ap (λ (b : Bool). let r : X = cond b x (f j) in r) (ne_eqb i j ne)

put_more : (i j : ℕ) (h : ℕ → List Entry) (ys : List Entry) → h j ++ cond (i == j) ys [] ≡ put i (h i ++ ys) h j
put_more i j h ys =
    dite (ℕ_discrete i j)
    (λ e. subst (λ (k : ℕ). h k ++ cond (i == k) ys [] ≡ put i (h i ++ ys) h k) e
    (ap (λ (b : Bool). let r : List Entry = h i ++ cond b ys [] in r) (eq-eqb i i refl) ∙ sym (put_here i (h i ++ ys) h)))
    (λ ne.
    ap (λ (b : Bool). let r : List Entry = h j ++ cond b ys [] in r) (ne_eqb i j ne) ∙ append-nil (h j) ∙ sym (put_else i j (h i ++ ys) h ne))

-- what a list has it has still where more comes at i
in_more : {A : Type 0} (i j : ℕ) (h : ℕ → List A) (ys : List A) (a : A) → Contains (h j) a → Contains (put i (h i ++ ys) h j) a
in_more {A} i j h ys a has =
    dite (ℕ_discrete i j)
    (λ e. subst (λ (k : ℕ). Contains (put i (h i ++ ys) h k) a) e
    (subst (λ (l : List A). Contains l a) (sym (put_here i (h i ++ ys) h)) (Contains-append_left (h i) ys a (subst (λ (k : ℕ). Contains (h k) a) (sym e) has))))
    (λ ne. subst (λ (l : List A). Contains l a) (sym (put_else i j (h i ++ ys) h ne)) has)

pub among_more : {P : Type 0} (i : ℕ) (lefts : ℕ → List P) (zs : List P) (xs : List (Noted P)) → All (IsAmong lefts) xs → All (IsAmong (put i (lefts i ++ zs) lefts)) xs
among_more i lefts zs xs all =
    All-weaker (IsAmong lefts) (IsAmong (put i (lefts i ++ zs) lefts)) (λ x has. in_more i x.place lefts zs x.left has) xs all

-- the table after a step at the word and the slot i by the seat id
abbrev pub after : {P : Type 0} → State (Held P) (View P) → ℕ → ℕ → maybe.Option (Held P) → ℕ → View P → State (Held P) (View P)
after s i n x id w = record { words = set s.words i n; homes = set s.homes i x; views = set s.views id w }

module _ {P V : Type 0} (touch : V → ActorId → Op → Reply × V) (value : P → V) (made : P → Type 0) (r : Round P) (base : ℕ → ℕ) where
  stands_else : (s : State (Held P) (View P)) (i n : ℕ) (x : maybe.Option (Held P)) (id : ℕ) (v w : View P) → get_elem? s.views id ≡ maybe.some v → ((t : Turn P) → v.turn ≡ Some t → t.place ≡ i) → (j : ℕ) → i ≢ j → (es : List Entry) (ls : List P) (o : maybe.Option ℕ) → Stands touch value made r s (base j) es ls j o → Stands touch value made r (after s i n x id w) (base j) es ls j o
  stands_else s i n x id v w at own j ne es ls maybe.none st =
      (set_else s.words i j n (λ e. ne (sym e)) ∙ st.0, (st.1.0, set_else s.homes i j x (λ e. ne (sym e)) ∙ st.1.1, st.1.2))
  stands_else s i n x id v w at own j ne es ls (maybe.some b) st =
      let v' = st.1.0 in
      let t = st.1.1 in
      let at' = st.1.2 in
      let turn = st.1.3 in
      let place = st.1.4 in
      let not : b ≢ id = λ e.
      let same : v' ≡ v = maybe.some-injective v' v (sym at' ∙ ap (λ (k : ℕ). get_elem? s.views k) e ∙ at) in
      ne (sym (own t (ap (λ (u : View P). u.turn) (sym same) ∙ turn)) ∙ place)
      in
      (set_else s.words i j n (λ e. ne (sym e)) ∙ st.0, (v', t, set_else s.views id b w not ∙ at', turn, place))

  fits_else : (history : ℕ → List Entry) (lefts : ℕ → List P) (who : ℕ → maybe.Option ℕ) (i id : ℕ) (es : List Entry) (ls : List P) (o : maybe.Option ℕ) → ((b : ℕ) → who i ≡ maybe.some b → b ≡ id) → (b : ℕ) → b ≢ id → (v : View P) (m : Option (Turn P)) → Fits touch value made r base history lefts who b v m → Fits touch value made r base (put i es history) (put i ls lefts) (put i o who) b v m
  fits_else history lefts who i id es ls o sole b ne v None f = tt
  fits_else history lefts who i id es ls o sole b ne v (Some t) f =
      let not : i ≢ t.place = λ e. ne (sole b (ap who e ∙ f.1)) in (
        f.0,
        put_else i t.place o who not ∙ f.1,
        f.2 ∙ ap (λ (l : List Entry). base t.place + length l) (sym (put_else i t.place es history not)),
        subst (λ (l : List P). IsAt touch value made r (put i es history t.place) l t.place t.held) (sym (put_else i t.place ls lefts not))
            (subst (λ (l : List Entry). IsAt touch value made r l (lefts t.place) t.place t.held) (sym (put_else i t.place es history not)) f.3),
      )

module _ {P V : Type 0} (touch : V → ActorId → Op → Reply × V) (value : P → V) (made : P → Type 0) (all : ℕ) where
  pub moved : (s : State (Held P) (View P)) (h : IsKept touch value made all s) (i n : ℕ) (x : maybe.Option (Held P)) (id : ℕ) (v w : View P) (ys : List Entry) (zs : List P) (o : maybe.Option ℕ) → get_elem? s.views id ≡ maybe.some v → get_elem? (set s.views id w) id ≡ maybe.some w → ((t : Turn P) → v.turn ≡ Some t → t.place ≡ i) → ((b : ℕ) → h.who i ≡ maybe.some b → b ≡ id) → Stands touch value made h.round (after s i n x id w) (h.base i) (h.history i ++ ys) (h.lefts i ++ zs) i o → Fits touch value made h.round h.base (put i (h.history i ++ ys) h.history) (put i (h.lefts i ++ zs) h.lefts) (put i o h.who) id w w.turn → w.parts ≡ v.parts → w.round ≡ v.round → length w.entries ≤ 2 ^ 32 * w.parts → All (IsAmong (put i (h.lefts i ++ zs) h.lefts)) w.entries → ((j : ℕ) → entries_at j w.entries ≡ entries_at j v.entries ++ cond (i == j) ys []) → IsKept touch value made all (after s i n x id w)
  moved s h i n x id v w ys zs o at here own sole stands fits parts same room among more =
      let r = h.round in
      let new : State (Held P) (View P) = after s i n x id w in
      let es : List Entry = h.history i ++ ys in
      let ls : List P = h.lefts i ++ zs in
      record {
        round = r;
        base = h.base;
        history = put i es h.history;
        lefts = put i ls h.lefts;
        who = put i o h.who;
        words = length-set s.words i n ∙ h.words;
        homes = length-set s.homes i x ∙ h.homes;
        places = λ j lt.
            dite (ℕ_discrete i j)
            (λ e. subst (λ (k : ℕ). Stands touch value made r new (h.base k) (put i es h.history k) (put i ls h.lefts k) k (put i o h.who k)) e
            (rw (put_here i es h.history, put_here i ls h.lefts, put_here i o h.who) stands))
            (λ ne. rw (put_else i j es h.history ne, put_else i j ls h.lefts ne, put_else i j o h.who ne) (stands_else touch value made r h.base s i n x id v w at own j ne (h.history j) (h.lefts j) (h.who j) (h.places j lt)));
        turns = λ b u at'.
            ⊎_elim (λ t. let same : w ≡ u = t.1 in let is : b ≡ id = t.0 in
            subst (λ (k : ℕ). Fits touch value made r h.base (put i es h.history) (put i ls h.lefts) (put i o h.who) k u u.turn) (sym is) (subst (λ (z : View P). Fits touch value made r h.base (put i es h.history) (put i ls h.lefts) (put i o h.who) id z z.turn) same fits))
            (λ t. fits_else touch value made r h.base h.history h.lefts h.who i id es ls o sole b t.0 u u.turn (h.turns b u t.1))
            (at_set s.views id b w u at');
        left = λ b u at'.
            ⊎_elim (λ t. subst (λ (z : View P). All (IsAmong (put i ls h.lefts)) z.entries) t.1 among) (λ t. among_more i h.lefts zs u.entries (h.left b u t.1)) (at_set s.views id b w u at');
        room = λ b u at'.
            ⊎_elim (λ t. subst (λ (z : View P). length z.entries ≤ 2 ^ 32 * z.parts) t.1 room) (λ t. h.room b u t.1) (at_set s.views id b w u at');
        knows = λ b u at' part.
            ⊎_elim (λ t. let is : w ≡ u = t.1 in
            ap (λ (z : View P). z.round) (sym is) ∙ (same ∙ h.knows id v at (subst (λ (k : ℕ). 0 < k) (ap (λ (z : View P). z.parts) (sym is) ∙ parts) part)))
            (λ t. h.knows b u t.1 part)
            (at_set s.views id b w u at');
        all = (let sums = parts_set s.views id v w at in let p = h.all in omega arith);
        few = h.few;
        noted = λ j.
            subst (λ (l : List Entry). IsPermutation (all_at j (set s.views id w)) l) (put_more i j h.history ys)
            (all_more j s.views id v w (cond (i == j) ys []) (h.history j) at here (more j) (h.noted j));
      }
