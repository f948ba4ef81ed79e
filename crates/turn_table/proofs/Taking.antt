-- A turn is taken, or is not to be had, and is given up.
use Rattle.std.proofs.Common.{◌≡◌, ◌≢◌, ℕ, zero, suc, eq-eqb, ne_eqb, ◌+◌, ◌*◌, ◌%◌, ◌^◌, ◌<◌, ◌==◌, Bool, true, false, cond, ◌⊎◌, ⊎_elim, max, List, [], ◌∷◌, ◌++◌, length, set, refl, sym, ap, ◌∙◌, subst, arith, append-nil, length-append, All, Contains, Option, Some, None, slice_index, MatchBool}
use Rattle.std.proofs.lemmas.List.Sorted.{length_permutation}
use Rattle.std.proofs.lemmas.List.Elements.{All-contains, All-push, All-weaker, Contains-push}
use mathlib.Core.Option as maybe
use prog.Atomic.{either}
use lib.ListN.{get_elem?}
use Rattle.atomic_table.specs.Table.{State, Act, takes, gives, keeps, step, stepped, carried_after, Valid, Allows}
use Rattle.atomic_table.proofs.Lists.{set_here, set_again, exchanged}
use Rattle.vm_types.specs.declared.ids.ActorId.{ActorId}
use Rattle.vm_types.specs.declared.op.Op.{Op}
use Rattle.vm_types.specs.declared.reply.Reply.{Reply}
use Rattle.vm_types.specs.declared.entry.Entry.{Entry}
use Rattle.turn_table.specs.declared.held.Held.{Held}
use Rattle.turn_table.specs.declared.view.View.{View}
use Rattle.turn_table.specs.declared.view.Round.{Round}
use Rattle.turn_table.specs.declared.view.Turn.{Turn}
use Rattle.turn_table.specs.Views.{entries_at, all_at, parts_of, wrote, noted}
use Rattle.turn_table.specs.Rule.{IsAmong, IsAt, Stands, Fits, IsKept}
use Rattle.turn_table.specs.Steps.{Mine, with_turn, IsTaken, Takes, Releases}
use Rattle.turn_table.specs.Acts.{IsActed}
use Rattle.turn_table.specs.Blanks.{IsMadeAt}
use Rattle.turn_table.proofs.Gathered.{length_all, at_more}
use Rattle.turn_table.proofs.Moved.{put, put_here, among_more, moved}
use Rattle.turn_table.proofs.Grows.{leads_more}

pub index_at : (l : List ℕ) (i n : ℕ) → get_elem? l i ≡ maybe.some n → slice_index l i ≡ n
index_at [] i n at = absurd (maybe.some-ne-none n (sym at))
index_at (x ∷ xs) zero n at = maybe.some-injective x n at
index_at (x ∷ xs) (suc i) n at = index_at xs i n at

pub there : {A : Type 0} (l : List A) (i : ℕ) (a b : A) → get_elem? l i ≡ maybe.some a → get_elem? (set l i b) i ≡ maybe.some b
there [] i a b at = absurd (maybe.some-ne-none a (sym at))
there (x ∷ xs) zero a b at = refl
there (x ∷ xs) (suc i) a b at = there xs i a b at

abbrev pick : {A : Type 0} → A → Option A → A
pick d None = d
pick d (Some a) = a

Some_same : {A : Type 0} (a b : A) → Some a ≡ Some b → a ≡ b
Some_same {A} a b e = ap (λ (m : Option A). pick a m) e

none_more : (b : Bool) (xs : List Entry) → xs ≡ xs ++ cond b [] []
none_more true xs = sym (append-nil xs)
none_more false xs = sym (append-nil xs)

module _ {P V : Type 0} (touch : V → ActorId → Op → Reply × V) (value : P → V) (made : P → Type 0) (parts : ℕ) where
  -- few acts were done at each place
  pub few_acts : (s : State (Held P) (View P)) (h : IsKept touch value made parts s) (i : ℕ) → length (h.history i) < 2 ^ 48
  few_acts s h i =
      let all = length_all i s.views h.room in
      let same : length (h.history i) ≡ length (all_at i s.views) = length_permutation (all_at i s.views) (h.history i) (h.noted i) in
      let p : parts_of s.views ≡ parts = h.all in
      omega (arith, all, same, p, h.few)

  word_at : (r : Round P) (s : State (Held P) (View P)) (base : ℕ) (es : List Entry) (ls : List P) (i : ℕ) (o : maybe.Option ℕ) → Stands touch value made r s base es ls i o → get_elem? s.words i ≡ maybe.some (slice_index s.words i)
  word_at r s base es ls i maybe.none st = st.0 ∙ ap maybe.some (sym (index_at s.words i _ st.0))
  word_at r s base es ls i (maybe.some b) st = st.0 ∙ ap maybe.some (sym (index_at s.words i _ st.0))

  pub inside : {slots i : ℕ} (s : State (Held P) (View P)) (h : IsKept touch value made parts s) → length s.homes ≡ slots → i < slots → i < length h.round.opens
  inside s h len lt = omega (arith, len, lt, h.homes)

  -- what a seat knows to be made is
  pub still_made : (s : State (Held P) (View P)) (h : IsKept touch value made parts s) (id : ℕ) (v : View P) → get_elem? s.views id ≡ maybe.some v → 0 < v.parts → (i : ℕ) (now : Held P) → IsAt touch value made h.round (h.history i) (h.lefts i) i now → IsMadeAt made v i → made now.place
  still_made s h id v at part i now f known =
      let mine : v.round ≡ h.round = h.knows id v at part in
      ⊎_elim (λ a. let same : a.0 ≡ f.0 = maybe.some-injective a.0 f.0 (sym a.1 ∙ ap (λ (r : Round P). get_elem? r.opens i) mine ∙ f.1) in
      f.2.stays (subst (λ (k : Held P). made k.place) same a.2))
      (λ x. let has : Contains (h.lefts x.0.place) x.0.left = All-contains (IsAmong h.lefts) v.entries x.0 (h.left id v at) x.1 in
      All-contains (λ (p : P). made p → made now.place) (h.lefts i) x.0.left f.3 (subst (λ (k : ℕ). Contains (h.lefts k) x.0.left) x.2 has) x.3)
      known

  module _ (slots id i old : ℕ) (me : Mine P) where
    abbrev pub Took : State (Held P) (View P) → ℕ → Type 0
    Took s m =
        (w : View P) × (a : Act (Held P)) × Valid s.homes me.1 a × IsKept touch value made parts (stepped s i m id me.1 w a)
        × Takes made (step slots i old (old + 1) maybe.none) me (slice_index s.words i) (w, carried_after me.1 a)

    pub taken : (s : State (Held P) (View P)) (h : IsKept touch value made parts s) → me.0.turn ≡ None → 0 < me.0.parts → old % 2 ≡ 0 → get_elem? s.views id ≡ maybe.some me.0 → slice_index s.words i ≡ old → (o : maybe.Option ℕ) → h.who i ≡ o → Stands touch value made h.round s (h.base i) (h.history i) (h.lefts i) i o → Took s (old + 1)
    taken s h free part even at is (maybe.some b) who st =
        let odd : slice_index s.words i ≡ 2 * (h.base i + length (h.history i)) + 1 = index_at s.words i _ st.0 in
        let n : ℕ = h.base i + length (h.history i) in
        let odd' : old ≡ 2 * n + 1 = sym is ∙ odd in
        absurd (omega (arith, odd', even))
    taken s h free part even at is maybe.none who st =
        let r = h.round in
        let es : List Entry = h.history i in
        let ls : List P = h.lefts i in
        let now : Held P = st.1.0 in
        let t : Turn P = record { place = i; index = h.base i + length es; held = now } in
        let v : View P = me.0 in
        let w : View P = with_turn v t in
        let word : slice_index s.words i ≡ 2 * (h.base i + length es) = index_at s.words i _ st.0 in
        let twice : old + 1 ≡ 2 * (h.base i + length (es ++ [])) + 1 = rw (append-nil es) (omega (arith, word, is)) in
        let here : get_elem? (set s.views id w) id ≡ maybe.some w = there s.views id v w at in
        let set_word : get_elem? (set s.words i (old + 1)) i ≡ maybe.some (old + 1) = there s.words i _ (old + 1) st.0 in
        let leads = st.1.2.2 in
        let mine : v.round ≡ r = h.knows id v at part in
        let found : IsAt touch value made r (es ++ []) (ls ++ []) i now = rw (append-nil es, append-nil ls) st.1.2 in (
          w,
          takes i now,
          st.1.1,
          moved touch value made parts s h i (old + 1) maybe.none id v w [] [] (maybe.some id) at here
              (λ u turn. absurd (cc))
              (λ b own. absurd (maybe.some-ne-none b (sym own ∙ who)))
              (set_word ∙ ap maybe.some twice, (w, t, here, refl, refl)) (
                part,
                put_here i (maybe.some id) h.who,
                ap (λ (l : List Entry). h.base i + length l) (sym (append-nil es) ∙ sym (put_here i (es ++ []) h.history)),
                subst (λ (l : List P). IsAt touch value made r (put i (es ++ []) h.history i) l i now) (sym (put_here i (ls ++ []) h.lefts))
                    (subst (λ (l : List Entry). IsAt touch value made r l (ls ++ []) i now) (sym (put_here i (es ++ []) h.history)) found),
              )
              refl
              refl
              (h.room id v at)
              (among_more i h.lefts [] v.entries (h.left id v at))
              (λ j. none_more (i == j) (entries_at j v.entries)),
          subst (λ (b : Bool). MatchBool b (IsTaken made i (slice_index s.words i) me (w, (i, now) ∷ me.1)) ((w, (i, now) ∷ me.1) ≡ me)) (sym (eq-eqb (slice_index s.words i) old is))
              record {
                turn = t;
                view = refl;
                slot = refl;
                place = refl;
                word = word;
                low = (let l = leads.last.low in let f = few_acts s h i in rw (ap (λ (q : Round P). q.number) mine) (omega (arith, l, f)));
                first = st.1.2.0;
                opened = rw mine st.1.2.1;
                id = leads.id;
                stays = still_made s h id v at part i now st.1.2;
              },
        )

    lost : (s : State (Held P) (View P)) (h : IsKept touch value made parts s) → i < length h.round.opens → get_elem? s.views id ≡ maybe.some me.0 → slice_index s.words i ≢ old → Took s (slice_index s.words i)
    lost s h lt at ne =
        let n : ℕ = slice_index s.words i in
        let words : set s.words i n ≡ s.words = set_again s.words i n (word_at h.round s (h.base i) (h.history i) (h.lefts i) i (h.who i) (h.places i lt)) in
        let views : set s.views id me.0 ≡ s.views = set_again s.views id me.0 at in
        let mid : IsKept touch value made parts (record { words = set s.words i n; homes = s.homes; views = s.views }) = subst (λ (ws : List ℕ). IsKept touch value made parts (record { words = ws; homes = s.homes; views = s.views })) (sym words) h in (
          me.0,
          keeps,
          tt,
          subst (λ (vs : List (View P)). IsKept touch value made parts (record { words = set s.words i n; homes = s.homes; views = vs })) (sym views) mid,
          subst (λ (b : Bool). MatchBool b (IsTaken made i n me me) (me ≡ me)) (sym (ne_eqb n old ne)) refl,
        )

    pub takes_turn : me.0.turn ≡ None → 0 < me.0.parts → i < slots → old % 2 ≡ 0 → Allows (IsKept touch value made parts) slots id me i (λ n. either (n == old) (old + 1) n) (Takes made (step slots i old (old + 1) maybe.none) me)
    takes_turn free part lt even s h len at bound =
        exchanged (slice_index s.words i) old (old + 1) (Took s)
        (λ is. taken s h free part even at is (h.who i) refl (h.places i (inside s h len lt)))
        (λ ne. lost s h (inside s h len lt) at ne)

  module _ (slots id i new : ℕ) (v : View P) (t : Turn P) (y : Held P) (e : Entry) (clock : ℕ) where
    pub gives_turn : v.turn ≡ Some t → t.place ≡ i → IsActed touch value made v.round.number e t.held y → e.stamp ≡ 1 + max clock e.before → clock < 2 ^ 63 → 0 < v.parts → length v.entries < 2 ^ 32 * v.parts → i < slots → new ≡ 2 * t.index + 2 → Allows (IsKept touch value made parts) slots id (v, (i, y) ∷ []) i (λ _. new) (λ _. Releases (step slots i new 0 maybe.none) (v, (i, y) ∷ []) new)
    gives_turn turn place acted stamp small part room lt is s h len at bound =
        let r = h.round in
        let f : Fits touch value made r h.base h.history h.lefts h.who id v (Some t) = subst (λ (m : Option (Turn P)). Fits touch value made r h.base h.history h.lefts h.who id v m) turn (h.turns id v at) in
        let es : List Entry = h.history i in
        let owned : h.who i ≡ maybe.some id = subst (λ (k : ℕ). h.who k ≡ maybe.some id) place f.1 in
        let count : t.index ≡ h.base i + length es = subst (λ (k : ℕ). t.index ≡ h.base k + length (h.history k)) place f.2 in
        let ls : List P = h.lefts i in
        let found : IsAt touch value made r es ls i t.held = subst (λ (k : ℕ). IsAt touch value made r (h.history k) (h.lefts k) k t.held) place f.3 in
        let w : View P = wrote v i e y.place in
        let sure : All (λ (p : P). made p → made y.place) (ls ++ y.place ∷ []) = All-push (λ (p : P). made p → made y.place) ls y.place
        (All-weaker (λ (p : P). made p → made t.held.place) (λ (p : P). made p → made y.place) (λ p k m. acted.stays (k m)) ls found.3) (λ m. m) in
        let last : Contains (put i (ls ++ y.place ∷ []) h.lefts i) y.place = subst (λ (l : List P). Contains l y.place) (sym (put_here i (ls ++ y.place ∷ []) h.lefts)) (Contains-push ls y.place) in
        let mine : v.round ≡ r = h.knows id v at part in
        let did : IsActed touch value made r.number e t.held y = rw (← mine) acted in
        let more : length (es ++ e ∷ []) ≡ length es + 1 = length-append es (e ∷ []) in
        let word : new ≡ 2 * (h.base i + length (es ++ e ∷ [])) = omega (arith, more, is, count) in (
          w,
          gives,
          tt,
          moved touch value made parts s h i new (maybe.some y) id v w (e ∷ []) (y.place ∷ []) maybe.none at (there s.views id v w at)
              (λ u turn'. ap (λ (r : Turn P). r.place) (Some_same u t (sym turn' ∙ turn)) ∙ place)
              (λ b own. maybe.some-injective b id (sym own ∙ owned)) (
                set_here s.words i new (let j = inside s h len lt in omega (arith, j, h.words)) ∙ ap maybe.some word,
                (y, set_here s.homes i (maybe.some y) (let j = inside s h len lt in omega (arith, j, h.homes)), (found.0, found.1, leads_more touch value made r.number found.0 t.held y es e clock found.2 did stamp small, sure)),
              )
              tt
              refl
              refl
              (omega (arith, room, length-append v.entries (noted i e y.place ∷ [])))
              (All-push (IsAmong (put i (ls ++ y.place ∷ []) h.lefts)) v.entries (noted i e y.place) (among_more i h.lefts (y.place ∷ []) v.entries (h.left id v at)) last)
              (λ j. at_more j v.entries i e y.place),
          ap (λ (d : Entry). (wrote v i d y.place, [])) (sym acted.noted),
        )
