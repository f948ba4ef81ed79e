-- What the seat with all parts is told gives each place a history that has just the journals' entries of it.
use Rattle.std.proofs.Common.{◌≡◌, ℕ, suc, ◌<◌, ◌≤◌, ◌==◌, ne_eqb, Bool, true, false, not, cond, List, [], ◌∷◌, map, length, refl, sym, ap, ◌∙◌, subst, arith}
use Rattle.std.specs.List.{AllByRecursion}
use Rattle.std.specs.List.Sorted.{IsPermutation}
use Rattle.std.proofs.lemmas.List.Sorted.{IsPermutation-sym, IsPermutation-trans}
use native.Mathlib.Decide.{dec_le}
use Rattle.vm_types.specs.declared.ids.ActorId.{ActorId}
use Rattle.vm_types.specs.declared.ids.PlaceId.{PlaceId}
use Rattle.vm_types.specs.declared.ids.PlaceId.TheVariants.{Page, Port, Board, Out}
use Rattle.vm_types.specs.declared.op.Op.{Op}
use Rattle.vm_types.specs.declared.reply.Reply.{Reply}
use Rattle.vm_types.specs.declared.entry.Entry.{Entry}
use Rattle.vm_types.specs.Ids.{is_out, same_place, at_place}
use Rattle.vm_types.specs.Histories.{Replays, Rises}
use Rattle.vm_types.specs.Serial.{OutFits}
use Rattle.stamp_merge.specs.Journals.{all_of}
use Rattle.stamp_merge.specs.Legal.{AreFollowed, Legal}
use Rattle.stamp_merge.specs.Order.{Climbs, IsOrder}
use Rattle.stamp_merge.specs.Stamps.{AreRising, AreStamped, StampsRun}
use Rattle.stamp_merge.proofs.Legal.{to_history}
use Rattle.stamp_merge.proofs.Stamps.{stamps_run}
use Rattle.turn_table.specs.declared.held.Held.{Held}
use Rattle.turn_table.specs.declared.view.View.{View}
use Rattle.turn_table.specs.declared.view.Noted.{Noted}
use Rattle.turn_table.specs.Views.{entries_at}
use Rattle.turn_table.specs.Steps.{Told}
use Rattle.turn_law.specs.Rounds.{AreIndexed, AreNoted, AreValues, IsIndex, entry_of, placed}
use Rattle.turn_law.proofs.Filtered.{picked_permutation}

climbs : (last : ℕ) (es : List Entry) → Rises last es → Climbs last es
climbs last [] h = tt
climbs last (e ∷ es) h = (h.1, climbs e.stamp es h.2)

out_else : (q p : PlaceId) → is_out q ≡ true → is_out p ≡ false → same_place q p ≡ false
out_else (Page i) p a b = absurd (cc)
out_else (Port i) p a b = absurd (cc)
out_else Board p a b = absurd (cc)
out_else Out (Page i) a b = refl
out_else Out (Port i) a b = refl
out_else Out Board a b = refl
out_else Out Out a b = absurd (cc)

placed_by : (p : PlaceId) (e : Entry) (rest more : List Entry) → is_out p ≡ false → at_place p rest ≡ at_place p more → (t : Bool) → is_out e.place ≡ t → at_place p (cond (not t) (e ∷ rest) rest) ≡ cond (same_place e.place p) (e ∷ at_place p more) (at_place p more)
placed_by p e rest more inner same true is =
    same ∙ sym (ap (λ (b : Bool). let r : List Entry = cond b (e ∷ at_place p more) (at_place p more) in r) (out_else e.place p is inner))
placed_by p e rest more inner same false is =
    ap (λ (l : List Entry). let r : List Entry = cond (same_place e.place p) (e ∷ l) l in r) same

-- an entry with no place is of no place
at_placed : (p : PlaceId) (es : List Entry) → is_out p ≡ false → at_place p (placed es) ≡ at_place p es
at_placed p [] inner = refl
at_placed p (e ∷ es) inner = placed_by p e (placed es) es inner (at_placed p es inner) (is_out e.place) refl

at_index : {P : Type 0} (index : PlaceId → ℕ) (n : ℕ) (p : PlaceId) (xs : List (Noted P)) → IsIndex index n → AreIndexed index xs → AllByRecursion (λ (x : Noted P). x.place < n) xs → entries_at (index p) xs ≡ at_place p (map entry_of xs)
at_index index n p [] is h below = refl
at_index index n p (x ∷ xs) is h below =
    let test : (x.place == index p) ≡ same_place x.entry.place p = ap (λ (k : ℕ). k == index p) h.0 ∙ is x.entry.place p (subst (λ (k : ℕ). k < n) h.0 below.0) in
    let rest : entries_at (index p) xs ≡ at_place p (map entry_of xs) = at_index index n p xs is h.1 below.1 in
    ap (λ (b : Bool). let r : List Entry = cond b (x.entry ∷ entries_at (index p) xs) (entries_at (index p) xs) in r) test
    ∙ ap (λ (l : List Entry). let r : List Entry = cond (same_place x.entry.place p) (x.entry ∷ l) l in r) rest

none_past : {P : Type 0} (n i : ℕ) (xs : List (Noted P)) → n ≤ i → AllByRecursion (λ (x : Noted P). x.place < n) xs → entries_at i xs ≡ []
none_past n i [] past h = refl
none_past n i (x ∷ xs) past h =
    let below : x.place < n = h.0 in
    ap (λ (b : Bool). let r : List Entry = cond b (x.entry ∷ entries_at i xs) (entries_at i xs) in r) (ne_eqb x.place i (λ e. absurd (omega (arith, below, past, e))))
    ∙ none_past n i xs past h.1

-- these are just the journals' entries of the place, and their stamps rise
record IsPart (journals : List (ActorId × List Entry)) (p : PlaceId) (es : List Entry) : Type 0 where
  pub rises : Rises 0 es
  pub parts : IsPermutation (at_place p (all_of journals)) es

module _ {P V : Type 0} (touch : V → ActorId → Op → Reply × V) (value : P → V) (made : P → Type 0) (index : PlaceId → ℕ) (journals : List (ActorId × List Entry)) (v : View P) (now : List (Held P)) (is : IsIndex index (length v.round.opens)) (noted : AreNoted index journals v) (told : Told touch value made v now) where
  entries : (p : PlaceId) → is_out p ≡ false → IsPermutation (at_place p (all_of journals)) (entries_at (index p) v.entries)
  entries p inner =
      let mine : List Entry = at_place p (map entry_of v.entries) in
      let all : List Entry = at_place p (all_of journals) in
      let same : IsPermutation mine (at_place p (placed (all_of journals))) = picked_permutation (λ (e : Entry). same_place e.place p) (map entry_of v.entries) (placed (all_of journals)) noted.same in
      let back : IsPermutation all mine = IsPermutation-sym mine all (subst (λ (l : List Entry). IsPermutation mine l) (at_placed p (all_of journals) inner) same) in
      subst (λ (l : List Entry). IsPermutation all l) (sym (at_index index (length v.round.opens) p v.entries is noted.indexed noted.inside)) back

  abbrev pick : (p : PlaceId) → Dec (suc (index p) ≤ length v.round.opens) → List Entry
  pick p (yes lt) = (told (index p) lt).2
  pick p (no past) = []

  abbrev pub history : PlaceId → List Entry
  history p = pick p (dec_le (suc (index p)) (length v.round.opens))

  good : (p : PlaceId) → is_out p ≡ false → (d : Dec (suc (index p) ≤ length v.round.opens)) → IsPart journals p (pick p d)
  good p inner (yes lt) =
      let t = told (index p) lt in record {
        rises = t.6.history.rises;
        parts = IsPermutation-trans (at_place p (all_of journals)) (entries_at (index p) v.entries) t.2 (entries p inner) t.5;
      }
  good p inner (no past) = record {
    rises = tt;
    parts = subst (λ (l : List Entry). IsPermutation (at_place p (all_of journals)) l) (none_past (length v.round.opens) (index p) v.entries (omega (arith, past)) noted.inside) (entries p inner);
  }

  of_place : (p : PlaceId) → is_out p ≡ false → IsPart journals p (history p)
  of_place p inner = good p inner (dec_le (suc (index p)) (length v.round.opens))

  pub rising : AreRising history
  rising = record { rise = λ p inner. (of_place p inner).rises }

  pub stamped : (es : List Entry) → AreStamped journals → IsOrder (all_of journals) es → StampsRun (λ actor. 0) (λ place. 0) es
  stamped es stamps order =
      stamps_run journals history es stamps rising order
      (to_history journals history es (λ p inner. (of_place p inner).parts) (λ p inner. climbs 0 (history p) (of_place p inner).rises) order)

  module _ {S : Type 0} (want : S → Op) (next : S → Reply → S) (route : Op → PlaceId) (opening ends : PlaceId → V) (start lasts : ActorId → S) (followed : AreFollowed want next route OutFits start lasts journals) (values : AreValues value index v.round.opens now opening ends) where
    replays : (p : PlaceId) (d : Dec (suc (index p) ≤ length v.round.opens)) → Replays touch (opening p) (pick p d) (ends p)
    replays p (yes lt) =
        let t = told (index p) lt in
        let first : value t.0.place ≡ opening p = sym (values.first p t.0 t.3) in
        let last : value t.1.place ≡ ends p = sym (values.last p t.1 t.4) in
        subst (λ (w : V). Replays touch w t.2 (ends p)) first (subst (λ (w : V). Replays touch (value t.0.place) t.2 w) last t.6.history.replays)
    replays p (no past) = values.none p (omega (arith, past))

    pub legal : Legal touch want next route OutFits opening ends start lasts journals history
    legal = record {
      followed = followed;
      replayed = record { replay = λ p inner. replays p (dec_le (suc (index p)) (length v.round.opens)) };
      rise = λ p inner. climbs 0 (history p) (of_place p inner).rises;
      parts = λ p inner. (of_place p inner).parts;
    }
