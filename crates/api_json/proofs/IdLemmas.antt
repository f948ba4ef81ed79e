-- Lists of texts in a body.
use Rattle.std.proofs.Common.{◌≡◌, ℕ, Bool, true, false, ◌&&◌, List, [], ◌∷◌, length, map, Option, Some, None, refl, ap, sym, ◌∙◌}
use Rattle.std.specs.Prelude.{is_some, nat_le, nat_lt, unwrap_or}
use Rattle.std.specs.List.{list_all}
use Rattle.std.proofs.lemmas.List.{length-map}
use Rattle.serde_json.specs.Find.{as_str}
use Rattle.serde_json.specs.View.{items_view, view}
use Rattle.serde_json.specs.declared.value.Value.{Value}
use Rattle.api_calls.specs.Form.{are_ids, holds, is_id, most_ids, text_onto, texts_of}

-- ---- whether they are texts

onto_some : (t : Option (List ℕ)) (ts : Option (List (List ℕ))) → (is_some t && is_some ts) ≡ is_some (text_onto t ts)
onto_some None None = refl
onto_some None (Some ts) = refl
onto_some (Some t) None = refl
onto_some (Some t) (Some ts) = refl

pub all_texts : (vs : List Value) → list_all (λ v. is_some (as_str (view v))) vs ≡ is_some (texts_of (items_view vs))
all_texts [] = refl
all_texts (v ∷ vs) = ap (λ b. is_some (as_str (view v)) && b) (all_texts vs) ∙ onto_some (as_str (view v)) (texts_of (items_view vs))

-- ---- which they are

onto_map : (t : Option (List ℕ)) (o : Option (List (List ℕ))) (ts : List (List ℕ)) → is_some (text_onto t o) ≡ true
    → (is_some o ≡ true → o ≡ Some ts) → text_onto t o ≡ Some (unwrap_or t [] ∷ ts)
onto_map None None ts is same = absurd cc
onto_map None (Some us) ts is same = absurd cc
onto_map (Some t) None ts is same = absurd cc
onto_map (Some t) (Some us) ts is same = let e : Some us ≡ Some ts = same refl in let k : us ≡ ts = cc in rw k refl

pub texts_map : (vs : List Value) → is_some (texts_of (items_view vs)) ≡ true
    → texts_of (items_view vs) ≡ Some (map (λ v. unwrap_or (as_str (view v)) []) vs)
texts_map [] is = refl
texts_map (v ∷ vs) is =
    onto_map (as_str (view v)) (texts_of (items_view vs)) (map (λ v. unwrap_or (as_str (view v)) []) vs) is (texts_map vs)

-- ---- whether they are ids

held_onto : (t : Option (List ℕ)) (o : Option (List (List ℕ))) (b : Bool) → (is_some o ≡ true → b ≡ holds (list_all is_id) o)
    → is_some (text_onto t o) ≡ true → (holds is_id t && b) ≡ holds (list_all is_id) (text_onto t o)
held_onto None None b same is = absurd cc
held_onto None (Some ts) b same is = absurd cc
held_onto (Some t) None b same is = absurd cc
held_onto (Some t) (Some ts) b same is = ap (λ c. is_id t && c) (same refl)

held_all : (vs : List Value) → is_some (texts_of (items_view vs)) ≡ true
    → list_all (λ v. holds is_id (as_str (view v))) vs ≡ holds (list_all is_id) (texts_of (items_view vs))
held_all [] is = refl
held_all (v ∷ vs) is =
    held_onto (as_str (view v)) (texts_of (items_view vs)) (list_all (λ v. holds is_id (as_str (view v))) vs) (held_all vs) is

abbrev is_long : ℕ → Bool
is_long n = nat_lt 0 n && nat_le n most_ids

abbrev are_some : Option (List (List ℕ)) → Bool
are_some o = holds (λ ts. is_long (length ts)) o

long_all : (vs : List Value) → is_some (texts_of (items_view vs)) ≡ true → is_long (length vs) ≡ are_some (texts_of (items_view vs))
long_all vs is =
    ap is_long (sym (length-map vs (λ (v : Value). unwrap_or (as_str (view v)) []))) ∙ sym (ap are_some (texts_map vs is))

both_held : (o : Option (List (List ℕ))) → (are_some o && holds (list_all is_id) o) ≡ holds are_ids o
both_held None = refl
both_held (Some ts) = refl

pub ids_all : (vs : List Value) → is_some (texts_of (items_view vs)) ≡ true
    → (nat_lt 0 (length vs) && nat_le (length vs) most_ids && list_all (λ v. holds is_id (as_str (view v))) vs)
    ≡ holds are_ids (texts_of (items_view vs))
ids_all vs is =
    ap (λ b. b && list_all (λ v. holds is_id (as_str (view v))) vs) (long_all vs is)
    ∙ ap (λ b. are_some (texts_of (items_view vs)) && b) (held_all vs is)
    ∙ both_held (texts_of (items_view vs))

-- what are no texts has none that isn't an id
pub none_held : (o : Option (List (List ℕ))) → is_some o ≡ false → holds are_ids o ≡ true
none_held None not = refl
none_held (Some ts) not = absurd cc
