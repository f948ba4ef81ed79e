-- What files hold after one file is put there.
use Rattle.std.proofs.Common.{◌≡◌, ◌≢◌, ℕ, Bool, true, false, cond, List, Option, Some, refl, sym, ◌∙◌, ap, subst}
use Rattle.std.proofs.lemmas.Slice.Eq.{bytes_eq-Decides}
use Rattle.std.specs.Ordering.{nat_cmp, eq_by_cmp}
use Rattle.std.specs.Cmp.Lexicographic.{slice_cmp, nat_list_cmp_total}
use Rattle.std.specs.FinMap.{get, insert, same_map, slice_cmp-IsAntisymmetric, nat_cmp-IsAntisymmetric}
use Rattle.std.proofs.lemmas.Map.Text.{is_eq-slice_cmp}
use Rattle.vm_types.specs.Saved.{Saved, SameOthers}
use Rattle.vm_outside.proofs.Imaging.{got}
pub use Rattle.vm_outside.proofs.Imaging.{got_other, got_there}

abbrev is_name : List ℕ → List ℕ → Bool
is_name a b = eq_by_cmp (slice_cmp nat_cmp) a b

name_is : (a b : List ℕ) → is_name a b ≡ true → a ≡ b
name_is a b is = (bytes_eq-Decides a b).0 (sym (is_eq-slice_cmp a b) ∙ is)

pub same_saved : (m n : Saved) → ((q : List ℕ) → get m q ≡ get n q) → m ≡ n
same_saved m n same = same_map nat_list_cmp_total (slice_cmp-IsAntisymmetric nat_cmp-IsAntisymmetric) m n same

-- what is there was put there, or was there
put_or_was : (P : List ℕ → Type 0) (b : Bool) (text content : List ℕ) (old : Option (List ℕ)) → P text
    → ((v : List ℕ) → old ≡ Some v → P v) → cond b (Some text) old ≡ Some content → P content
put_or_was P true text content old put was is =
    let same : text ≡ content = cc in
    subst P same put
put_or_was P false text content old put was is = was content is

pub each_after : (P : List ℕ → Type 0) (m : Saved) (name text q content : List ℕ) → P text
    → ((v : List ℕ) → get m q ≡ Some v → P v) → get (insert m name text) q ≡ Some content → P content
each_after P m name text q content put was is =
    put_or_was P (is_name q name) text content (get m q) put was (sym (got m name text q) ∙ is)

pub inserted_others : (old new : Saved) (name text : List ℕ) → new ≡ insert old name text → SameOthers old name new
inserted_others old new name text is other differs = ap (λ (m : Saved). get m other) is ∙ got_other old name text other differs

same_cond : {A : Type 0} (b : Bool) (x y z : A) → cond b x (cond b y z) ≡ cond b x z
same_cond true x y z = refl
same_cond false x y z = refl

pub insert_twice : (m : Saved) (name a b : List ℕ) → insert (insert m name a) name b ≡ insert m name b
insert_twice m name a b = same_saved _ _ (λ q.
    got (insert m name a) name b q
    ∙ ap (λ (o : Option (List ℕ)). cond (is_name q name) (Some b) o) (got m name a q)
    ∙ same_cond (is_name q name) (Some b) (Some a) (get m q)
    ∙ sym (got m name b q))

kept_by : (b : Bool) (o : Option (List ℕ)) (text : List ℕ) → (b ≡ true → o ≡ Some text) → cond b (Some text) o ≡ o
kept_by true o text is = sym (is refl)
kept_by false o text is = refl

-- a file that is put where it is
pub insert_same : (m : Saved) (name text : List ℕ) → get m name ≡ Some text → insert m name text ≡ m
insert_same m name text there = same_saved _ _ (λ q.
    got m name text q ∙ kept_by (is_name q name) (get m q) text (λ same. ap (λ (k : List ℕ). get m k) (name_is q name same) ∙ there))

swap_cond : {A : Type 0} (b c : Bool) (x y z : A) → (b ≡ true → c ≡ true → ⊥) → cond b x (cond c y z) ≡ cond c y (cond b x z)
swap_cond true true x y z never = absurd (never refl refl)
swap_cond true false x y z never = refl
swap_cond false true x y z never = refl
swap_cond false false x y z never = refl

-- two files of different names, in either order
pub insert_swap : (m : Saved) (a x b y : List ℕ) → a ≢ b → insert (insert m a x) b y ≡ insert (insert m b y) a x
insert_swap m a x b y differ = same_saved _ _ (λ q.
    got (insert m a x) b y q
    ∙ ap (λ (o : Option (List ℕ)). cond (is_name q b) (Some y) o) (got m a x q)
    ∙ swap_cond (is_name q b) (is_name q a) (Some y) (Some x) (get m q) (λ isb isa. differ (sym (name_is q a isa) ∙ name_is q b isb))
    ∙ ap (λ (o : Option (List ℕ)). cond (is_name q a) (Some x) o) (sym (got m b y q))
    ∙ sym (got (insert m b y) a x q))
