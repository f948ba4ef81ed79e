-- A tree as a tree of numbers, one to one, so that what contracts see of a struct can be one.
use Rattle.std.specs.Prelude.{◌≡◌, ◌⊎◌, ℕ, ℤ, List, Float, refl}
use Rattle.std.proofs.Common.{ap, inl, inr}
use Rattle.std.specs.Coded.{Coded, code_by, coded_ℕ, coded_ℤ, coded_bool, coded_list, coded⊎}
use base.Stored.{Gv, gnil, gnum, gcons, coded_float}
use Rattle.serde_json.specs.Data.{Num, unsigned, negative, float, Data, null, boolean, number, string, array, object, Items, no_items, item, Members, no_members, member}

-- ---- numbers

abbrev part_of : Num → ℕ ⊎ (ℤ ⊎ Float)
part_of (unsigned n) = inl n
part_of (negative z) = inr (inl z)
part_of (float x) = inr (inr x)

abbrev of_part : ℕ ⊎ (ℤ ⊎ Float) → Num
of_part (inl n) = unsigned n
of_part (inr (inl z)) = negative z
of_part (inr (inr x)) = float x

pub of_part_of : (n : Num) → of_part (part_of n) ≡ n
of_part_of (unsigned n) = refl
of_part_of (negative z) = refl
of_part_of (float x) = refl

abbrev pub num_code : Coded Num
num_code = code_by (ℕ ⊎ (ℤ ⊎ Float)) (coded⊎ coded_ℕ (coded⊎ coded_ℤ coded_float)) part_of of_part of_part_of

-- ---- trees

abbrev text_code : Coded (List ℕ)
text_code = coded_list coded_ℕ

abbrev mutual
  code_of : Data → Gv
  code_of null = gnil
  code_of (boolean b) = gcons gnil (coded_bool.code b)
  code_of (number n) = gcons (gcons gnil gnil) (num_code.code n)
  code_of (string s) = gcons (gcons gnil (gcons gnil gnil)) (text_code.code s)
  code_of (array ds) = gcons (gcons gnil (gcons gnil (gcons gnil gnil))) (items_code ds)
  code_of (object ms) = gcons (gcons gnil (gcons gnil (gcons gnil (gcons gnil gnil)))) (members_code ms)

  items_code : Items → Gv
  items_code no_items = gnil
  items_code (item d ds) = gcons (code_of d) (items_code ds)

  members_code : Members → Gv
  members_code no_members = gnil
  members_code (member k d ms) = gcons (text_code.code k) (gcons (code_of d) (members_code ms))

abbrev first : Gv → Gv
first gnil = gnil
first (gnum n) = gnil
first (gcons a b) = a

abbrev second : Gv → Gv
second gnil = gnil
second (gnum n) = gnil
second (gcons a b) = b

mutual
  pub same_data : (x y : Data) → code_of x ≡ code_of y → x ≡ y
  same_data null null p = refl
  same_data (boolean b) (boolean c) p = ap boolean (coded_bool.inj b c (ap second p))
  same_data (number m) (number n) p = ap number (num_code.inj m n (ap second p))
  same_data (string s) (string t) p = ap string (text_code.inj s t (ap second p))
  same_data (array ds) (array es) p = ap array (same_items ds es (ap second p))
  same_data (object ms) (object ns) p = ap object (same_members ms ns (ap second p))
  same_data x y p = cc

  pub same_items : (x y : Items) → items_code x ≡ items_code y → x ≡ y
  same_items no_items no_items p = refl
  same_items (item d ds) (item e es) p = λ i. item (same_data d e (ap first p) i) (same_items ds es (ap second p) i)
  same_items x y p = cc

  pub same_members : (x y : Members) → members_code x ≡ members_code y → x ≡ y
  same_members no_members no_members p = refl
  same_members (member k d ms) (member l e ns) p =
      λ i. member (text_code.inj k l (ap first p) i) (same_data d e (ap (λ g. first (second g)) p) i) (same_members ms ns (ap (λ g. second (second g)) p) i)
  same_members x y p = cc

abbrev pub data_code : Coded Data
data_code = record { code = code_of; inj = same_data }
