-- One call more: what files hold is one of the images that a crash may leave, where it was before.
use Rattle.std.proofs.Common.{◌≡◌, ◌≢◌, ◌<◌, ◌≤◌, ◌⊎◌, ℕ, zero, suc, ◌+◌, ◌-◌, ◌==◌, Bool, true, false, cond, List, [], ◌∷◌, ◌++◌, length, get_or, take, drop, replicate, Option, Some, None, is_some, inl, inr, refl, sym, ◌∙◌, ap, subst, arith}
use Rattle.std.proofs.lemmas.Bool.{cases_lt, false_from_ne_true}
use Rattle.std.proofs.lemmas.List.{get_or-append_right, get_or-drop, get_or-take, get_or_append_left, get_or_past, length-append, length-drop, length-replicate, length-take, length-take-le}
use Rattle.std.proofs.lemmas.Slice.Eq.{bytes_eq-Decides}
use Rattle.std.proofs.lemmas.Map.Text.{is_eq-slice_cmp}
use Rattle.std.specs.Ordering.{nat_cmp, eq_by_cmp}
use Rattle.std.specs.Cmp.Lexicographic.{slice_cmp, nat_list_cmp_total}
use Rattle.std.specs.FinMap.{get, insert, get-insert, get-empty}
use Rattle.std.specs.Option.{unwrap_or}
use Rattle.std.specs.Str.{bytes_eq}
use Rattle.vm_types.specs.Saved.{Saved, nothing_saved, overwritten, written}
use Rattle.vm_outside.specs.Calls.{FileCall}
use Rattle.vm_outside.specs.Calls.FileCall.{Making, Made, Writing, Synced}
use Rattle.vm_outside.specs.Crashes.{Disk, Images, IsBytes, Left, LeftBy, NoFile, Torn, TornFile}

-- ---- a file that is put

pub got : (m : Saved) (name text q : List ℕ) → get (insert m name text) q ≡ cond (eq_by_cmp (slice_cmp nat_cmp) q name) (Some text) (get m q)
got m name text q = get-insert nat_list_cmp_total m name text q

pub got_there : (m : Saved) (name text : List ℕ) → get (insert m name text) name ≡ Some text
got_there m name text =
    got m name text name ∙ ap (λ (b : Bool). cond b (Some text) (get m name)) (is_eq-slice_cmp name name ∙ (bytes_eq-Decides name name).1 refl)

pub got_other : (m : Saved) (name text other : List ℕ) → other ≢ name → get (insert m name text) other ≡ get m other
got_other m name text other differs =
    got m name text other
    ∙ ap (λ (b : Bool). cond b (Some text) (get m other)) (is_eq-slice_cmp other name ∙ false_from_ne_true (bytes_eq other name) (λ same. differs ((bytes_eq-Decides other name).0 same)))

-- ---- what are bytes

pub both_bytes : (front back : List ℕ) → IsBytes front → IsBytes back → IsBytes (front ++ back)
both_bytes front back first second i = elim (cases_lt i (length front)) [
  | inl lt ↦ subst (λ (b : ℕ). b < 256) (sym (get_or_append_left front back 0 i lt)) (first i)
  | inr le ↦ subst (λ (b : ℕ). b < 256) (sym (get_or-append_right front back (length front) i 0 refl le)) (second (i - length front))
]

front_bytes : (n : ℕ) (given : List ℕ) → IsBytes given → IsBytes (take n given)
front_bytes n given bytes i = elim (cases_lt i n) [
  | inl lt ↦ subst (λ (b : ℕ). b < 256) (sym (get_or-take n given i 0 lt)) (bytes i)
  | inr le ↦ subst (λ (b : ℕ). b < 256) (sym (get_or_past (take n given) i 0 (omega (arith, le, length-take n given)))) (omega arith)
]

rest_bytes : (n : ℕ) (given : List ℕ) → IsBytes given → IsBytes (drop n given)
rest_bytes n given bytes i = subst (λ (b : ℕ). b < 256) (sym (get_or-drop n given i 0)) (bytes (n + i))

zero_bytes : (n : ℕ) → IsBytes (replicate n 0)
zero_bytes zero i = omega arith
zero_bytes (suc n) zero = omega arith
zero_bytes (suc n) (suc i) = zero_bytes n i

over_bytes : (text bytes : List ℕ) (at : ℕ) → IsBytes bytes → IsBytes text → IsBytes (overwritten text at bytes)
over_bytes text bytes at first old =
    both_bytes (take at (text ++ replicate (at - length text) 0) ++ bytes) (drop (at + length bytes) text)
    (both_bytes (take at (text ++ replicate (at - length text) 0)) bytes
    (front_bytes at (text ++ replicate (at - length text) 0) (both_bytes text (replicate (at - length text) 0) old (zero_bytes (at - length text)))) first)
    (rest_bytes (at + length bytes) text old)

-- ---- a write is one that is torn

over : (text bytes : List ℕ) (at : ℕ) → Torn at bytes text (overwritten text at bytes)
over text bytes at =
    let zeros : List ℕ = replicate (at - length text) 0 in
    let nothing : ℕ = 0 in
    let padded = length-append text zeros in
    let many = length-replicate (at - length text) nothing in
    let front = length-take-le at (text ++ zeros) (omega (arith, padded, many)) in
    let first = length-append (take at (text ++ zeros)) bytes in
    let behind = length-drop (at + length bytes) text in
    let all = length-append (take at (text ++ zeros) ++ bytes) (drop (at + length bytes) text) in
    record {
      no_shorter = omega (arith, front, first, behind, all);
      no_longer = omega (arith, front, first, behind, all);
      stays = λ k lt outside. stays k lt outside;
      are_bytes = over_bytes text bytes at;
    }
  where
    stays : (k : ℕ) → k < length text → (k < at) ⊎ (at + length bytes ≤ k) → get_or (overwritten text at bytes) k 0 ≡ get_or text k 0
    stays k lt (inl before) =
        let zeros : List ℕ = replicate (at - length text) 0 in
        let nothing : ℕ = 0 in
        let padded = length-append text zeros in
        let many = length-replicate (at - length text) nothing in
        let front = length-take-le at (text ++ zeros) (omega (arith, padded, many)) in
        let first = length-append (take at (text ++ zeros)) bytes in
        get_or_append_left (take at (text ++ zeros) ++ bytes) (drop (at + length bytes) text) 0 k (omega (arith, before, front, first))
        ∙ get_or_append_left (take at (text ++ zeros)) bytes 0 k (omega (arith, before, front))
        ∙ get_or-take at (text ++ zeros) k 0 before
        ∙ get_or_append_left text zeros 0 k lt
    stays k lt (inr past) =
        let zeros : List ℕ = replicate (at - length text) 0 in
        let nothing : ℕ = 0 in
        let padded = length-append text zeros in
        let many = length-replicate (at - length text) nothing in
        let front = length-take-le at (text ++ zeros) (omega (arith, padded, many)) in
        let first = length-append (take at (text ++ zeros)) bytes in
        let place : at + length bytes + (k - (at + length bytes)) ≡ k = omega (arith, past) in
        get_or-append_right (take at (text ++ zeros) ++ bytes) (drop (at + length bytes) text) (at + length bytes) k 0 (omega (arith, front, first)) past
        ∙ get_or-drop (at + length bytes) text (k - (at + length bytes)) 0
        ∙ ap (λ (i : ℕ). get_or text i 0) place

none_over : (text bytes : List ℕ) (at : ℕ) → Torn at bytes text text
none_over text bytes at =
    record { no_shorter = omega arith; no_longer = omega arith; stays = λ k lt outside. refl; are_bytes = λ first old. old }

write_torn : (text bytes : List ℕ) (at : ℕ) (b : Bool) → Torn at bytes text (cond b text (overwritten text at bytes))
write_torn text bytes at true = none_over text bytes at
write_torn text bytes at false = over text bytes at

-- ---- calls in turn

pub left_both : (before : Disk → Type 0) (a b : List FileCall) (d : Disk) → Left (Left before a) b d → Left before (a ++ b) d
left_both before [] b d left = left
left_both before (c ∷ a) b d left = left_both (λ d. (old : Disk) × before old × LeftBy c old d) a b d left

abbrev pub disk_of : Saved → Disk
disk_of saved name = get saved name

some_torn : (at : ℕ) (bytes : List ℕ) (old new : Option (List ℕ)) (text after : List ℕ) → old ≡ Some text → new ≡ Some after → Torn at bytes text after → TornFile at bytes old new
some_torn at bytes old new text after was is torn =
    subst (λ (o : Option (List ℕ)). TornFile at bytes o new) (sym was) (subst (λ (o : Option (List ℕ)). TornFile at bytes (Some text) o) (sym is) torn)

pub none_image : Images [] (disk_of nothing_saved)
none_image name = get-empty (slice_cmp nat_cmp) name

pub made_image : (calls : List FileCall) (saved : Saved) (name : List ℕ) → Images calls (disk_of saved)
    → Images (calls ++ Making name ∷ Made name ∷ []) (disk_of (insert saved name []))
made_image calls saved name image =
    left_both NoFile calls (Making name ∷ Made name ∷ []) (disk_of (insert saved name [])) (
      disk_of saved,
      (disk_of saved, image, record { file = inl refl; others = λ other differs. refl }),
      record { file = got_there saved name []; others = λ other differs. got_other saved name [] other differs },
    )

some_is : (o : Option (List ℕ)) → is_some o ≡ true → o ≡ Some (unwrap_or o [])
some_is None is = absurd cc
some_is (Some text) is = refl

pub wrote_image : (calls : List FileCall) (saved : Saved) (name : List ℕ) (at : ℕ) (bytes : List ℕ) → is_some (get saved name) ≡ true → Images calls (disk_of saved)
    → Images (calls ++ Writing name at bytes ∷ []) (disk_of (insert saved name (written (unwrap_or (get saved name) []) at bytes)))
wrote_image calls saved name at bytes some image =
    let content : List ℕ = unwrap_or (get saved name) [] in
    left_both NoFile calls (Writing name at bytes ∷ []) (disk_of (insert saved name (written content at bytes))) (
      disk_of saved,
      image,
      record {
        file = some_torn at bytes (get saved name) (get (insert saved name (written content at bytes)) name) content (written content at bytes)
            (some_is (get saved name) some) (got_there saved name (written content at bytes)) (write_torn content bytes at (length bytes == 0));
        others = λ other differs. got_other saved name (written content at bytes) other differs;
      },
    )

pub synced_image : (calls : List FileCall) (saved : Saved) (name : List ℕ) → Images calls (disk_of saved)
    → Images (calls ++ Synced name (get saved name) ∷ []) (disk_of saved)
synced_image calls saved name image =
    left_both NoFile calls (Synced name (get saved name) ∷ []) (disk_of saved)
    (disk_of saved, image, record { file = refl; others = λ other differs. refl })
