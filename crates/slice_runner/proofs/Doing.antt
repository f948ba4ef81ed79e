-- Devices that work one after another.
use Rattle.std.proofs.Common.{◌≡◌, ℕ, zero, suc, ◌<◌, refl, sym, ap, ◌∙◌, subst, arith}
use Rattle.std.proofs.Common.{All, List, [], ◌∷◌, ◌++◌, length, take, drop, set, get_or}
use Rattle.std.specs.List.{AllByRecursion}
use Rattle.std.proofs.lemmas.List.Elements.{recursion_from_All}
use Rattle.vm_types.specs.declared.op.OutOp.{OutOp}
use Rattle.vm_types.specs.declared.reply.Reply.{Reply}
use Rattle.pause_gate.specs.Tally.{Tally}
use Rattle.slice_runner.specs.declared.places.Places.{Places}
use Rattle.slice_runner.specs.declared.worker.DeviceWorker.{DeviceWorker}
use Rattle.slice_runner.specs.Ends.{DeviceEnds, DevicesWorked}

-- ---- one item of a list changed

take_more : {A : Type 0} (xs : List A) (i : ℕ) (d : A) → i < length xs → take (suc i) xs ≡ take i xs ++ get_or xs i d ∷ []
take_more [] i d lt = absurd (omega (arith, lt))
take_more (x ∷ xs) zero d lt = refl
take_more (x ∷ xs) (suc i) d lt = ap (λ l. x ∷ l) (take_more xs i d (omega (arith, lt)))

take_set : {A : Type 0} (xs : List A) (i : ℕ) (x : A) → i < length xs → take (suc i) (set xs i x) ≡ take i xs ++ x ∷ []
take_set [] i x lt = absurd (omega (arith, lt))
take_set (y ∷ xs) zero x lt = refl
take_set (y ∷ xs) (suc i) x lt = ap (λ l. y ∷ l) (take_set xs i x (omega (arith, lt)))

drop_set : {A : Type 0} (xs : List A) (i : ℕ) (x : A) → drop (suc i) (set xs i x) ≡ drop (suc i) xs
drop_set [] i x = refl
drop_set (y ∷ xs) zero x = refl
drop_set (y ∷ xs) (suc i) x = drop_set xs i x

drop_next : {A : Type 0} (xs : List A) (i : ℕ) → drop (suc i) xs ≡ drop 1 (drop i xs)
drop_next [] zero = refl
drop_next [] (suc i) = refl
drop_next (x ∷ xs) zero = refl
drop_next (x ∷ xs) (suc i) = drop_next xs i

get_drop : {A : Type 0} (xs : List A) (i : ℕ) (d : A) → get_or xs i d ≡ get_or (drop i xs) 0 d
get_drop [] zero d = refl
get_drop [] (suc i) d = refl
get_drop (x ∷ xs) zero d = refl
get_drop (x ∷ xs) (suc i) d = get_drop xs i d

pub take_all : {A : Type 0} (xs : List A) (i : ℕ) → length xs ≡ i → take i xs ≡ xs
take_all [] zero is = refl
take_all [] (suc i) is = refl
take_all (x ∷ xs) zero is = absurd (omega (arith, is))
take_all (x ∷ xs) (suc i) is = ap (λ l. x ∷ l) (take_all xs i (omega (arith, is)))

at_by : {A : Type 0} (P : A → Type 0) (xs : List A) (i : ℕ) (d : A) → i < length xs → AllByRecursion P xs → P (get_or xs i d)
at_by P [] i d lt h = absurd (omega (arith, lt))
at_by P (x ∷ xs) zero d lt h = h.0
at_by P (x ∷ xs) (suc i) d lt h = at_by P xs i d (omega (arith, lt)) h.1

pub all_at : {A : Type 0} (P : A → Type 0) (xs : List A) (i : ℕ) (d : A) → i < length xs → All P xs → P (get_or xs i d)
all_at P xs i d lt h = at_by P xs i d lt (recursion_from_All P xs h)

module _ {Q K : Type 0} (serves : Q → Type 0) (tally : Q → Tally) (Answers : ℕ → OutOp → Reply → K → K → Type 0) (places : Places) (n : ℕ) where
  one_more : (known mid left : K) (xs ys : List (DeviceWorker Q)) (w v : DeviceWorker Q)
      → DevicesWorked serves tally Answers places n known mid xs ys → DeviceEnds serves tally Answers places n mid left w v
      → DevicesWorked serves tally Answers places n known left (xs ++ w ∷ []) (ys ++ v ∷ [])
  one_more known mid left [] [] w v worked ends =
      (left, subst (λ (k : K). DeviceEnds serves tally Answers places n k left w v) worked ends, refl)
  one_more known mid left [] (y ∷ ys) w v worked ends = absurd worked
  one_more known mid left (x ∷ xs) [] w v worked ends = absurd worked
  one_more known mid left (x ∷ xs) (y ∷ ys) w v worked ends =
      (worked.0, worked.1, one_more worked.0 mid left xs ys w v worked.2 ends)

  -- the device at i worked, and those behind it have not
  pub record HaveWorked (known left : K) (i : ℕ) (old now : List (DeviceWorker Q)) : Type 0 where
    pub long : length now ≡ length old
    pub done : DevicesWorked serves tally Answers places n known left (take i old) (take i now)
    pub rest : drop i now ≡ drop i old

  pub none_yet : (known : K) (old : List (DeviceWorker Q)) → HaveWorked known known 0 old old
  none_yet known old = record { long = refl; done = refl; rest = refl }

  pub as_before : (known left : K) (i : ℕ) (old now : List (DeviceWorker Q)) (d : DeviceWorker Q) → HaveWorked known left i old now
      → get_or now i d ≡ get_or old i d
  as_before known left i old now d h = get_drop now i d ∙ ap (λ l. get_or l 0 d) h.rest ∙ sym (get_drop old i d)

  pub worked_more : (known mid left : K) (i : ℕ) (old now next : List (DeviceWorker Q)) (v d : DeviceWorker Q) → i < length old
      → HaveWorked known mid i old now → DeviceEnds serves tally Answers places n mid left (get_or now i d) v → next ≡ set now i v
      → length next ≡ length now → HaveWorked known left (suc i) old next
  worked_more known mid left i old now next v d lt h ends is same =
      let long : i < length now = omega (arith, lt, h.long) in
      record {
        long = same ∙ h.long;
        done =
            subst (λ l. DevicesWorked serves tally Answers places n known left (take (suc i) old) l) (sym (ap (take (suc i)) is ∙ take_set now i v long))
            (subst (λ l. DevicesWorked serves tally Answers places n known left l (take i now ++ v ∷ [])) (sym (take_more old i d lt))
            (one_more known mid left (take i old) (take i now) (get_or old i d) v h.done
            (subst (λ (w : DeviceWorker Q). DeviceEnds serves tally Answers places n mid left w v) (as_before known mid i old now d h) ends)));
        rest = ap (drop (suc i)) is ∙ drop_set now i v ∙ drop_next now i ∙ ap (drop 1) h.rest ∙ sym (drop_next old i);
      }

  pub all_worked : (known left : K) (i : ℕ) (old now : List (DeviceWorker Q)) → HaveWorked known left i old now → length old ≡ i
      → DevicesWorked serves tally Answers places n known left old now
  all_worked known left i old now h is =
      subst (λ l. DevicesWorked serves tally Answers places n known left l now) (take_all old i is)
      (subst (λ l. DevicesWorked serves tally Answers places n known left (take i old) l) (take_all now i (h.long ∙ is)) h.done)
