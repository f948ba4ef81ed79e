-- One after another, from one list to another.
use Rattle.std.proofs.Common.{◌≡◌, ℕ, suc, ◌+◌, refl, sym, ap, ◌∙◌, subst, arith, List, [], ◌∷◌, ◌++◌, length, length-append, map, All}
use Rattle.std.specs.List.{AllByRecursion}
use Rattle.std.proofs.lemmas.List.Elements.{All-append, All-from_recursion, recursion_from_All}
use Rattle.slice_runner.specs.declared.worker.DeviceWorker.{DeviceWorker}
use Rattle.slice_runner.specs.declared.worker.Track.{Track}
use Rattle.slice_runner.specs.Runs.{Begins}
use Rattle.slice_runner.specs.Staff.{AreDevices, AreNumbered}
use Rattle.slice_runner.specs.Stops.{actor_of}

-- one more in the first list is one less in the second
one_over : {A B : Type 0} (f : A → B) (xs : List A) (x : A) (ys : List B) → map f (xs ++ x ∷ []) ++ ys ≡ map f xs ++ f x ∷ ys
one_over f [] x ys = refl
one_over f (z ∷ xs) x ys = ap (λ l. f z ∷ l) (one_over f xs x ys)

pub moved : {A B : Type 0} (f : A → B) (xs now : List A) (x : A) (ys rest all : List B) → now ≡ xs ++ x ∷ [] → ys ≡ f x ∷ rest
    → map f xs ++ ys ≡ all → map f now ++ rest ≡ all
moved f xs now x ys rest all is head so_far =
    ap (λ l. map f l ++ rest) is ∙ one_over f xs x rest ∙ ap (λ l. map f xs ++ l) (sym head) ∙ so_far

one_under : {B : Type 0} (xs : List B) (x : B) (ys : List B) → (xs ++ x ∷ []) ++ ys ≡ xs ++ x ∷ ys
one_under [] x ys = refl
one_under (z ∷ xs) x ys = ap (λ l. z ∷ l) (one_under xs x ys)

pub poured : {A B : Type 0} (f : A → B) (xs now : List B) (ys rest : List A) (y : A) (all : List B) → now ≡ xs ++ f y ∷ []
    → ys ≡ y ∷ rest → xs ++ map f ys ≡ all → now ++ map f rest ≡ all
poured f xs now ys rest y all is head so_far =
    ap (λ l. l ++ map f rest) is ∙ one_under xs (f y) (map f rest) ∙ ap (λ l. xs ++ map f l) (sym head) ∙ so_far

-- within a list that goes on behind
pub poured_in : {A : Type 0} (xs now ys rest : List A) (y : A) → now ≡ xs ++ y ∷ [] → ys ≡ y ∷ rest → now ++ rest ≡ xs ++ ys
poured_in xs now ys rest y is head = ap (λ l. l ++ rest) is ∙ one_under xs y rest ∙ ap (λ l. xs ++ l) (sym head)

pub all_over : {A : Type 0} (xs : List A) → xs ++ [] ≡ xs
all_over [] = refl
all_over (x ∷ xs) = ap (λ l. x ∷ l) (all_over xs)

numbered_by : {Q : Type 0} (harts k : ℕ) (ts : List (Track Q)) (t : Track Q) → AreNumbered harts k ts
    → t.work.actor ≡ actor_of harts (k + length ts) → AreNumbered harts k (ts ++ t ∷ [])
numbered_by harts k [] t so_far is = let e : k + 0 ≡ k = omega arith in (is ∙ ap (actor_of harts) e, tt)
numbered_by harts k (u ∷ ts) t so_far is =
    let e : k + length (u ∷ ts) ≡ suc k + length ts = omega arith in
    (so_far.0, numbered_by harts (suc k) ts t so_far.1 (is ∙ ap (actor_of harts) e))

pub numbered_more : {Q : Type 0} (harts : ℕ) (ts now : List (Track Q)) (t : Track Q) (n : ℕ) → AreNumbered harts 0 ts → n ≡ length ts
    → t.work.actor ≡ actor_of harts n → now ≡ ts ++ t ∷ [] → AreNumbered harts 0 now
numbered_more harts ts now t n so_far long is items =
    let e : n ≡ 0 + length ts = omega (arith, long) in
    subst (λ l. AreNumbered harts 0 l) (sym items) (numbered_by harts 0 ts t so_far (is ∙ ap (actor_of harts) e))

devices_by : {Q : Type 0} (k : ℕ) (ds : List (DeviceWorker Q)) (d : DeviceWorker Q) → AreDevices k ds
    → d.number ≡ k + length ds → AreDevices k (ds ++ d ∷ [])
devices_by k [] d so_far is = let e : k + 0 ≡ k = omega arith in (is ∙ e, tt)
devices_by k (x ∷ ds) d so_far is =
    let e : k + length (x ∷ ds) ≡ suc k + length ds = omega arith in (so_far.0, devices_by (suc k) ds d so_far.1 (is ∙ e))

pub devices_more : {Q : Type 0} (ds now : List (DeviceWorker Q)) (d : DeviceWorker Q) → AreDevices 0 ds → d.number ≡ length ds
    → now ≡ ds ++ d ∷ [] → AreDevices 0 now
devices_more ds now d so_far is items =
    let e : length ds ≡ 0 + length ds = omega arith in
    subst (λ l. AreDevices 0 l) (sym items) (devices_by 0 ds d so_far (is ∙ e))

pub begin_more : {Q : Type 0} (n blanks : ℕ) (ts now : List (Track Q)) (t : Track Q)
    → All (λ (u : Track Q). Begins n blanks u) ts → Begins n blanks t → now ≡ ts ++ t ∷ []
    → All (λ (u : Track Q). Begins n blanks u) now
begin_more {Q} n blanks ts now t so_far one items =
    let P : Track Q → Type 0 = λ v. Begins n blanks v in
    subst (All P) (sym items) (All-append P ts (t ∷ []) so_far (All-from_recursion P (t ∷ []) (one, tt)))

-- with as many blanks as its pool has
pub begins_with : {Q : Type 0} (n blanks : ℕ) (track : Track Q) (own : ℕ) → own ≡ blanks → Begins n own track → Begins n blanks track
begins_with n blanks track own is begins = subst (λ (k : ℕ). Begins n k track) is begins

-- those that it has
pub begins_own : {Q : Type 0} (n blanks : ℕ) (track : Track Q) → Begins n blanks track → Begins n (length track.pool.items) track
begins_own n blanks track begins = record { empty = begins.empty; clock = begins.clock; full = begins.full; room = begins.room; pool = refl }

-- one list behind another, and a third behind both
pub append_over : {A : Type 0} (xs ys zs : List A) → (xs ++ ys) ++ zs ≡ xs ++ (ys ++ zs)
append_over [] ys zs = refl
append_over (x ∷ xs) ys zs = ap (λ l. x ∷ l) (append_over xs ys zs)

pub none_left : {A : Type 0} (xs : List A) → length xs ≡ 0 → xs ≡ []
none_left [] is = refl
none_left (x ∷ xs) is = absurd (omega (arith, is))

-- the last of a list is taken
last_and_rest : {A : Type 0} (P : A → Type 0) (xs : List A) (x : A) → AllByRecursion P (xs ++ x ∷ []) → P x × AllByRecursion P xs
last_and_rest P [] x h = (h.0, tt)
last_and_rest P (y ∷ xs) x h = let rest = last_and_rest P xs x h.1 in (rest.0, (h.0, rest.1))

taken : {A : Type 0} (P : A → Type 0) (all xs : List A) (x : A) → all ≡ xs ++ x ∷ [] → All P all → P x × AllByRecursion P xs
taken P all xs x is h = last_and_rest P xs x (recursion_from_All P (xs ++ x ∷ []) (subst (All P) is h))

pub last_one : {A : Type 0} (P : A → Type 0) (all xs : List A) (x : A) → all ≡ xs ++ x ∷ [] → All P all → P x
last_one P all xs x is h = (taken P all xs x is h).0

pub all_but_last : {A : Type 0} (P : A → Type 0) (all xs : List A) (x : A) → all ≡ xs ++ x ∷ [] → All P all → All P xs
all_but_last P all xs x is h = All-from_recursion P xs (taken P all xs x is h).1

pub fewer_by_one : {A : Type 0} (all xs : List A) (x : A) → all ≡ xs ++ x ∷ [] → length all ≡ length xs + 1
fewer_by_one all xs x is = omega (arith, ap length is, length-append xs (x ∷ []))

-- the first of a list is taken
pub first_of : {A : Type 0} (P : A → Type 0) (all rest : List A) (x : A) → all ≡ x ∷ rest → All P all → P x × All P rest
first_of P all rest x is h =
    let r = recursion_from_All P (x ∷ rest) (subst (All P) is h) in (r.0, All-from_recursion P rest r.1)
