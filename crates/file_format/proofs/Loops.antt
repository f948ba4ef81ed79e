-- What the loops over a list keep.
use Rattle.std.proofs.Common.{◌≡◌, ℕ, suc, ◌+◌, ◌-◌, ◌<◌, ◌≤◌, List, [], ◌∷◌, ◌++◌, length, take, drop, set, get_or}
use Rattle.std.proofs.Common.{Option, None, Some, refl, sym, ap, subst, ◌∙◌, append_assoc, arith}
use Rattle.std.specs.List.{AllByRecursion}
use Rattle.std.specs.Option.{option_and_then}
use Rattle.std.proofs.lemmas.List.{take_more, drop_more, take_more_set, length-set, append-nil}
use Rattle.std.proofs.lemmas.Grind.{common_steps}
use Rattle.file_format.specs.Format.{Format}
use Rattle.file_format.specs.Readers.{put_all, times_at}

all_taken : {A : Type 0} (vs : List A) (i : ℕ) → length vs ≤ i → take i vs ≡ vs
all_taken vs i le = grind (arith, common_steps)

none_left : {A : Type 0} (vs : List A) (i : ℕ) → length vs ≤ i → drop i vs ≡ []
none_left vs i le = grind (arith, common_steps)

-- ---- writing

-- the first values fit, and with the others all are put
pub record Writing {A : Type 0} (item : Format A) (vs : List A) (i : ℕ) (old now : List ℕ) : Type 0 where
  pub fit : AllByRecursion item.Fits (take i vs)
  pub whole : put_all item.puts (drop i vs) now ≡ put_all item.puts vs old

all_push : {A : Type 0} (P : A → Type 0) (vs : List A) (v : A) → AllByRecursion P vs → P v
    → AllByRecursion P (vs ++ v ∷ [])
all_push P [] v all here = (here, tt)
all_push P (w ∷ vs) v all here = (all.0, all_push P vs v all.1 here)

pub Writing-none : {A : Type 0} (item : Format A) (vs : List A) (old : List ℕ) → Writing item vs 0 old old
Writing-none item vs old = record { fit = tt; whole = refl }

pub Writing-more : {A : Type 0} (item : Format A) (vs : List A) (i : ℕ) (v : A) (old now next : List ℕ)
    → Writing item vs i old now → i < length vs → v ≡ get_or vs i v → item.Fits v → next ≡ item.puts v now
    → Writing item vs (i + 1) old next
Writing-more {A} item vs i v old now next so_far lt is fits put =
    let front : take (i + 1) vs ≡ take i vs ++ v ∷ [] = take_more vs i v lt
    ∙ ap (λ (x : A). take i vs ++ x ∷ []) (sym is) in
    let left : drop i vs ≡ v ∷ drop (i + 1) vs = drop_more vs i v lt ∙ ap (λ (x : A). x ∷ drop (i + 1) vs) (sym is) in
    record {
      fit = subst (AllByRecursion item.Fits) (sym front) (all_push item.Fits (take i vs) v so_far.fit fits);
      whole = ap (put_all item.puts (drop (i + 1) vs)) put ∙ ap (λ (xs : List A). put_all item.puts xs now) (sym left)
          ∙ so_far.whole;
    }

pub Writing-all : {A : Type 0} (item : Format A) (vs : List A) (i : ℕ) (old now : List ℕ) → Writing item vs i old now
    → length vs ≤ i → AllByRecursion item.Fits vs × (now ≡ put_all item.puts vs old)
Writing-all {A} item vs i old now so_far le = (
  subst (AllByRecursion item.Fits) (all_taken vs i le) so_far.fit,
  ap (λ (xs : List A). put_all item.puts xs now) (sym (none_left vs i le)) ∙ so_far.whole,
)

pub ruleset writings = (Writing-none, Writing-more, Writing-all)

-- ---- reading

-- what was read before, and what is still read
abbrev pub after : {A : Type 0} → List A → Option (List A × List ℕ) → Option (List A × List ℕ)
after front read = option_and_then (λ x. Some (front ++ x.0, x.1)) read

regroup : {A : Type 0} (front : List A) (v : A) (read : Option (List A × List ℕ))
    → after front (option_and_then (λ (y : List A × List ℕ). Some (v ∷ y.0, y.1)) read) ≡ after (front ++ v ∷ []) read
regroup {A} front v None = refl
regroup {A} front v (Some x) = ap (λ (vs : List A). Some (vs, x.1)) (sym (append_assoc front (v ∷ []) x.0))

-- with so many values still to read, all of them are those so far and these
pub record Reading {A : Type 0} (item : Format A) (count i : ℕ) (front : List A) (old now : List ℕ) : Type 0 where
  pub whole : after front (times_at item.reads (count - i) now) ≡ times_at item.reads count old

front_none : {A : Type 0} (read : Option (List A × List ℕ)) → after [] read ≡ read
front_none None = refl
front_none (Some x) = refl

pub Reading-none : {A : Type 0} (item : Format A) (count : ℕ) (old : List ℕ) → Reading item count 0 [] old old
Reading-none item count old = record {
  whole = front_none (times_at item.reads (count - 0) old)
      ∙ ap (λ n. times_at item.reads n old) (omega arith);
}

pub Reading-more : {A : Type 0} (item : Format A) (count i : ℕ) (front : List A) (v : A) (old now next : List ℕ)
    → Reading item count i front old now → i < count → item.reads now ≡ Some (v, next)
    → Reading item count (i + 1) (front ++ v ∷ []) old next
Reading-more {A} item count i front v old now next so_far lt read =
    let k : count - i ≡ suc (count - (i + 1)) = omega arith in
    let one : after front (times_at item.reads (count - i) now) ≡ after (front ++ v ∷ [])
    (times_at item.reads (count - (i + 1)) next) =
    rw (k, read) (regroup front v (times_at item.reads (count - (i + 1)) next)) in
    record { whole = sym one ∙ so_far.whole }

pub Reading-stuck : {A : Type 0} (item : Format A) (count i : ℕ) (front : List A) (old now : List ℕ)
    → Reading item count i front old now → i < count → item.reads now ≡ None → times_at item.reads count old ≡ None
Reading-stuck {A} item count i front old now so_far lt read =
    let k : count - i ≡ suc (count - (i + 1)) = omega arith in
    let one : after front (times_at item.reads (count - i) now) ≡ None = rw (k, read) refl in
    sym so_far.whole ∙ one

pub Reading-all : {A : Type 0} (item : Format A) (count i : ℕ) (front : List A) (old now : List ℕ)
    → Reading item count i front old now → count ≤ i → times_at item.reads count old ≡ Some (front, now)
Reading-all {A} item count i front old now so_far le =
    let k : count - i ≡ 0 = omega arith in
    let one : after front (times_at item.reads (count - i) now) ≡ Some (front, now) =
    rw k (ap (λ (vs : List A). Some (vs, now)) (append-nil front)) in
    sym so_far.whole ∙ one

pub ruleset readings = (Reading-none, Reading-more, Reading-stuck, Reading-all)

-- ---- reading into an array

pub record Filling {A : Type 0} (item : Format A) (count i : ℕ) (vs : List A) (old now : List ℕ) : Type 0 where
  pub reading : Reading item count i (take i vs) old now
  pub len : length vs ≡ count

pub Filling-none : {A : Type 0} (item : Format A) (count : ℕ) (vs : List A) (old : List ℕ) → length vs ≡ count
    → Filling item count 0 vs old old
Filling-none item count vs old len = record { reading = Reading-none item count old; len = len }

pub Filling-more : {A : Type 0} (item : Format A) (count i : ℕ) (vs : List A) (v : A) (old now next : List ℕ)
    → Filling item count i vs old now → i < count → item.reads now ≡ Some (v, next)
    → Filling item count (i + 1) (set vs i v) old next
Filling-more {A} item count i vs v old now next so_far lt read =
    record {
      reading = subst (λ (front : List A). Reading item count (i + 1) front old next)
          (sym (take_more_set vs i v (omega (arith, so_far.len))))
          (Reading-more item count i (take i vs) v old now next so_far.reading lt read);
      len = length-set vs i v ∙ so_far.len;
    }

pub Filling-stuck : {A : Type 0} (item : Format A) (count i : ℕ) (vs : List A) (old now : List ℕ)
    → Filling item count i vs old now → i < count → item.reads now ≡ None → times_at item.reads count old ≡ None
Filling-stuck item count i vs old now so_far lt read =
    Reading-stuck item count i (take i vs) old now so_far.reading lt read

pub Filling-all : {A : Type 0} (item : Format A) (count i : ℕ) (vs : List A) (old now : List ℕ)
    → Filling item count i vs old now → count ≤ i → times_at item.reads count old ≡ Some (vs, now)
Filling-all {A} item count i vs old now so_far le =
    Reading-all item count i (take i vs) old now so_far.reading le
    ∙ ap (λ (x : List A). Some (x, now)) (all_taken vs i (omega (arith, so_far.len)))

pub ruleset fillings = (Filling-none, Filling-more, Filling-stuck, Filling-all)
