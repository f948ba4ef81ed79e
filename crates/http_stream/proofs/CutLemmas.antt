-- One reading, and any cutting.
use Rattle.std.proofs.Common.{◌≡◌, ℕ, ◌+◌, ◌<◌, ◌≤◌, ◌⊎◌, inl, inr, Bool, true, false, not, ◌&&◌, List, [], ◌∷◌, ◌++◌, length, take, drop, refl, sym, ap, subst, ◌∙◌, arith, Result, Ok, Err, append_assoc, length-append, length-drop, add_comm, add-one, length-take}
use Rattle.std.specs.Prelude.{◌==◌, nat_le}
use Rattle.std.specs.List.{list_any, prefix_len}
use Rattle.std.proofs.lemmas.List.{take_all, append-nil, take-append-le, drop-append-le, take-append-drop, take-take}
use Rattle.std.proofs.lemmas.List.Folds.{list_any-append}
use Rattle.std.proofs.lemmas.Bool.{cases_lt, lt-leb, le-leb}
use Rattle.std.proofs.lemmas.Bool.Decides.{nat_tests, leb_tells}
use Rattle.httparse.specs.Grammar.{RequestHead, print_request, ReadsRequest, HasNoRequest, NeverHasRequest}
use Rattle.httparse.proofs.GrammarLemmas.{request_unique, ReadsRequest-append}
use Rattle.refusals.specs.declared.refusal.Refusal.{Refusal}
use Rattle.refusals.specs.declared.refusal.Refusal.TheVariants as refusal
use Rattle.http_stream.specs.declared.request.Request.{Request}
use Rattle.http_stream.specs.declared.request.Next.{Next}
use Rattle.http_stream.specs.declared.request.Next.TheVariants as next
use Rattle.http_stream.specs.Body.{body_length}
use Rattle.http_stream.specs.Stream.{window, is_line_byte, is_early, has_line, headers_of, waits, gives, by_length, by_head, Judged, early, too_long, hopeless, unfinished, head, Answer, Connection}
use Rattle.http_stream.specs.Cuts.{Reads, OneReading, CutsAnywhere, FailsForGood}

-- ---- heads

pub window_is : (s : List ℕ) → length s ≤ 8192 → window s ≡ s
window_is s h = take_all 8192 s h

pub no_request : (s : List ℕ) → NeverHasRequest s → HasNoRequest s
no_request s never = subst HasNoRequest (append-nil s) (never [])

head_has_bytes : (h : RequestHead) → 0 < length (print_request h)
unfolding print_request
head_has_bytes h = simp (length-append) (omega arith)

-- ---- one answer

early_short : (s : List ℕ) → is_early s ≡ true → length s ≤ 8192
early_short s e = grind (arith, nat_tests)

-- a head cannot be there in any of the other cases
head_clash : (s : List ℕ) (h : RequestHead) (rest : List ℕ) → ReadsRequest (window s) h rest → length s ≤ 8192 → HasNoRequest s → ⊥
head_clash s h rest reads short none =
    let P : List ℕ → Type 0 = λ w. ReadsRequest w h rest in none h rest (subst P (window_is s short) reads)

pub judged_once : (s : List ℕ) (a b : Answer) → Judged s a → Judged s b → a ≡ b
judged_once s a b (early e p) (early f q) = p ∙ sym q
judged_once s a b (early e p) (too_long n l q) = absurd (let k : length s ≤ 8192 = early_short s e in omega arith)
judged_once s a b (early e p) (hopeless f l n q) = cc
judged_once s a b (early e p) (unfinished f l n m q) = cc
judged_once s a b (early e p) (head h r f x q) = cc
judged_once s a b (too_long n l p) (early e q) = absurd (let k : length s ≤ 8192 = early_short s e in omega arith)
judged_once s a b (too_long n l p) (too_long m k q) = p ∙ sym q
judged_once s a b (too_long n l p) (hopeless f k m q) = absurd (omega arith)
judged_once s a b (too_long n l p) (unfinished f k m c q) = absurd (omega arith)
judged_once s a b (too_long n l p) (head h r f x q) = absurd (n h r x)
judged_once s a b (hopeless e l n p) (early f q) = cc
judged_once s a b (hopeless e l n p) (too_long m k q) = absurd (omega arith)
judged_once s a b (hopeless e l n p) (hopeless f k m q) = p ∙ sym q
judged_once s a b (hopeless e l n p) (unfinished f k m c q) = absurd (n c.0 c.1 c.2 c.3)
judged_once s a b (hopeless e l n p) (head h r f x q) = absurd (head_clash s h r x l (no_request s n))
judged_once s a b (unfinished e l n c p) (early f q) = cc
judged_once s a b (unfinished e l n c p) (too_long m k q) = absurd (omega arith)
judged_once s a b (unfinished e l n c p) (hopeless f k m q) = absurd (m c.0 c.1 c.2 c.3)
judged_once s a b (unfinished e l n c p) (unfinished f k m d q) = p ∙ sym q
judged_once s a b (unfinished e l n c p) (head h r f x q) = absurd (head_clash s h r x l n)
judged_once s a b (head h r e x p) (early f q) = cc
judged_once s a b (head h r e x p) (too_long m k q) = absurd (m h r x)
judged_once s a b (head h r e x p) (hopeless f k m q) = absurd (head_clash s h r x k (no_request s m))
judged_once s a b (head h r e x p) (unfinished f k m d q) = absurd (head_clash s h r x k m)
judged_once s a b (head h r e x p) (head j t f y q) =
    p ∙ (ap (by_head s) ((request_unique (window s) h j r t x y).0) ∙ sym q)

-- ---- more bytes

line_more : (s more : List ℕ) → has_line s ≡ true → has_line (s ++ more) ≡ true
line_more [] more e = cc
line_more (b ∷ s) more e = elim (cases_byte b) [
  | inl t ↦ step_true b (s ++ more) t ∙ line_more s more (sym (step_true b s t) ∙ e)
  | inr f ↦ step_false b (s ++ more) f ∙ (list_any-append (λ x. x == 10) (b ∷ s) more ∙ rw (sym (step_false b s f) ∙ e) refl)
]
  where
    cases_byte : (b : ℕ) → (is_line_byte b ≡ true) ⊎ (is_line_byte b ≡ false)
    cases_byte b = elim (is_line_byte b) as (λ v. (v ≡ true) ⊎ (v ≡ false)) [ true ↦ inl refl | false ↦ inr refl ]

    step_true : (b : ℕ) (s : List ℕ) → is_line_byte b ≡ true → has_line (b ∷ s) ≡ has_line s
    step_true b s t = rw t (rw (add_comm 1 (prefix_len is_line_byte s), add-one) refl)

    step_false : (b : ℕ) (s : List ℕ) → is_line_byte b ≡ false → has_line (b ∷ s) ≡ list_any (λ x. x == 10) (b ∷ s)
    step_false b s t = rw t refl

late_more : (s more : List ℕ) → is_early s ≡ false → is_early (s ++ more) ≡ false
late_more s more e = elim (cases_lt 8192 (length s)) [
  | inl long ↦ rw (lt-leb (length (s ++ more)) 8192 (rw (length-append s more) (omega arith))) refl
  | inr short ↦ let l : has_line s ≡ true = grind (arith, nat_tests) in
      rw (line_more s more l) (and-false (nat_le (length (s ++ more)) 8192))
]
  where
    and-false : (b : Bool) → (b && not true) ≡ false
    and-false true = refl
    and-false false = refl

window_more : (s more : List ℕ) → (x : List ℕ) × (window (s ++ more) ≡ window s ++ x)
window_more s more = elim (cases_lt (length s) 8192) [
  | inl short ↦
      let w : List ℕ = window (s ++ more) in
      let e : take (length s) w ≡ window s =
      take-take (length s) 8192 (s ++ more) (omega arith) ∙ (take-append-le (length s) s more (omega arith)
      ∙ (take_all (length s) s (omega arith) ∙ sym (take_all 8192 s (omega arith)))) in
      (drop (length s) w, sym (take-append-drop (length s) w) ∙ ap (λ y. y ++ drop (length s) w) e)
  | inr long ↦ ([], take-append-le 8192 s more long ∙ sym (append-nil (window s)))
]

never_more : (s more : List ℕ) → NeverHasRequest s → NeverHasRequest (s ++ more)
never_more s more never x = subst HasNoRequest (sym (append_assoc s more x)) (never (more ++ x))

-- the head ends inside the stream
head_fits : (s : List ℕ) (h : RequestHead) (rest : List ℕ) → ReadsRequest (window s) h rest → length (print_request h) ≤ length s
head_fits s h rest reads =
    let a : length (window s) ≡ length (print_request h) + length rest = ap length reads.1 ∙ length-append (print_request h) rest in
    omega (arith, length-take 8192 s)

abbrev pub made : Next → Connection → Answer
made n c = record { next = n; after = c }

bad_not_none : (n : Refusal) (c d : Connection)
    → made (next.Bad n) c ≡ made next.None d → ⊥
bad_not_none n c d e = let q : next.Bad n ≡ next.None = ap (λ a. a.next) e in cc

bad_not_request : (n : Refusal) (r : Request) (c d : Connection)
    → made (next.Bad n) c ≡ made (next.Request r) d → ⊥
bad_not_request n r c d e = let q : next.Bad n ≡ next.Request r = ap (λ a. a.next) e in cc

request_not_none : (r : Request) (c d : Connection)
    → made (next.Request r) c ≡ made next.None d → ⊥
request_not_none r c d e = let q : next.Request r ≡ next.None = ap (λ a. a.next) e in cc

bad_by_length : (s t : List ℕ) (h : RequestHead) (x y : List ℕ) (n : Refusal) (c : Connection) (r : Result ℕ Refusal)
    → made (next.Bad n) c ≡ by_length s h x r → made (next.Bad n) c ≡ by_length t h y r
bad_by_length s t h x y n c (Err k) e = e
bad_by_length s t h x y n c (Ok k) e = elim (leb_tells k (length x)) [
  | inl (v, le) ↦ let q : made (next.Bad n) c ≡ gives h k x = e ∙ rw v refl in absurd (bad_not_request _ _ _ _ q)
  | inr (v, lt) ↦ let q : made (next.Bad n) c ≡ waits s = e ∙ rw v refl in absurd (bad_not_none _ _ _ q)
]

request_by_length : (s t : List ℕ) (h : RequestHead) (x more : List ℕ) (r : Request) (rest : List ℕ) (l : Result ℕ Refusal)
    → record { next = next.Request r; after = record { pending = rest; failed = false } } ≡ by_length s h x l
    → record { next = next.Request r; after = record { pending = rest ++ more; failed = false } } ≡ by_length t h (x ++ more) l
request_by_length s t h x more r rest (Err k) e = absurd (bad_not_request k r _ _ (sym e))
request_by_length s t h x more r rest (Ok k) e = elim (leb_tells k (length x)) [
  | inl (v, le) ↦
      let q : record { next = next.Request r; after = record { pending = rest; failed = false } } ≡ gives h k x = e ∙ rw v refl in
      let longer : k ≤ length (x ++ more) = rw (length-append x more) (omega arith) in
      rw (le-leb k (length (x ++ more)) longer, take-append-le k x more le, drop-append-le k x more le)
      (let one : next.Request r ≡ (gives h k x).next = ap (λ a. a.next) q in
      let two : rest ≡ drop k x = ap (λ a. a.after.pending) q in
      rw (one, two) refl)
  | inr (v, lt) ↦ let q : record { next = next.Request r; after = record { pending = rest; failed = false } } ≡ waits s = e ∙ rw v refl in absurd (request_not_none _ _ _ q)
]

drop_more : (s more : List ℕ) (h : RequestHead) (rest : List ℕ) → ReadsRequest (window s) h rest
    → drop (length (print_request h)) (s ++ more) ≡ drop (length (print_request h)) s ++ more
drop_more s more h rest reads = drop-append-le (length (print_request h)) s more (head_fits s h rest reads)

head_more : (s more : List ℕ) (h : RequestHead) (rest : List ℕ) (a : Answer) → is_early s ≡ false → ReadsRequest (window s) h rest
    → a ≡ by_length (s ++ more) h (drop (length (print_request h)) s ++ more) (body_length (headers_of h)) → Judged (s ++ more) a
head_more s more h rest a late reads e =
    let w = window_more s more in
    let P : List ℕ → Type 0 = λ y. ReadsRequest y h (rest ++ w.0) in
    head h (rest ++ w.0) (late_more s more late) (subst P (sym w.1) (ReadsRequest-append (window s) h rest w.0 reads))
    (e ∙ rw (drop_more s more h rest reads) refl)

pub head_stays : (s more : List ℕ) (h : RequestHead) (rest : List ℕ) (a : Answer) → is_early s ≡ false → ReadsRequest (window s) h rest
    → a ≡ by_head (s ++ more) h → Judged (s ++ more) a
head_stays s more h rest a late reads e =
    let w = window_more s more in
    let P : List ℕ → Type 0 = λ y. ReadsRequest y h (rest ++ w.0) in
    head h (rest ++ w.0) (late_more s more late) (subst P (sym w.1) (ReadsRequest-append (window s) h rest w.0 reads)) e

pub bad_stays : (s more : List ℕ) (n : Refusal) (c : Connection) → Judged s (made (next.Bad n) c)
    → Judged (s ++ more) (made (next.Bad n) c)
bad_stays s more n c (early e p) = absurd (bad_not_none _ _ _ p)
bad_stays s more n c (too_long none long p) =
    too_long (subst HasNoRequest (sym (take-append-le 8192 s more (omega arith))) none) (rw (length-append s more) (omega arith)) p
bad_stays s more n c (hopeless e short never p) = elim (cases_lt 8192 (length (s ++ more))) [
  | inl long ↦ let w = window_more s more in
      too_long (subst HasNoRequest (sym (w.1 ∙ ap (λ y. y ++ w.0) (window_is s short))) (no_request (s ++ w.0) (never_more s w.0 never))) long p
  | inr still ↦ hopeless (late_more s more e) still (never_more s more never) p
]
bad_stays s more n c (unfinished e l none can p) = absurd (bad_not_none _ _ _ p)
bad_stays s more n c (head h rest late reads p) =
    head_more s more h rest _ late reads (bad_by_length s (s ++ more) h _ _ n c (body_length (headers_of h)) p)

pub request_stays : (s more : List ℕ) (r : Request) (rest : List ℕ)
    → Judged s (record { next = next.Request r; after = record { pending = rest; failed = false } })
    → Judged (s ++ more) (record { next = next.Request r; after = record { pending = rest ++ more; failed = false } })
request_stays s more r rest (early e p) = absurd (request_not_none _ _ _ p)
request_stays s more r rest (too_long none long p) = absurd (bad_not_request refusal.BadHead r _ _ (sym p))
request_stays s more r rest (hopeless e short never p) = absurd (bad_not_request refusal.BadHead r _ _ (sym p))
request_stays s more r rest (unfinished e l none can p) = absurd (request_not_none _ _ _ p)
request_stays s more r rest (head h x late reads p) =
    head_more s more h x _ late reads (request_by_length s (s ++ more) h _ more r rest (body_length (headers_of h)) p)

-- ---- a request takes bytes

falls_by_length : (s : List ℕ) (h : RequestHead) (len : ℕ) (r : Request) (c : Connection) (l : Result ℕ Refusal) → 0 < len → len ≤ length s
    → made (next.Request r) c ≡ by_length s h (drop len s) l → length c.pending < length s
falls_by_length s h len r c (Err k) some fits e = absurd (bad_not_request k r _ _ (sym e))
falls_by_length s h len r c (Ok k) some fits e = elim (leb_tells k (length (drop len s))) [
  | inl (v, le) ↦ let q : made (next.Request r) c ≡ gives h k (drop len s) = e ∙ rw v refl in
      let p : c.pending ≡ drop k (drop len s) = ap (λ a. a.after.pending) q in
      rw (p, length-drop k (drop len s), length-drop len s) (omega arith)
  | inr (v, lt) ↦ let q : made (next.Request r) c ≡ waits s = e ∙ rw v refl in absurd (request_not_none _ _ _ q)
]

pub request_falls : (s : List ℕ) (r : Request) (c : Connection) → Judged s (made (next.Request r) c) → length c.pending < length s
request_falls s r c (early e p) = absurd (request_not_none _ _ _ p)
request_falls s r c (too_long none long p) = absurd (bad_not_request refusal.BadHead r _ _ (sym p))
request_falls s r c (hopeless e short never p) = absurd (bad_not_request refusal.BadHead r _ _ (sym p))
request_falls s r c (unfinished e l none can p) = absurd (request_not_none _ _ _ p)
request_falls s r c (head h rest late reads p) =
    falls_by_length s h (length (print_request h)) r c (body_length (headers_of h)) (head_has_bytes h) (head_fits s h rest reads) p

-- ---- whole streams

pub none_not_failed : (s : List ℕ) (c : Connection) → Judged s (made next.None c)
    → (c.pending ≡ s) × (c.failed ≡ false)
none_not_failed s c (early e p) = (ap (λ a. a.after.pending) p, ap (λ a. a.after.failed) p)
none_not_failed s c (too_long none long p) = absurd (bad_not_none _ _ _ (sym p))
none_not_failed s c (hopeless e short never p) = absurd (bad_not_none _ _ _ (sym p))
none_not_failed s c (unfinished e l none can p) = (ap (λ a. a.after.pending) p, ap (λ a. a.after.failed) p)
none_not_failed s c (head h rest late reads p) = by_cases (body_length (headers_of h)) p
  where
    by_cases : (r : Result ℕ Refusal) → made next.None c ≡ by_length s h (drop (length (print_request h)) s) r
        → (c.pending ≡ s) × (c.failed ≡ false)
    by_cases (Err n) e = absurd (bad_not_none _ _ _ (sym e))
    by_cases (Ok n) e = elim (leb_tells n (length (drop (length (print_request h)) s))) [
      | inl (v, le) ↦ let q : made next.None c ≡ gives h n (drop (length (print_request h)) s) = e ∙ rw v refl in
          absurd (request_not_none _ _ _ (sym q))
      | inr (v, lt) ↦ let q : made next.None c ≡ waits s = e ∙ rw v refl in
          (ap (λ a. a.after.pending) q, ap (λ a. a.after.failed) q)
    ]

pub bad_failed : (s : List ℕ) (n : Refusal) (c : Connection) → Judged s (made (next.Bad n) c) → c.failed ≡ true
bad_failed s n c (early e p) = absurd (bad_not_none _ _ _ p)
bad_failed s n c (too_long none long p) = ap (λ a. a.after.failed) p
bad_failed s n c (hopeless e short never p) = ap (λ a. a.after.failed) p
bad_failed s n c (unfinished e l none can p) = absurd (bad_not_none _ _ _ p)
bad_failed s n c (head h rest late reads p) = by_cases (body_length (headers_of h)) p
  where
    by_cases : (r : Result ℕ Refusal) → made (next.Bad n) c ≡ by_length s h (drop (length (print_request h)) s) r
        → c.failed ≡ true
    by_cases (Err n) e = ap (λ a. a.after.failed) e
    by_cases (Ok n) e = elim (leb_tells n (length (drop (length (print_request h)) s))) [
      | inl (v, le) ↦ let q : made (next.Bad _) c ≡ gives h n (drop (length (print_request h)) s) = e ∙ rw v refl in
          absurd (bad_not_request _ _ _ _ q)
      | inr (v, lt) ↦ let q : made (next.Bad _) c ≡ waits s = e ∙ rw v refl in absurd (bad_not_none _ _ _ q)
    ]

pub fails_for_good : FailsForGood
fails_for_good s more [] c (inl none) f = let q = none_not_failed s c none in absurd (let k : true ≡ false = sym f ∙ q.1 in cc)
fails_for_good s more [] c (inr (n, bad)) f = inr (n, bad_stays s more n c bad)
fails_for_good s more (r ∷ rs) c (rest, one, others) f =
    (rest ++ more, request_stays s more r rest one, fails_for_good rest more rs c others f)

pub cuts_anywhere : CutsAnywhere
cuts_anywhere s more [] qs c d (inl none) f after =
    let P : List ℕ → Type 0 = λ x. Reads (x ++ more) qs d in subst P ((none_not_failed s c none).0) after
cuts_anywhere s more [] qs c d (inr (n, bad)) f after = absurd (let k : true ≡ false = sym (bad_failed s n c bad) ∙ f in cc)
cuts_anywhere s more (r ∷ rs) qs c d (rest, one, others) f after =
    (rest ++ more, request_stays s more r rest one, cuts_anywhere rest more rs qs c d others f after)

same_request : (r q : Request) → next.Request r ≡ next.Request q → r ≡ q
same_request r q e = cc

pub one_reading : OneReading
one_reading s [] [] c d (inl x) (inl y) = (refl, ap (λ a. a.after) (judged_once s _ _ x y))
one_reading s [] [] c d (inl x) (inr (n, y)) = absurd (bad_not_none _ _ _ (judged_once s _ _ y x))
one_reading s [] [] c d (inr (n, x)) (inl y) = absurd (bad_not_none _ _ _ (judged_once s _ _ x y))
one_reading s [] [] c d (inr (n, x)) (inr (m, y)) = (refl, ap (λ a. a.after) (judged_once s _ _ x y))
one_reading s [] (q ∷ qs) c d (inl x) (rest, y, z) = absurd (request_not_none _ _ _ (judged_once s _ _ y x))
one_reading s [] (q ∷ qs) c d (inr (n, x)) (rest, y, z) = absurd (bad_not_request _ _ _ _ (judged_once s _ _ x y))
one_reading s (r ∷ rs) [] c d (rest, y, z) (inl x) = absurd (request_not_none _ _ _ (judged_once s _ _ y x))
one_reading s (r ∷ rs) [] c d (rest, y, z) (inr (n, x)) = absurd (bad_not_request _ _ _ _ (judged_once s _ _ x y))
one_reading s (r ∷ rs) (q ∷ qs) c d (rest, x, others) (more, y, rests) =
    let same : record { next = next.Request r; after = record { pending = rest; failed = false } }
    ≡ record { next = next.Request q; after = record { pending = more; failed = false } } = judged_once s _ _ x y in
    let one : next.Request r ≡ next.Request q = ap (λ a. a.next) same in
    let first : r ≡ q = same_request r q one in
    let left : rest ≡ more = ap (λ a. a.after.pending) same in
    let P : List ℕ → Type 0 = λ w. Reads w qs d in
    let later = one_reading rest rs qs c d others (subst P (sym left) rests) in
    (rw (first, later.0) refl, later.1)

-- ---- a request leaves the connection alive

pub request_lives : (s : List ℕ) (r : Request) (c : Connection) → Judged s (made (next.Request r) c) → c.failed ≡ false
request_lives s r c (early e p) = absurd (request_not_none _ _ _ p)
request_lives s r c (too_long none long p) = absurd (bad_not_request refusal.BadHead r _ _ (sym p))
request_lives s r c (hopeless e short never p) = absurd (bad_not_request refusal.BadHead r _ _ (sym p))
request_lives s r c (unfinished e l none can p) = absurd (request_not_none _ _ _ p)
request_lives s r c (head h rest late reads p) = by_cases (body_length (headers_of h)) p
  where
    by_cases : (l : Result ℕ Refusal) → made (next.Request r) c ≡ by_length s h (drop (length (print_request h)) s) l → c.failed ≡ false
    by_cases (Err n) e = absurd (bad_not_request n r _ _ (sym e))
    by_cases (Ok n) e = elim (leb_tells n (length (drop (length (print_request h)) s))) [
      | inl (v, le) ↦ let q : made (next.Request r) c ≡ gives h n (drop (length (print_request h)) s) = e ∙ rw v refl in
          ap (λ a. a.after.failed) q
      | inr (v, lt) ↦ let q : made (next.Request r) c ≡ waits s = e ∙ rw v refl in absurd (request_not_none _ _ _ q)
    ]
