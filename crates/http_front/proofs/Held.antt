-- The connection of the bytes that are held.
use Rattle.std.proofs.Common.{◌≡◌, ℕ, ◌+◌, ◌-◌, ◌≤◌, Bool, true, false, List, [], ◌++◌, length, take, drop, length-drop, refl, sym, ap, subst, ◌∙◌, arith}
use Rattle.std.proofs.lemmas.List.{take_all, take-append-le, drop-drop}
use Rattle.httparse.specs.declared.spans.HeaderSpan.{HeaderSpan}
use Rattle.refusals.specs.declared.refusal.Refusal.{Refusal}
use Rattle.http_stream.specs.declared.request.Next.{Next}
use Rattle.http_stream.specs.declared.request.Next.TheVariants as next
use Rattle.http_stream.specs.Stream.{Connection, Judged, refused}
use Rattle.http_stream.specs.Conversation.{IsQuiet, Takes}
use Rattle.http_front.specs.declared.found.Finding.{Finding}
use Rattle.http_front.specs.declared.found.Finding.TheVariants.{TooFew, Whole, Bad}
use Rattle.http_front.specs.declared.found.Place.{Place}
use Rattle.http_front.specs.Told.{LiesAt, Holds, Tells, live, request_at, size}
use Rattle.http_front.proofs.Taking.{quiet_of, takes_bad, takes_whole, one_left, not_quiet}

-- the bytes from taken on, as a slice
abbrev pub tail : List ℕ → ℕ → List ℕ
tail t taken = take (length t - taken) (drop taken t)

tail_is : (b t : List ℕ) (taken : ℕ) → t ≡ b → tail t taken ≡ drop taken b
tail_is b t taken e =
    take_all (length t - taken) (drop taken t) (rw (length-drop taken t) (omega arith)) ∙ ap (drop taken) e

pub live_at : (c : Connection) (b : List ℕ) (taken : ℕ) (f : Bool) → record { pending = drop taken b; failed = f } ≡ c → f ≡ false
    → live (drop taken b) ≡ c
live_at c b taken f view lives = ap (λ (g : Bool). record { pending = drop taken b; failed = g }) (sym lives) ∙ view

pub live_is : (c : Connection) (b t : List ℕ) (taken : ℕ) (f : Bool) → record { pending = drop taken b; failed = f } ≡ c → f ≡ false → t ≡ b
    → live (tail t taken) ≡ c
live_is c b t taken f view lives e = ap live (tail_is b t taken e) ∙ live_at c b taken f view lives

-- ---- what is known stays so

pub told_holds : (s : List ℕ) (spans : List HeaderSpan) (f : Finding) → Tells s spans f → Holds s spans f
told_holds s spans (TooFew n) told = told.1
told_holds s spans (Whole p) told = told
told_holds s spans (Bad why) told = told

-- the parser's room once it was written
written : (new old : List HeaderSpan) (len : ℕ) → length new ≡ len → take len (new ++ drop (length new) old) ≡ new
written new old len e =
    take-append-le len new (drop (length new) old) (omega arith) ∙ take_all len new (omega arith)

pub known_after : (b t : List ℕ) (taken : ℕ) (old lent new : List HeaderSpan) (len : ℕ) (f : Finding) → t ≡ b → taken ≤ length b
    → length old ≡ 2731 → length new ≡ length lent → lent ≡ old → length lent ≡ len → Tells (tail t taken) new f
    → (taken ≤ length b) × (length (take len (new ++ drop (length new) old)) ≡ 2731)
    × Tells (drop taken b) (take len (new ++ drop (length new) old)) f
known_after b t taken old lent new len f e within room same is long told =
    let w : take len (new ++ drop (length new) old) ≡ new = written new old len (same ∙ long) in
    let here : Tells (drop taken b) new f = subst (λ (s : List ℕ). Tells s new f) (tail_is b t taken e) told in
    (within, rw w (same ∙ (ap length is ∙ room)), subst (λ (x : List HeaderSpan). Tells (drop taken b) x f) (sym w) here)

-- the same where all bytes that are held aren't answered
pub known_now : (b t : List ℕ) (old lent new : List HeaderSpan) (len : ℕ) (f : Finding) → t ≡ b → length old ≡ 2731
    → length new ≡ length lent → lent ≡ old → length lent ≡ len → Tells t new f
    → (0 ≤ length b) × (length (take len (new ++ drop (length new) old)) ≡ 2731)
    × Tells (drop 0 b) (take len (new ++ drop (length new) old)) f
known_now b t old lent new len f e room same is long told =
    known_after b t 0 old lent new len f e (omega arith) room same is long
    (subst (λ (s : List ℕ). Tells s new f) (sym (take_all (length t - 0) t (omega arith))) told)

-- a request that lies in the bytes ends in them
pub size_fits : (b : List ℕ) (taken : ℕ) (spans : List HeaderSpan) (p : Place) → taken ≤ length b → LiesAt (drop taken b) spans p
    → taken + (p.head.len + p.body) ≤ length b
size_fits b taken spans p within lies =
    let fits : p.head.len + p.body ≤ length (drop taken b) = lies.fits in
    let left : length (drop taken b) ≡ length b - taken = length-drop taken b in omega (arith, within, fits, left)

-- ---- what a skip leaves

pub few_taken : (c : Connection) (s : List ℕ) (spans : List HeaderSpan) (n : ℕ) (g : Next) (d : Connection) → live s ≡ c
    → Tells s spans (TooFew n) → Takes c g d → ⊥
few_taken c s spans n g d is told takes = not_quiet c g d takes (subst IsQuiet is (quiet_of s spans n told))

takes_there : (c : Connection) (s : List ℕ) (spans : List HeaderSpan) (p : Place) → live s ≡ c → LiesAt s spans p
    → Takes c (next.Request (request_at s spans p)) (live (drop (size p) s))
takes_there c s spans p is lies =
    subst (λ (x : Connection). Takes x (next.Request (request_at s spans p)) (live (drop (size p) s))) is
    (takes_whole s spans p (request_at s spans p) lies refl)

pub whole_taken : (c : Connection) (b : List ℕ) (taken : ℕ) (f : Bool) (spans : List HeaderSpan) (p : Place) (g : Next) (d : Connection)
    → live (drop taken b) ≡ c → f ≡ false → LiesAt (drop taken b) spans p → Takes c g d
    → record { pending = drop (taken + (p.head.len + p.body)) b; failed = f } ≡ d
whole_taken c b taken f spans p g d is lives lies takes =
    let left : live (drop (size p) (drop taken b)) ≡ d = one_left c _ g _ d (takes_there c (drop taken b) spans p is lies) takes in
    let here : drop (taken + (p.head.len + p.body)) b ≡ drop (size p) (drop taken b) = sym (drop-drop (size p) taken b) in
    rw (here, lives) left

pub whole_not_quiet : (c : Connection) (s : List ℕ) (spans : List HeaderSpan) (p : Place) → live s ≡ c → LiesAt s spans p → IsQuiet c → ⊥
whole_not_quiet c s spans p is lies quiet = not_quiet c _ _ (takes_there c s spans p is lies) quiet

takes_refused : (c : Connection) (s : List ℕ) (why : Refusal) → live s ≡ c → Judged s (refused why)
    → Takes c (next.Bad why) (refused why).after
takes_refused c s why is bad = subst (λ (x : Connection). Takes x (next.Bad why) (refused why).after) is (takes_bad s why bad)

pub bad_taken : (c : Connection) (s r : List ℕ) (why : Refusal) (g : Next) (d : Connection) → live s ≡ c → Judged s (refused why) → r ≡ []
    → Takes c g d → record { pending = r; failed = true } ≡ d
bad_taken c s r why g d is bad none takes = rw none (one_left c _ g _ d (takes_refused c s why is bad) takes)

pub bad_not_quiet : (c : Connection) (s : List ℕ) (why : Refusal) → live s ≡ c → Judged s (refused why) → IsQuiet c → ⊥
bad_not_quiet c s why is bad quiet = not_quiet c _ _ (takes_refused c s why is bad) quiet
