-- What a stream gives whose head was found.
use Rattle.std.proofs.Common.{◌≡◌, ℕ, ◌+◌, ◌-◌, ◌<◌, ◌≤◌, false, List, ◌++◌, length, take, drop, map, length-drop, length-append, refl, ap, subst, ◌∙◌, arith, Result, Ok, Err}
use Rattle.std.proofs.lemmas.List.{drop-drop}
use Rattle.std.proofs.lemmas.Bool.{lt-leb, le-leb}
use Rattle.httparse.specs.declared.spans.HeaderSpan.{HeaderSpan}
use Rattle.httparse.specs.declared.spans.RequestSpans.{RequestSpans}
use Rattle.httparse.specs.Grammar.{RequestHead, print_request, ReadsRequest}
use Rattle.httparse.specs.Spans.{IsRequestWithin, IsRequestOf, header_bytes}
use Rattle.refusals.specs.declared.refusal.Refusal.{Refusal}
use Rattle.http_stream.specs.declared.request.Next.TheVariants as next
use Rattle.http_stream.specs.Body.{Header, body_length}
use Rattle.http_stream.specs.Stream.{window, is_early, headers_of, waits, refused, by_head, Judged, head, Answer}
use Rattle.http_stream.proofs.CutLemmas.{head_stays}
use Rattle.http_front.specs.declared.found.Finding.TheVariants.{TooFew}
use Rattle.http_front.specs.Told.{LiesAt, Tells}

head_is_judged : (s front : List ℕ) (h : RequestHead) (rest : List ℕ) (a : Answer) → is_early s ≡ false → front ≡ window s
    → ReadsRequest front h rest → a ≡ by_head s h → Judged s a
head_is_judged s front h rest a late e reads f = head h rest late (let P : List ℕ → Type 0 = λ w. ReadsRequest w h rest in subst P e reads) f

head_waits : (s : List ℕ) (h : RequestHead) (n len : ℕ) → Ok n ≡ body_length (headers_of h)
    → len ≡ length (print_request h) → length (drop len s) < n → waits s ≡ by_head s h
head_waits s h n len f l short = rw (← f, ← l, lt-leb _ _ short) refl

head_gives : (s : List ℕ) (h : RequestHead) (m p : List ℕ) (hs : List Header) (n len : ℕ)
    → hs ≡ headers_of h → Ok n ≡ body_length hs → len ≡ length (print_request h) → n ≤ length (drop len s)
    → m ≡ h.method → p ≡ h.target
    → record {
      next = next.Request (record { method = m; path = p; headers = hs; body = take n (drop len s) });
      after = record { pending = drop (len + n) s; failed = false };
    } ≡ by_head s h
head_gives s h m p hs n len e f l enough me pe =
    let g : Ok n ≡ body_length (headers_of h) = f ∙ ap body_length e in
    rw (← g, ← l, le-leb _ _ enough, drop-drop n len s, ← me, ← pe, ← e) refl

-- the length of the body, by the spans of its head
abbrev length_by : List ℕ → List HeaderSpan → RequestSpans → Result ℕ Refusal
length_by front spans r = body_length (map (header_bytes front) (take r.headers spans))

pub found_bad : (s front : List ℕ) (spans : List HeaderSpan) (r : RequestSpans) (why : Refusal) → is_early s ≡ false → front ≡ window s
    → IsRequestOf front spans r → Err why ≡ length_by front spans r → Judged s (refused why)
found_bad s front spans r why late e (h, at) b =
    let f : Err why ≡ body_length (headers_of h) = b ∙ ap body_length at.fields in
    head_is_judged s front h _ _ late e at.reads (rw (← f) refl)

pub found_few : (s front : List ℕ) (spans : List HeaderSpan) (r : RequestSpans) (n count : ℕ) → is_early s ≡ false → front ≡ window s
    → IsRequestOf front spans r → Ok n ≡ length_by front spans r → r.len ≤ length s → length s < r.len + n
    → count ≡ r.len + n - 1 → Tells s spans (TooFew count)
found_few s front spans r n count late e (h, at) b fits short c =
    let f : Ok n ≡ body_length (headers_of h) = b ∙ ap body_length at.fields in
    let P : List ℕ → Type 0 = λ w. ReadsRequest w h (drop r.len front) in (
      omega arith,
      λ more m. head_stays s more h (drop r.len front) _ late (subst P e at.reads)
          (head_waits (s ++ more) h n r.len f at.len
          (let k : length s ≤ length (s ++ more) = rw (length-append s more) (omega arith) in
          rw (length-drop r.len (s ++ more)) (omega arith))),
    )

pub found_whole : (s front : List ℕ) (spans : List HeaderSpan) (r : RequestSpans) (n : ℕ) → is_early s ≡ false → front ≡ window s
    → IsRequestWithin front spans r → IsRequestOf front spans r → Ok n ≡ length_by front spans r → r.len + n ≤ length s
    → LiesAt s spans (record { head = r; body = n })
found_whole s front spans r n late e within (h, at) b fits =
    let P : List ℕ → Type 0 = λ w. IsRequestWithin w spans r in
    let Q : List ℕ → Type 0 = λ w. IsRequestOf w spans r in
    let is : Ok n ≡ body_length (map (header_bytes front) (take r.headers spans)) = b in
    record {
      within = subst P e within;
      found = subst Q e (h, at);
      fits = fits;
      judged = head_is_judged s front h _ _ late e at.reads
          (rw (← e) (head_gives s h _ _ _ n r.len at.fields is at.len (rw (length-drop r.len s) (omega arith)) at.method at.path));
    }
