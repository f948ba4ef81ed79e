-- What the functions between the parser and the answer return.
use Rattle.std.specs.Prelude.{ℕ, ◌+◌, ◌≤◌, Bool, List, ◌++◌, length, take, drop, map, false}
use Rattle.httparse.specs.declared.spans.HeaderSpan.{HeaderSpan}
use Rattle.httparse.specs.Grammar.{HasNoRequest, NeverHasRequest, MayBecomeRequest}
use Rattle.httparse.specs.Spans.{IsRequestOf, IsRequestWithin, header_bytes, span_bytes}
use Rattle.http_stream.specs.Body.{is_named}
use Rattle.http_front.specs.declared.found.Finding.{Finding}
use Rattle.http_front.specs.declared.found.Finding.TheVariants.{TooFew, Whole, Bad}
use Rattle.http_front.specs.declared.found.Place.{Place}
use Rattle.http_front.specs.declared.head.Search.{Search}
use Rattle.http_front.specs.declared.head.Search.TheVariants.{Found, Unfinished, Hopeless}
use Rattle.http_stream.specs.declared.request.Request.{Request}
use Rattle.http_stream.specs.declared.request.Next.TheVariants as next
use Rattle.http_stream.specs.Stream.{Connection, Answer, Judged, refused, waits, window}

-- the header that the spans cover has that name
abbrev pub is_named_at : List ℕ → List ℕ → HeaderSpan → Bool
is_named_at name front span = is_named name (header_bytes front span)

-- the value that the spans cover
abbrev pub value_at : List ℕ → HeaderSpan → List ℕ
value_at front span = span_bytes front span.value

-- what a search for a head finds
abbrev pub Finds : List ℕ → List HeaderSpan → Search → Type 0
Finds front spans (Found head) = IsRequestWithin front spans head × IsRequestOf front spans head
Finds front spans Unfinished = HasNoRequest front × MayBecomeRequest front
Finds front spans Hopeless = NeverHasRequest front

-- with so many bytes of the stream or fewer there is no request yet
abbrev pub AreTooFew : List ℕ → ℕ → Type 0
AreTooFew stream count =
    (more : List ℕ) → length (stream ++ more) ≤ count → Judged (stream ++ more) (waits (stream ++ more))

-- how many bytes the request has that lies there
abbrev pub size : Place → ℕ
size p = p.head.len + p.body

-- the request whose parts lie there
abbrev pub request_at : List ℕ → List HeaderSpan → Place → Request
request_at stream spans p = record {
  method = span_bytes (window stream) p.head.method;
  path = span_bytes (window stream) p.head.path;
  headers = map (header_bytes (window stream)) (take p.head.headers spans);
  body = take p.body (drop p.head.len stream);
}

-- the answer that takes it
abbrev pub taking : List ℕ → List HeaderSpan → Place → Answer
taking stream spans p = record {
  next = next.Request (request_at stream spans p);
  after = record { pending = drop (size p) stream; failed = false };
}

-- a request lies there, and the stream gives it
pub record LiesAt (stream : List ℕ) (spans : List HeaderSpan) (p : Place) : Type 0 where
  pub within : IsRequestWithin (window stream) spans p.head
  pub found : IsRequestOf (window stream) spans p.head
  pub fits : size p ≤ length stream
  pub judged : Judged stream (taking stream spans p)

-- what was found is so
abbrev pub Holds : List ℕ → List HeaderSpan → Finding → Type 0
Holds stream spans (TooFew count) = AreTooFew stream count
Holds stream spans (Whole p) = LiesAt stream spans p
Holds stream spans (Bad why) = Judged stream (refused why)

-- and says what the stream gives
abbrev pub Tells : List ℕ → List HeaderSpan → Finding → Type 0
Tells stream spans (TooFew count) = (length stream ≤ count) × AreTooFew stream count
Tells stream spans (Whole p) = LiesAt stream spans p
Tells stream spans (Bad why) = Judged stream (refused why)

-- the connection that has those bytes
abbrev pub live : List ℕ → Connection
live stream = record { pending = stream; failed = false }
