-- What a stream of bytes gives next.
use Rattle.std.specs.Prelude.{◌≡◌, ℕ, ◌<◌, ◌≤◌, ◌&&◌, ◌||◌, ◌==◌, Bool, true, false, not, List, [], ◌++◌, length, take, drop, map, if◌then◌else◌, nat_le, Result, Ok, Err}
use Rattle.std.specs.List.{list_any, prefix_len}
use Rattle.httparse.specs.Grammar.{RequestHead, print_request, ReadsRequest, HasNoRequest, NeverHasRequest}
use Rattle.httparse.specs.Spans.{name_and_value}
use Rattle.http_stream.specs.declared.request.Request.{Request}
use Rattle.http_stream.specs.declared.request.Next.{Next}
use Rattle.http_stream.specs.declared.request.Next.TheVariants as next
use Rattle.http_stream.specs.Body.{Header, body_length}
use Rattle.refusals.specs.declared.refusal.Refusal.{Refusal}
use Rattle.refusals.specs.declared.refusal.Refusal.TheVariants as refusal

-- a head ends within so many bytes
abbrev pub head_limit : ℕ
head_limit = 8192

-- the bytes in which a head must end
abbrev pub window : List ℕ → List ℕ
window stream = take head_limit stream

abbrev pub is_line_byte : ℕ → Bool
is_line_byte b = b == 13 || b == 10

-- an LF comes after the leading CRs and LFs
abbrev pub has_line : List ℕ → Bool
has_line stream = list_any (λ b. b == 10) (drop (prefix_len is_line_byte stream) stream)

-- too few bytes have come to judge them
abbrev pub is_early : List ℕ → Bool
is_early stream = nat_le (length stream) head_limit && not (has_line stream)

-- some bytes can follow that give a head
abbrev pub CanHaveRequest : List ℕ → Type 0
CanHaveRequest bytes =
    (more : List ℕ) × (h : RequestHead) × (rest : List ℕ) × ReadsRequest (bytes ++ more) h rest

-- the headers of a head, each with its value trimmed
abbrev pub headers_of : RequestHead → List Header
headers_of h = map name_and_value h.fields

-- the bytes of a connection that no answer took, and whether it has failed
pub record Connection : Type 0 where
  pub pending : List ℕ
  pub failed : Bool

-- an answer, and the connection after it
pub record Answer : Type 0 where
  pub next : Next
  pub after : Connection

abbrev pub waits : List ℕ → Answer
waits stream = record { next = next.None; after = record { pending = stream; failed = false } }

abbrev pub refused : Refusal → Answer
refused why = record { next = next.Bad why; after = record { pending = []; failed = true } }

-- the request of that head and so long a body, of which rest is the bytes after the head
abbrev pub request_of : RequestHead → ℕ → List ℕ → Request
request_of h n rest =
    record { method = h.method; path = h.target; headers = headers_of h; body = take n rest }

abbrev pub gives : RequestHead → ℕ → List ℕ → Answer
gives h n rest = record {
  next = next.Request (request_of h n rest);
  after = record { pending = drop n rest; failed = false };
}

-- what the stream gives, whose head is h, with the bytes after the head and the length of the body
abbrev pub by_length : List ℕ → RequestHead → List ℕ → Result ℕ Refusal → Answer
by_length stream h rest (Ok n) = if nat_le n (length rest) then gives h n rest else waits stream
by_length stream h rest (Err why) = refused why

abbrev pub by_head : List ℕ → RequestHead → Answer
by_head stream h =
    by_length stream h (drop (length (print_request h)) stream) (body_length (headers_of h))

-- A stream is judged by the first of these rules that fits.
pub data Judged (stream : List ℕ) (a : Answer) : Type 0 where
  early : is_early stream ≡ true → a ≡ waits stream → Judged stream a
  too_long : HasNoRequest (window stream) → head_limit < length stream → a ≡ refused refusal.BadHead
      → Judged stream a
  hopeless : is_early stream ≡ false → length stream ≤ head_limit → NeverHasRequest stream
      → a ≡ refused refusal.BadHead → Judged stream a
  unfinished : is_early stream ≡ false → length stream ≤ head_limit → HasNoRequest stream
      → CanHaveRequest stream → a ≡ waits stream → Judged stream a
  head : (h : RequestHead) (rest : List ℕ) → is_early stream ≡ false
      → ReadsRequest (window stream) h rest → a ≡ by_head stream h → Judged stream a
