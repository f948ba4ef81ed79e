-- What is sent of a request is read as that request, and nothing is left of it.
use Rattle.std.proofs.Common.{◌≡◌, ◌≤◌, ◌+◌, ℕ, zero, suc, Bool, true, false, ◌&&◌, not, nat_le, nat_lt, if◌then◌else◌, refl, sym, ap, subst, ◌∙◌, List, [], ◌∷◌, ◌++◌, length, take, drop, codes, append_assoc, length-append, Result, Ok, arith}
use Rattle.std.specs.Fmt.{decimal}
use Rattle.std.specs.List.{All, list_all}
use Rattle.std.specs.Str.{is_utf8}
use Rattle.std.proofs.lemmas.Bool.{and_parts, and_right, le-leb, leb-true, ltb-true}
use Rattle.std.proofs.lemmas.List.{append-nil}
use Rattle.std.specs.Prelude.{IsTrue}
use Rattle.std.proofs.lemmas.List.Elements.{All-cons, All-nil}
use Rattle.std.proofs.lemmas.Str.{IsUtf8-from_is_utf8}
use Rattle.httparse.specs.Grammar.{Field, IsField, IsRequestHead, IsToken, ReadsRequest, RequestHead, is_token, is_token_byte, is_uri_byte, is_value_byte, print_request, print_section}
use Rattle.httparse.specs.Grammar.LineEnd.{crlf}
use Rattle.http_stream.specs.declared.request.Next.TheVariants as next
use Rattle.http_stream.specs.declared.request.Request.{Request}
use Rattle.refusals.specs.declared.refusal.Refusal.{Refusal}
use Rattle.http_stream.specs.Body.{body_length}
use Rattle.http_stream.specs.Sent.{length_line, sent}
use Rattle.http_stream.specs.Stream.{Answer, Judged, by_head, by_length, gives, has_line, head, headers_of, is_early, window}

-- the head that is sent
abbrev pub length_field : ℕ → Field
length_field n = record { name = codes "Content-Length"; raw = 32 ∷ decimal n; end = crlf }

abbrev pub head_of : List ℕ → List ℕ → ℕ → RequestHead
head_of method path n = record {
  blank = [];
  method = method;
  target = path;
  minor = 1;
  line_end = crlf;
  fields = length_field n ∷ [];
  last = crlf;
}

-- it is one, as a test
abbrev pub is_head : List ℕ → List ℕ → ℕ → Bool
is_head method path n =
    (is_token method && is_token (codes "Content-Length"))
    && ((nat_lt 0 (length path) && list_all is_uri_byte path) && (is_utf8 path && list_all is_value_byte (32 ∷ decimal n)))

all_pass : (test : ℕ → Bool) (bytes : List ℕ) → list_all test bytes ≡ true → All (λ (b : ℕ). IsTrue (test b)) bytes
all_pass test [] is = All-nil (λ (b : ℕ). IsTrue (test b))
all_pass test (b ∷ bytes) is =
    let both = and_parts (test b) (list_all test bytes) is in
    All-cons (λ (b : ℕ). IsTrue (test b)) b bytes both.0 (all_pass test bytes both.1)

token_of : (bytes : List ℕ) → is_token bytes ≡ true → IsToken bytes
token_of bytes is =
    let both = and_parts (nat_lt 0 (length bytes)) (list_all is_token_byte bytes) is in
    (ltb-true 0 (length bytes) both.0, all_pass is_token_byte bytes both.1)

pub is_head_of : (method path : List ℕ) (n : ℕ) → is_head method path n ≡ true → IsRequestHead (head_of method path n)
is_head_of method path n is =
    let outer = and_parts (is_token method && is_token (codes "Content-Length"))
    ((nat_lt 0 (length path) && list_all is_uri_byte path) && (is_utf8 path && list_all is_value_byte (32 ∷ decimal n))) is in
    let names = and_parts (is_token method) (is_token (codes "Content-Length")) outer.0 in
    let inner = and_parts (nat_lt 0 (length path) && list_all is_uri_byte path) (is_utf8 path && list_all is_value_byte (32 ∷ decimal n)) outer.1 in
    let target = and_parts (nat_lt 0 (length path)) (list_all is_uri_byte path) inner.0 in
    let rest = and_parts (is_utf8 path) (list_all is_value_byte (32 ∷ decimal n)) inner.1 in
    record {
      method = token_of method names.0;
      target = (ltb-true 0 (length path) target.0, all_pass is_uri_byte path target.1);
      target_text = IsUtf8-from_is_utf8 path rest.0;
      minor = omega arith;
      fields =
          All-cons IsField (length_field n) []
          (record { name = token_of (codes "Content-Length") names.1; raw = all_pass is_value_byte (32 ∷ decimal n) rest.1 })
          (All-nil IsField);
    }

-- ---- what is sent is the head and the body

abbrev to_length : List ℕ
to_length = codes " HTTP/1.1\r\nContent-Length: "

abbrev end_of_line : List ℕ
end_of_line = codes "\r\n"

-- the end of the field and the empty line behind it
ends : (d : List ℕ) → ((d ++ end_of_line) ++ []) ++ end_of_line ≡ d ++ codes "\r\n\r\n"
ends d = ap (λ (l : List ℕ). l ++ end_of_line) (append-nil (d ++ end_of_line)) ∙ append_assoc d end_of_line end_of_line

regroup : (a b c d e : List ℕ) → (((a ++ b) ++ c) ++ d) ++ e ≡ a ++ (b ++ (c ++ (d ++ e)))
regroup a b c d e = append_assoc ((a ++ b) ++ c) d e ∙ append_assoc (a ++ b) c (d ++ e) ∙ append_assoc a b (c ++ (d ++ e))

pub sent_is : (method path body : List ℕ) → sent method path body ≡ print_request (head_of method path (length body)) ++ body
unfolding print_request
sent_is method path body =
    let d : List ℕ = decimal (length body) in
    let section : List ℕ = print_section (length_field (length body) ∷ []) crlf in
    let behind : List ℕ = (32 ∷ codes "HTTP/1.1") ++ (end_of_line ++ section) in
    regroup method (32 ∷ []) path (length_line (length body)) body
    ∙ sym (ap (λ (l : List ℕ). l ++ body) (regroup method (32 ∷ path) (32 ∷ codes "HTTP/1.1") end_of_line section)
    ∙ append_assoc method (32 ∷ (path ++ behind)) body
    ∙ ap (λ (l : List ℕ). method ++ (32 ∷ l)) (append_assoc path behind body)
    ∙ ap (λ (l : List ℕ). method ++ (32 ∷ (path ++ (to_length ++ (l ++ body))))) (ends d))

-- ---- and it is read so

past : (front rest : List ℕ) → drop (length front) (front ++ rest) ≡ rest
past [] rest = refl
past (x ∷ front) rest = past front rest

take_none : (n : ℕ) → take {A = ℕ} n [] ≡ []
take_none zero = refl
take_none (suc n) = refl

all_of : (n : ℕ) (xs : List ℕ) → length xs ≤ n → take n xs ≡ xs
all_of n [] few = take_none n
all_of zero (x ∷ xs) few = absurd (omega (arith, few))
all_of (suc n) (x ∷ xs) few = ap (λ (l : List ℕ). x ∷ l) (all_of n xs (omega (arith, few)))

none_left : (xs : List ℕ) → drop (length xs) xs ≡ []
none_left [] = refl
none_left (x ∷ xs) = none_left xs

abbrev pub read_as : List ℕ → List ℕ → ℕ → List ℕ → Request
read_as method path n body =
    record { method = method; path = path; headers = headers_of (head_of method path n); body = body }

abbrev whole : Request → Answer
whole request = record { next = next.Request request; after = record { pending = []; failed = false } }

module _ (method path body : List ℕ) (n : ℕ) (long : length body ≡ n) (good : is_head method path n ≡ true)
    (says : body_length (headers_of (head_of method path n)) ≡ Ok n)
    (short : nat_le (length (print_request (head_of method path n)) + n) 8192 ≡ true)
    (line : has_line (sent method path body) ≡ true) where
  abbrev h : RequestHead
  h = head_of method path n

  sent_as : sent method path body ≡ print_request h ++ body
  sent_as = sent_is method path body ∙ ap (λ (k : ℕ). print_request (head_of method path k) ++ body) long

  fits : length (sent method path body) ≤ 8192
  fits =
      let count : length (sent method path body) ≡ length (print_request h) + n =
      ap (λ (l : List ℕ). length l) sent_as ∙ length-append (print_request h) body ∙ ap (λ (k : ℕ). length (print_request h) + k) long in
      omega (arith, count, leb-true (length (print_request h) + n) 8192 short)

  late : is_early (sent method path body) ≡ false
  late =
      ap (λ (b : Bool). nat_le (length (sent method path body)) 8192 && not b) line
      ∙ and_right (nat_le (length (sent method path body)) 8192) false refl

  reads : ReadsRequest (window (sent method path body)) h body
  reads = (is_head_of method path n good, all_of 8192 (sent method path body) fits ∙ sent_as)

  by_count : (k : ℕ) → length body ≡ k → by_length (sent method path body) h body (Ok k) ≡ whole (read_as method path n body)
  by_count k is =
      subst (λ (j : ℕ). by_length (sent method path body) h body (Ok j) ≡ whole (read_as method path n body)) is
      (by_test (nat_le (length body) (length body)) (le-leb (length body) (length body) (omega arith)))
    where
      by_test : (b : Bool) → b ≡ true
          → (if b then gives h (length body) body else record { next = next.None; after = record { pending = sent method path body; failed = false } })
          ≡ whole (read_as method path n body)
      by_test true is =
          ap (λ (l : List ℕ). record { next = next.Request (read_as method path n l); after = record { pending = drop (length body) body; failed = false } })
          (all_of (length body) body (omega arith))
          ∙ ap (λ (l : List ℕ). record { next = next.Request (read_as method path n body); after = record { pending = l; failed = false } })
          (none_left body)
      by_test false is = absurd cc

  answer_is : whole (read_as method path n body) ≡ by_head (sent method path body) h
  answer_is =
      sym (ap (λ (l : List ℕ). by_length (sent method path body) h l (body_length (headers_of h)))
      (ap (λ (l : List ℕ). drop (length (print_request h)) l) sent_as ∙ past (print_request h) body)
      ∙ ap (λ (r : Result ℕ Refusal). by_length (sent method path body) h body r) says ∙ by_count n long)

  -- the request, and nothing behind it
  pub sends : Judged (sent method path body) (whole (read_as method path n body))
  sends = head h body late reads answer_is
