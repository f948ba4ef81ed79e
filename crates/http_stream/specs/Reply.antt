-- The bytes of a reply.
use Rattle.std.specs.Prelude.{ℕ, ◌==◌, Bool, List, [], ◌++◌, length, if◌then◌else◌, codes, decimal, nat_le, nat_lt, ◌&&◌, unwrap_or}
use Rattle.http.specs.StatusCode.{reason_phrase}

-- the phrase that HTTP has for a status, and none for what is no status
unfoldable pub phrase : ℕ → List ℕ
phrase status = if nat_le 100 status && nat_lt status 1000 then unwrap_or (reason_phrase status) [] else []

abbrev pub connection : Bool → List ℕ
connection close = if close then codes "close" else codes "keep-alive"

-- the head of a reply that has a body of that length
abbrev pub head : ℕ → List ℕ → List ℕ → ℕ → List ℕ
head status phrase connection len =
    codes "HTTP/1.1 " ++ (decimal status ++ (codes " " ++ (phrase
    ++ (codes "\r\nConnection: " ++ (connection
    ++ (codes "\r\nContent-Type: application/json\r\nContent-Length: " ++ (decimal len ++ codes "\r\n\r\n")))))))

abbrev pub empty_head : Bool → List ℕ
empty_head close = codes "HTTP/1.1 204 No Content\r\nConnection: " ++ connection close ++ codes "\r\n\r\n"

-- the bytes of a reply; 204 has no body
abbrev pub reply : ℕ → List ℕ → Bool → List ℕ
reply status body close =
    if status == 204 then empty_head close else head status (phrase status) (connection close) (length body) ++ body
