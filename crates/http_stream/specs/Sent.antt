-- The bytes that send a request with no header but the length of its body (RFC 9112, 3 and 6.2).
use Rattle.std.specs.Prelude.{ℕ, List, ◌++◌, length, codes, decimal}

-- from the end of the path to the body
abbrev pub length_line : ℕ → List ℕ
length_line len = codes " HTTP/1.1\r\nContent-Length: " ++ (decimal len ++ codes "\r\n\r\n")

-- whatever bytes the method and the path have: whether they make a head is for the reader to say
abbrev pub sent : List ℕ → List ℕ → List ℕ → List ℕ
sent method path body = method ++ codes " " ++ path ++ length_line (length body) ++ body
