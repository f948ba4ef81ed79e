-- The line by which a connection of the host asks for a port of the guest, and the one that tells it the port at the host.
use Rattle.std.specs.Prelude.{ℕ, ◌+◌, ◌^◌, ◌==◌, nat_lt, ◌&&◌, if◌then◌else◌, Option, Some, None, List, ◌∷◌, [], ◌++◌, length, take, drop, codes, decimal, position}
use Rattle.std.specs.List.{list_all}
use Rattle.script_words.specs.Numbers.{is_digit, value_of}
use Rattle.script_words.specs.Words.{after}
use Rattle.vsock_device.specs.declared.line.Lined.{Lined}
use Rattle.vsock_device.specs.declared.line.Lined.TheVariants.{Asks, More, Other}

-- a line has at most so many bytes, with the LF that ends it
abbrev pub most_line : ℕ
most_line = 32

-- one or more digits of a number of 32 bits; zeros may lead
abbrev pub port_of : List ℕ → Option ℕ
port_of digits =
    if nat_lt 0 (length digits) && list_all is_digit digits && nat_lt (value_of digits) (2 ^ 32) then Some (value_of digits) else None

-- the port that a line asks for, without its LF
abbrev pub asked_port : List ℕ → Option ℕ
asked_port line = after (codes "CONNECT ") port_of line

-- ---- what a line comes to: more of it is to come; it is another line; or it asks for this port, and these bytes stand behind it

abbrev pub line_asked : Option ℕ → List ℕ → Lined
line_asked None rest = Other
line_asked (Some port) rest = Asks port rest

abbrev pub line_ended : List ℕ → List ℕ → Lined
line_ended line rest = if nat_lt (length line) most_line then line_asked (asked_port line) rest else Other

abbrev pub line_longer : List ℕ → Lined
line_longer line = if nat_lt (length line) most_line then More line else Other

-- where its LF is in these bytes, which come behind others of the line
abbrev pub line_cut : Option ℕ → List ℕ → List ℕ → Lined
line_cut (Some at) so_far bytes = line_ended (so_far ++ take at bytes) (drop (at + 1) bytes)
line_cut None so_far bytes = line_longer (so_far ++ bytes)

-- bytes come behind those of the line that came before
abbrev pub lined : List ℕ → List ℕ → Lined
lined so_far bytes = line_cut (position (λ b. b == 10) bytes) so_far bytes

-- the guest took it, and the connection has this port at the host
abbrev pub ok_line : ℕ → List ℕ
ok_line port = codes "OK " ++ decimal port ++ 10 ∷ []
