-- The lines of a text.
use Rattle.std.specs.Prelude.{ℕ, ◌==◌, if◌then◌else◌, List, [], ◌∷◌}

-- a byte put before the first line; before no line it is no line
abbrev pub onto : ℕ → List (List ℕ) → List (List ℕ)
onto c [] = []
onto c (line ∷ lines) = (c ∷ line) ∷ lines

-- the lines, each ended by LF; the bytes after the last LF are no line
abbrev pub lines_of : List ℕ → List (List ℕ)
lines_of [] = []
lines_of (c ∷ text) = if c == 10 then [] ∷ lines_of text else onto c (lines_of text)
