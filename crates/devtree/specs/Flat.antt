-- A tree as the bytes of a file (Devicetree Specification 0.4, chapter 5, version 17).
use Rattle.std.specs.Prelude.{ℕ, ◌+◌, ◌-◌, ◌%◌, if◌then◌else◌, List, [], ◌∷◌, ◌++◌, length, map, replicate}
use Rattle.std.specs.List.{flat_map, list_any}
use Rattle.std.specs.Str.{bytes_eq}
use Rattle.devtree.specs.Tree.{Node, Nodes, node, no_nodes, and_node, Property, cell, text}

-- ---- the tokens of a tree (5.4.2)

pub data Token : Type 0 where
  begin : List ℕ → Token
  property : List ℕ → List ℕ → Token
  end : Token

abbrev pub property_token : Property → Token
property_token p = property p.name p.value

-- of a node: its name, its properties, its nodes, and its end
abbrev mutual
  pub tokens_of : Node → List Token
  tokens_of (node name properties nodes) =
      begin name ∷ map property_token properties ++ tokens_of_all nodes ++ end ∷ []

  pub tokens_of_all : Nodes → List Token
  tokens_of_all no_nodes = []
  tokens_of_all (and_node n ns) = tokens_of n ++ tokens_of_all ns

-- ---- the names of properties, each once, in the order of first use (5.5)

-- one that isn't there yet comes at the end
abbrev pub noted : List (List ℕ) → List ℕ → List (List ℕ)
noted names name = if list_any (λ known. bytes_eq known name) names then names else names ++ name ∷ []

abbrev pub noting : List (List ℕ) → List Token → List (List ℕ)
noting names [] = names
noting names (property name value ∷ tokens) = noting (noted names name) tokens
noting names (token ∷ tokens) = noting names tokens

abbrev pub names_of : List Token → List (List ℕ)
names_of tokens = noting [] tokens

abbrev pub strings_of : List (List ℕ) → List ℕ
strings_of names = flat_map text names

-- where a name starts among the strings
abbrev pub offset_of : List (List ℕ) → List ℕ → ℕ
offset_of [] name = 0
offset_of (known ∷ names) name = if bytes_eq known name then 0 else length known + 1 + offset_of names name

-- ---- the structure (5.4)

-- zeros up to a multiple of 4
abbrev pub padding : ℕ → List ℕ
padding len = replicate ((4 - len % 4) % 4) 0

abbrev pub padded : List ℕ → List ℕ
padded bytes = bytes ++ padding (length bytes)

abbrev pub bytes_of : List (List ℕ) → Token → List ℕ
bytes_of names (begin name) = cell 1 ++ padded (text name)
bytes_of names (property name value) = cell 3 ++ cell (length value) ++ cell (offset_of names name) ++ padded value
bytes_of names end = cell 2

abbrev pub structure_of : List (List ℕ) → List Token → List ℕ
structure_of names tokens = flat_map (bytes_of names) tokens ++ cell 9

-- ---- the whole

-- The header (5.2): magic, size of the whole, where structure, strings and reservations start, the version, the last
-- one that it is compatible with, the boot hart, and the sizes of strings and structure.
abbrev pub header : ℕ → ℕ → List ℕ
header structure strings =
    cell 0xd00dfeed
    ++ cell (56 + structure + strings)
    ++ cell 56
    ++ cell (56 + structure)
    ++ cell 40
    ++ cell 17
    ++ cell 16
    ++ cell 0
    ++ cell strings
    ++ cell structure

-- no memory is reserved: the list of reservations is its last entry alone (5.3)
abbrev pub file_of : List ℕ → List ℕ → List ℕ
file_of structure strings = header (length structure) (length strings) ++ replicate 16 0 ++ structure ++ strings

abbrev pub file_by : List Token → List ℕ
file_by tokens = file_of (structure_of (names_of tokens) tokens) (strings_of (names_of tokens))

abbrev pub flattened : Node → List ℕ
flattened n = file_by (tokens_of n)
