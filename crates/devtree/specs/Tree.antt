-- A device tree as data: nodes with properties and nodes of their own, in order (Devicetree Specification 0.4, 2.2), and
-- what a property's value holds (2.2.4).
use Rattle.std.specs.Prelude.{ℕ, ◌/◌, ◌%◌, ◌^◌, false, List, [], ◌∷◌, ◌++◌, codes}
use Rattle.std.specs.Fmt.{digits}

pub record Property : Type 0 where
  pub name : List ℕ
  pub value : List ℕ

mutual
  pub data Node : Type 0 where
    node : List ℕ → List Property → Nodes → Node

  pub data Nodes : Type 0 where
    no_nodes : Nodes
    and_node : Node → Nodes → Nodes

-- ---- names

-- of a node, with the address of its unit in hexadecimal digits (2.2.1)
abbrev pub at_unit : List ℕ → ℕ → List ℕ
at_unit name unit = name ++ codes "@" ++ digits 16 false unit

-- ---- values

-- 32 bits, the highest byte first
unfoldable pub cell : ℕ → List ℕ
cell n = n / 2 ^ 24 % 256 ∷ n / 2 ^ 16 % 256 ∷ n / 2 ^ 8 % 256 ∷ n % 256 ∷ []

-- 64 bits: two cells, the high one first
abbrev pub wide : ℕ → List ℕ
wide n = cell (n / 2 ^ 32) ++ cell n

-- an address and a length, of 64 bits each
abbrev pub region : ℕ → ℕ → List ℕ
region at len = wide at ++ wide len

-- a text ends with a NUL
abbrev pub text : List ℕ → List ℕ
text t = t ++ 0 ∷ []
