-- The tokens of the code, as the definitions have them.
use Rattle.std.specs.Prelude.{List, [], ℕ, Option, Some, None, map}
use denote.Ref.{Bor}
use Rattle.devtree.specs.Tree as tree
use Rattle.devtree.specs.Flat as flat
use Rattle.devtree.specs.declared.token.Token.{Token}
use Rattle.devtree.specs.declared.token.Token.TheVariants as token
use Rattle.devtree.specs.declared.token.Value.{Value}
use Rattle.devtree.specs.declared.token.Value.TheVariants as value

-- texts, which the code holds behind references
abbrev pub now_of : List (Bor (List ℕ)) → List (List ℕ)
now_of texts = map (λ t. t.now) texts

abbrev pub name_by : List ℕ → Option ℕ → List ℕ
name_by name None = name
name_by name (Some unit) = tree.at_unit name unit

abbrev pub value_of : Value → List ℕ
value_of value.Empty = []
value_of (value.Cell n) = tree.cell n
value_of (value.Wide n) = tree.wide n
value_of (value.Region at len) = tree.region at len
value_of (value.Text t) = tree.text t.now

abbrev pub token_of : Token → flat.Token
token_of (token.Begin name unit) = flat.begin (name_by name.now unit)
token_of (token.Property name held) = flat.property name.now (value_of held)
token_of token.End = flat.end

abbrev pub all_of : List Token → List flat.Token
all_of tokens = map token_of tokens
