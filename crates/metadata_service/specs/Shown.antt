-- What is shown of a value without JSON.
use Rattle.std.specs.Prelude.{ℕ, Bool, true, false, if◌then◌else◌, List, [], ◌∷◌, ◌++◌, Option, Some, None, is_some}
use Rattle.serde_json.specs.Data.{Data, null, boolean, number, string, array, object, Members, no_members, member}
use Rattle.serde_json.specs.Find.{as_object}

-- a `/` behind the keys of objects
abbrev pub slash : Data → List ℕ
slash d = if is_some (as_object d) then 47 ∷ [] else []

-- an LF between two keys
abbrev pub line_feed : Bool → List ℕ
line_feed later = if later then 10 ∷ [] else []

-- a key and what stands around it
abbrev pub key_line : Bool → List ℕ → Data → List ℕ
key_line later key d = line_feed later ++ (key ++ slash d)

-- the keys of an object, each on a line of its own
abbrev pub listing : Bool → Members → List ℕ
listing later no_members = []
listing later (member key d ms) = key_line later key d ++ listing true ms

-- a string's bytes and an object's listing; nothing else has a text
abbrev pub plain_text : Data → Option (List ℕ)
plain_text null = None
plain_text (boolean b) = None
plain_text (number n) = None
plain_text (string s) = Some s
plain_text (array ds) = None
plain_text (object ms) = Some (listing false ms)
