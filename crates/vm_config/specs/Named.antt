-- Things that are configured by their ids, in the order of their first PUT. What a thing's id is, is given.
use Rattle.std.specs.Prelude.{ℕ, Bool, true, not, ◌&&◌, List, [], ◌∷◌, ◌++◌, if◌then◌else◌}
use Rattle.std.specs.List.{list_any}
use Rattle.std.specs.Str.{bytes_eq}

-- it has this id
abbrev pub has_id : {T : Type 0} → (T → List ℕ) → List ℕ → T → Bool
has_id id_of id it = bytes_eq (id_of it) id

-- there is one of this id
abbrev pub has_named : {T : Type 0} → (T → List ℕ) → List T → List ℕ → Bool
has_named id_of things id = list_any (has_id id_of id) things

-- the one of this id is changed, in its place
abbrev pub changed_in : {T : Type 0} → (T → List ℕ) → List ℕ → (T → T) → List T → List T
changed_in id_of id f [] = []
changed_in id_of id f (it ∷ things) = if has_id id_of id it then f it ∷ things else it ∷ changed_in id_of id f things

-- a PUT: it takes the place of the one of its id, or stands last
abbrev pub put_in : {T : Type 0} → (T → List ℕ) → List T → T → List T
put_in id_of things it =
    if has_named id_of things (id_of it) then changed_in id_of (id_of it) (λ old. it) things else things ++ it ∷ []

-- no two have one id
abbrev pub are_apart : {T : Type 0} → (T → List ℕ) → List T → Bool
are_apart id_of [] = true
are_apart id_of (it ∷ things) = not (has_named id_of things (id_of it)) && are_apart id_of things
