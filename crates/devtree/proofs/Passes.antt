-- Passes over tokens and names, one more at a time.
use Rattle.std.proofs.Common.{◌≡◌, ℕ, ◌+◌, ◌<◌, Bool, ◌||◌, List, [], ◌∷◌, ◌++◌, length, map, take, get_or, refl, sym, ap, ◌∙◌, arith, length-append, Bor}
use Rattle.std.specs.List.{between, flat_map, list_any}
use Rattle.std.proofs.lemmas.List.{take_more, flat_map_more}
use Rattle.std.proofs.lemmas.Slice.{between_to_end}
use Rattle.devtree.specs.Tree.{text}
use Rattle.devtree.specs.Flat.{Token, begin, property, end, noted, noting, names_of, strings_of, bytes_of, structure_of, file_of, file_by}
use Rattle.devtree.specs.Coding.{all_of, now_of, token_of}
use Rattle.devtree.specs.declared.token.Token.{Token as Coded}

pub list_any_map : {X Y : Type 0} (p : X → Bool) (h : Y → X) (ys : List Y) → list_any p (map h ys) ≡ list_any (λ y. p (h y)) ys
list_any_map p h [] = refl
list_any_map p h (y ∷ ys) = ap (λ b. p (h y) || b) (list_any_map p h ys)

pub map_append : {X Y : Type 0} (h : X → Y) (xs ys : List X) → map h (xs ++ ys) ≡ map h xs ++ map h ys
map_append h [] ys = refl
map_append h (x ∷ xs) ys = ap (λ l. h x ∷ l) (map_append h xs ys)

noting_append : (names : List (List ℕ)) (xs ys : List Token) → noting names (xs ++ ys) ≡ noting (noting names xs) ys
noting_append names [] ys = refl
noting_append names (begin name ∷ xs) ys = noting_append names xs ys
noting_append names (property name value ∷ xs) ys = noting_append (noted names name) xs ys
noting_append names (end ∷ xs) ys = noting_append names xs ys

-- one token more is noted
pub noting_more : (tokens : List Coded) (i : ℕ) (d : Coded) (old new : List (List ℕ)) → i < length tokens
    → old ≡ noting [] (all_of (take i tokens)) → new ≡ noting old (token_of (get_or tokens i d) ∷ []) → new ≡ noting [] (all_of (take (i + 1) tokens))
noting_more tokens i d old new lt so_far next =
    let token : Coded = get_or tokens i d in
    next
    ∙ ap (λ (l : List (List ℕ)). noting l (token_of token ∷ [])) so_far
    ∙ sym (noting_append [] (all_of (take i tokens)) (token_of token ∷ []))
    ∙ ap (λ (l : List Token). noting [] l) (sym (map_append token_of (take i tokens) (token ∷ [])))
    ∙ ap (λ (l : List Coded). noting [] (all_of l)) (sym (take_more tokens i d lt))

-- the bytes of one token more
pub bytes_more : (names : List (List ℕ)) (tokens : List Coded) (i : ℕ) (d : Coded) (old new : List ℕ) → i < length tokens
    → old ≡ flat_map (bytes_of names) (all_of (take i tokens)) → new ≡ old ++ bytes_of names (token_of (get_or tokens i d)) → new ≡ flat_map (bytes_of names) (all_of (take (i + 1) tokens))
bytes_more names tokens i d old new lt so_far next =
    let token : Coded = get_or tokens i d in
    next
    ∙ ap (λ (l : List ℕ). l ++ bytes_of names (token_of token)) so_far
    ∙ flat_map_more (bytes_of names) [] (all_of (take i tokens)) (token_of token)
    ∙ ap (λ (l : List Token). flat_map (bytes_of names) l) (sym (map_append token_of (take i tokens) (token ∷ [])))
    ∙ ap (λ (l : List Coded). flat_map (bytes_of names) (all_of l)) (sym (take_more tokens i d lt))

-- the strings behind a first one
pub strings_split : (names : List (Bor (List ℕ))) (d : Bor (List ℕ)) → 0 < length names
    → length (strings_of (now_of names)) ≡ length (get_or names 0 d).now + 1 + length (strings_of (now_of (between 1 (length names) names)))
strings_split [] d lt = absurd (omega arith)
strings_split (name ∷ names) d lt =
    let rest : between 1 (length (name ∷ names)) (name ∷ names) ≡ names = between_to_end (name ∷ names) 1 (length (name ∷ names)) (omega arith) in
    let lens = ap (λ (l : List (Bor (List ℕ))). length (strings_of (now_of l))) rest in
    omega (arith, lens, length-append (text name.now) (strings_of (now_of names)), length-append name.now (0 ∷ []))

-- four pieces pushed one after the other
pub four_pieces : (none one two three four h z s t : List ℕ) → none ≡ [] → one ≡ none ++ h → two ≡ one ++ z → three ≡ two ++ s → four ≡ three ++ t
    → four ≡ h ++ z ++ s ++ t
four_pieces none one two three four h z s t e0 e1 e2 e3 e4 =
    let first : one ≡ h = e1 ∙ ap (λ (l : List ℕ). l ++ h) e0 in
    e4
    ∙ ap (λ (l : List ℕ). l ++ t) (e3 ∙ ap (λ (l : List ℕ). l ++ s) (e2 ∙ ap (λ (l : List ℕ). l ++ z) first))

-- the file of what the passes give, where what was lent is what was made
pub file_is : (tokens : List Token) (names lent again : List (List ℕ)) (strings structure lent_strings lent_structure file : List ℕ) → names ≡ names_of tokens
    → lent ≡ names → again ≡ names → strings ≡ strings_of lent → structure ≡ structure_of again tokens → lent_strings ≡ strings → lent_structure ≡ structure
    → file ≡ file_of lent_structure lent_strings → file ≡ file_by tokens
file_is tokens names lent again strings structure lent_strings lent_structure file n e1 e2 s t e3 e4 f =
    let structure_is : lent_structure ≡ structure_of (names_of tokens) tokens = e4 ∙ t ∙ ap (λ (l : List (List ℕ)). structure_of l tokens) (e2 ∙ n) in
    let strings_are : lent_strings ≡ strings_of (names_of tokens) = e3 ∙ s ∙ ap strings_of (e1 ∙ n) in
    f ∙ ap (λ (l : List ℕ). file_of l lent_strings) structure_is ∙ ap (λ (l : List ℕ). file_of (structure_of (names_of tokens) tokens) l) strings_are
