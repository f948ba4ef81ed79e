-- A list whose values move into another one by one.
use Rattle.std.proofs.Common.{◌≡◌, List, [], ◌∷◌, ◌++◌, sym, ap, ◌∙◌, append_assoc}

pub one_moved : {A : Type 0} (old new rest after all : List A) (x : A) → new ≡ old ++ x ∷ [] → rest ≡ x ∷ after
    → old ++ rest ≡ all → new ++ after ≡ all
one_moved old new rest after all x put next so_far =
    ap (λ l. l ++ after) put ∙ append_assoc old (x ∷ []) after ∙ ap (λ l. old ++ l) (sym next) ∙ so_far
