-- Tokens of nodes that are pushed one after the other.
use Rattle.std.proofs.Common.{◌≡◌, ℕ, zero, suc, ◌+◌, List, [], ◌∷◌, ◌++◌, map, refl, sym, ap, ◌∙◌, arith, append_assoc}
use Rattle.devtree.specs.Tree.{Node, node, no_nodes, and_node, Property}
use Rattle.devtree.specs.Flat.{Token, begin, end, property_token, tokens_of, tokens_of_all}
use Rattle.devtree.specs.Machine.{nodes_from}

append_nil : {X : Type 0} (xs : List X) → xs ++ [] ≡ xs
append_nil [] = refl
append_nil (x ∷ xs) = ap (λ l. x ∷ l) (append_nil xs)

-- one node more of those with numbers
pub nodes_more : (make : ℕ → Node) (k n : ℕ) → tokens_of_all (nodes_from make k (n + 1)) ≡ tokens_of_all (nodes_from make k n) ++ tokens_of (make (k + n))
nodes_more make k zero =
    let same : k ≡ k + 0 = omega arith in
    append_nil (tokens_of (make k)) ∙ ap (λ (j : ℕ). tokens_of (make j)) same
nodes_more make k (suc n) =
    let next : suc n + 1 ≡ suc (n + 1) = omega arith in
    let there : suc k + n ≡ k + suc n = omega arith in
    ap (λ (j : ℕ). tokens_of_all (nodes_from make k j)) next
    ∙ ap (λ l. tokens_of (make k) ++ l) (nodes_more make (suc k) n)
    ∙ sym (append_assoc (tokens_of (make k)) (tokens_of_all (nodes_from make (suc k) n)) (tokens_of (make (suc k + n))))
    ∙ ap (λ (j : ℕ). tokens_of (make k) ++ tokens_of_all (nodes_from make (suc k) n) ++ tokens_of (make j)) there

-- and the tokens of those so far, behind others
pub pushed_more : (make : ℕ → Node) (first old new : List Token) (n : ℕ) → old ≡ first ++ tokens_of_all (nodes_from make 0 n) → new ≡ old ++ tokens_of (make n)
    → new ≡ first ++ tokens_of_all (nodes_from make 0 (n + 1))
pushed_more make first old new n so_far next =
    let same : n ≡ 0 + n = omega arith in
    next
    ∙ ap (λ (l : List Token). l ++ tokens_of (make n)) so_far
    ∙ append_assoc first (tokens_of_all (nodes_from make 0 n)) (tokens_of (make n))
    ∙ ap (λ (j : ℕ). first ++ (tokens_of_all (nodes_from make 0 n) ++ tokens_of (make j))) same
    ∙ ap (λ (l : List Token). first ++ l) (sym (nodes_more make 0 n))

regrouped : (t r a b c d e : List Token) → t ++ r ++ a ++ b ++ c ++ d ++ e ≡ t ++ (r ++ (a ++ (b ++ (c ++ (d ++ [])))) ++ e)
regrouped t r a b c d e = simp (append_assoc, append_nil)

-- the tokens of a node with four nodes, when its parts are pushed one after the other
pub pushed_all : (name : List ℕ) (properties : List Property) (a b c d : Node) (t0 t1 t2 t3 t4 t5 t6 : List Token) → t1 ≡ t0 ++ begin name ∷ map property_token properties
    → t2 ≡ t1 ++ tokens_of a → t3 ≡ t2 ++ tokens_of b → t4 ≡ t3 ++ tokens_of c → t5 ≡ t4 ++ tokens_of d → t6 ≡ t5 ++ end ∷ []
    → t6 ≡ t0 ++ tokens_of (node name properties (and_node a (and_node b (and_node c (and_node d no_nodes)))))
pushed_all name properties a b c d t0 t1 t2 t3 t4 t5 t6 e1 e2 e3 e4 e5 e6 =
    e6
    ∙ ap (λ (l : List Token). l ++ end ∷ []) (
    e5
    ∙ ap (λ (l : List Token). l ++ tokens_of d) (
    e4 ∙ ap (λ (l : List Token). l ++ tokens_of c) (e3 ∙ ap (λ (l : List Token). l ++ tokens_of b) (e2 ∙ ap (λ (l : List Token). l ++ tokens_of a) e1))))
    ∙ regrouped t0 (begin name ∷ map property_token properties) (tokens_of a) (tokens_of b) (tokens_of c) (tokens_of d) (end ∷ [])
