-- What is left until the first moment that is not over.
use Rattle.std.proofs.Common.{ℕ, ◌≡◌, ◌≤◌, ◌<◌, ◌-◌, ◌+◌, ◌⊎◌, ◌∙◌, inl, inr, List, All, Any, length, take, slice_index_or, arith}
use Rattle.std.proofs.lemmas.Grind.{get_or_default_zero}
use Rattle.std.proofs.lemmas.List.Elements.{All-more}

-- one moment more was looked at
pub least_more : (now left less : ℕ) (ms : List ℕ) (i : ℕ) → i < length ms → less ≤ left
    → (now < slice_index_or ms i 0 → less ≤ slice_index_or ms i 0 - now)
    → All (λ m. now < m → left ≤ m - now) (take i ms) → All (λ m. now < m → less ≤ m - now) (take (i + 1) ms)
least_more now left less ms i there fewer here before =
    All-more (λ m. now < m → less ≤ m - now) ms i 0 there
    (λ k d within later. let most = before k d within later in omega (arith, fewer, most)) here

pub one_more : (now left less first : ℕ) (ms : List ℕ) (i : ℕ) → i < length ms
    → (less ≡ left) ⊎ ((now < slice_index_or ms i 0) × (less ≡ slice_index_or ms i 0 - now))
    → (left ≡ first) ⊎ Any (λ m. (now < m) × (left ≡ m - now)) ms
    → (less ≡ first) ⊎ Any (λ m. (now < m) × (less ≡ m - now)) ms
one_more now left less first ms i there (inl same) (inl none) = inl (same ∙ none)
one_more now left less first ms i there (inl same) (inr (k, m, within, is, of)) = inr (k, m, within, is, (of.0, same ∙ of.1))
one_more now left less first ms i there (inr (later, it)) before = inr (i, slice_index_or ms i 0, there, get_or_default_zero ms i _ there, (later, it))
