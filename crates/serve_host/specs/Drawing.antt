-- What is known of a source of words, and what each call leaves of that.
use Rattle.std.specs.Prelude.{◌≡◌, ℕ, Result, MatchResult}
use Rattle.vm_outside.specs.Known.{Health}
use Rattle.vm_host.specs.Giving.{IsDrawn}

-- the words that it has left: the nth from now
pub record WordsKnown : Type 0 where
  pub health : Health
  pub left : ℕ → ℕ

-- `next` draws a word; where it fails, none
abbrev pub Draws : {E : Type 0} → (ℕ → ℕ) → Result ℕ E → (ℕ → ℕ) → Type 0
Draws old result new = MatchResult result (λ word. IsDrawn old word new) (λ _. new ≡ old)
