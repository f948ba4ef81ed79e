-- What is known of a source of words for a guest, and what a call leaves of that.
use Rattle.std.specs.Prelude.{◌≡◌, ℕ, Result, MatchResult}
use Rattle.vm_outside.specs.Known.{Health}
use Rattle.vm_host.specs.Devices.{ChangesAt}
use Rattle.vm_host.specs.Telling.{later}

-- the words that are left for each device: the nth from now
pub record GuestWordsKnown : Type 0 where
  pub health : Health
  pub left : ℕ → ℕ → ℕ

-- the first of the words is drawn
pub record IsDrawn (old : ℕ → ℕ) (word : ℕ) (new : ℕ → ℕ) : Type 0 where
  pub first : word ≡ old 0
  pub rest : new ≡ later old

-- the device is given a word of its own
abbrev pub GivesWord : ℕ → ℕ → (ℕ → ℕ → ℕ) → (ℕ → ℕ → ℕ) → Type 0
GivesWord device word old new = ChangesAt old device new (λ before after. IsDrawn before word after)

-- `word`; where it fails, none is
abbrev pub GivesGuest : {E : Type 0} → ℕ → (ℕ → ℕ → ℕ) → Result ℕ E → (ℕ → ℕ → ℕ) → Type 0
GivesGuest device old result new = MatchResult result (λ word. GivesWord device word old new) (λ _. new ≡ old)
