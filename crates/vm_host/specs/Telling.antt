-- What is known of a clock, and what each call leaves of that.
use Rattle.std.specs.Prelude.{ℕ, suc, ◌≡◌, Bool, true, List, [], ◌∷◌}

-- whether the clock tells its answers, and those that it has left: the nth from now
pub record ClockKnown : Type 0 where
  pub tells : Bool
  pub left : ℕ → ℕ

abbrev pub Tells : ClockKnown → Type 0
Tells known = known.tells ≡ true

-- those that are left after the next one
abbrev pub later : (ℕ → ℕ) → ℕ → ℕ
later left n = left (suc n)

-- a call that asks nothing: a clock that told its answers still does, and has the same ones left
pub record Lasts (before now : ClockKnown) : Type 0 where
  pub still : Tells before → Tells now
  pub same : Tells before → now.left ≡ before.left

-- the clock's next answer
pub record Gives (before : ClockKnown) (answer : ℕ) (now : ClockKnown) : Type 0 where
  pub still : Tells before → Tells now
  pub next : Tells before → answer ≡ before.left 0
  pub rest : Tells before → now.left ≡ later before.left

-- these answers are the next ones, in order, and those are left
abbrev pub AreNext : (ℕ → ℕ) → List ℕ → (ℕ → ℕ) → Type 0
AreNext left [] now = now ≡ left
AreNext left (answer ∷ answers) now = (answer ≡ left 0) × AreNext (later left) answers now
