-- What an act on a page takes of a pool.
use Rattle.std.proofs.Common.{◌≡◌, ℕ, ◌+◌, ◌<◌, Bool, true, false, cond, not, ◌&&◌, ◌⊎◌, inl, inr, refl, sym, ap, ◌∙◌, arith}
use Rattle.turn_table.specs.Blanks.{IsOneAtMost}
use Rattle.guest_pages.specs.Made.{CanMake, Takes}
use Rattle.guest_pages.specs.Pages.{PageValue}

-- a page that is made, or a blank, is what it asks
pub can_make : (p : PageValue) (spare : ℕ) → (p.made ≡ true) ⊎ (0 < spare) → CanMake p spare
can_make p spare (inl made) = λ isnt. absurd (let e : true ≡ false = sym made ∙ isnt in cc)
can_make p spare (inr some) = λ isnt. omega (arith, some)

one_by : (a b : Bool) (had has : ℕ) → had ≡ cond (not a && b) (has + 1) has → IsOneAtMost had has
one_by true b had has is = (omega (arith, is), omega (arith, is))
one_by false true had has is = (omega (arith, is), omega (arith, is))
one_by false false had has is = (omega (arith, is), omega (arith, is))

pub takes_one : (old new : PageValue) (had has : ℕ) → Takes old new had has → IsOneAtMost had has
takes_one old new had has takes = one_by old.made new.made had has takes.blank

spent_by : (a b : Bool) (had has : ℕ) → had ≡ cond (not a && b) (has + 1) has → has < had → b ≡ true
spent_by true true had has is less = refl
spent_by true false had has is less = absurd (omega (arith, is, less))
spent_by false true had has is less = refl
spent_by false false had has is less = absurd (omega (arith, is, less))

pub took_makes : (old new : PageValue) (had has : ℕ) → Takes old new had has → has < had → new.made ≡ true
took_makes old new had has takes less = spent_by old.made new.made had has takes.blank less

-- one that is made takes none
pub made_takes : (old new : PageValue) (had has : ℕ) → Takes old new had has → old.made ≡ true → has ≡ had
made_takes old new had has takes made =
    sym (takes.blank ∙ ap (λ (a : Bool). cond (not a && new.made) (has + 1) has) made)
