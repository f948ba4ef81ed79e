-- Pools that are filled one after another of a world's spare pages.
use Rattle.std.proofs.Common.{◌≡◌, ℕ, suc, ◌+◌, ◌-◌, ◌*◌, ◌<◌, ◌≤◌, sym, ap, ◌∙◌, arith}
use Rattle.vm_world.specs.Worlds.{IsSameButSpare, WorldValue}

-- ---- a world but for its spare pages

pub same_again : (a b c : WorldValue) → IsSameButSpare a b → IsSameButSpare b c → IsSameButSpare a c
same_again a b c first second = second ∙ ap (λ (w : WorldValue). record w { spare = c.spare }) first

pub spare_alone : (a b : WorldValue) (k : ℕ) → b ≡ record a { spare = k } → IsSameButSpare a b
spare_alone a b k is = is ∙ ap (λ (n : ℕ). record a { spare = n }) (sym (ap (λ (w : WorldValue). w.spare) is))

pub same_whole : (a b : WorldValue) → b ≡ a → IsSameButSpare a b
same_whole a b is = is ∙ ap (λ (n : ℕ). record a { spare = n }) (sym (ap (λ (w : WorldValue). w.spare) is))

-- ---- there are enough of them for those that have none yet

one_more : (k n : ℕ) → suc k * n ≡ n + k * n
one_more k n = omega arith

module _ (actors i blanks had : ℕ) (lt : i < actors) (enough : (actors - i) * blanks ≤ had) where
  abbrev left : ℕ
  left = actors - suc i

  split : (actors - i) * blanks ≡ blanks + left * blanks
  split =
      let is : actors - i ≡ suc left = omega (arith, lt) in
      ap (λ (n : ℕ). n * blanks) is ∙ one_more left blanks

  pub for_one : blanks ≤ had
  for_one = omega (arith, split, enough)

  pub for_others : (has : ℕ) → has + blanks ≡ had → (actors - (i + 1)) * blanks ≤ has
  for_others has took =
      let is : actors - (i + 1) ≡ left = omega arith in
      let same = ap (λ (n : ℕ). n * blanks) is in
      omega (arith, split, enough, took, same)
