-- The words of a device are drawn from those of a list.
use Rattle.std.proofs.Common.{◌≡◌, ◌≢◌, ◌<◌, ℕ, zero, suc, List, [], ◌∷◌, length, set, get_or, refl, sym, ◌∙◌, ap, subst, arith}
use Rattle.std.proofs.lemmas.List.{get_or-set_same, get_or-set_other}
use Rattle.vm_host.specs.Giving.{GivesWord, IsDrawn}
use Rattle.outside_mem.specs.Devices.{words_in}
use Rattle.outside_mem.specs.Listing.{listed}

other_default : (each : List (List ℕ)) (i : ℕ) (a b : List ℕ) → i < length each → get_or each i a ≡ get_or each i b
other_default [] i a b within = absurd (omega (arith, within))
other_default (x ∷ each) zero a b within = refl
other_default (x ∷ each) (suc i) a b within = other_default each i a b (omega (arith, within))

pub word_drawn : (each : List (List ℕ)) (i word : ℕ) (old new : List ℕ) → i < length each → old ≡ get_or each i old
    → IsDrawn (listed old) word (listed new) → GivesWord i word (words_in each) (words_in (set each i new))
word_drawn each i word old new within is drawn = record {
  here =
      let before : listed old ≡ words_in each i = ap listed (is ∙ other_default each i old [] within) in
      let after : words_in (set each i new) i ≡ listed new = ap listed (get_or-set_same each i new [] within) in
      subst (λ (left : ℕ → ℕ). IsDrawn left word (words_in (set each i new) i)) before
      (subst (λ (left : ℕ → ℕ). IsDrawn (listed old) word left) (sym after) drawn);
  others = λ other apart. ap listed (get_or-set_other each i other new [] apart);
}
