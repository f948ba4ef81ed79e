-- The devices of a copy are kept one after another, each as it is behind a Reset.
use Rattle.std.proofs.Common.{◌≡◌, ◌<◌, ◌+◌, ℕ, sym, ap, subst, List, [], ◌∷◌, ◌++◌, get_or, length, take}
use Rattle.std.proofs.lemmas.List.{take_more}
use Rattle.guest_devices.specs.declared.device.Device.{Device}
use Rattle.guest_devices.specs.Kept.{AreReset, IsReset}

behind : (devices kept : List Device) (it now : Device) → AreReset devices kept → IsReset it now
    → AreReset (devices ++ it ∷ []) (kept ++ now ∷ [])
behind [] [] it now are is = (is, tt)
behind [] (k ∷ kept) it now are is = absurd are
behind (d ∷ devices) [] it now are is = absurd are
behind (d ∷ devices) (k ∷ kept) it now are is = (are.0, behind devices kept it now are.1 is)

pub one_more : (devices : List Device) (k : ℕ) (it now : Device) (kept after : List Device) → k < length devices
    → it ≡ get_or devices k it → AreReset (take k devices) kept → IsReset it now → after ≡ kept ++ now ∷ []
    → AreReset (take (k + 1) devices) after
one_more devices k it now kept after lt here are is put =
    let front = take_more devices k it lt in
    let there = ap (λ (d : Device). take k devices ++ d ∷ []) here in
    subst (λ (l : List Device). AreReset l after) (sym front)
    (subst (λ (l : List Device). AreReset l after) there
    (subst (λ (l : List Device). AreReset (take k devices ++ it ∷ []) l) (sym put) (behind (take k devices) kept it now are is)))
