-- The devices of a world are reset one after another.
use Rattle.std.proofs.Common.{◌≡◌, ◌≤◌, ◌<◌, ◌+◌, ℕ, zero, suc, refl, sym, subst, List, [], ◌∷◌, get_or, length, set, arith}
use Rattle.guest_devices.specs.declared.device.Device.{Device}
use Rattle.guest_devices.specs.Kept.{AreReset, IsReset}
use Rattle.vm_world.specs.Worlds.{IsWorldReset, WorldValue}

-- so many at the front are, and the others are as they were
abbrev pub AreResetTo : ℕ → List Device → List Device → Type 0
AreResetTo zero devices others = others ≡ devices
AreResetTo (suc k) [] others = others ≡ []
AreResetTo (suc k) (it ∷ devices) [] = ⊥
AreResetTo (suc k) (it ∷ devices) (now ∷ others) = IsReset it now × AreResetTo k devices others

one_reset : (k : ℕ) (devices others : List Device) (x now : Device) → k < length devices → AreResetTo k devices others
    → IsReset (get_or others k x) now → AreResetTo (suc k) devices (set others k now)
one_reset zero [] others x now lt are is = absurd (omega (arith, lt))
one_reset zero (it ∷ devices) others x now lt are is =
    subst (λ (o : List Device). AreResetTo 1 (it ∷ devices) (set o 0 now)) (sym are)
    (subst (λ (o : List Device). IsReset (get_or o 0 x) now) are is, refl)
one_reset (suc k) [] others x now lt are is = absurd (omega (arith, lt))
one_reset (suc k) (it ∷ devices) [] x now lt are is = absurd are
one_reset (suc k) (it ∷ devices) (other ∷ others) x now lt are is =
    (are.0, one_reset k devices others x now (omega (arith, lt)) are.1 is)

-- one device more
pub reset_more : (k : ℕ) (devices others : List Device) (x now : Device) → k < length devices → AreResetTo k devices others
    → IsReset (get_or others k x) now → AreResetTo (k + 1) devices (set others k now)
reset_more k devices others x now lt are is =
    let next : suc k ≡ k + 1 = omega arith in
    subst (λ (n : ℕ). AreResetTo n devices (set others k now)) next (one_reset k devices others x now lt are is)

-- and then all
pub all_reset : (k : ℕ) (devices others : List Device) → length devices ≤ k → AreResetTo k devices others → AreReset devices others
all_reset zero [] others long are = subst (λ (o : List Device). AreReset [] o) (sym are) tt
all_reset zero (it ∷ devices) others long are = absurd (omega (arith, long))
all_reset (suc k) [] others long are = subst (λ (o : List Device). AreReset [] o) (sym are) tt
all_reset (suc k) (it ∷ devices) [] long are = absurd are
all_reset (suc k) (it ∷ devices) (now ∷ others) long are =
    (are.0, all_reset k devices others (omega (arith, long)) are.1)

-- ---- a world with these devices

pub world_is : (old inside : WorldValue) (was others devices : List Device) → inside ≡ old → was ≡ inside.devices → devices ≡ others
    → AreReset was others → IsWorldReset old (record inside { devices = devices })
world_is old inside was others devices view same items are =
    subst (λ (v : WorldValue). IsWorldReset v (record inside { devices = devices })) view (
      subst (λ (d : List Device). AreReset inside.devices d) (sym items)
          (subst (λ (d : List Device). AreReset d others) same are),
      refl,
    )
