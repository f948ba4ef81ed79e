-- A device among several.
use Rattle.std.proofs.Common.{◌≡◌, ℕ, zero, suc, ◌≤◌, refl, sym, ap, ◌∙◌, arith, List, [], ◌∷◌, length, Option, Some, None, option_map, map, slice_get, slice_set}
use Rattle.std.proofs.lemmas.Option.{slice_get-map}
use Rattle.vm_types.specs.declared.reply.Reply.{Reply}
use Rattle.guest_devices.specs.declared.device.Device.{Device}
use Rattle.guest_devices.specs.Devices.{DeviceLeft, device_next, device_wants}
use Rattle.guest_devices.specs.Kept.{device_left, device_want, devices_given, devices_left}

none_at : {A : Type 0} (xs : List A) (k : ℕ) → length xs ≤ k → slice_get xs k ≡ None
none_at [] k behind = refl
none_at (x ∷ xs) zero behind = absurd (omega (arith, behind))
none_at (x ∷ xs) (suc k) behind = none_at xs k (omega (arith, behind))

-- what one of them wants
pub some_wants : (devices : List Device) (k : ℕ) (d : Device) → slice_get devices k ≡ Some d
    → device_want (slice_get (devices_left devices) k) ≡ Some (device_wants (device_left d))
some_wants devices k d is =
    ap device_want (slice_get-map device_left devices k ∙ ap (λ (x : Option Device). option_map device_left x) is)

pub none_wants : (devices : List Device) (k : ℕ) → length devices ≤ k → device_want (slice_get (devices_left devices) k) ≡ None
none_wants devices k behind =
    ap device_want
    (slice_get-map device_left devices k ∙ ap (λ (x : Option Device). option_map device_left x) (none_at devices k behind))

set_map : {A B : Type 0} (f : A → B) (xs : List A) (k : ℕ) (x : A)
    → map f (slice_set xs k x) ≡ slice_set (map f xs) k (f x)
set_map f [] k x = refl
set_map f (y ∷ xs) zero x = refl
set_map {B = B} f (y ∷ xs) (suc k) x = ap (λ (l : List B). f y ∷ l) (set_map f xs k x)

-- a reply to one of them leaves the others
pub given : (devices : List Device) (k : ℕ) (device after : Device) (reply : Reply)
    → slice_get devices k ≡ Some device → device_left after ≡ device_next (device_left device) reply
    → devices_left (slice_set devices k after) ≡ devices_given (slice_get (devices_left devices) k) (devices_left devices) k reply
given devices k device after reply is next =
    let found : slice_get (devices_left devices) k ≡ Some (device_left device) =
    slice_get-map device_left devices k ∙ ap (λ (x : Option Device). option_map device_left x) is in
    set_map device_left devices k after
    ∙ ap (λ (left : DeviceLeft). slice_set (devices_left devices) k left) next
    ∙ ap (λ (x : Option DeviceLeft). devices_given x (devices_left devices) k reply) (sym found)
