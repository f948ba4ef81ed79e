-- Devices as a start makes them, and one that is told of a change.
use Rattle.std.proofs.Common.{◌≡◌, ℕ, zero, suc, ◌+◌, ◌*◌, ◌<◌, refl, sym, ap, subst, ◌∙◌, List, [], ◌∷◌, ◌++◌, Option, Some, option_map, length, get_or, take, slice_get, slice_set, arith}
use Rattle.std.proofs.lemmas.List.{length-take-le, map-set, take_more}
use Rattle.std.proofs.lemmas.Option.{slice_get-map}
use Rattle.guest_memory.specs.Memory.{Memory}
use Rattle.guest_devices.specs.declared.change.DeviceChange.{DeviceChange}
use Rattle.guest_devices.specs.declared.device.Device.{Device}
use Rattle.guest_devices.specs.declared.new_device.NewDevice.{NewDevice}
use Rattle.guest_devices.specs.Devices.{DeviceLeads, DeviceLeft, FlatDevice, device_at, device_changed, new_left}
use Rattle.guest_devices.specs.Kept.{device_left, devices_left}
use Rattle.guest_devices.proofs.Follows.{at_start}
use Rattle.flat_guest.specs.Body.{lefts_told}
use Rattle.flat_guest.specs.Guest.{whole_pages}
use Rattle.flat_guest.specs.Start.{devices_at_start}
use Rattle.flat_guest.proofs.Lists.{some_is}
use Rattle.vm_world.specs.Starting.{lefts_at_start}

pub lefts_many : (pages n : ℕ) (all : List NewDevice)
    → length (lefts_at_start pages n all) ≡ length (devices_at_start pages n all)
lefts_many pages n [] = refl
lefts_many pages n (what ∷ others) = ap suc (lefts_many pages (suc n) others)

pub lefts_lead : (pages n : ℕ) (all : List NewDevice) (k : ℕ) (d : FlatDevice) (left : DeviceLeft)
    → slice_get (devices_at_start pages n all) k ≡ Some d → slice_get (lefts_at_start pages n all) k ≡ Some left
    → DeviceLeads d left
lefts_lead pages n [] k d left d_is left_is = cc
lefts_lead pages n (what ∷ others) zero d left d_is left_is =
    let new : DeviceLeft = new_left n pages what in
    let first : device_at new ≡ d = some_is (device_at new) d d_is in
    let second : new ≡ left = some_is new left left_is in
    subst (λ (e : FlatDevice). DeviceLeads e left) first
    (subst (λ (l : DeviceLeft). DeviceLeads (device_at new) l) second (at_start new))
lefts_lead pages n (what ∷ others) (suc k) d left d_is left_is =
    lefts_lead pages (suc n) others k d left d_is left_is

-- one more
lefts_more : (pages n : ℕ) (all : List NewDevice) (what : NewDevice)
    → lefts_at_start pages n (all ++ what ∷ []) ≡ lefts_at_start pages n all ++ new_left (n + length all) pages what ∷ []
lefts_more pages n [] what =
    let here : n ≡ n + 0 = omega arith in
    ap (λ (k : ℕ). new_left k pages what ∷ []) here
lefts_more pages n (first ∷ others) what =
    let next : suc n + length others ≡ n + suc (length others) = omega arith in
    ap (λ (l : List DeviceLeft). new_left n pages first ∷ l)
    (lefts_more pages (suc n) others what
    ∙ ap (λ (k : ℕ). lefts_at_start pages (suc n) others ++ new_left k pages what ∷ []) next)

left_last : (devices : List Device) (d : Device) → devices_left (devices ++ d ∷ []) ≡ devices_left devices ++ device_left d ∷ []
left_last [] d = refl
left_last (x ∷ devices) d = ap (λ (l : List DeviceLeft). device_left x ∷ l) (left_last devices d)

pub one_made : (pages k : ℕ) (devices : List Device) (all : List NewDevice) (device : Device) (none : NewDevice)
    → k < length all → devices_left devices ≡ lefts_at_start pages 0 (take k all)
    → device_left device ≡ new_left k pages (get_or all k none)
    → devices_left (devices ++ device ∷ []) ≡ lefts_at_start pages 0 (take (k + 1) all)
one_made pages k devices all device none below before is =
    let made : List NewDevice = take k all in
    let what : NewDevice = get_or all k none in
    let here : k ≡ 0 + length made = omega (arith, below, length-take-le k all (omega arith)) in
    left_last devices device
    ∙ (λ i. before i ++ is i ∷ [])
    ∙ ap (λ (n : ℕ). lefts_at_start pages 0 made ++ new_left n pages what ∷ []) here
    ∙ sym (lefts_more pages 0 made what)
    ∙ ap (λ (l : List NewDevice). lefts_at_start pages 0 l) (sym (take_more all k none below))

-- one of them is told of a change
pub one_told : (devices : List Device) (k : ℕ) (change : DeviceChange) (device after : Device) → slice_get devices k ≡ Some device
    → device_left after ≡ device_changed change (device_left device)
    → devices_left (slice_set devices k after) ≡ lefts_told (slice_get (devices_left devices) k) (devices_left devices) k change
one_told devices k change device after is told =
    let found : slice_get (devices_left devices) k ≡ Some (device_left device) =
    slice_get-map device_left devices k ∙ ap (λ (x : Option Device). option_map device_left x) is in
    map-set device_left devices k after
    ∙ ap (λ (left : DeviceLeft). slice_set (devices_left devices) k left) told
    ∙ ap (λ (x : Option DeviceLeft). lefts_told x (devices_left devices) k change) (sym found)

-- so many pages are all that memory has
pub all_pages : (m : Memory) (count : ℕ) → length m.bytes ≡ 4096 * count → count ≡ whole_pages m
all_pages m count long = omega (arith, long)
