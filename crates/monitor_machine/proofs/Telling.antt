-- What a balloon tells is what its guest's does, and a device that is told is told in both.
use Rattle.std.proofs.Common.{◌≡◌, ℕ, zero, suc, true, refl, sym, ap, subst, ◌∙◌, List, [], ◌∷◌, length, Option, Some, None, slice_get, arith}
use Rattle.std.specs.Prelude.{option_and_then, option_map}
use Rattle.std.proofs.lemmas.Bool.{and_parts}
use Rattle.std.proofs.lemmas.List.{length-map}
use Rattle.std.proofs.lemmas.Option.{slice_get-map}
use Rattle.api_calls.specs.declared.balloon.Balloon.{Balloon}
use Rattle.api_calls.specs.declared.limiter.Limiter.{Limiter}
use Rattle.api_calls.specs.declared.call.ApiCall.{ApiCall}
use Rattle.api_calls.specs.declared.call.ApiCall.TheVariants as call
use Rattle.vm_config.specs.declared.config.Config.{Config}
use Rattle.vm_config.specs.Changes.{with_amount, with_interval}
use Rattle.vm_config.specs.Devices.{balloon_device, interface_device}
use Rattle.vm_config.specs.Drives.{device_of}
use Rattle.device_trace.specs.Script.{data_of}
use Rattle.queue_device.specs.declared.phase.Phase.TheVariants as phase
use Rattle.queue_device.specs.Kept.{are_kept, is_place, work_of}
use Rattle.queue_device.specs.Left.{queued}
use Rattle.queue_device.proofs.KeptStays.{root_of}
use Rattle.port_table.specs.declared.state.PortState.{PortState}
use Rattle.balloon_device.specs.Port.{target_shown}
use Rattle.guest_devices.specs.declared.change.DeviceChange.{DeviceChange}
use Rattle.guest_devices.specs.declared.device.Device.{Device}
use Rattle.guest_devices.specs.declared.device.Device.TheVariants as device
use Rattle.guest_devices.specs.Devices.{DataOf, DeviceLeads, FlatDevice}
use Rattle.guest_devices.specs.Kept.{device_left, is_kept, is_sized, is_state_kept, kept_of}
use Rattle.guest_devices.specs.Kinds.{Balloon as BalloonKind, hand_of, is_work_of, service_of, times_of}
use Rattle.flat_guest.specs.Guest.{Guest}
use Rattle.flat_machine.specs.Balloon.{DeviceTells, TellsBalloon, interval_told, statistics_left, target_in, target_of}
use Rattle.flat_machine.specs.Limits.{limits_told, receives_told, transmits_told}
use Rattle.flat_machine.specs.Requests.{relimited, retargeted, retimed, shows_by, told_at}
use Rattle.vm_world.specs.Telling as world
use Rattle.vm_world.specs.Worlds.{IsWorld, WorldValue}
use Rattle.monitor_machine.specs.Live.{Live}
use Rattle.monitor_machine.specs.State.{IsGuestBy}
use Rattle.monitor_machine.specs.Telling.{Relimits, Retargets, Retimes, TellsChange, TellsDevice, TellsOwn, statistics_at, shown_of, statistics_in, told_by}

-- ---- the data at the root of what is left of a device are those that are kept

-- of a device whose data may be kept
device_root : (it : Device) → is_kept it ≡ true → data_of (device_left it).left ≡ queued (kept_of it).rounds (kept_of it).own
device_root it kept =
    let d = kept_of it in
    let state = and_parts (is_state_kept d) (is_sized d) kept in
    let works = and_parts _ (is_work_of d.kind (work_of d.phase) d.rounds.pages d.stage) state.0 in
    let place = and_parts (are_kept (service_of d.kind) (times_of d.kind) d.rounds) (is_place (times_of d.kind) d.phase d.rounds) works.0 in
    root_of (service_of d.kind) (times_of d.kind) (hand_of d.kind) d.phase d.rounds d.own d.stage place.1

-- what is told by it
left_tells : (it : Device) (p : PortState) → is_kept it ≡ true → told_by (Some p.config) (world.statistics_of it) ≡ statistics_left p (device_left it)
left_tells (device.Balloon b) p kept =
    ap (λ (d : DataOf BalloonKind). told_by (Some p.config) (Some d.own.statistics)) (sym (device_root (device.Balloon b) kept))
left_tells (device.Block b) p kept = refl
left_tells (device.Net n) p kept = refl
left_tells (device.Vsock v) p kept = refl
left_tells (device.Entropy e) p kept = refl

-- ---- what the balloon of a world tells is what the guest's does

-- of a device of the guest, and of the one that the world has at its number
both_tell : (d : Option FlatDevice) (it : Option Device) (p : Option PortState)
    → ((x : FlatDevice) (y : Device) → d ≡ Some x → it ≡ Some y → DeviceLeads x (device_left y))
    → ((y : Device) → it ≡ Some y → is_kept y ≡ true) → (d ≡ None → it ≡ None) → (it ≡ None → d ≡ None)
    → DeviceTells d p (told_by (shown_of p) (option_and_then world.statistics_of it))
both_tell (Some d) (Some it) (Some p) leads kept there back = (device_left it, leads d it refl refl, left_tells it p (kept it refl))
both_tell (Some d) (Some it) None leads kept there back = refl
both_tell (Some d) None p leads kept there back = absurd (let none : ◌≡◌ {A = Option FlatDevice} (Some d) None = back refl in cc)
both_tell None (Some it) p leads kept there back = absurd (let none : ◌≡◌ {A = Option Device} (Some it) None = there refl in cc)
both_tell None None (Some p) leads kept there back = refl
both_tell None None None leads kept there back = refl

-- lists of one length end at one number
none_too : {A B : Type 0} (xs : List A) (ys : List B) (k : ℕ) → length xs ≡ length ys → slice_get xs k ≡ None → slice_get ys k ≡ None
none_too xs [] k same none = refl
none_too [] (y ∷ ys) k same none = absurd (omega (arith, same))
none_too (x ∷ xs) (y ∷ ys) zero same none = absurd cc
none_too (x ∷ xs) (y ∷ ys) (suc k) same none = none_too xs ys k (omega (arith, same)) none

world_tells : (w : WorldValue) (g : Guest) (number : Option ℕ)
    → ((k : ℕ) (it : Device) → number ≡ Some k → slice_get w.devices k ≡ Some it → is_kept it ≡ true) → IsWorld w g
    → TellsBalloon (Some g) number (statistics_at number w)
world_tells w g None kept is = refl
world_tells w g (Some k) kept is =
    let many : length w.devices ≡ length g.devices = sym (length-map w.devices device_left) ∙ is.devices_are.count in
    subst (λ (ports : List PortState). DeviceTells (slice_get g.devices k) (slice_get ports k)
    (told_by (shown_of (slice_get w.ports k)) (option_and_then world.statistics_of (slice_get w.devices k)))) is.ports_are
    (both_tell (slice_get g.devices k) (slice_get w.devices k) (slice_get w.ports k)
    (λ x y there here. is.devices_are.each k x (device_left y) there
    (slice_get-map device_left w.devices k ∙ ap (option_map device_left) here))
    (λ y here. kept k y refl here) (none_too g.devices w.devices k (sym many)) (none_too w.devices g.devices k many))

pub live_tells : (live : Live)
    → ((w : WorldValue) (k : ℕ) (it : Device) → live.guest ≡ Some w → balloon_device live.config ≡ Some k → slice_get w.devices k ≡ Some it
    → is_kept it ≡ true) → TellsOwn live
live_tells live kept m own =
    subst (λ (c : Config). TellsBalloon m.guest (balloon_device c) (statistics_in live.config live.guest)) own.config_is
    (by_guest live.guest m.guest refl own.guest_is)
  where
    by_guest : (w : Option WorldValue) (g : Option Guest) → live.guest ≡ w → IsGuestBy w g
        → TellsBalloon g (balloon_device live.config) (statistics_in live.config w)
    by_guest None None there is = by_number (balloon_device live.config)
      where
        by_number : (k : Option ℕ) → TellsBalloon None k None
        by_number None = refl
        by_number (Some k) = refl
    by_guest (Some w) (Some g) there is = world_tells w g (balloon_device live.config) (λ k it numbered here. kept w k it there numbered here) is
    by_guest (Some w) None there is = absurd is
    by_guest None (Some g) there is = absurd is

-- ---- what a port shows

pub no_target : (b : Balloon) (o : Option PortState) → None ≡ option_map (λ (p : PortState). p.config) o → None ≡ target_in b o
no_target b None is = refl
no_target b (Some p) is = absurd cc

pub some_target : (b : Balloon) (o : Option PortState) (bytes shown : List ℕ) → Some bytes ≡ option_map (λ (p : PortState). p.config) o
    → ((p : PortState) → p.config ≡ bytes → shown ≡ target_shown (target_of b) p) → Some shown ≡ target_in b o
some_target b None bytes shown is made = absurd cc
some_target b (Some p) bytes shown is made =
    let same : p.config ≡ bytes = cc in ap (λ (l : List ℕ). Some l) (made p same)

-- ---- a device that is told, in both

pub tells_at : (number : Option ℕ) (change : DeviceChange) (shows : Option PortState → Option (List ℕ)) (w v : Option WorldValue) (g : Option Guest)
    → IsGuestBy w g → TellsDevice number change shows w v → IsGuestBy v (told_at number change shows g)
tells_at None change shows w v (Some g) is tells = subst (λ (o : Option WorldValue). IsGuestBy o (Some g)) (sym tells) is
tells_at None change shows w v None is tells = subst (λ (o : Option WorldValue). IsGuestBy o None) (sym tells) is
tells_at (Some k) change shows None v None is tells = subst (λ (o : Option WorldValue). IsGuestBy o None) (sym tells) tt
tells_at (Some k) change shows None v (Some g) is tells = absurd is
tells_at (Some k) change shows (Some w) v None is tells = absurd is
tells_at (Some k) change shows (Some w) None (Some g) is tells = absurd tells
tells_at (Some k) change shows (Some w) (Some v) (Some g) is tells = tells g is

pub relimits_at : (of : Limiter → DeviceChange) (limiter : Option Limiter) (number : Option ℕ) (w v : Option WorldValue) (g : Option Guest)
    → IsGuestBy w g → Relimits of limiter number w v → IsGuestBy v (relimited of limiter number g)
relimits_at of None number w v g is tells = subst (λ (o : Option WorldValue). IsGuestBy o g) (sym tells) is
relimits_at of (Some l) number w v g is tells = tells_at number (of l) (shows_by (of l)) w v g is tells

retargets_at : (balloon : Option Balloon) (number : Option ℕ) (w v : Option WorldValue) (g : Option Guest) → IsGuestBy w g
    → Retargets balloon number w v → IsGuestBy v (retargeted balloon number g)
retargets_at None number w v g is tells = subst (λ (o : Option WorldValue). IsGuestBy o g) (sym tells) is
retargets_at (Some b) number w v g is tells = tells_at number (interval_told b) (target_in b) w v g is tells

retimes_at : (balloon : Option Balloon) (number : Option ℕ) (w v : Option WorldValue) (g : Option Guest) → IsGuestBy w g
    → Retimes balloon number w v → IsGuestBy v (retimed balloon number g)
retimes_at None number w v g is tells = subst (λ (o : Option WorldValue). IsGuestBy o g) (sym tells) is
retimes_at (Some b) number w v g is tells = tells_at number (interval_told b) (shows_by (interval_told b)) w v g is tells

-- what a call that asks no file tells a guest
abbrev pub told_guest : ApiCall → Config → Option Guest → Option Guest
told_guest (call.PatchDrive patch) config g = relimited limits_told patch.rate_limiter (device_of config.drives patch.drive_id) g
told_guest (call.PatchInterface patch) config g =
    relimited transmits_told patch.tx_rate_limiter (interface_device config patch.iface_id)
    (relimited receives_told patch.rx_rate_limiter (interface_device config patch.iface_id) g)
told_guest (call.PatchBalloon patch) config g = retargeted (with_amount patch config.balloon) (balloon_device config) g
told_guest (call.PatchStatistics patch) config g = retimed (with_interval patch config.balloon) (balloon_device config) g
told_guest it config g = g

pub change_at : (it : ApiCall) (config : Config) (w v : Option WorldValue) (g : Option Guest) → IsGuestBy w g → TellsChange it config w v
    → IsGuestBy v (told_guest it config g)
change_at (call.PatchDrive patch) config w v g is tells =
    relimits_at limits_told patch.rate_limiter (device_of config.drives patch.drive_id) w v g is tells
change_at (call.PatchInterface patch) config w v g is (mid, receives, transmits) =
    let number = interface_device config patch.iface_id in
    relimits_at transmits_told patch.tx_rate_limiter number mid v (relimited receives_told patch.rx_rate_limiter number g)
    (relimits_at receives_told patch.rx_rate_limiter number w mid g is receives) transmits
change_at (call.PatchBalloon patch) config w v g is tells =
    retargets_at (with_amount patch config.balloon) (balloon_device config) w v g is tells
change_at (call.PatchStatistics patch) config w v g is tells =
    retimes_at (with_interval patch config.balloon) (balloon_device config) w v g is tells
change_at it config w v g is tells = subst (λ (o : Option WorldValue). IsGuestBy o g) (sym tells) is
