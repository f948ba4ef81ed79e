-- A guest stays ready where what is configured has the same devices, and where a device of it is told of a change.
use Rattle.std.proofs.Common.{◌≡◌, ◌+◌, ◌*◌, ℕ, Bool, true, refl, sym, ap, subst, ◌∙◌, List, [], ◌∷◌, ◌++◌, length, map, Option, Some, None, slice_get, arith}
use Rattle.std.proofs.lemmas.List.{length-map, map-append}
use Rattle.std.specs.FinMap.{get}
use Rattle.vm_types.specs.Saved.{Saved}
use Rattle.api_calls.specs.declared.balloon.Balloon.{Balloon}
use Rattle.api_calls.specs.declared.balloon.BalloonPatch.{BalloonPatch}
use Rattle.api_calls.specs.declared.balloon.StatisticsPatch.{StatisticsPatch}
use Rattle.api_calls.specs.declared.call.BootSource.{BootSource}
use Rattle.api_calls.specs.declared.call.Drive.{Drive}
use Rattle.api_calls.specs.declared.call.DrivePatch.{DrivePatch}
use Rattle.api_calls.specs.declared.call.MachineConfig.{MachineConfig}
use Rattle.api_calls.specs.declared.entropy.Entropy.{Entropy}
use Rattle.api_calls.specs.declared.interface.Interface.{Interface}
use Rattle.api_calls.specs.declared.interface.InterfacePatch.{InterfacePatch}
use Rattle.api_calls.specs.declared.limiter.Limiter.{Limiter}
use Rattle.api_calls.specs.declared.vsock.Vsock.{Vsock}
use Rattle.vm_config.specs.declared.config.Config.{Config}
use Rattle.api_calls.specs.declared.call.ApiCall.TheVariants as call
use Rattle.vm_config.specs.Changes.{with_amount, with_interval}
use Rattle.api_rules.specs.Table.{changed}
use Rattle.vm_config.specs.Devices.{Configured, balloon_count, balloon_devices, device_count, devices_in, devices_of, entropy_count, entropy_devices, lone_devices, of_balloon, of_drive, of_entropy, of_interface, of_vsock, vsock_count}
use Rattle.vm_config.specs.Drives.{in_order}
use Rattle.vm_config.proofs.DeviceLemmas.{counted, length-ordered}
use Rattle.port_table.specs.declared.kind.DeviceKind.{DeviceKind}
use Rattle.port_table.specs.declared.kind.DeviceKind.TheVariants as numbers
use Rattle.port_table.specs.declared.state.PortState.{PortState}
use Rattle.guest_devices.specs.declared.change.DeviceChange.{DeviceChange}
use Rattle.guest_devices.specs.Kinds.{sectors_change}
use Rattle.guest_devices.specs.Moments.{IsGivenChange}
use Rattle.flat_guest.specs.Changes.{told}
use Rattle.flat_guest.specs.Guest.{Guest}
use Rattle.flat_guest.specs.Shaped.{IsShaped, kinds_at_start}
use Rattle.flat_guest.proofs.Devices.{told_many}
use Rattle.flat_guest.proofs.Shaped.{shaped_told}
use Rattle.flat_guest.proofs.Soundness.{sound_told}
use Rattle.snap_state.specs.Valid.{is_source, kind_configured, kinds_of}
use Rattle.flat_snapshot.specs.Copies.{configuration_of, source_of}
use Rattle.flat_machine.specs.Balloon.{interval_told, target_in}
use Rattle.flat_machine.specs.Ready.{IsReadyGuest, IsTaken, ReadyBy}
use Rattle.flat_machine.specs.Requests.{device_from, devices_from, relimited, resized, retargeted, retimed, sectors_of, shows_by, told_at}
use Rattle.flat_machine.proofs.Drives.{length-patched}
use Rattle.flat_machine.proofs.Interfaces.{many_patched}
use Rattle.flat_machine.proofs.Sizes.{few_sectors}

-- ---- the kinds of devices

-- as many things of one kind have the same kinds
things_alike : {A : Type 0} (of : A → Configured) (kind : DeviceKind) → ((a : A) → kind_configured (of a) ≡ kind) → (things others : List A)
    (rest more : List Configured) → length things ≡ length others → map kind_configured rest ≡ map kind_configured more
    → map kind_configured (map of things ++ rest) ≡ map kind_configured (map of others ++ more)
things_alike of kind is [] [] rest more many alike = alike
things_alike of kind is [] (b ∷ others) rest more many alike = absurd (omega (arith, many))
things_alike of kind is (a ∷ things) [] rest more many alike = absurd (omega (arith, many))
things_alike of kind is (a ∷ things) (b ∷ others) rest more many alike =
    ap (λ (k : DeviceKind). k ∷ map kind_configured (map of things ++ rest)) (is a ∙ sym (is b))
    ∙ ap (λ (l : List DeviceKind). kind_configured (of b) ∷ l) (things_alike of kind is things others rest more (omega (arith, many)) alike)

kinds_alike : (drives others : List Drive) (interfaces links : List Interface) (vsock : Option Vsock) (balloon : Option Balloon)
    (entropy : Option Entropy) (other : Option Balloon) → length drives ≡ length others → length interfaces ≡ length links
    → map kind_configured (balloon_devices balloon) ≡ map kind_configured (balloon_devices other)
    → map kind_configured (devices_in drives interfaces vsock balloon entropy) ≡ map kind_configured (devices_in others links vsock other entropy)
kinds_alike drives others interfaces links vsock balloon entropy other many linked alike =
    let own = length-ordered drives in
    let new = length-ordered others in
    let before : List Configured = lone_devices vsock balloon entropy in
    let after : List Configured = lone_devices vsock other entropy in
    things_alike of_drive numbers.Block (λ d. refl) (in_order drives) (in_order others) (map of_interface interfaces ++ before)
    (map of_interface links ++ after) (omega (arith, many, own, new))
    (things_alike of_interface numbers.Net (λ i. refl) interfaces links before after linked (by_vsock vsock))
  where
    behind : map kind_configured (balloon_devices balloon ++ entropy_devices entropy) ≡ map kind_configured (balloon_devices other ++ entropy_devices entropy)
    behind =
        map-append kind_configured (balloon_devices balloon) (entropy_devices entropy)
        ∙ ap (λ (l : List DeviceKind). l ++ map kind_configured (entropy_devices entropy)) alike
        ∙ sym (map-append kind_configured (balloon_devices other) (entropy_devices entropy))

    by_vsock : (v : Option Vsock) → map kind_configured (lone_devices v balloon entropy) ≡ map kind_configured (lone_devices v other entropy)
    by_vsock None = behind
    by_vsock (Some v) = ap (λ (l : List DeviceKind). numbers.Vsock ∷ l) behind

-- a balloon of another amount or interval is as good as it was
amount_alike : (patch : BalloonPatch) (balloon : Option Balloon)
    → map kind_configured (balloon_devices balloon) ≡ map kind_configured (balloon_devices (with_amount patch balloon))
amount_alike patch None = refl
amount_alike patch (Some b) = refl

amount_count : (patch : BalloonPatch) (balloon : Option Balloon) → balloon_count balloon ≡ balloon_count (with_amount patch balloon)
amount_count patch None = refl
amount_count patch (Some b) = refl

interval_alike : (patch : StatisticsPatch) (balloon : Option Balloon)
    → map kind_configured (balloon_devices balloon) ≡ map kind_configured (balloon_devices (with_interval patch balloon))
interval_alike patch None = refl
interval_alike patch (Some b) = refl

interval_count : (patch : StatisticsPatch) (balloon : Option Balloon) → balloon_count balloon ≡ balloon_count (with_interval patch balloon)
interval_count patch None = refl
interval_count patch (Some b) = refl

-- what a start makes of them
from_kinds : (configured : List Configured) (saved : Saved) → kinds_at_start (map (device_from saved) configured) ≡ map kind_configured configured
from_kinds [] saved = refl
from_kinds (of_drive d ∷ others) saved = ap (λ (l : List DeviceKind). numbers.Block ∷ l) (from_kinds others saved)
from_kinds (of_interface i ∷ others) saved = ap (λ (l : List DeviceKind). numbers.Net ∷ l) (from_kinds others saved)
from_kinds (of_vsock v ∷ others) saved = ap (λ (l : List DeviceKind). numbers.Vsock ∷ l) (from_kinds others saved)
from_kinds (of_balloon b ∷ others) saved = ap (λ (l : List DeviceKind). numbers.Balloon ∷ l) (from_kinds others saved)
from_kinds (of_entropy e ∷ others) saved = ap (λ (l : List DeviceKind). numbers.Entropy ∷ l) (from_kinds others saved)

pub start_kinds : (config : Config) (saved : Saved) → kinds_at_start (devices_from config saved) ≡ kinds_of (configuration_of config) config.entropy
start_kinds config saved = from_kinds (devices_of config) saved

pub start_many : (config : Config) (saved : Saved) → length (devices_from config saved) ≡ device_count config
start_many config saved = length-map (devices_of config) (device_from saved) ∙ counted config

-- ---- a guest of which something else is configured

module _ (config after : Config) (paused : Bool) (taken : IsTaken after) (source : after.boot_source ≡ config.boot_source)
    (machine : after.machine ≡ config.machine) (kinds : kinds_of (configuration_of config) config.entropy ≡ kinds_of (configuration_of after) after.entropy)
    (count : device_count config ≡ device_count after) where
  same_shape : (g : Guest)
      → IsShaped (256 * config.machine.mem_size_mib) config.machine.vcpu_count (kinds_of (configuration_of config) config.entropy) g
      → IsShaped (256 * after.machine.mem_size_mib) after.machine.vcpu_count (kinds_of (configuration_of after) after.entropy) g
  same_shape g shaped =
      subst (λ (m : MachineConfig). IsShaped (256 * m.mem_size_mib) m.vcpu_count (kinds_of (configuration_of after) after.entropy) g) (sym machine)
      (subst (λ (k : List DeviceKind). IsShaped (256 * config.machine.mem_size_mib) config.machine.vcpu_count k g) kinds shaped)

  reconfigured : (guest : Option Guest) → ReadyBy config paused guest → ReadyBy after paused guest
  reconfigured None is = tt
  reconfigured (Some g) is = record {
    sound = is.sound;
    ready = record {
      configured = record {
        source =
            subst (λ (s : Option BootSource). is_source (source_of s) ≡ true) (sym source) is.ready.configured.source;
        drives = taken.drives;
        interfaces = taken.interfaces;
        vsock = taken.vsock;
        mmds = taken.mmds;
        machine = taken.machine;
        balloon = taken.balloon;
        entropy = taken.entropy;
        room = taken.room;
      };
      shaped = same_shape g is.ready.shaped;
      devices = is.ready.devices ∙ count;
    };
    rests = is.rests;
  }

-- by a PATCH of a drive, of the balloon, and of the interval of its reports
pub drive_patched : (config : Config) (patch : DrivePatch) (paused : Bool) (guest : Option Guest) → IsTaken (changed config (call.PatchDrive patch))
    → ReadyBy config paused guest → ReadyBy (changed config (call.PatchDrive patch)) paused guest
drive_patched config patch paused guest taken is =
    let after : Config = changed config (call.PatchDrive patch) in
    let many = length-patched patch config.drives in
    let kinds = kinds_alike config.drives after.drives config.interfaces config.interfaces config.vsock config.balloon config.entropy config.balloon (sym many) refl refl in
    let count = ap (λ (n : ℕ). n + length config.interfaces + vsock_count config.vsock + balloon_count config.balloon + entropy_count config.entropy) (sym many) in
    reconfigured config after paused taken refl refl kinds count guest is

pub interface_patched : (config : Config) (patch : InterfacePatch) (paused : Bool) (guest : Option Guest)
    → IsTaken (changed config (call.PatchInterface patch)) → ReadyBy config paused guest
    → ReadyBy (changed config (call.PatchInterface patch)) paused guest
interface_patched config patch paused guest taken is =
    let after : Config = changed config (call.PatchInterface patch) in
    let many = many_patched patch config.interfaces in
    let kinds = kinds_alike config.drives config.drives config.interfaces after.interfaces config.vsock config.balloon config.entropy config.balloon refl (sym many) refl in
    let count = ap (λ (n : ℕ). length config.drives + n + vsock_count config.vsock + balloon_count config.balloon + entropy_count config.entropy) (sym many) in
    reconfigured config after paused taken refl refl kinds count guest is

pub amount_patched : (config : Config) (patch : BalloonPatch) (paused : Bool) (guest : Option Guest) → IsTaken (changed config (call.PatchBalloon patch))
    → ReadyBy config paused guest → ReadyBy (changed config (call.PatchBalloon patch)) paused guest
amount_patched config patch paused guest taken is =
    let after : Config = changed config (call.PatchBalloon patch) in
    let kinds = kinds_alike config.drives config.drives config.interfaces config.interfaces config.vsock config.balloon config.entropy after.balloon refl refl (amount_alike patch config.balloon) in
    let count = ap (λ (n : ℕ). length config.drives + length config.interfaces + vsock_count config.vsock + n + entropy_count config.entropy) (amount_count patch config.balloon) in
    reconfigured config after paused taken refl refl kinds count guest is

pub interval_patched : (config : Config) (patch : StatisticsPatch) (paused : Bool) (guest : Option Guest)
    → IsTaken (changed config (call.PatchStatistics patch)) → ReadyBy config paused guest
    → ReadyBy (changed config (call.PatchStatistics patch)) paused guest
interval_patched config patch paused guest taken is =
    let after : Config = changed config (call.PatchStatistics patch) in
    let kinds = kinds_alike config.drives config.drives config.interfaces config.interfaces config.vsock config.balloon config.entropy after.balloon refl refl (interval_alike patch config.balloon) in
    let count = ap (λ (n : ℕ). length config.drives + length config.interfaces + vsock_count config.vsock + n + entropy_count config.entropy) (interval_count patch config.balloon) in
    reconfigured config after paused taken refl refl kinds count guest is

-- ---- a device is told of a change

module _ (config : Config) (paused : Bool) where
  pub told_ready : (g : Guest) (k : ℕ) (change : DeviceChange) (shown : Option (List ℕ)) → IsGivenChange change → IsReadyGuest config paused g
      → IsReadyGuest config paused (told k change shown g)
  told_ready g k change shown given is = record {
    sound = sound_told g k change shown given.0 is.sound;
    ready = record {
      configured = is.ready.configured;
      shaped = shaped_told _ _ _ g k change shown given.1 is.ready.shaped;
      devices = told_many (slice_get g.devices k) g.devices k change ∙ is.ready.devices;
    };
    rests = is.rests;
  }

  pub at_ready : (number : Option ℕ) (change : DeviceChange) (shows : Option PortState → Option (List ℕ)) (guest : Option Guest)
      → IsGivenChange change → ReadyBy config paused guest → ReadyBy config paused (told_at number change shows guest)
  at_ready (Some k) change shows (Some g) given is = told_ready g k change (shows (slice_get g.ports k)) given is
  at_ready (Some k) change shows None fits is = tt
  at_ready None change shows (Some g) fits is = is
  at_ready None change shows None fits is = tt

  pub resized_ready : (path : Option (List ℕ)) (number : Option ℕ) (saved : Saved) (guest : Option Guest) → ReadyBy config paused guest
      → ReadyBy config paused (resized path number saved guest)
  resized_ready None number saved guest is = is
  resized_ready (Some path) number saved guest is =
      let change : DeviceChange = sectors_change (sectors_of (get saved path)) in
      at_ready number change (shows_by change) guest (few_sectors (get saved path), refl) is

  pub relimited_ready : (tells : Limiter → DeviceChange) → ((l : Limiter) → IsGivenChange (tells l)) → (limiter : Option Limiter)
      (number : Option ℕ) (guest : Option Guest) → ReadyBy config paused guest → ReadyBy config paused (relimited tells limiter number guest)
  relimited_ready tells fits None number guest is = is
  relimited_ready tells fits (Some l) number guest is = at_ready number (tells l) (shows_by (tells l)) guest (fits l) is

  pub retargeted_ready : (balloon : Option Balloon) (number : Option ℕ) (guest : Option Guest) → ReadyBy config paused guest
      → ReadyBy config paused (retargeted balloon number guest)
  retargeted_ready None number guest is = is
  retargeted_ready (Some b) number guest is = at_ready number (interval_told b) (target_in b) guest (tt, refl) is

  pub retimed_ready : (balloon : Option Balloon) (number : Option ℕ) (guest : Option Guest) → ReadyBy config paused guest
      → ReadyBy config paused (retimed balloon number guest)
  retimed_ready None number guest is = is
  retimed_ready (Some b) number guest is = at_ready number (interval_told b) (shows_by (interval_told b)) guest (tt, refl) is
