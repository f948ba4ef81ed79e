-- Interfaces of which one is put, or has other limits, stay as a state file has them.
use Rattle.std.proofs.Common.{◌≡◌, ◌≤◌, Bool, true, false, not, nat_le, ◌&&◌, if◌then◌else◌, refl, ◌∙◌, List, [], ◌∷◌, ◌++◌, length, Option, arith, length-append}
use Rattle.std.specs.List.{list_all}
use Rattle.std.proofs.lemmas.Bool.{and_from, and_parts, le-leb, leb-false, leb-true}
use Rattle.api_calls.specs.declared.balloon.Balloon.{Balloon}
use Rattle.api_calls.specs.declared.call.Drive.{Drive}
use Rattle.api_calls.specs.declared.entropy.Entropy.{Entropy}
use Rattle.api_calls.specs.declared.interface.Interface.{Interface}
use Rattle.api_calls.specs.declared.interface.InterfacePatch.{InterfacePatch}
use Rattle.api_calls.specs.declared.vsock.Vsock.{Vsock}
use Rattle.api_calls.specs.Form.{holds}
use Rattle.api_calls.specs.Limits.{is_limiter}
use Rattle.vm_config.specs.Devices.{count_in}
use Rattle.vm_config.specs.Interfaces.{has_interface, id_of_interface, patch_interface, patched_interface, put_interface}
use Rattle.vm_config.specs.Named.{are_apart, changed_in}
use Rattle.vm_config.proofs.Apart.{apart_changed, apart_put, each_changed, each_put, length-changed}
use Rattle.snap_state.specs.Valid.{are_interfaces, has_room, is_interface}
use Rattle.flat_machine.proofs.Drives.{limits_kept}

-- ---- other limits

interface_kept : (patch : InterfacePatch) (i : Interface) → holds is_limiter patch.rx_rate_limiter ≡ true
    → holds is_limiter patch.tx_rate_limiter ≡ true → is_interface i ≡ true → is_interface (patched_interface patch i) ≡ true
interface_kept patch i rx tx own =
    let p1 = and_parts _ (holds is_limiter i.tx_rate_limiter) own in
    let p0 = and_parts _ (holds is_limiter i.rx_rate_limiter) p1.0 in
    and_from _ _ (and_from _ _ p0.0 (limits_kept patch.rx_rate_limiter i.rx_rate_limiter rx p0.1))
    (limits_kept patch.tx_rate_limiter i.tx_rate_limiter tx p1.1)

pub limits_patched : (patch : InterfacePatch) (interfaces : List Interface) → are_interfaces interfaces ≡ true
    → holds is_limiter patch.rx_rate_limiter ≡ true → holds is_limiter patch.tx_rate_limiter ≡ true
    → are_interfaces (patch_interface interfaces patch) ≡ true
limits_patched patch interfaces are rx tx =
    let parts = and_parts (list_all is_interface interfaces) (are_apart id_of_interface interfaces) are in
    and_from _ _
    (each_changed id_of_interface is_interface patch.iface_id (patched_interface patch) (λ i own. interface_kept patch i rx tx own)
    interfaces parts.0)
    (apart_changed id_of_interface patch.iface_id (patched_interface patch) (λ i named. refl) interfaces ∙ parts.1)

-- as many interfaces, and so as many devices
pub many_patched : (patch : InterfacePatch) (interfaces : List Interface) → length (patch_interface interfaces patch) ≡ length interfaces
many_patched patch interfaces = length-changed id_of_interface patch.iface_id (patched_interface patch) interfaces

-- ---- an interface that is put

-- where there is room for one more, if it is one
count_put : (drives : List Drive) (interface : Interface) (interfaces : List Interface) (vsock : Option Vsock) (balloon : Option Balloon) (entropy : Option Entropy) (there : Bool)
    → has_room drives interfaces vsock balloon entropy ≡ true → (not there && nat_le 16 (count_in drives interfaces vsock balloon entropy)) ≡ false
    → count_in drives (if there then changed_in id_of_interface interface.iface_id (λ i. interface) interfaces else interfaces ++ interface ∷ []) vsock balloon entropy
    ≤ 16
count_put drives interface interfaces vsock balloon entropy true fits room =
    let many = length-changed id_of_interface interface.iface_id (λ i. interface) interfaces in
    omega (arith, many, leb-true (count_in drives interfaces vsock balloon entropy) 16 fits)
count_put drives interface interfaces vsock balloon entropy false fits room =
    let many = length-append interfaces (interface ∷ []) in
    let less = leb-false 16 (count_in drives interfaces vsock balloon entropy) room in
    omega (arith, many, less)

pub interface_put : (drives : List Drive) (interface : Interface) (interfaces : List Interface) (vsock : Option Vsock) (balloon : Option Balloon) (entropy : Option Entropy)
    → are_interfaces interfaces ≡ true → has_room drives interfaces vsock balloon entropy ≡ true → is_interface interface ≡ true
    → (not (has_interface interfaces interface.iface_id) && nat_le 16 (count_in drives interfaces vsock balloon entropy)) ≡ false
    → (are_interfaces (put_interface interfaces interface) ≡ true)
    × (has_room drives (put_interface interfaces interface) vsock balloon entropy ≡ true)
interface_put drives interface interfaces vsock balloon entropy are fits own room =
    let parts = and_parts (list_all is_interface interfaces) (are_apart id_of_interface interfaces) are in
    let count = count_put drives interface interfaces vsock balloon entropy (has_interface interfaces interface.iface_id) fits room in (
      and_from _ _ (each_put id_of_interface is_interface interfaces interface parts.0 own)
          (apart_put id_of_interface interfaces interface parts.1),
      le-leb (count_in drives (put_interface interfaces interface) vsock balloon entropy) 16 count,
    )
