-- The devices of interfaces: what they start with, and their numbers.
use Rattle.std.proofs.Common.{◌≡◌, ◌≤◌, ◌<◌, ℕ, zero, suc, true, refl, sym, ap, subst, ◌∙◌, List, [], ◌∷◌, ◌++◌, append_assoc, length, map, Option, Some, get_or, slice_get, arith}
use Rattle.std.specs.List.{list_all}
use Rattle.std.proofs.lemmas.Bool.{and_parts}
use Rattle.std.proofs.lemmas.List.{append-nil}
use Rattle.api_calls.specs.declared.balloon.Balloon.{Balloon}
use Rattle.api_calls.specs.declared.entropy.Entropy.{Entropy}
use Rattle.api_calls.specs.declared.interface.Interface.{Interface}
use Rattle.api_calls.specs.declared.vsock.Vsock.{Vsock}
use Rattle.api_calls.specs.Form.{holds}
use Rattle.api_calls.specs.Limits.{is_limiter}
use Rattle.vm_config.specs.declared.config.Config.{Config}
use Rattle.vm_config.specs.Devices.{devices_of, interface_device, of_interface}
use Rattle.vm_config.specs.Interfaces.{id_of_interface}
use Rattle.vm_config.specs.Named.{are_apart}
use Rattle.vm_config.proofs.DeviceLemmas.{counted, interface_at}
use Rattle.guest_devices.specs.declared.new_device.NewDevice.{NewDevice}
use Rattle.snap_state.specs.Valid.{is_entropy, is_interface}
use Rattle.flat_machine.specs.Ready.{IsTaken}
use Rattle.flat_machine.proofs.Taken.{bounded}
use Rattle.monitor_plans.specs.Starting.{net_start, with_balloon, with_entropy, with_others, with_vsock}

-- ---- an address

-- there is no byte behind the last
pub get_past : (text : List ℕ) (at : ℕ) → length text ≤ at → get_or text at 0 ≡ 0
get_past [] at past = refl
get_past (b ∷ text) zero past = absurd (omega (arith, past))
get_past (b ∷ text) (suc at) past = get_past text at (omega (arith, past))

-- ---- limits of an interface

pub receives_holds : (i : Interface) → is_interface i ≡ true → holds is_limiter i.rx_rate_limiter ≡ true
receives_holds i is =
    let first = and_parts _ (holds is_limiter i.tx_rate_limiter) is in
    (and_parts _ (holds is_limiter i.rx_rate_limiter) first.0).1

pub transmits_holds : (i : Interface) → is_interface i ≡ true → holds is_limiter i.tx_rate_limiter ≡ true
transmits_holds i is = (and_parts _ (holds is_limiter i.tx_rate_limiter) is).1

-- ---- interfaces one by one

pub interfaces_taken : (config : Config) (interfaces : List Interface) → interfaces ≡ config.interfaces → IsTaken config
    → list_all is_interface interfaces ≡ true
interfaces_taken config interfaces same taken =
    ap (λ (l : List Interface). list_all is_interface l) same
    ∙ (and_parts (list_all is_interface config.interfaces) (are_apart id_of_interface config.interfaces) taken.interfaces).0

pub first_interface : (first : Interface) (others : List Interface) → list_all is_interface (first ∷ others) ≡ true
    → is_interface first ≡ true
first_interface first others all = (and_parts (is_interface first) (list_all is_interface others) all).0

pub other_interfaces : (first : Interface) (others : List Interface) → list_all is_interface (first ∷ others) ≡ true
    → list_all is_interface others ≡ true
other_interfaces first others all = (and_parts (is_interface first) (list_all is_interface others) all).1

pub none_pushed : (devices : List NewDevice) → devices ≡ devices ++ []
none_pushed devices = sym (append-nil devices)

pub one_pushed : (old mid new : List NewDevice) (first : Interface) (others : List Interface) → mid ≡ old ++ net_start first ∷ []
    → new ≡ mid ++ map net_start others → new ≡ old ++ map net_start (first ∷ others)
one_pushed old mid new first others put more =
    more ∙ ap (λ (l : List NewDevice). l ++ map net_start others) put ∙ append_assoc old (net_start first ∷ []) (map net_start others)

pub entropy_taken : (config : Config) (e : Entropy) → config.entropy ≡ Some e → IsTaken config → is_entropy e ≡ true
entropy_taken config e there taken = subst (λ (o : Option Entropy). holds is_entropy o ≡ true) there taken.entropy

pub others_with : (found linked socketed inflated all : List NewDevice) (interfaces own : List Interface) (vsock : Option Vsock)
    (balloon : Option Balloon) (entropy : Option Entropy) → own ≡ interfaces → linked ≡ found ++ map net_start own
    → socketed ≡ with_vsock linked vsock → inflated ≡ with_balloon socketed balloon → all ≡ with_entropy inflated entropy
    → all ≡ with_others found interfaces vsock balloon entropy
others_with found linked socketed inflated all interfaces own vsock balloon entropy same put next more is =
    is ∙ ap (λ (l : List NewDevice). with_entropy l entropy) more
    ∙ ap (λ (l : List NewDevice). with_entropy (with_balloon l balloon) entropy) next
    ∙ ap (λ (l : List NewDevice). with_entropy (with_balloon (with_vsock l vsock) balloon) entropy) put
    ∙ ap (λ (l : List Interface). with_entropy (with_balloon (with_vsock (found ++ map net_start l) vsock) balloon) entropy) same

-- ---- numbers

pub there_below : {A : Type 0} (xs : List A) (k : ℕ) (x : A) → slice_get xs k ≡ Some x → k < length xs
there_below [] k x is = absurd cc
there_below (y ∷ xs) zero x is = omega arith
there_below (y ∷ xs) (suc k) x is = omega (arith, there_below xs k x is)

pub interface_below : (config : Config) (id : List ℕ) (n : ℕ) → IsTaken config → Some n ≡ interface_device config id → n < 256
interface_below config id n taken is =
    let at = interface_at config id n (sym is) in
    let below = there_below (devices_of config) n (of_interface at.0) at.1 in
    omega (arith, below, counted config, (bounded config taken).drives)
