-- The devices that a start makes: the interfaces behind the drives, then the vsock device, the balloon, and the entropy device last.
use Rattle.std.proofs.Common.{◌≡◌, ◌≤◌, ◌<◌, ◌^◌, ◌+◌, ℕ, true, refl, sym, ap, subst, List, [], ◌∷◌, ◌++◌, length, map, Option, Some, None, ◌∙◌, get_or, arith}
use Rattle.std.specs.Prelude.{All, nat_le, nat_lt}
use Rattle.std.proofs.lemmas.Bool.{and_from, and_parts, leb-true, ltb-true}
use Rattle.std.proofs.lemmas.List.{length-append, length-map}
use Rattle.std.proofs.lemmas.List.Elements.{All-append, All-cons, All-head, All-nil, All-tail}
use Rattle.vm_types.specs.Saved.{Saved}
use Rattle.api_calls.specs.declared.balloon.Balloon.{Balloon}
use Rattle.api_calls.specs.declared.balloon.BalloonPatch.{BalloonPatch}
use Rattle.api_calls.specs.declared.balloon.StatisticsPatch.{StatisticsPatch}
use Rattle.api_calls.specs.declared.call.Drive.{Drive}
use Rattle.api_calls.specs.declared.entropy.Entropy.{Entropy}
use Rattle.api_calls.specs.declared.interface.Interface.{Interface}
use Rattle.api_calls.specs.declared.vsock.Vsock.{Vsock}
use Rattle.api_calls.specs.Form.{holds}
use Rattle.vm_config.specs.declared.config.Config.{Config}
use Rattle.vm_config.specs.Changes.{with_amount, with_interval}
use Rattle.vm_config.specs.Devices.{balloon_count, balloon_device, devices_in, devices_of, entropy_count, lone_devices, of_balloon, of_drive, of_interface, vsock_count}
use Rattle.vm_config.specs.Drives.{in_order}
use Rattle.vm_config.proofs.DeviceLemmas.{balloon_at, counted, length-ordered}
use Rattle.port_table.specs.declared.kind.DeviceKind.{DeviceKind}
use Rattle.port_table.specs.declared.kind.DeviceKind.TheVariants as numbers
use Rattle.guest_devices.specs.declared.new_device.NewDevice.{NewDevice}
use Rattle.guest_devices.specs.declared.new_device.NewDevice.TheVariants as starts
use Rattle.guest_devices.specs.Moments.{IsGivenNew, are_before}
use Rattle.guest_devices.specs.Ports.{port_at_start}
use Rattle.flat_guest.specs.Shaped.{kinds_at_start}
use Rattle.snap_state.specs.Valid.{is_balloon, kind_configured}
use Rattle.flat_machine.specs.Balloon.{new_balloon}
use Rattle.flat_machine.specs.Entropy.{new_entropy}
use Rattle.flat_machine.specs.Limits.{limits_of}
use Rattle.flat_machine.specs.Vsock.{new_vsock}
use Rattle.flat_machine.specs.Ready.{IsTaken}
use Rattle.flat_machine.specs.Requests.{device_from, drive_from}
use Rattle.flat_machine.proofs.Fresh.{limits_fresh}
use Rattle.flat_machine.proofs.Taken.{bounded}
use Rattle.monitor_plans.specs.Starting.{FitsDrive, net_start, with_balloon, with_entropy, with_others, with_vsock}
use Rattle.monitor_plans.proofs.NetsMade.{there_below}

-- ---- a balloon that is configured

taken_balloon : (config : Config) (b : Balloon) → IsTaken config → config.balloon ≡ Some b → is_balloon config.machine.mem_size_mib b ≡ true
taken_balloon config b taken there =
    subst (λ (o : Option Balloon). holds (is_balloon config.machine.mem_size_mib) o ≡ true) there taken.balloon

pub balloon_few : (config : Config) (b : Balloon) → IsTaken config → config.balloon ≡ Some b → b.amount_mib ≤ 4096
balloon_few config b taken there =
    let mib : ℕ = config.machine.mem_size_mib in
    let parts = and_parts (nat_le b.amount_mib mib) (nat_lt b.stats_polling_interval_s (2 ^ 16)) (taken_balloon config b taken there) in
    let most = (bounded config taken).mib in
    omega (arith, most, leb-true b.amount_mib mib parts.0)

pub balloon_near : (config : Config) (b : Balloon) → IsTaken config → config.balloon ≡ Some b → b.stats_polling_interval_s < 2 ^ 16
balloon_near config b taken there =
    let mib : ℕ = config.machine.mem_size_mib in
    let parts = and_parts (nat_le b.amount_mib mib) (nat_lt b.stats_polling_interval_s (2 ^ 16)) (taken_balloon config b taken there) in
    ltb-true b.stats_polling_interval_s (2 ^ 16) parts.1

-- ---- which devices they are

-- those of which there is one at most
abbrev with_lone : List NewDevice → Option Vsock → Option Balloon → Option Entropy → List NewDevice
with_lone front vsock balloon entropy = with_entropy (with_balloon (with_vsock front vsock) balloon) entropy

-- what stands in front stays there
in_front : (it : NewDevice) (front : List NewDevice) (vsock : Option Vsock) (balloon : Option Balloon) (entropy : Option Entropy)
    → with_lone (it ∷ front) vsock balloon entropy ≡ it ∷ with_lone front vsock balloon entropy
in_front it front None None None = refl
in_front it front None None (Some e) = refl
in_front it front None (Some b) None = refl
in_front it front None (Some b) (Some e) = refl
in_front it front (Some v) None None = refl
in_front it front (Some v) None (Some e) = refl
in_front it front (Some v) (Some b) None = refl
in_front it front (Some v) (Some b) (Some e) = refl

nets_made : (interfaces : List Interface) (vsock : Option Vsock) (balloon : Option Balloon) (entropy : Option Entropy) (saved : Saved)
    → with_lone (map net_start interfaces) vsock balloon entropy
    ≡ map (device_from saved) (map of_interface interfaces ++ lone_devices vsock balloon entropy)
nets_made [] None None None saved = refl
nets_made [] None None (Some e) saved = refl
nets_made [] None (Some b) None saved = refl
nets_made [] None (Some b) (Some e) saved = refl
nets_made [] (Some v) None None saved = refl
nets_made [] (Some v) None (Some e) saved = refl
nets_made [] (Some v) (Some b) None saved = refl
nets_made [] (Some v) (Some b) (Some e) saved = refl
nets_made (i ∷ interfaces) vsock balloon entropy saved =
    in_front (net_start i) (map net_start interfaces) vsock balloon entropy
    ∙ ap (λ (l : List NewDevice). net_start i ∷ l) (nets_made interfaces vsock balloon entropy saved)

pub made_of : (drives : List Drive) (interfaces : List Interface) (vsock : Option Vsock) (balloon : Option Balloon) (entropy : Option Entropy)
    (saved : Saved) → with_others (map (drive_from saved) drives) interfaces vsock balloon entropy
    ≡ map (device_from saved) (map of_drive drives ++ (map of_interface interfaces ++ lone_devices vsock balloon entropy))
made_of [] interfaces vsock balloon entropy saved = nets_made interfaces vsock balloon entropy saved
made_of (d ∷ drives) interfaces vsock balloon entropy saved =
    in_front (drive_from saved d) (map (drive_from saved) drives ++ map net_start interfaces) vsock balloon entropy
    ∙ ap (λ (l : List NewDevice). drive_from saved d ∷ l) (made_of drives interfaces vsock balloon entropy saved)

many_vsock : (front : List NewDevice) (vsock : Option Vsock) → length (with_vsock front vsock) ≡ length front + vsock_count vsock
many_vsock front None = omega arith
many_vsock front (Some v) = length-append front (starts.Vsock (new_vsock v) ∷ [])

many_balloon : (front : List NewDevice) (balloon : Option Balloon) → length (with_balloon front balloon) ≡ length front + balloon_count balloon
many_balloon front None = omega arith
many_balloon front (Some b) = length-append front (starts.Balloon (new_balloon b) ∷ [])

many_entropy : (front : List NewDevice) (entropy : Option Entropy) → length (with_entropy front entropy) ≡ length front + entropy_count entropy
many_entropy front None = omega arith
many_entropy front (Some e) = length-append front (starts.Entropy (new_entropy e) ∷ [])

pub many_with : (found : List NewDevice) (interfaces : List Interface) (vsock : Option Vsock) (balloon : Option Balloon)
    (entropy : Option Entropy) (n : ℕ) → length found ≡ n
    → length (with_others found interfaces vsock balloon entropy)
    ≡ n + length interfaces + vsock_count vsock + balloon_count balloon + entropy_count entropy
many_with found interfaces vsock balloon entropy n many =
    let linked : List NewDevice = found ++ map net_start interfaces in
    let front = length-append found (map net_start interfaces) in
    let nets = length-map interfaces net_start in
    let more = many_vsock linked vsock in
    let inflated = many_balloon (with_vsock linked vsock) balloon in
    let last = many_entropy (with_balloon (with_vsock linked vsock) balloon) entropy in
    omega (arith, many, front, nets, more, inflated, last)

-- ---- what they are

drive_new : (it : NewDevice) → FitsDrive it → IsGivenNew it
drive_new (starts.Block d) fits = fits
drive_new (starts.Net n) fits = absurd fits
drive_new (starts.Vsock v) fits = absurd fits
drive_new (starts.Balloon b) fits = absurd fits
drive_new (starts.Entropy e) fits = absurd fits

drives_new : (found : List NewDevice) → All FitsDrive found → All IsGivenNew found
drives_new found all = λ k d lt. drive_new (get_or found k d) (all k d lt)

net_given : (i : Interface) → IsGivenNew (net_start i)
net_given i = (
  tt,
  and_from (are_before 0 (limits_of i.rx_rate_limiter)) (are_before 0 (limits_of i.tx_rate_limiter)) (limits_fresh i.rx_rate_limiter)
      (limits_fresh i.tx_rate_limiter),
)

nets_new : (interfaces : List Interface) → All IsGivenNew (map net_start interfaces)
nets_new [] = All-nil IsGivenNew
nets_new (i ∷ interfaces) = All-cons IsGivenNew (net_start i) (map net_start interfaces) (net_given i) (nets_new interfaces)

linked_new : (found : List NewDevice) (interfaces : List Interface) → All FitsDrive found → All IsGivenNew (found ++ map net_start interfaces)
linked_new found interfaces all =
    All-append IsGivenNew found (map net_start interfaces) (drives_new found all) (nets_new interfaces)

vsock_new : (front : List NewDevice) (vsock : Option Vsock) → All IsGivenNew front → All IsGivenNew (with_vsock front vsock)
vsock_new front None all = all
vsock_new front (Some v) all =
    All-append IsGivenNew front (starts.Vsock (new_vsock v) ∷ []) all (All-cons IsGivenNew (starts.Vsock (new_vsock v)) [] (tt, refl) (All-nil IsGivenNew))

balloon_new : (front : List NewDevice) (balloon : Option Balloon) → All IsGivenNew front → All IsGivenNew (with_balloon front balloon)
balloon_new front None all = all
balloon_new front (Some b) all =
    All-append IsGivenNew front (starts.Balloon (new_balloon b) ∷ []) all
    (All-cons IsGivenNew (starts.Balloon (new_balloon b)) [] (tt, refl) (All-nil IsGivenNew))

entropy_new : (front : List NewDevice) (entropy : Option Entropy) → All IsGivenNew front → All IsGivenNew (with_entropy front entropy)
entropy_new front None all = all
entropy_new front (Some e) all =
    All-append IsGivenNew front (starts.Entropy (new_entropy e) ∷ []) all
    (All-cons IsGivenNew (starts.Entropy (new_entropy e)) [] (tt, limits_fresh e.rate_limiter) (All-nil IsGivenNew))

pub fit_with : (found : List NewDevice) (interfaces : List Interface) (vsock : Option Vsock) (balloon : Option Balloon)
    (entropy : Option Entropy) → All FitsDrive found → All IsGivenNew (with_others found interfaces vsock balloon entropy)
fit_with found interfaces vsock balloon entropy all =
    let linked : List NewDevice = found ++ map net_start interfaces in
    entropy_new (with_balloon (with_vsock linked vsock) balloon) entropy
    (balloon_new (with_vsock linked vsock) balloon (vsock_new linked vsock (linked_new found interfaces all)))

one_kind : (it : NewDevice) (rest more : List DeviceKind) → FitsDrive it → rest ≡ more
    → (port_at_start it).kind ∷ rest ≡ numbers.Block ∷ more
one_kind (starts.Block d) rest more fits same = ap (λ (l : List DeviceKind). numbers.Block ∷ l) same
one_kind (starts.Net n) rest more fits same = absurd fits
one_kind (starts.Vsock v) rest more fits same = absurd fits
one_kind (starts.Balloon b) rest more fits same = absurd fits
one_kind (starts.Entropy e) rest more fits same = absurd fits

nets_kind : (interfaces : List Interface) (vsock : Option Vsock) (balloon : Option Balloon) (entropy : Option Entropy)
    → kinds_at_start (with_lone (map net_start interfaces) vsock balloon entropy)
    ≡ map kind_configured (map of_interface interfaces ++ lone_devices vsock balloon entropy)
nets_kind [] None None None = refl
nets_kind [] None None (Some e) = refl
nets_kind [] None (Some b) None = refl
nets_kind [] None (Some b) (Some e) = refl
nets_kind [] (Some v) None None = refl
nets_kind [] (Some v) None (Some e) = refl
nets_kind [] (Some v) (Some b) None = refl
nets_kind [] (Some v) (Some b) (Some e) = refl
nets_kind (i ∷ interfaces) vsock balloon entropy =
    ap kinds_at_start (in_front (net_start i) (map net_start interfaces) vsock balloon entropy)
    ∙ ap (λ (l : List DeviceKind). numbers.Net ∷ l) (nets_kind interfaces vsock balloon entropy)

each_kind : (found : List NewDevice) (drives : List Drive) (interfaces : List Interface) (vsock : Option Vsock) (balloon : Option Balloon)
    (entropy : Option Entropy) → length found ≡ length drives → All FitsDrive found
    → kinds_at_start (with_others found interfaces vsock balloon entropy)
    ≡ map kind_configured (map of_drive drives ++ (map of_interface interfaces ++ lone_devices vsock balloon entropy))
each_kind [] [] interfaces vsock balloon entropy many all = nets_kind interfaces vsock balloon entropy
each_kind [] (d ∷ drives) interfaces vsock balloon entropy many all = absurd (omega (arith, many))
each_kind (it ∷ found) [] interfaces vsock balloon entropy many all = absurd (omega (arith, many))
each_kind (it ∷ found) (d ∷ drives) interfaces vsock balloon entropy many all =
    ap kinds_at_start (in_front it (found ++ map net_start interfaces) vsock balloon entropy)
    ∙ one_kind it _ _ (All-head FitsDrive it found all)
    (each_kind found drives interfaces vsock balloon entropy (omega (arith, many)) (All-tail FitsDrive it found all))

pub kinds_with : (found : List NewDevice) (drives : List Drive) (interfaces : List Interface) (vsock : Option Vsock)
    (balloon : Option Balloon) (entropy : Option Entropy) → length found ≡ length drives → All FitsDrive found
    → kinds_at_start (with_others found interfaces vsock balloon entropy)
    ≡ map kind_configured (devices_in drives interfaces vsock balloon entropy)
kinds_with found drives interfaces vsock balloon entropy many all =
    let ordered = length-ordered drives in
    each_kind found (in_order drives) interfaces vsock balloon entropy (omega (arith, many, ordered)) all

-- ---- its number, and what a PATCH makes of it

pub number_below : (config : Config) (n : ℕ) → IsTaken config → Some n ≡ balloon_device config → n < 256
number_below config n taken is =
    let at = balloon_at config n (sym is) in
    let below = there_below (devices_of config) n (of_balloon at.0) at.2 in
    omega (arith, below, counted config, (bounded config taken).drives)

pub amount_is : (patch : BalloonPatch) (balloon : Option Balloon) (b : Balloon) → balloon ≡ Some b
    → ◌≡◌ {A = Option Balloon} (Some (record b { amount_mib = patch.amount_mib })) (with_amount patch balloon)
amount_is patch balloon b there = ap (with_amount patch) (sym there)

pub interval_is : (patch : StatisticsPatch) (balloon : Option Balloon) (b : Balloon) → balloon ≡ Some b
    → ◌≡◌ {A = Option Balloon} (Some (record b { stats_polling_interval_s = patch.stats_polling_interval_s })) (with_interval patch balloon)
interval_is patch balloon b there = ap (with_interval patch) (sym there)

pub amount_within : (config : Config) (amount : ℕ) → IsTaken config → amount ≤ config.machine.mem_size_mib → amount ≤ 4096
amount_within config amount taken fits = let most = (bounded config taken).mib in omega (arith, most, fits)
