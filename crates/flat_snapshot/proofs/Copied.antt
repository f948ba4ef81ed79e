-- A guest has one copy but for what is kept of its devices.
use Rattle.std.proofs.Common.{◌≡◌, ◌≤◌, ◌^◌, ℕ, suc, ◌+◌, true, refl, sym, ap, subst, ◌∙◌, List, [], ◌∷◌, Some, map, slice_get, arith}
use Rattle.vm_types.specs.declared.ids.ActorId.{ActorId}
use Rattle.vm_types.specs.declared.ids.ActorId.TheVariants.{Hart as HartId}
use Rattle.vm_types.specs.declared.entry.Step.{Step}
use Rattle.vm_config.specs.declared.config.Config.{Config}
use Rattle.rv_supervisor.specs.declared.regs.Regs.{Regs}
use Rattle.hart_trace.specs.Traces.{IsPrefix}
use Rattle.hart_trace.specs.States.{Hart}
use Rattle.hart_trace.proofs.OneHart.{one_hart}
use Rattle.hart_trace.proofs.Traces.{some_hart}
use Rattle.guest_devices.specs.declared.device.Device.{Device}
use Rattle.guest_devices.specs.Devices.{DeviceLeads, DeviceLeft, FlatDevice, device_at}
use Rattle.guest_devices.specs.Kept.{device_left, is_kept}
use Rattle.guest_devices.specs.Sound.{IsSoundDevice}
use Rattle.guest_devices.proofs.Follows.{one_left}
use Rattle.guest_devices.proofs.Placed.{bounded_kept}
use Rattle.guest_devices.proofs.Soundness.{copied}
use Rattle.flat_guest.specs.Guest.{Guest, whole_pages}
use Rattle.flat_guest.specs.Sound.{IsSound}
use Rattle.snap_state.specs.declared.copy.StateCopy.{StateCopy}
use Rattle.flat_snapshot.specs.Copies.{AreHarts, AreKept, IsCopyOf, copy_of}
use Rattle.flat_snapshot.specs.Carried.{carried_guest, resumed}

pub one_harts : (starts : List Regs) (k : ℕ) (steps : ActorId → List Step) (first second : List Hart) → AreHarts k starts steps first
    → AreHarts k starts steps second → first ≡ second
one_harts [] k steps first second x y = x ∙ sym y
one_harts (start ∷ starts) k steps first second (h, rest, is, leads, more) (q, others, be, to, much) =
    is ∙ ap (λ (x : Hart). x ∷ rest) (one_hart start (steps (HartId k)) h q leads to)
    ∙ ap (λ (l : List Hart). q ∷ l) (one_harts starts (suc k) steps rest others more much) ∙ sym be

pub same_copy : (config : Config) (g : Guest) (first second : StateCopy) → first.devices ≡ second.devices → IsCopyOf config g first
    → IsCopyOf config g second → first ≡ second
same_copy config g first second same (harts, are, kept, is) (others, be, tell, equals) =
    is ∙ ap (λ (l : List Hart). copy_of config g l first.devices) (one_harts g.starts 0 g.steps harts others are be)
    ∙ ap (λ (l : List Device). copy_of config g others l) same ∙ sym equals

none_kept : (kept : List Device) → AreKept kept [] → kept ≡ []
none_kept [] are = refl
none_kept (it ∷ kept) are = absurd are

pub plain_copy : (config : Config) (g : Guest) (first second : StateCopy) → g.devices ≡ [] → IsCopyOf config g first
    → IsCopyOf config g second → first ≡ second
plain_copy config g first second plain one other =
    let none : (copy : StateCopy) → AreKept copy.devices g.devices → copy.devices ≡ [] = λ copy kept.
    none_kept copy.devices (subst (λ (l : List FlatDevice). AreKept copy.devices l) plain kept) in
    same_copy config g first second (none first one.2 ∙ sym (none second other.2)) one other

-- whichever data are kept, the devices that go on with them have the same to do
same_resumed : (kept others : List Device) (devices : List FlatDevice) → AreKept kept devices → AreKept others devices
    → map resumed kept ≡ map resumed others
same_resumed [] [] [] are be = refl
same_resumed [] (it ∷ others) [] are be = absurd be
same_resumed (it ∷ kept) others [] are be = absurd are
same_resumed [] others (d ∷ devices) are be = absurd are
same_resumed (it ∷ kept) [] (d ∷ devices) are be = absurd be
same_resumed (it ∷ kept) (at ∷ others) (d ∷ devices) are be =
    ap (λ (x : DeviceLeft). device_at x ∷ map resumed kept) (one_left d (device_left it) (device_left at) are.0 be.0)
    ∙ ap (λ (l : List FlatDevice). resumed at ∷ l) (same_resumed kept others devices are.2 be.2)

pub same_guest : (config : Config) (g : Guest) (first second : StateCopy) (bytes : List ℕ) → IsCopyOf config g first
    → IsCopyOf config g second → carried_guest first bytes ≡ carried_guest second bytes
same_guest config g first second bytes (harts, are, kept, is) (others, be, tell, equals) =
    let devices = same_resumed first.devices second.devices g.devices kept tell in
    ap (λ (c : StateCopy). carried_guest c bytes)
    (is ∙ ap (λ (l : List Hart). copy_of config g l first.devices) (one_harts g.starts 0 g.steps harts others are be))
    ∙ (λ i. record (carried_guest (copy_of config g others first.devices) bytes) { devices = devices i })
    ∙ ap (λ (c : StateCopy). carried_guest c bytes) (sym equals)

pub some_harts : (starts : List Regs) (k : ℕ) (steps : ActorId → List Step)
    → ((i : ℕ) (start : Regs) → slice_get starts i ≡ Some start → IsPrefix start (steps (HartId (k + i))))
    → (harts : List Hart) × AreHarts k starts steps harts
some_harts [] k steps sound = ([], refl)
some_harts (start ∷ starts) k steps sound =
    let here : k + 0 ≡ k = omega arith in
    let hart = some_hart start (steps (HartId k)) (subst (λ (n : ℕ). IsPrefix start (steps (HartId n))) here (sound 0 start refl)) in
    let later : (i : ℕ) (first : Regs) → slice_get starts i ≡ Some first → IsPrefix first (steps (HartId (suc k + i)))
    = λ i first is.
    let next : k + suc i ≡ suc k + i = omega arith in
    subst (λ (n : ℕ). IsPrefix first (steps (HartId n))) next (sound (suc i) first is) in
    let rest = some_harts starts (suc k) steps later in
    (hart.0 ∷ rest.0, (hart.0, rest.0, refl, hart.1, rest.1))

-- a sound device has data that may be kept of it, and tell what it has still to do
kept_of : (port pages : ℕ) (d : FlatDevice) → pages ≤ 2 ^ 20 → IsSoundDevice port pages d
    → (it : Device) × DeviceLeads d (device_left it) × (is_kept it ≡ true)
kept_of port pages d few sound = let it = copied port pages d few sound in (it.0, it.1, bounded_kept it.0 it.2 it.3)

some_kept : (devices : List FlatDevice)
    → ((i : ℕ) (d : FlatDevice) → slice_get devices i ≡ Some d → (it : Device) × DeviceLeads d (device_left it) × (is_kept it ≡ true))
    → (kept : List Device) × AreKept kept devices
some_kept [] each = ([], tt)
some_kept (d ∷ devices) each =
    let it = each 0 d refl in
    let rest = some_kept devices (λ i other is. each (suc i) other is) in
    (it.0 ∷ rest.0, (it.1, it.2, rest.1))

pub some_copy : (config : Config) (g : Guest) → IsSound g → whole_pages g.memory ≤ 2 ^ 20 → (copy : StateCopy) × IsCopyOf config g copy
some_copy config g sound few =
    let harts = some_harts g.starts 0 g.steps (λ i start is.
    let same : i ≡ 0 + i = omega arith in
    subst (λ (n : ℕ). IsPrefix start (g.steps (HartId n))) same (sound.harts_on i start is)) in
    let kept = some_kept g.devices (λ i d is. kept_of i (whole_pages g.memory) d few (sound.devices_on.each i d is)) in
    (copy_of config g harts.0 kept.0, (harts.0, harts.1, kept.1, refl))
