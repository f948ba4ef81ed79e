-- Requests to machines that are alike.
use Rattle.std.proofs.Common.{◌≡◌, ◌/◌, ◌%◌, ◌^◌, ℕ, Bool, true, false, refl, sym, ap, subst, ◌∙◌, List, [], ◌∷◌, ◌++◌, append_assoc, Option, Some, None, Result, Ok, Err, slice_get}
use Rattle.std.specs.FinMap.{get}
use Rattle.vm_types.specs.Saved.{Saved}
use Rattle.refusals.specs.declared.refusal.Refusal.{Refusal}
use Rattle.serde_json.specs.Data.{Data}
use Rattle.metadata_store.specs.Store.{patched, put}
use Rattle.http_stream.specs.declared.request.Next.{Next}
use Rattle.api_calls.specs.declared.balloon.Balloon.{Balloon}
use Rattle.api_calls.specs.declared.balloon.BalloonPatch.{BalloonPatch}
use Rattle.api_calls.specs.declared.balloon.StatisticsPatch.{StatisticsPatch}
use Rattle.api_calls.specs.declared.call.DrivePatch.{DrivePatch}
use Rattle.api_calls.specs.declared.interface.InterfacePatch.{InterfacePatch}
use Rattle.api_calls.specs.declared.limiter.Limiter.{Limiter}
use Rattle.api_calls.specs.declared.call.VmState.TheVariants.{Paused, Resumed}
use Rattle.vm_config.specs.declared.config.Config.{Config}
use Rattle.api_calls.specs.declared.call.ApiCall.{ApiCall}
use Rattle.api_calls.specs.declared.call.ApiCall.TheVariants as call
use Rattle.vm_config.specs.Changes.{with_amount, with_interval}
use Rattle.api_rules.specs.Table.{changed}
use Rattle.vm_config.specs.Devices.{balloon_device, interface_device}
use Rattle.vm_config.specs.Drives.{device_of}
use Rattle.responses.specs.Responses.{Response}
use Rattle.port_table.specs.declared.state.PortState.{PortState}
use Rattle.guest_devices.specs.declared.change.DeviceChange.{DeviceChange}
use Rattle.guest_devices.specs.declared.device.Device.{Device}
use Rattle.guest_devices.specs.Kinds.{FitsChange, sectors_change}
use Rattle.flat_guest.specs.Changes.{told}
use Rattle.flat_guest.specs.Guest.{Guest}
use Rattle.flat_guest.specs.Start.{timer_restarted}
use Rattle.flat_machine.specs.Balloon.{interval_told, target_in}
use Rattle.flat_machine.specs.Limits.{limits_told, receives_told, transmits_told}
use Rattle.flat_machine.specs.Machine.{Machine}
use Rattle.flat_machine.specs.Outcome.{Left, Outcome}
use Rattle.flat_machine.specs.Outcome.Outcome.{Answered, Failed, NoMemory}
use Rattle.flat_machine.specs.Requests.{Fails, LeavesBy, RequestStep, Stores, allowed, configured, halted, patched_balloon, patched_drive, patched_interface, patched_statistics}
use Rattle.flat_machine.specs.Requests.{relimited, resized, retargeted, retimed, sectors_of, shows_by, told_at}
use Rattle.flat_machine.proofs.Allowed.{allowed_is}
use Rattle.flat_machine.proofs.Between.{IsLater, allowed_later, started}
use Rattle.flat_machine.proofs.Sizes.{few_sectors}
use Rattle.alike_runs.specs.Alike.{Alike, AlikeGuests}
use Rattle.alike_runs.specs.Files.{AlikeFile, AlikeFiles}
use Rattle.alike_runs.specs.Twins.{Twins}
use Rattle.alike_runs.proofs.Asking.{allowed_alike, decided_alike, responds_alike}
use Rattle.alike_runs.proofs.Changed.{with_config, with_guest, with_metadata, with_paused}
use Rattle.alike_runs.proofs.Creating.{creates_alike, fails_alike, next_twins}
use Rattle.alike_runs.proofs.Files.{bytes_long}
use Rattle.alike_runs.proofs.Guests.{ports_same, restarted_alike, told_alike}

-- the second machine is led to one that is so and is alike with k, with these twins behind as many more
pub record Led (twins : List Twins) (k : Machine) (P : Machine → Type 0) : Type 0 where
  pub l : Machine
  pub front : List Twins
  pub is : P l
  pub stays : Alike (front ++ twins) k l

-- with no more twins
pub led : (twins : List Twins) (k l : Machine) (P : Machine → Type 0) → P l → Alike twins k l → Led twins k P
led twins k l P is stays = record { l = l; front = []; is = is; stays = stays }

-- behind others
pub led_on : (front twins : List Twins) (k : Machine) (P Q : Machine → Type 0) → ((q : Machine) → P q → Q q) → Led (front ++ twins) k P
    → Led twins k Q
led_on front twins k P Q so on = record {
  l = on.l;
  front = on.front ++ front;
  is = so on.l on.is;
  stays = subst (λ (t : List Twins). Alike t k on.l) (sym (append_assoc on.front front twins)) on.stays;
}

-- the same change of both
pub moved : (twins : List Twins) (k q l : Machine) → k ≡ q → Alike twins q l → Alike twins k l
moved twins k q l is alike = subst (λ (x : Machine). Alike twins x l) (sym is) alike

-- ---- what calls leave of guests

same_some : (g h : Guest) → ◌≡◌ {A = Option Guest} (Some g) (Some h) → g ≡ h
same_some g h is = cc

-- both have a guest after it, and these are alike
abbrev Both : Option Guest → Option Guest → Type 0
Both o p = (x : Guest) × (y : Guest) × (o ≡ Some x) × (p ≡ Some y) × AlikeGuests x y

module _ (g h : Guest) (guests : AlikeGuests g h) where
  -- the guests by other names
  pub named_alike : (x y : Guest) → ◌≡◌ {A = Option Guest} (Some x) (Some g) → ◌≡◌ {A = Option Guest} (Some y) (Some h) → AlikeGuests x y
  named_alike x y first second =
      subst (λ (q : Guest). AlikeGuests q y) (sym (same_some x g first))
      (subst (λ (q : Guest). AlikeGuests g q) (sym (same_some y h second)) guests)

  halted_alike : (b : Bool) (o p : Option Guest) → o ≡ Some g → p ≡ Some h → Both (halted b o) (halted b p)
  halted_alike true o p first second = (g, h, first, second, guests)
  halted_alike false None p first second = absurd cc
  halted_alike false (Some x) None first second = absurd cc
  halted_alike false (Some x) (Some y) first second =
      (timer_restarted x, timer_restarted y, refl, refl, restarted_alike x y (named_alike x y first second))

  sectors_alike : (twins : List Twins) (a b : Option (List ℕ)) → AlikeFile twins a b → sectors_of a ≡ sectors_of b
  sectors_alike twins None None alike = refl
  sectors_alike twins None (Some b) alike = absurd alike
  sectors_alike twins (Some a) None alike = absurd alike
  sectors_alike twins (Some a) (Some b) alike = ap (λ (n : ℕ). n / 512 % 2 ^ 64) (bytes_long twins a b alike)

  -- a device is told of a change in both, whose ports show the same
  at_alike : (number : Option ℕ) (change : DeviceChange) (shows : Option PortState → Option (List ℕ)) (o p : Option Guest) → FitsChange change
      → o ≡ Some g → p ≡ Some h → Both (told_at number change shows o) (told_at number change shows p)
  at_alike number change shows None p fits first second = absurd cc
  at_alike number change shows (Some x) None fits first second = absurd cc
  at_alike None change shows (Some x) (Some y) fits first second = (x, y, refl, refl, named_alike x y first second)
  at_alike (Some k) change shows (Some x) (Some y) fits first second =
      let alike = named_alike x y first second in (
        told k change (shows (slice_get x.ports k)) x,
        told k change (shows (slice_get y.ports k)) y,
        refl,
        refl,
        subst (λ (ports : List PortState). AlikeGuests (told k change (shows (slice_get x.ports k)) x) (told k change (shows (slice_get ports k)) y))
            (ports_same x y alike) (told_alike k change (shows (slice_get x.ports k)) x y fits alike),
      )

  resized_alike : (twins : List Twins) (path : Option (List ℕ)) (number : Option ℕ) (a b : Saved) (o p : Option Guest) → AlikeFiles twins a b
      → o ≡ Some g → p ≡ Some h → Both (resized path number a o) (resized path number b p)
  resized_alike twins None number a b o p files first second = (g, h, first, second, guests)
  resized_alike twins (Some path) number a b o p files first second =
      let change : DeviceChange = sectors_change (sectors_of (get a path)) in
      subst (λ (n : ℕ). Both (resized (Some path) number a o) (told_at number (sectors_change n) (shows_by (sectors_change n)) p))
      (sectors_alike twins (get a path) (get b path) (files path))
      (at_alike number change (shows_by change) o p (few_sectors (get a path)) first second)

  relimited_alike : (tells : Limiter → DeviceChange) → ((l : Limiter) → FitsChange (tells l)) → (limiter : Option Limiter)
      (number : Option ℕ) (o p : Option Guest) → o ≡ Some g → p ≡ Some h → Both (relimited tells limiter number o) (relimited tells limiter number p)
  relimited_alike tells fits None number o p first second = (g, h, first, second, guests)
  relimited_alike tells fits (Some l) number o p first second = at_alike number (tells l) (shows_by (tells l)) o p (fits l) first second

  retargeted_alike : (balloon : Option Balloon) (number : Option ℕ) (o p : Option Guest) → o ≡ Some g → p ≡ Some h
      → Both (retargeted balloon number o) (retargeted balloon number p)
  retargeted_alike None number o p first second = (g, h, first, second, guests)
  retargeted_alike (Some b) number o p first second = at_alike number (interval_told b) (target_in b) o p tt first second

  retimed_alike : (balloon : Option Balloon) (number : Option ℕ) (o p : Option Guest) → o ≡ Some g → p ≡ Some h
      → Both (retimed balloon number o) (retimed balloon number p)
  retimed_alike None number o p first second = (g, h, first, second, guests)
  retimed_alike (Some b) number o p first second = at_alike number (interval_told b) (shows_by (interval_told b)) o p tt first second

-- ---- what an allowed call leaves

module _ (twins : List Twins) (m n : Machine) (alike : Alike twins m n) where
  patched_alike : (patch : DrivePatch) → Alike twins (configured (patched_drive m patch) (call.PatchDrive patch))
      (configured (patched_drive n patch) (call.PatchDrive patch))
  patched_alike patch =
      let number : Option ℕ = device_of m.config.drives patch.drive_id in
      let also : device_of n.config.drives patch.drive_id ≡ number =
      ap (λ (c : Config). device_of c.drives patch.drive_id) (sym alike.config) in
      let size = resized_alike alike.g alike.h alike.guests twins patch.path_on_host number m.saved n.saved m.guest n.guest alike.saved alike.first
      alike.second in
      let both = relimited_alike size.0 size.1 size.4 limits_told (λ l. tt) patch.rate_limiter number (resized patch.path_on_host number m.saved m.guest)
      (resized patch.path_on_host number n.saved n.guest) size.2 size.3 in
      with_config twins (patched_drive m patch) (patched_drive n patch)
      (with_guest twins m n alike (patched_drive m patch).guest (patched_drive n patch).guest both.0 both.1 both.2
      (ap (λ (o : Option ℕ). relimited limits_told patch.rate_limiter o (resized patch.path_on_host o n.saved n.guest)) also ∙ both.3) both.4)
      (λ (c : Config). changed c (call.PatchDrive patch))

  limits_alike : (patch : InterfacePatch) → Alike twins (configured (patched_interface m patch) (call.PatchInterface patch))
      (configured (patched_interface n patch) (call.PatchInterface patch))
  limits_alike patch =
      let number : Option ℕ = interface_device m.config patch.iface_id in
      let also : interface_device n.config patch.iface_id ≡ number =
      ap (λ (c : Config). interface_device c patch.iface_id) (sym alike.config) in
      let first = relimited_alike alike.g alike.h alike.guests receives_told (λ l. tt) patch.rx_rate_limiter number m.guest n.guest alike.first
      alike.second in
      let both = relimited_alike first.0 first.1 first.4 transmits_told (λ l. tt) patch.tx_rate_limiter number
      (relimited receives_told patch.rx_rate_limiter number m.guest) (relimited receives_told patch.rx_rate_limiter number n.guest) first.2
      first.3 in
      with_config twins (patched_interface m patch) (patched_interface n patch)
      (with_guest twins m n alike (patched_interface m patch).guest (patched_interface n patch).guest both.0 both.1 both.2
      (ap (λ (o : Option ℕ). relimited transmits_told patch.tx_rate_limiter o (relimited receives_told patch.rx_rate_limiter o n.guest)) also ∙ both.3)
      both.4)
      (λ (c : Config). changed c (call.PatchInterface patch))

  amount_alike : (patch : BalloonPatch) → Alike twins (configured (patched_balloon m patch) (call.PatchBalloon patch))
      (configured (patched_balloon n patch) (call.PatchBalloon patch))
  amount_alike patch =
      let both = retargeted_alike alike.g alike.h alike.guests (with_amount patch m.config.balloon) (balloon_device m.config) m.guest n.guest
      alike.first alike.second in
      with_config twins (patched_balloon m patch) (patched_balloon n patch)
      (with_guest twins m n alike (patched_balloon m patch).guest (patched_balloon n patch).guest both.0 both.1 both.2
      (ap (λ (c : Config). retargeted (with_amount patch c.balloon) (balloon_device c) n.guest) (sym alike.config) ∙ both.3) both.4)
      (λ (c : Config). changed c (call.PatchBalloon patch))

  interval_alike : (patch : StatisticsPatch) → Alike twins (configured (patched_statistics m patch) (call.PatchStatistics patch))
      (configured (patched_statistics n patch) (call.PatchStatistics patch))
  interval_alike patch =
      let both = retimed_alike alike.g alike.h alike.guests (with_interval patch m.config.balloon) (balloon_device m.config) m.guest n.guest
      alike.first alike.second in
      with_config twins (patched_statistics m patch) (patched_statistics n patch)
      (with_guest twins m n alike (patched_statistics m patch).guest (patched_statistics n patch).guest both.0 both.1 both.2
      (ap (λ (c : Config). retimed (with_interval patch c.balloon) (balloon_device c) n.guest) (sym alike.config) ∙ both.3) both.4)
      (λ (c : Config). changed c (call.PatchStatistics patch))

  stores_alike : (due : Result Data Refusal) (k : Machine) → Stores due m k → (l : Machine) × Stores due n l × Alike twins k l
  stores_alike (Ok kept) k is =
      (record n { metadata = kept }, refl, moved twins k (record m { metadata = kept }) (record n { metadata = kept }) is (with_metadata twins m n alike kept))
  stores_alike (Err why) k is = (n, refl, moved twins k m n is alike)

  halts_alike : Alike twins (record m { guest = halted m.paused m.guest; paused = true }) (record n { guest = halted n.paused n.guest; paused = true })
  halts_alike =
      let both = halted_alike alike.g alike.h alike.guests m.paused m.guest n.guest alike.first alike.second in
      with_paused twins m n alike true (halted m.paused m.guest) (halted n.paused n.guest) both.0 both.1 both.2
      (ap (λ (b : Bool). halted b n.guest) (sym alike.paused) ∙ both.3) both.4

  abbrev Leaves : Result ApiCall Refusal → List Device → Machine → Type 0
  Leaves r kept k = Led twins k (λ (l : Machine). LeavesBy n r kept l)

  leaves_alike : (it : ApiCall) (kept : List Device) (k : Machine) → IsLater it → LeavesBy m (Ok it) kept k → Leaves (Ok it) kept k
  leaves_alike (call.PatchDrive patch) kept k later (none, is) =
      let l : Machine = configured (patched_drive n patch) (call.PatchDrive patch) in
      led twins k l (λ (q : Machine). LeavesBy n (Ok (call.PatchDrive patch)) kept q) (none, refl)
      (moved twins k (configured (patched_drive m patch) (call.PatchDrive patch)) l is (patched_alike patch))
  leaves_alike (call.PatchInterface patch) kept k later (none, is) =
      let l : Machine = configured (patched_interface n patch) (call.PatchInterface patch) in
      led twins k l (λ (q : Machine). LeavesBy n (Ok (call.PatchInterface patch)) kept q) (none, refl)
      (moved twins k (configured (patched_interface m patch) (call.PatchInterface patch)) l is (limits_alike patch))
  leaves_alike (call.PatchBalloon patch) kept k later (none, is) =
      let l : Machine = configured (patched_balloon n patch) (call.PatchBalloon patch) in
      led twins k l (λ (q : Machine). LeavesBy n (Ok (call.PatchBalloon patch)) kept q) (none, refl)
      (moved twins k (configured (patched_balloon m patch) (call.PatchBalloon patch)) l is (amount_alike patch))
  leaves_alike (call.PatchStatistics patch) kept k later (none, is) =
      let l : Machine = configured (patched_statistics n patch) (call.PatchStatistics patch) in
      led twins k l (λ (q : Machine). LeavesBy n (Ok (call.PatchStatistics patch)) kept q) (none, refl)
      (moved twins k (configured (patched_statistics m patch) (call.PatchStatistics patch)) l is (interval_alike patch))
  leaves_alike (call.PutMetadata body) kept k later (none, x) =
      let on = stores_alike (put body) k x in
      led twins k on.0 (λ (q : Machine). LeavesBy n (Ok (call.PutMetadata body)) kept q) (none, on.1) on.2
  leaves_alike (call.PatchMetadata patch) kept k later (none, x) =
      let on = stores_alike (patched m.metadata patch) k x in
      led twins k on.0 (λ (q : Machine). LeavesBy n (Ok (call.PatchMetadata patch)) kept q)
      (none, subst (λ (d : Data). Stores (patched d patch) n on.0) alike.metadata on.1) on.2
  leaves_alike (call.PatchVm Paused) kept k later (none, is) =
      let l : Machine = record n { guest = halted n.paused n.guest; paused = true } in
      led twins k l (λ (q : Machine). LeavesBy n (Ok (call.PatchVm Paused)) kept q) (none, refl)
      (moved twins k (record m { guest = halted m.paused m.guest; paused = true }) l is halts_alike)
  leaves_alike (call.PatchVm Resumed) kept k later (none, is) =
      let l : Machine = record n { paused = false } in
      led twins k l (λ (q : Machine). LeavesBy n (Ok (call.PatchVm Resumed)) kept q) (none, refl)
      (moved twins k (record m { paused = false }) l is
      (with_paused twins m n alike false m.guest n.guest alike.g alike.h alike.first alike.second alike.guests))
  leaves_alike (call.CreateSnapshot it) kept k later x =
      let on = creates_alike twins m n alike it kept k m.guest n.guest alike.first alike.second x in
      record { l = on.0; front = next_twins twins m n alike ∷ []; is = on.1; stays = on.2 }
  leaves_alike (call.Get part) kept k later (none, is) =
      led twins k n (λ (q : Machine). LeavesBy n (Ok (call.Get part)) kept q) (none, refl) (moved twins k m n is alike)
  leaves_alike it kept k later x = absurd later

  result_alike : (given : Next) (r : Result ApiCall Refusal) (kept : List Device) (k : Machine) → allowed m given ≡ r → LeavesBy m r kept k → Leaves r kept k
  result_alike given (Ok it) kept k is x =
      leaves_alike it kept k (allowed_later m it (started alike.g m alike.first) (allowed_is m given it is)) x
  result_alike given (Err why) kept k is (none, same) =
      led twins k n (λ (q : Machine). LeavesBy n (Err why) kept q) (none, refl) (moved twins k m n same alike)

  -- ---- what is left where a call on the files failed

  failed_alike : (it : ApiCall) (left : Left) (k : Machine) → Fails m it left k → (l : Machine) × Fails n it left l × Alike twins k l
  failed_alike (call.PatchDrive patch) left k (path, is, none, same) = (n, (path, is, none, refl), moved twins k m n same alike)
  failed_alike call.InstanceStart left k (none, same) = (n, (none, refl), moved twins k m n same alike)
  failed_alike (call.CreateSnapshot it) left k x = fails_alike twins m n alike it left k m.guest n.guest alike.first alike.second x
  failed_alike (call.LoadSnapshot load) left k (none, same) = (n, (none, refl), moved twins k m n same alike)
  failed_alike it left k x = absurd x

  -- ---- a request

  pub request_alike : (how : Outcome) (given : Next) (said : List Response) (k : Machine) → RequestStep how given m said k
      → Led twins k (λ (l : Machine). RequestStep how given n said l)
  request_alike (Answered kept) given said k (responds, x) =
      let on = result_alike given (allowed m given) kept k refl x in
      record {
        l = on.l;
        front = on.front;
        is = (
          responds_alike twins m n alike given said responds,
          subst (λ (r : Result ApiCall Refusal). LeavesBy n r kept on.l) (allowed_alike twins m n alike given) on.is,
        );
        stays = on.stays;
      }
  request_alike (Failed left) given said k (it, asks, fails, is) =
      let on = failed_alike it left k fails in
      led twins k on.0 (λ (l : Machine). RequestStep (Failed left) given n said l)
      (it, sym (decided_alike twins m n alike given) ∙ asks, on.1, is) on.2
  request_alike NoMemory given said k (is, same) =
      led twins k n (λ (l : Machine). RequestStep NoMemory given n said l) (is, refl) (moved twins k m n same alike)
