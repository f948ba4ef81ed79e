-- What is decided of a call, and which files it asks.
use Rattle.std.proofs.Common.{◌≡◌, ◌^◌, nat_le, Bool, true, false, not, ◌&&◌, refl, sym, ap, subst, ◌∙◌, Option, Some, None, Ok, Result}
use Rattle.std.specs.Prelude.{is_none, is_some}
use Rattle.std.proofs.lemmas.Bool.{leb-false}
use Rattle.refusals.specs.declared.refusal.Refusal.{Refusal}
use Rattle.refusals.specs.declared.refusal.Refusal.TheVariants as refusal
use Rattle.http_stream.specs.declared.request.Request.{Request}
use Rattle.http_stream.specs.declared.request.Next.TheVariants as next
use Rattle.api_calls.specs.declared.call.ApiCall.{ApiCall}
use Rattle.api_calls.specs.declared.call.ApiCall.TheVariants as call
use Rattle.api_calls.specs.declared.call.SnapshotCreate.{SnapshotCreate}
use Rattle.api_calls.specs.Call.{call_of, ◌>>=◌}
use Rattle.api_calls.proofs.Asked.{asked_is}
use Rattle.vm_config.specs.declared.config.Config.{Config}
use Rattle.vm_config.specs.declared.config.Phase.{Phase}
use Rattle.api_rules.specs.declared.ids.Ids.{Ids}
use Rattle.api_rules.specs.Table.{decision, is_diff, is_paused, misplaced, needs_files, own_refusal, unless, when_allowed}
use Rattle.api_rules.specs.declared.deciding.When.{When}
use Rattle.api_rules.specs.declared.deciding.When.TheVariants.{BeforeBoot, AfterBoot, Always}
use Rattle.flat_guest.specs.Guest.{Guest}
use Rattle.flat_machine.specs.Machine.{Machine}
use Rattle.flat_machine.specs.Machine as machine
use Rattle.flat_machine.specs.Requests.{decided}
use Rattle.flat_machine.proofs.Numbered.{last_row}
use Rattle.vm_world.specs.Worlds.{WorldValue}
use Rattle.monitor_plans.specs.Plans.{IsEarly, IsEarlyBy}
use Rattle.monitor_machine.specs.declared.machine.LiveMachine.{LiveMachine}
use Rattle.monitor_machine.specs.Plans.{HasGuest, HasNumber, HasTwoFiles, phase_by, phase_of}
use Rattle.monitor_machine.specs.State.{IsGuestBy, IsLive}
use Rattle.flat_machine.proofs.Allowed.{same_call}

phase_one : (w : Option WorldValue) (g : Option Guest) (paused : Bool) → IsGuestBy w g → phase_by w paused ≡ machine.phase_by g paused
phase_one None None paused is = refl
phase_one (Some w) (Some g) true is = refl
phase_one (Some w) (Some g) false is = refl
phase_one (Some w) None paused is = absurd is
phase_one None (Some g) paused is = absurd is

pub phase_is : (live : LiveMachine) (m : Machine) → IsLive live m → phase_of live ≡ machine.phase_of m
phase_is live m own =
    phase_one live.guest m.guest live.paused own.guest_is ∙ ap (λ (b : Bool). machine.phase_by m.guest b) own.paused_is

-- what the monitor decides is what the machine decides
pub decided_is : (live : LiveMachine) (m : Machine) (request : Request) (it : ApiCall) → IsLive live m
    → call_of request ≡ Ok it → decision (phase_of live) live.config live.ids it ≡ decided m (next.Request request)
decided_is live m request it own asks =
    ap (λ (p : Phase). decision p live.config live.ids it) (phase_is live m own)
    ∙ ap (λ (c : Config). decision (machine.phase_of m) c live.ids it) own.config_is
    ∙ ap (λ (i : Ids). decision (machine.phase_of m) m.config i it) own.ids_is
    ∙ sym (ap (λ (r : Result ApiCall Refusal). r >>= λ x. decision (machine.phase_of m) m.config m.ids x) asks)

-- ---- a call that is allowed

unless_ok : (o : Option Refusal) (due : Result ApiCall Refusal) (c : ApiCall) → unless o due ≡ Ok c → due ≡ Ok c
unless_ok None due c is = is
unless_ok (Some why) due c is = cc

call_is : (p : Phase) (config : Config) (ids : Ids) (it c : ApiCall) → decision p config ids it ≡ Ok c → it ≡ c
call_is p config ids it c is =
    same_call it c
    (unless_ok (own_refusal p config ids it) (Ok it) c
    (unless_ok (misplaced (when_allowed it) p) (unless (own_refusal p config ids it) (Ok it)) c is))

-- a create names two files
pub two_files : (p : Phase) (config : Config) (ids : Ids) (it c : ApiCall) → decision p config ids it ≡ Ok c
    → (request : Request) → call_of request ≡ Ok it → HasTwoFiles c
two_files p config ids it c is request asks = subst HasTwoFiles (call_is p config ids it c is) (by_call it asks)
  where
    by_call : (it : ApiCall) → call_of request ≡ Ok it → HasTwoFiles it
    by_call (call.CreateSnapshot files) asks = (asked_is request (call.CreateSnapshot files) asks).2
    by_call it asks = tt

-- a create has a guest: it comes after a start
pub has_guest : (guest : Option WorldValue) (paused : Bool) (config : Config) (ids : Ids) (it c : ApiCall)
    → decision (phase_by guest paused) config ids it ≡ Ok c → HasGuest c guest
has_guest guest paused config ids it c is = subst (λ (x : ApiCall). HasGuest x guest) (call_is (phase_by guest paused) config ids it c is) (by_call it is)
  where
    behind : (w : Option WorldValue) (files : SnapshotCreate) → decision (phase_by w paused) config ids (call.CreateSnapshot files) ≡ Ok c
        → is_some w ≡ true
    behind None files is = absurd cc
    behind (Some w) files is = refl

    by_call : (it : ApiCall) → decision (phase_by guest paused) config ids it ≡ Ok c → HasGuest it guest
    by_call (call.CreateSnapshot files) is = behind guest files is
    by_call it is = tt

-- what a machine is made of is said before a start, and a create has a number that files can have
module _ (guest : Option WorldValue) (paused : Bool) (config : Config) (ids : Ids) where
  first_none : (why : Option Refusal) (due : Result ApiCall Refusal) (c : ApiCall) → unless why due ≡ Ok c → why ≡ None
  first_none None due c is = refl
  first_none (Some why) due c is = cc

  not_started : (w : Option WorldValue) → misplaced BeforeBoot (phase_by w paused) ≡ None → w ≡ None
  not_started None is = refl
  not_started (Some w) is = by_pause paused is
    where
      by_pause : (b : Bool) → misplaced BeforeBoot (phase_by (Some w) b) ≡ None → ◌≡◌ {A = Option WorldValue} (Some w) None
      by_pause true is = absurd cc
      by_pause false is = absurd cc

  early_by : (when : When) → misplaced when (phase_by guest paused) ≡ None → IsEarlyBy when guest
  early_by BeforeBoot is = not_started guest is
  early_by AfterBoot is = tt
  early_by Always is = tt

  pub comes_early : (it c : ApiCall) → decision (phase_by guest paused) config ids it ≡ Ok c → IsEarly c guest
  comes_early it c is =
      let p = phase_by guest paused in
      subst (λ (x : ApiCall). IsEarly x guest) (call_is p config ids it c is)
      (early_by (when_allowed it) (first_none (misplaced (when_allowed it) p) (unless (own_refusal p config ids it) (Ok it)) c is))

  number_by : (it : ApiCall) → own_refusal (phase_by guest paused) config ids it ≡ None → HasNumber it ids
  number_by (call.CreateSnapshot it) is =
      leb-false (2 ^ 63) ids.next
      (last_row (not (is_paused (phase_by guest paused))) (is_diff it.snapshot_type && not config.machine.track_dirty_pages)
      (is_diff it.snapshot_type && is_none ids.base) (nat_le (2 ^ 63) ids.next) refusal.NotPaused refusal.NotTracked refusal.NoBase refusal.NoSlotLeft is)
  number_by it is = tt

  pub has_number : (it c : ApiCall) → decision (phase_by guest paused) config ids it ≡ Ok c → HasNumber c ids
  has_number it c is =
      let p = phase_by guest paused in
      let own : Option Refusal = own_refusal p config ids it in
      let late = unless_ok (misplaced (when_allowed it) p) (unless own (Ok it)) c is in
      subst (λ (x : ApiCall). HasNumber x ids) (call_is p config ids it c is) (number_by it (first_none own (Ok it) c late))

-- ---- which calls call the files

not_so : (b : Bool) → (b ≡ true → ⊥) → b ≡ false
not_so false never = refl
not_so true never = absurd (never refl)

pub no_files : (p : Phase) (config : Config) (ids : Ids) (it c : ApiCall) → decision p config ids it ≡ Ok c
    → (needs_files it ≡ true → ⊥) → needs_files c ≡ false
no_files p config ids it c is never =
    ap needs_files (sym (call_is p config ids it c is)) ∙ not_so (needs_files it) never
