-- A live machine that is ready stays so where something else is configured, and where a call that asks no file is done.
use Rattle.std.proofs.Common.{◌≡◌, Bool, true, refl, sym, ap, subst, ◌∙◌, List, Option, None, Result, Ok, Err}
use Rattle.std.specs.Prelude.{IsOk, OnErr, OnOk}
use Rattle.serde_json.specs.Data.{Data}
use Rattle.api_calls.specs.declared.call.Drive.{Drive}
use Rattle.api_calls.specs.declared.interface.Interface.{Interface}
use Rattle.vm_config.specs.declared.config.Config.{Config}
use Rattle.api_calls.specs.declared.call.ApiCall.{ApiCall}
use Rattle.api_calls.specs.declared.call.ApiCall.TheVariants as call
use Rattle.api_rules.specs.Table.{changed}
use Rattle.flat_guest.specs.Guest.{Guest}
use Rattle.flat_machine.specs.Ready.{AreFitting, AreLinked, IsFitting, IsTaken, ReadyBy}
use Rattle.flat_machine.proofs.Reconfigured.{amount_patched, drive_patched, interface_patched, interval_patched}
use Rattle.flat_machine.proofs.Taken.{changed_taken}
use Rattle.vm_world.specs.Worlds.{WorldValue}
use Rattle.monitor_plans.specs.Plans.{IsEarly}
use Rattle.monitor_machine.specs.Live.{Live}
use Rattle.monitor_machine.specs.Plans.{TakesChange, paused_by, world_by}
use Rattle.monitor_machine.specs.Ready.{IsReadyLive}
use Rattle.monitor_machine.specs.State.{IsGuestBy}
use Rattle.monitor_machine.specs.Telling.{TellsChange}
use Rattle.monitor_machine.proofs.Lines.{no_guest}

not_yet : (config : Config) (paused : Bool) (guest : Option Guest) → guest ≡ None → ReadyBy config paused guest
not_yet config paused guest none = subst (λ (o : Option Guest). ReadyBy config paused o) (sym none) tt

config_guest : (it : ApiCall) (config : Config) (paused : Bool) (w : Option WorldValue) (guest : Option Guest) → IsTaken (changed config it)
    → IsGuestBy w guest → IsEarly it w → ReadyBy config paused guest → ReadyBy (changed config it) paused guest
config_guest (call.PatchDrive patch) config paused w guest taken here early is = drive_patched config patch paused guest taken is
config_guest (call.PatchInterface patch) config paused w guest taken here early is = interface_patched config patch paused guest taken is
config_guest (call.PatchBalloon patch) config paused w guest taken here early is = amount_patched config patch paused guest taken is
config_guest (call.PatchStatistics patch) config paused w guest taken here early is = interval_patched config patch paused guest taken is
config_guest (call.PutMetadata body) config paused w guest taken here early is = is
config_guest (call.PatchMetadata patch) config paused w guest taken here early is = is
config_guest (call.PatchVm state) config paused w guest taken here early is = is
config_guest (call.CreateSnapshot files) config paused w guest taken here early is = is
config_guest (call.Get part) config paused w guest taken here early is = is
config_guest it config paused w guest taken here early is = not_yet (changed config it) paused guest (no_guest w guest here early)

pub change_stays : (live : Live) (it : ApiCall) → IsFitting live.config it → IsEarly it live.guest → IsReadyLive live
    → IsReadyLive (record live { config = changed live.config it })
change_stays live it fits early (m, own, ready) =
    let taken = changed_taken m.config it ready.taken (subst (λ (c : Config). IsFitting c it) own.config_is fits) in (
      record m { config = changed m.config it },
      record {
        id_is = own.id_is;
        ids_is = own.ids_is;
        config_is = ap (λ (c : Config). changed c it) own.config_is;
        metadata_is = own.metadata_is;
        guest_is = own.guest_is;
        paused_is = own.paused_is;
      },
      record {
        taken = taken;
        guest = config_guest it m.config m.paused live.guest m.guest taken own.guest_is early ready.guest;
        next = ready.next;
        base = ready.base;
      },
    )

-- what was asked of it, or nothing for want of memory
pub applied_stays : {E : Type 0} (live : Live) (it : ApiCall) (done : Result (Unit {0}) E) (config : Config)
    → OnOk done (config ≡ changed live.config it) → OnErr done (config ≡ live.config) → IsFitting live.config it → IsEarly it live.guest
    → IsReadyLive live → IsReadyLive (record live { config = config })
applied_stays live it (Ok v) config ok err fits early ready =
    subst (λ (c : Config). IsReadyLive (record live { config = c })) (sym ok) (change_stays live it fits early ready)
applied_stays live it (Err why) config ok err fits early ready =
    subst (λ (c : Config). IsReadyLive (record live { config = c })) (sym err) ready

pub applied_is : {E : Type 0} (done : Result (Unit {0}) E) (P : Type 0) → IsOk done → OnOk done P → P
applied_is (Ok v) P good is = is
applied_is (Err why) P good is = absurd cc

-- who stands still or goes on has started, and who hasn't stays so
pub stays_early : (it : ApiCall) (paused : Bool) (w : Option WorldValue) → IsEarly it w → IsEarly it (world_by it paused w)
stays_early (call.PatchVm state) paused w early = tt
stays_early it paused w early = early

-- nor is a guest told of what is said before a start
pub told_early : (it : ApiCall) (config : Config) (w v : Option WorldValue) → TellsChange it config w v → IsEarly it w → IsEarly it v
told_early (call.PatchDrive patch) config w v tells early = tt
told_early (call.PatchInterface patch) config w v tells early = tt
told_early (call.PatchBalloon patch) config w v tells early = tt
told_early (call.PatchStatistics patch) config w v tells early = tt
told_early it config w v tells early = subst (λ (o : Option WorldValue). IsEarly it o) (sym tells) early

-- who was told stands as who stood
pub stood_told : (live stood told : Live) (it : ApiCall) → stood ≡ record live {
  guest = world_by it live.paused live.guest;
  paused = paused_by it live.paused;
} → told ≡ record stood { guest = told.guest } → told ≡ record live { guest = told.guest; paused = paused_by it live.paused }
stood_told live stood told it stands tells = tells ∙ ap (λ (l : Live). record l { guest = told.guest }) stands

-- what becomes of the machine by a call that asks no file
pub takes_change : (live stood told : Live) (it : ApiCall) (config : Config) → stood ≡ record live {
  guest = world_by it live.paused live.guest;
  paused = paused_by it live.paused;
} → TellsChange it stood.config stood.guest told.guest → told ≡ record stood { guest = told.guest } → config ≡ changed told.config it
    → TakesChange it live (record told { config = config })
takes_change live stood told it config stands tells rest made =
    let all = stood_told live stood told it stands rest in record {
      world = subst (λ (l : Live). TellsChange it l.config l.guest told.guest) stands tells;
      rest = λ i. record (all i) { config = (made ∙ ap (λ (l : Live). changed l.config it) all) i };
    }

-- another configuration, before a start
configured_stays : (live : Live) (config : Config) → IsTaken config → live.guest ≡ None → IsReadyLive live
    → IsReadyLive (record live { config = config })
configured_stays live config taken none (m, own, ready) = (
  record m { config = config },
  record {
    id_is = own.id_is;
    ids_is = own.ids_is;
    config_is = refl;
    metadata_is = own.metadata_is;
    guest_is = own.guest_is;
    paused_is = own.paused_is;
  },
  record {
    taken = taken;
    guest = not_yet config m.paused m.guest (no_guest live.guest m.guest own.guest_is none);
    next = ready.next;
    base = ready.base;
  },
)

taken_of : (live : Live) → IsReadyLive live → IsTaken live.config
taken_of live (m, own, ready) = subst (λ (c : Config). IsTaken c) (sym own.config_is) ready.taken

-- other drives
pub drives_stay : (live : Live) (drives : List Drive) → AreFitting drives live.config.interfaces live.config.vsock live.config.balloon live.config.entropy → live.guest ≡ None
    → IsReadyLive live → IsReadyLive (record live { config = record live.config { drives = drives; configured = true } })
drives_stay live drives fit none is =
    let taken = taken_of live is in
    configured_stays live (record live.config { drives = drives; configured = true })
    (record {
      source = taken.source;
      drives = fit.0;
      interfaces = taken.interfaces;
      vsock = taken.vsock;
      mmds = taken.mmds;
      machine = taken.machine;
      balloon = taken.balloon;
      entropy = taken.entropy;
      room = fit.1;
    })
    none is

-- other interfaces
pub interfaces_stay : (live : Live) (interfaces : List Interface)
    → AreLinked live.config.drives interfaces live.config.vsock live.config.balloon live.config.entropy live.config.mmds
    → live.guest ≡ None → IsReadyLive live
    → IsReadyLive (record live { config = record live.config { interfaces = interfaces; configured = true } })
interfaces_stay live interfaces fit none is =
    let taken = taken_of live is in
    configured_stays live (record live.config { interfaces = interfaces; configured = true })
    (record {
      source = taken.source;
      drives = taken.drives;
      interfaces = fit.0;
      vsock = taken.vsock;
      mmds = fit.2;
      machine = taken.machine;
      balloon = taken.balloon;
      entropy = taken.entropy;
      room = fit.1;
    })
    none is

pub metadata_stay : (live : Live) (stored : Data) → IsReadyLive live → IsReadyLive (record live { metadata = stored })
metadata_stay live stored (m, own, ready) = (
  record m { metadata = stored },
  record {
    id_is = own.id_is;
    ids_is = own.ids_is;
    config_is = own.config_is;
    metadata_is = refl;
    guest_is = own.guest_is;
    paused_is = own.paused_is;
  },
  record { taken = ready.taken; guest = ready.guest; next = ready.next; base = ready.base },
)
