-- The guest of a start and of a load is ready.
use Rattle.std.proofs.Common.{◌≡◌, ◌≤◌, ◌*◌, nat_lt, ℕ, Bool, true, false, refl, sym, subst, ◌∙◌, List, length, option_map, Option, Some, None, arith}
use Rattle.std.specs.Prelude.{All, IsTrue, is_some}
use Rattle.std.proofs.lemmas.Bool.{and_parts, ltb-true}
use Rattle.std.proofs.lemmas.List.{length-map}
use Rattle.vm_types.specs.declared.identity.Identity.{Identity}
use Rattle.api_calls.specs.declared.call.BootSource.{BootSource}
use Rattle.file_format.specs.Identities.{is_numbered}
use Rattle.vm_config.specs.declared.config.Config.{Config}
use Rattle.api_calls.specs.declared.call.ApiCall.TheVariants as call
use Rattle.api_rules.specs.Table.{changed}
use Rattle.vm_config.specs.Devices.{device_count}
use Rattle.guest_memory.specs.Boot.{loads_fit}
use Rattle.guest_memory.specs.Ram.{page_size}
use Rattle.port_table.specs.declared.kind.DeviceKind.{DeviceKind}
use Rattle.guest_devices.specs.declared.new_device.NewDevice.{NewDevice}
use Rattle.guest_devices.specs.Moments.{IsGivenNew}
use Rattle.guest_pages.specs.Pages.{PageValue, flat_of}
use Rattle.flat_guest.specs.Guest.{Guest}
use Rattle.flat_guest.specs.Shaped.{IsShaped, kinds_at_start}
use Rattle.guest_devices.specs.Ports.{port_at_start}
use Rattle.flat_guest.specs.Start.{started}
use Rattle.flat_guest.proofs.Shaped.{shaped_start}
use Rattle.flat_guest.proofs.Soundness.{sound_start}
use Rattle.snap_state.specs.Valid.{is_valid, kinds_of}
use Rattle.snap_state.specs.declared.copy.StateCopy.{StateCopy}
use Rattle.flat_snapshot.specs.Carried.{carried_config, carried_guest}
use Rattle.flat_snapshot.specs.Copies.{configuration_of}
use Rattle.flat_snapshot.proofs.CarriedReady.{carried_ready}
use Rattle.flat_snapshot.proofs.GoesOn.{carried_sound}
use Rattle.snap_state.specs.Sections.{entropy_in}
use Rattle.flat_machine.specs.Ready.{IsTaken}
use Rattle.flat_machine.specs.Requests.{loads_from}
use Rattle.flat_machine.proofs.Sizes.{booted_size}
use Rattle.flat_machine.proofs.Taken.{bounded, taken_configured}
use Rattle.vm_world.specs.Worlds.{IsWorld, WorldValue}
use Rattle.monitor_plans.specs.Plans.{HasReadyGuest}

some_source : (source : Option BootSource) → is_some source ≡ true → (own : BootSource) × (source ≡ Some own)
some_source None there = absurd cc
some_source (Some own) there = (own, refl)

pub start_ready : (config : Config) (image : List ℕ) (disk : Option (List ℕ)) (devices : List NewDevice) (w : WorldValue) → IsTaken config
    → is_some config.boot_source ≡ true → length devices ≡ device_count config
    → kinds_at_start devices ≡ kinds_of (configuration_of config) config.entropy → All IsGivenNew devices
    → loads_fit config.machine.mem_size_mib (length image) (option_map length disk) ≡ true
    → IsWorld w (started config.machine.vcpu_count config.machine.mem_size_mib (loads_from config image disk) devices)
    → HasReadyGuest (changed config call.InstanceStart) false w
start_ready config image disk devices w taken there many kinds fit fits is =
    let source = some_source config.boot_source there in
    let own = taken_configured config source.0 source.1 taken in
    let within = bounded config taken in
    let sound = sound_start config.machine.vcpu_count config.machine.mem_size_mib (loads_from config image disk) devices (λ k d lt. (fit k d lt).0) in
    let guest : Guest =
    started config.machine.vcpu_count config.machine.mem_size_mib (loads_from config image disk) devices in (
      guest,
      is,
      record {
        sound = sound;
        ready = record {
          configured = record {
            source = own.source;
            drives = own.drives;
            interfaces = own.interfaces;
            vsock = own.vsock;
            mmds = own.mmds;
            machine = own.machine;
            balloon = own.balloon;
            entropy = own.entropy;
            room = own.room;
          };
          shaped =
              subst
              (λ (k : List DeviceKind).
              IsShaped (256 * config.machine.mem_size_mib) config.machine.vcpu_count k guest) kinds
              (shaped_start config.machine.vcpu_count config.machine.mem_size_mib (loads_from config image disk) devices within.harts
              (booted_size config image disk within fits) (λ k d lt. (fit k d lt).1));
          devices = sym sound.devices_on.as_many ∙ length-map devices port_at_start ∙ many;
        };
        rests = λ stands. refl;
      },
    )

pub load_ready : (copy : StateCopy) (pages : List PageValue) (tracking : Bool) (config : Config) (w : WorldValue) → IsTrue (is_valid copy)
    → length (flat_of pages).bytes ≡ page_size * copy.pages → config ≡ carried_config tracking copy.configuration (entropy_in copy.sections)
    → IsWorld w (carried_guest copy (flat_of pages).bytes) → HasReadyGuest config true w
load_ready copy pages tracking config w valid whole same is =
    subst (λ (c : Config). HasReadyGuest c true w) (sym same) (
      carried_guest copy (flat_of pages).bytes,
      is,
      record {
        sound = carried_sound copy (flat_of pages).bytes valid whole;
        ready = carried_ready copy (flat_of pages).bytes tracking valid whole;
        rests = λ stands. refl;
      },
    )

pub some_number : (i : Identity) → IsTrue (is_numbered i) → 1 ≤ i.number
some_number i is = let first = ltb-true 0 i.number (and_parts (nat_lt 0 i.number) _ is).0 in omega (arith, first)
