-- What is known of a copy that there is.
use Rattle.std.proofs.Common.{◌≡◌, ◌≤◌, ℕ, ◌*◌, ◌^◌, true, not, if◌then◌else◌, length, refl, arith}
use Rattle.std.specs.Prelude.{◌==◌, nat_le}
use Rattle.std.specs.List.{list_all}
use Rattle.std.proofs.lemmas.Bool.{and_parts, eqb-true, leb-true}
use Rattle.api_calls.specs.Form.{holds}
use Rattle.vm_config.specs.Devices.{count_in}
use Rattle.port_table.specs.Window.{most_ports}
use Rattle.guest_memory.specs.Reserved.{hart_limit}
use Rattle.guest_devices.specs.declared.device.Device.{Device}
use Rattle.guest_devices.specs.Kept.{device_pages, device_port, is_kept}
use Rattle.guest_devices.specs.Moments.{is_timely}
use Rattle.snap_state.specs.declared.copy.StateCopy.{StateCopy}
use Rattle.snap_state.specs.Sections.{are_sections, entropy_in}
use Rattle.snap_state.proofs.HasDevices.{has_parts, many_devices, many_ports}
use Rattle.snap_state.specs.Valid.{are_devices, are_drives, are_interfaces, has_devices, has_machine, has_room, is_balloon, is_board, is_device, is_entropy, is_hart, is_machine, is_mmds, is_reserved, is_rising, is_source, is_valid, is_vsock}

pub record Rules (c : StateCopy) : Type 0 where
  pub source : is_source c.configuration.boot_source ≡ true
  pub drives : are_drives c.configuration.drives ≡ true
  pub interfaces : are_interfaces c.configuration.interfaces ≡ true
  pub vsock : holds is_vsock c.configuration.vsock ≡ true
  pub mmds : holds (is_mmds c.configuration.interfaces) c.configuration.mmds ≡ true
  pub machine : has_machine c c.configuration.machine ≡ true
  pub balloon : holds (is_balloon c.configuration.machine.mem_size_mib) c.configuration.balloon ≡ true
  pub room : has_room c.configuration.drives c.configuration.interfaces c.configuration.vsock c.configuration.balloon (entropy_in c.sections) ≡ true
  pub board : is_board c.configuration.machine.vcpu_count c.board ≡ true
  pub many : (length c.harts == c.configuration.machine.vcpu_count) ≡ true
  pub harts : list_all (is_hart c.pages) c.harts ≡ true
  pub devices : has_devices c ≡ true
  pub reservations : list_all (is_reserved c.pages c.configuration.machine.vcpu_count) c.reservations ≡ true
  pub rising : is_rising c.reservations ≡ true
  pub sections : are_sections c.ports c.sections ≡ true
  pub timely : list_all (is_timely c.guest_time) c.devices ≡ true
  pub entropy : holds is_entropy (entropy_in c.sections) ≡ true

pub rules_of : (c : StateCopy) → is_valid c ≡ true → Rules c
unfolding is_valid
rules_of c valid =
    let m = c.configuration.machine in
    let p16 = and_parts _ (holds is_entropy (entropy_in c.sections)) valid in
    let p15 = and_parts _ (list_all (is_timely c.guest_time) c.devices) p16.0 in
    let p14 = and_parts _ (are_sections c.ports c.sections) p15.0 in
    let p13 = and_parts _ (is_rising c.reservations) p14.0 in
    let p12 = and_parts _ (list_all (is_reserved c.pages m.vcpu_count) c.reservations) p13.0 in
    let p11 = and_parts _ (has_devices c) p12.0 in
    let p10 = and_parts _ (list_all (is_hart c.pages) c.harts) p11.0 in
    let p9 = and_parts _ (length c.harts == m.vcpu_count) p10.0 in
    let p8 = and_parts _ (is_board m.vcpu_count c.board) p9.0 in
    let p7 =
    and_parts _ (has_room c.configuration.drives c.configuration.interfaces c.configuration.vsock c.configuration.balloon (entropy_in c.sections)) p8.0 in
    let p6 = and_parts _ (holds (is_balloon m.mem_size_mib) c.configuration.balloon) p7.0 in
    let p5 = and_parts _ (has_machine c m) p6.0 in
    let p4 = and_parts _ (holds (is_mmds c.configuration.interfaces) c.configuration.mmds) p5.0 in
    let p3 = and_parts _ (holds is_vsock c.configuration.vsock) p4.0 in
    let p2 = and_parts _ (are_interfaces c.configuration.interfaces) p3.0 in
    let p1 = and_parts (is_source c.configuration.boot_source) (are_drives c.configuration.drives) p2.0 in
    record {
      source = p1.0;
      drives = p1.1;
      interfaces = p2.1;
      vsock = p3.1;
      mmds = p4.1;
      machine = p5.1;
      balloon = p6.1;
      room = p7.1;
      board = p8.1;
      many = p9.1;
      harts = p10.1;
      devices = p11.1;
      reservations = p12.1;
      rising = p13.1;
      sections = p14.1;
      timely = p15.1;
      entropy = p16.1;
    }

-- and they are all
pub rules_hold : (c : StateCopy) → Rules c → is_valid c ≡ true
unfolding is_valid
rules_hold c r =
    rw (
      r.source,
      r.drives,
      r.interfaces,
      r.vsock,
      r.mmds,
      r.machine,
      r.balloon,
      r.room,
      r.board,
      r.many,
      r.harts,
      r.devices,
      r.reservations,
      r.rising,
      r.sections,
      r.timely,
      r.entropy,
    )
    refl

-- ---- the machine: at most 32 harts, and 262,144 pages

pub few_harts : (c : StateCopy) → Rules c → c.configuration.machine.vcpu_count ≤ hart_limit
few_harts c r =
    let m = c.configuration.machine in
    let fits = and_parts _ (if c.track_dirty_pages then m.track_dirty_pages else not m.track_dirty_pages) r.machine in
    let sized = and_parts (is_machine m) (c.pages == 256 * m.mem_size_mib) fits.0 in
    let large = and_parts _ (nat_le m.mem_size_mib 4096) sized.0 in
    let some = and_parts _ (nat_le 4 m.mem_size_mib) large.0 in
    leb-true _ _ (and_parts (nat_le 1 m.vcpu_count) (nat_le m.vcpu_count hart_limit) some.0).1

pub few_pages : (c : StateCopy) → Rules c → c.pages ≤ 2 ^ 20
few_pages c r =
    let m = c.configuration.machine in
    let fits = and_parts _ (if c.track_dirty_pages then m.track_dirty_pages else not m.track_dirty_pages) r.machine in
    let sized = and_parts (is_machine m) (c.pages == 256 * m.mem_size_mib) fits.0 in
    let large = and_parts _ (nat_le m.mem_size_mib 4096) sized.0 in
    omega (arith, leb-true m.mem_size_mib 4096 large.1, eqb-true c.pages (256 * m.mem_size_mib) sized.1)

-- ---- ports and devices

pub record Attached (c : StateCopy) : Type 0 where
  pub ports : length c.ports ≡ count_in c.configuration.drives c.configuration.interfaces c.configuration.vsock c.configuration.balloon (entropy_in c.sections)
  pub devices : length c.devices ≡ count_in c.configuration.drives c.configuration.interfaces c.configuration.vsock c.configuration.balloon (entropy_in c.sections)
  pub few : count_in c.configuration.drives c.configuration.interfaces c.configuration.vsock c.configuration.balloon (entropy_in c.sections) ≤ most_ports
  pub each : are_devices c.pages 0 c.devices ≡ true

pub attached : (c : StateCopy) → Rules c → Attached c
attached c r =
    let has = has_parts c r.devices in
    record {
      ports = many_ports c has;
      devices = many_devices c has;
      few = leb-true (count_in c.configuration.drives c.configuration.interfaces c.configuration.vsock c.configuration.balloon (entropy_in c.sections)) most_ports r.room;
      each = has.each;
    }

-- a device of these
pub record IsAttached (pages port : ℕ) (d : Device) : Type 0 where
  pub there : device_port d ≡ port
  pub sized : device_pages d ≡ pages
  pub kept : is_kept d ≡ true

pub device_of : (pages port : ℕ) (d : Device) → is_device pages port d ≡ true → IsAttached pages port d
device_of pages port d is =
    let p1 = and_parts _ (is_kept d) is in
    let p0 = and_parts (device_port d == port) (device_pages d == pages) p1.0 in
    record { there = eqb-true _ _ p0.0; sized = eqb-true _ _ p0.1; kept = p1.1 }
