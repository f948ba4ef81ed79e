-- Which copies there are: what the fields must be besides fitting their places.
use Rattle.std.specs.Prelude.{ℕ, suc, ◌*◌, ◌%◌, ◌^◌, ◌==◌, nat_le, nat_lt, Bool, true, false, not, ◌&&◌, ◌||◌, if◌then◌else◌}
use Rattle.std.specs.Prelude.{List, [], ◌∷◌, length, map, count_by, Option, None, Some, is_none, is_some, bit_and, slice_get}
use Rattle.std.specs.List.{list_all}
use Rattle.api_calls.specs.declared.balloon.Balloon as balloon
use Rattle.api_calls.specs.declared.call.Drive.{Drive}
use Rattle.api_calls.specs.declared.call.MachineConfig.{MachineConfig}
use Rattle.api_calls.specs.declared.entropy.Entropy as entropy
use Rattle.api_calls.specs.declared.interface.Interface.{Interface}
use Rattle.api_calls.specs.declared.mmds.MmdsConfig.{MmdsConfig}
use Rattle.api_calls.specs.declared.vsock.Vsock as vsock
use Rattle.api_calls.specs.Addresses.{is_small_mac}
use Rattle.api_calls.specs.Drives.{is_root}
use Rattle.api_calls.specs.Form.{are_ids, holds, is_address, is_id, is_path, is_short_text}
use Rattle.api_calls.specs.Limits.{is_limiter}
use Rattle.vm_config.specs.Devices.{Configured, count_in, devices_in, of_balloon, of_drive, of_entropy, of_interface, of_vsock}
use Rattle.vm_config.specs.Drives.{id_of_drive}
use Rattle.vm_config.specs.Interfaces.{has_interface, id_of_interface}
use Rattle.vm_config.specs.Named.{are_apart}
use Rattle.board_table.specs.Board.{ring_size}
use Rattle.guest_memory.specs.Ram.{page_size, is_ram}
use Rattle.guest_memory.specs.Reserved.{hart_limit}
use Rattle.port_table.specs.declared.state.PortState.{PortState}
use Rattle.port_table.specs.declared.kind.DeviceKind.{DeviceKind}
use Rattle.port_table.specs.declared.kind.DeviceKind.TheVariants.{Net, Block, Balloon, Vsock, Entropy}
use Rattle.port_table.specs.Window.{most_ports}
use Rattle.guest_devices.specs.declared.device.Device.{Device}
use Rattle.guest_devices.specs.Kept.{device_pages, device_port, is_kept, kept_of}
use Rattle.guest_devices.specs.Moments.{is_timely}
use Rattle.guest_devices.specs.Ports.{number_of}
use Rattle.rv_supervisor.specs.declared.regs.Regs.{Regs}
use Rattle.rv_supervisor.specs.declared.csr.HartCsr.TheVariants.{Sstatus}
use Rattle.rv_supervisor.specs.Csrs.{interrupts, csr_value}
use Rattle.rv_doing.specs.Doing.{asked}
use Rattle.hart_trace.specs.Traces.{executes}
use Rattle.snap_state.specs.declared.configuration.BootSource.{BootSource}
use Rattle.snap_state.specs.declared.configuration.Configuration.{Configuration}
use Rattle.snap_state.specs.declared.board.SavedBoard.{SavedBoard}
use Rattle.snap_harts.specs.declared.hart.SavedHart.{SavedHart}
use Rattle.snap_harts.specs.declared.hart.HartPlace.{HartPlace}
use Rattle.snap_harts.specs.declared.hart.HartPlace.TheVariants.{Begin, BeginWaiting, Idle, IdleWaiting, Access}
use Rattle.snap_state.specs.declared.copy.Reservation.{Reservation}
use Rattle.snap_state.specs.declared.copy.StateCopy.{StateCopy}
use Rattle.snap_state.specs.Sections.{are_sections, entropy_in}
use Rattle.snap_harts.specs.Copy.{regs_of}

-- ---- the configuration, as the API takes it

abbrev pub are_paths : Option (List ℕ) → Bool
are_paths None = true
are_paths (Some path) = is_path path

-- paths of 1 to 4,095 bytes without a NUL, and at most 2,048 bytes of arguments
abbrev pub is_source : BootSource → Bool
is_source b = is_path b.kernel_image_path && are_paths b.initrd_path && is_short_text 2048 b.boot_args

-- 1 to 32 harts, and 4 to 4,096 MiB
abbrev pub is_machine : MachineConfig → Bool
is_machine m =
    nat_le 1 m.vcpu_count && nat_le m.vcpu_count hart_limit && nat_le 4 m.mem_size_mib && nat_le m.mem_size_mib 4096

-- a drive's id is one that a path may name, its file's path is one, and its limits are such as there may be
abbrev pub is_drive : Drive → Bool
is_drive d = is_id d.drive_id && is_path d.path_on_host && holds is_limiter d.rate_limiter

-- no two have one id, and one drive at most is the root device
abbrev pub are_drives : List Drive → Bool
are_drives drives =
    nat_le (length drives) most_ports && list_all is_drive drives && are_apart id_of_drive drives
    && nat_le (count_by is_root drives) 1

-- an interface's id is one that a path may name, its link's name is a path, its device's address has small letters, and its limits are
-- such as there may be
abbrev pub is_interface : Interface → Bool
is_interface i =
    is_id i.iface_id && is_path i.host_dev_name && holds is_small_mac i.guest_mac && holds is_limiter i.rx_rate_limiter
    && holds is_limiter i.tx_rate_limiter

-- no two have one id
abbrev pub are_interfaces : List Interface → Bool
are_interfaces interfaces = list_all is_interface interfaces && are_apart id_of_interface interfaces

-- the guest's CID is one that a guest may have (VIRTIO 1.2, 5.10.4), and the socket's name is a path
abbrev pub is_vsock : vsock.Vsock → Bool
is_vsock v = nat_le 3 v.guest_cid && nat_lt v.guest_cid 4294967295 && is_path v.uds_path

-- metadata are given at interfaces that are there, at an address that there may be
abbrev pub is_mmds : List Interface → MmdsConfig → Bool
is_mmds interfaces m =
    are_ids m.network_interfaces && list_all (has_interface interfaces) m.network_interfaces && is_address m.ipv4_address

-- the balloon of a machine of so many MiB takes no more than all of them
abbrev pub is_balloon : ℕ → balloon.Balloon → Bool
is_balloon mib b = nat_le b.amount_mib mib && nat_lt b.stats_polling_interval_s (2 ^ 16)

-- its limits are such as there may be
abbrev pub is_entropy : entropy.Entropy → Bool
is_entropy e = holds is_limiter e.rate_limiter

-- there are as many devices as ports at most
abbrev pub has_room : List Drive → List Interface → Option vsock.Vsock → Option balloon.Balloon → Option entropy.Entropy → Bool
has_room drives interfaces v b e = nat_le (count_in drives interfaces v b e) most_ports

-- ---- the board

-- one item for each hart, and no more bytes of the console than its ring holds
abbrev pub is_board : ℕ → SavedBoard → Bool
is_board harts b =
    (length b.enables == harts) && (length b.software == harts) && (length b.deadlines == harts)
    && (length b.states == harts) && nat_le (length b.console) ring_size

-- ---- harts

-- the next look is within 32 instructions
abbrev pub is_counted : SavedHart → Bool
is_counted h = nat_le 1 h.count && nat_le h.count 32

-- 4 divides the addresses of instructions
abbrev pub is_aligned : SavedHart → Bool
is_aligned h = (h.pc % 4 == 0) && (h.sepc % 4 == 0) && (h.stvec % 4 == 0)

-- sie has the bits of interrupts alone, and sstatus is what it reads with its SIE and SPIE
abbrev pub has_bits : SavedHart → Bool
has_bits h = (bit_and h.sie interrupts == h.sie) && (csr_value Sstatus (regs_of h) == h.sstatus)

-- what is held is a granule in RAM
abbrev pub is_granule : ℕ → Option ℕ → Bool
is_granule pages None = true
is_granule pages (Some held) = (held % 8 == 0) && is_ram (page_size * pages) held 8

-- the instruction asks for an access, with these registers
abbrev pub asks : HartPlace → Regs → Bool
asks (Access word) r = is_some (asked (executes word r))
asks _ r = true

-- a look is due before the one of a WFI, and in the middle of nothing
abbrev pub is_placed : Bool → HartPlace → Bool
is_placed due Begin = true
is_placed due BeginWaiting = due
is_placed due Idle = not due
is_placed due IdleWaiting = not due
is_placed due (Access word) = not due

abbrev pub is_hart : ℕ → SavedHart → Bool
is_hart pages h =
    is_counted h && is_aligned h && has_bits h && is_granule pages h.held && is_placed h.is_look_due h.place
    && asks h.place (regs_of h)

-- ---- ports and devices

abbrev pub is_kind : DeviceKind → DeviceKind → Bool
is_kind Net Net = true
is_kind Block Block = true
is_kind Balloon Balloon = true
is_kind Vsock Vsock = true
is_kind Entropy Entropy = true
is_kind kind other = false

abbrev pub is_kind_due : Option DeviceKind → DeviceKind → Bool
is_kind_due None kind = false
is_kind_due (Some due) kind = is_kind due kind

-- from this number on these are of the kinds that are due, and none lacks
abbrev pub are_kinds : List DeviceKind → ℕ → List DeviceKind → Bool
are_kinds due number [] = is_none (slice_get due number)
are_kinds due number (kind ∷ others) = is_kind_due (slice_get due number) kind && are_kinds due (suc number) others

abbrev pub port_kind : PortState → DeviceKind
port_kind p = p.kind

abbrev pub kind_of : Device → DeviceKind
kind_of d = number_of (kept_of d).kind

-- the kinds of the devices that are configured, by their numbers
abbrev pub kind_configured : Configured → DeviceKind
kind_configured (of_drive d) = Block
kind_configured (of_interface i) = Net
kind_configured (of_vsock v) = Vsock
kind_configured (of_balloon b) = Balloon
kind_configured (of_entropy e) = Entropy

abbrev pub kinds_of : Configuration → Option entropy.Entropy → List DeviceKind
kinds_of c e = map kind_configured (devices_in c.drives c.interfaces c.vsock c.balloon e)

abbrev pub kinds_in : StateCopy → List DeviceKind
kinds_in c = kinds_of c.configuration (entropy_in c.sections)

-- the device at this port of a guest of so many pages, with data that a device keeps
abbrev pub is_device : ℕ → ℕ → Device → Bool
is_device pages port d = (device_port d == port) && (device_pages d == pages) && is_kept d

-- each at the port of its number, from this one on
abbrev pub are_devices : ℕ → ℕ → List Device → Bool
are_devices pages port [] = true
are_devices pages port (d ∷ others) = is_device pages port d && are_devices pages (suc port) others

-- ---- reservations

-- of a page and a hart that are there, at a granule
abbrev pub is_reserved : ℕ → ℕ → Reservation → Bool
is_reserved pages harts r =
    nat_lt r.page pages && nat_lt r.hart harts && nat_lt r.offset page_size && (r.offset % 8 == 0)

abbrev pub is_before : Reservation → Reservation → Bool
is_before a b = nat_lt a.page b.page || ((a.page == b.page) && nat_lt a.hart b.hart)

abbrev pub rises_from : Reservation → List Reservation → Bool
rises_from a [] = true
rises_from a (b ∷ others) = is_before a b && rises_from b others

-- at most one for a page and a hart, by these in strict order
abbrev pub is_rising : List Reservation → Bool
is_rising [] = true
is_rising (a ∷ others) = rises_from a others

-- ---- the copy

-- there are 256 pages for each MiB, and dirty pages are tracked where the configuration says so
abbrev pub has_machine : StateCopy → MachineConfig → Bool
has_machine c m =
    is_machine m && (c.pages == 256 * m.mem_size_mib)
    && (if c.track_dirty_pages then m.track_dirty_pages else not m.track_dirty_pages)

-- a port and a device of each kind that is configured
abbrev pub has_devices : StateCopy → Bool
has_devices c =
    are_kinds (kinds_in c) 0 (map port_kind c.ports) && are_kinds (kinds_in c) 0 (map kind_of c.devices)
    && are_devices c.pages 0 c.devices

-- all that a copy keeps; no request of a device passed later than guest time
unfoldable pub is_valid : StateCopy → Bool
is_valid c =
    is_source c.configuration.boot_source
    && are_drives c.configuration.drives
    && are_interfaces c.configuration.interfaces
    && holds is_vsock c.configuration.vsock
    && holds (is_mmds c.configuration.interfaces) c.configuration.mmds
    && has_machine c c.configuration.machine
    && holds (is_balloon c.configuration.machine.mem_size_mib) c.configuration.balloon
    && has_room c.configuration.drives c.configuration.interfaces c.configuration.vsock c.configuration.balloon (entropy_in c.sections)
    && is_board c.configuration.machine.vcpu_count c.board
    && (length c.harts == c.configuration.machine.vcpu_count)
    && list_all (is_hart c.pages) c.harts
    && has_devices c
    && list_all (is_reserved c.pages c.configuration.machine.vcpu_count) c.reservations
    && is_rising c.reservations
    && are_sections c.ports c.sections
    && list_all (is_timely c.guest_time) c.devices
    && holds is_entropy (entropy_in c.sections)
