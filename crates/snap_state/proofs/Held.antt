-- The bytes that the devices of a copy hold are bytes of its file.
use Rattle.std.proofs.Common.{List, [], ◌∷◌, length}
use Rattle.std.specs.Int.{to_le_bytes, w32}
use Rattle.std.specs.List.{All, flat_map}
use Rattle.std.proofs.lemmas.List.Elements.{All-cons, All-nil}
use Rattle.file_format.specs.Format.{IsBytes}
use Rattle.file_format.specs.Identities.{identity}
use Rattle.file_format.specs.Kinds.{byte_list, flag, list_of, number32, number64, ◌&◌}
use Rattle.file_format.specs.declared.version.Version.{Version}
use Rattle.file_format.specs.Ends.{listed}
use Rattle.file_format.specs.Whole.{counted}
use Rattle.guest_devices.specs.declared.device.Device.{Device}
use Rattle.snap_devices.specs.Devices.{device}
use Rattle.snap_devices.specs.Ports.{port}
use Rattle.snap_devices.proofs.Held.{behind, device_held, front}
use Rattle.snap_devices.proofs.DeviceNarrow.{HoldsBytes}
use Rattle.snap_harts.specs.Harts.{hart}
use Rattle.snap_state.specs.declared.copy.StateCopy.{StateCopy}
use Rattle.snap_state.specs.declared.file.Saved.{Saved}
use Rattle.snap_state.specs.Boards.{board}
use Rattle.snap_state.specs.Configured.{configuration}
use Rattle.snap_state.specs.Copies.{devices, state_copy}
use Rattle.snap_state.specs.Files.{contents, contents_of}

one_held : (d : Device) → IsBytes ((listed device).bytes d) → HoldsBytes d
unfolding listed byte_list
one_held d is = device_held d (behind (to_le_bytes w32 (length (device.bytes d))) (device.bytes d) is)

each_held : (ds : List Device) → IsBytes (flat_map (listed device).bytes ds) → All HoldsBytes ds
each_held [] is = All-nil HoldsBytes
each_held (d ∷ ds) is =
    All-cons HoldsBytes d ds (one_held d (front ((listed device).bytes d) (flat_map (listed device).bytes ds) is))
    (each_held ds (behind ((listed device).bytes d) (flat_map (listed device).bytes ds) is))

devices_held : (ds : List Device) → IsBytes (devices.bytes ds) → All HoldsBytes ds
unfolding devices list_of
devices_held ds is = each_held ds (behind (to_le_bytes w32 (length ds)) (flat_map (listed device).bytes ds) is)

copy_held : (v : Version) (c : StateCopy) → IsBytes ((state_copy v).bytes c) → All HoldsBytes c.devices
unfolding state_copy
copy_held v c is =
    let first = behind
    ((configuration & number32 & flag & number64).bytes (c.configuration, (c.pages, (c.track_dirty_pages, c.guest_time)))) _ is in
    let second = behind (board.bytes c.board) _ first in
    let third = behind ((list_of hart).bytes c.harts) _ second in
    let fourth = behind ((list_of (counted port)).bytes c.ports) _ third in
    devices_held c.devices (front (devices.bytes c.devices) _ fourth)

-- those of a file
pub saved_held : (v : Version) (s : Saved) → IsBytes ((contents v).bytes (contents_of v s)) → All HoldsBytes s.copy.devices
saved_held v s is =
    let first = behind (number32.bytes (length ((state_copy v).bytes s.copy))) _ is in
    copy_held v s.copy (behind (identity.bytes s.identity) _ first)
