-- The guest and the configuration that go on from a snapshot.
use Rattle.std.specs.Prelude.{ℕ, ◌+◌, ◌*◌, Bool, true, List, [], ◌∷◌, Option, Some, None, map, slice_get, slice_set}
use Rattle.vm_types.specs.declared.ids.ActorId.{ActorId}
use Rattle.vm_types.specs.declared.ids.ActorId.TheVariants.{Hart as HartId}
use Rattle.vm_types.specs.declared.op.Op.{Op}
use Rattle.vm_types.specs.declared.reply.Reply.{Reply}
use Rattle.vm_types.specs.declared.entry.Step.{Step}
use Rattle.api_calls.specs.declared.entropy.Entropy.{Entropy}
use Rattle.vm_config.specs.declared.config.Config.{Config}
use Rattle.le_fields.specs.Fields.{bytes_of}
use Rattle.guest_memory.specs.Reserved.{hart_limit, unreserved}
use Rattle.guest_devices.specs.declared.device.Device.{Device}
use Rattle.guest_devices.specs.Devices.{FlatDevice, device_at}
use Rattle.guest_devices.specs.Kept.{device_left}
use Rattle.flat_guest.specs.Guest.{Guest, none_written}
use Rattle.snap_state.specs.declared.configuration.Configuration.{Configuration}
use Rattle.snap_harts.specs.declared.hart.SavedHart.{SavedHart}
use Rattle.snap_harts.specs.declared.hart.HartPlace.{HartPlace}
use Rattle.snap_harts.specs.declared.hart.HartPlace.TheVariants.{Access}
use Rattle.snap_state.specs.declared.copy.Reservation.{Reservation}
use Rattle.snap_state.specs.declared.copy.StateCopy.{StateCopy}
use Rattle.snap_harts.specs.Copy.{regs_of}
use Rattle.snap_state.specs.Copy.{board_of}

-- the steps of a hart that goes on: none; or the fetch of the word whose access it wants
abbrev pub steps_at : HartPlace → ℕ → List Step
steps_at (Access word) pc = record { op = Op.Read pc 4; reply = Reply.Bytes (bytes_of 4 word) } ∷ []
steps_at place pc = []

abbrev pub hart_steps : Option SavedHart → List Step
hart_steps None = []
hart_steps (Some h) = steps_at h.place h.pc

-- the timer goes on from its start
abbrev pub steps_from : List SavedHart → ActorId → List Step
steps_from harts (HartId k) = hart_steps (slice_get harts k)
steps_from harts actor = []

-- the slots in which just this is reserved
abbrev pub slots_with : List Reservation → List (Option ℕ) → List (Option ℕ)
slots_with [] slots = slots
slots_with (r ∷ others) slots = slots_with others (slice_set slots (hart_limit * r.page + r.hart) (Some r.offset))

-- a device goes on with what it has still to do by what is kept of it
abbrev pub resumed : Device → FlatDevice
resumed it = device_at (device_left it)

abbrev pub carried_guest : StateCopy → List ℕ → Guest
carried_guest copy bytes = record {
  memory = record { bytes = bytes; reserved = slots_with copy.reservations (unreserved copy.pages) };
  board = board_of copy;
  ports = copy.ports;
  starts = map regs_of copy.harts;
  steps = steps_from copy.harts;
  devices = map resumed copy.devices;
  written = none_written;
}

-- the configuration of the copy, with this entropy device, if there is one; whether dirty pages are tracked is said by the load
abbrev pub carried_config : Bool → Configuration → Option Entropy → Config
carried_config tracking c entropy = record {
  boot_source = Some (record {
    kernel_image_path = c.boot_source.kernel_image_path;
    initrd_path = c.boot_source.initrd_path;
    boot_args = c.boot_source.boot_args;
  });
  drives = c.drives;
  interfaces = c.interfaces;
  vsock = c.vsock;
  machine = record c.machine { track_dirty_pages = tracking };
  balloon = c.balloon;
  entropy = entropy;
  mmds = c.mmds;
  configured = true;
}

-- the copy of what goes on
abbrev pub with_tracking : Bool → StateCopy → StateCopy
with_tracking tracking copy = record copy {
  configuration = record copy.configuration {
    machine = record copy.configuration.machine { track_dirty_pages = tracking };
  };
  track_dirty_pages = tracking;
}
