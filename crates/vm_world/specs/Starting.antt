-- The harts and the devices as a start makes them.
use Rattle.std.specs.Prelude.{ℕ, suc, List, [], ◌∷◌, replicate, slice_set}
use Rattle.rv_supervisor.specs.Start.{start_regs}
use Rattle.hart_trace.specs.States.{Hart, fresh}
use Rattle.hart_trace.specs.Stopped.{stopped_regs}
use Rattle.guest_devices.specs.declared.new_device.NewDevice.{NewDevice}
use Rattle.guest_devices.specs.Devices.{DeviceLeft, new_left}

-- so many, of which the first begins at pc, with its number 0 and the device tree's address, and all others are stopped
abbrev pub harts_at_start : ℕ → ℕ → ℕ → List Hart
harts_at_start count pc tree =
    slice_set (replicate count (fresh stopped_regs)) 0 (fresh (start_regs pc 0 tree))

-- what these devices have still to do, which have done nothing, in a guest of so many pages, numbered from k on
abbrev pub lefts_at_start : ℕ → ℕ → List NewDevice → List DeviceLeft
lefts_at_start pages k [] = []
lefts_at_start pages k (what ∷ others) = new_left k pages what ∷ lefts_at_start pages (suc k) others
