-- What there is for each device, in a list from number 0 on.
use Rattle.std.specs.Prelude.{ℕ, List, [], map, get_or}
use Rattle.vm_host.specs.declared.attached.Attached.{Attached}
use Rattle.vm_host.specs.declared.attached.Attached.TheVariants as attached
use Rattle.vm_host.specs.Framing.{Wire}
use Rattle.outside_mem.specs.declared.frame.Frame.{Frame}
use Rattle.outside_mem.specs.declared.memory_wire.MemoryWire.{MemoryWire}
use Rattle.outside_mem.specs.declared.names.Names.{Names}
use Rattle.outside_mem.specs.Listing.{listed}

-- a device without a disk has an empty one
abbrev pub disk_in : List (List ℕ) → ℕ → List ℕ
disk_in disks device = get_or disks device []

abbrev pub frame_bytes : Frame → List ℕ
frame_bytes frame = frame.bytes.items

abbrev pub wire_of : MemoryWire → Wire
wire_of wire = record {
  coming = map frame_bytes wire.coming.items;
  taken = wire.taken;
  sent = wire.sent.items;
  begun = wire.begun;
}

abbrev pub no_wire : Wire
no_wire = record { coming = []; taken = []; sent = []; begun = [] }

-- a device without a wire has one on which nothing comes
abbrev pub wire_in : List MemoryWire → ℕ → Wire
wire_in wires device = get_or (map wire_of wires) device no_wire

-- the host's object that each device has
abbrev pub names_in : List Attached → ℕ → Attached
names_in each device = get_or each device attached.Nothing

abbrev pub names_of : Names → ℕ → Attached
names_of names = names_in names.each

-- the words of each device; one without words has zeros
abbrev pub words_in : List (List ℕ) → ℕ → ℕ → ℕ
words_in each device = listed (get_or each device [])
