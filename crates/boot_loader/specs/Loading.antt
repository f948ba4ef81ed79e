-- What is loaded, as the definition has it, and the memory that it leaves.
use Rattle.std.specs.Prelude.{ℕ, nat_le, Bool, ◌&&◌, List, length, Option, option_map}
use Rattle.guest_memory.specs.Boot as boot
use Rattle.guest_memory.specs.Memory.{Memory}
use Rattle.boot_loader.specs.declared.loads.Loads.{Loads}

abbrev pub loads_of : Loads → boot.Loads
loads_of l = record { image = l.image.now; initrd = option_map (λ t. t.now) l.initrd; tree = l.tree.now }

abbrev pub memory_with : ℕ → boot.Loads → Memory → Memory
memory_with mib loads m = record m { bytes = boot.laid mib loads m.bytes }

-- image and disk fit, and the tree has room
abbrev pub have_room : ℕ → boot.Loads → Bool
have_room mib loads =
    boot.loads_fit mib (length loads.image) (option_map length loads.initrd) && nat_le (length loads.tree) boot.tree_size
