-- The device tree of a machine.
use Rattle.std.specs.Prelude.{ℕ, zero, suc, ◌+◌, ◌*◌, List, [], ◌∷◌, Option, Some, None, codes}
use Rattle.api_calls.specs.declared.call.BootSource.{BootSource}
use Rattle.vm_config.specs.Devices.{device_count}
use Rattle.vm_config.specs.declared.config.Config.{Config}
use Rattle.board_table.specs.Window.{window_size, window_start}
use Rattle.port_table.specs.Window.{port_size, ports_start}
use Rattle.guest_memory.specs.Boot.{bytes_of_mib}
use Rattle.guest_memory.specs.Ram.{ram_start}
use Rattle.devtree.specs.declared.machine.InitrdPlace.{InitrdPlace}
use Rattle.devtree.specs.Tree.{Node, Nodes, node, no_nodes, and_node, Property, at_unit, cell, wide, region, text}
use Rattle.devtree.specs.Flat.{flattened}

-- ---- properties

abbrev pub property : List ℕ → List ℕ → Property
property name value = record { name = name; value = value }

-- ---- nodes

-- one for each number, so many from this one on
abbrev pub nodes_from : (ℕ → Node) → ℕ → ℕ → Nodes
nodes_from make k zero = no_nodes
nodes_from make k (suc count) = and_node (make k) (nodes_from make (suc k) count)

abbrev pub initrd_properties : Option InitrdPlace → List Property
initrd_properties None = []
initrd_properties (Some initrd) =
    property (codes "linux,initrd-start") (wide initrd.start)
    ∷ property (codes "linux,initrd-end") (wide initrd.end)
    ∷ []

-- what the guest is told of its boot (3.6)
abbrev pub chosen_properties : List ℕ → Option InitrdPlace → List Property
chosen_properties boot_args initrd = property (codes "bootargs") (text boot_args) ∷ initrd_properties initrd

abbrev pub chosen : List ℕ → Option InitrdPlace → Node
chosen boot_args initrd = node (codes "chosen") (chosen_properties boot_args initrd) no_nodes

-- 3.4
abbrev pub memory_properties : ℕ → List Property
memory_properties mib =
    property (codes "device_type") (text (codes "memory"))
    ∷ property (codes "reg") (region ram_start (bytes_of_mib mib))
    ∷ []

abbrev pub memory : ℕ → Node
memory mib = node (at_unit (codes "memory") ram_start) (memory_properties mib) no_nodes

-- 3.8, and the RISC-V bindings
abbrev pub cpu_properties : ℕ → List Property
cpu_properties k =
    property (codes "device_type") (text (codes "cpu"))
    ∷ property (codes "reg") (cell k)
    ∷ property (codes "status") (text (codes "okay"))
    ∷ property (codes "compatible") (text (codes "riscv"))
    ∷ property (codes "riscv,isa") (text (codes "rv64ima"))
    ∷ []

abbrev pub cpu : ℕ → Node
cpu k = node (at_unit (codes "cpu") k) (cpu_properties k) no_nodes

-- 3.7: guest time counts nanoseconds
abbrev pub cpus_properties : List Property
cpus_properties =
    property (codes "#address-cells") (cell 1)
    ∷ property (codes "#size-cells") (cell 0)
    ∷ property (codes "timebase-frequency") (cell 1000000000)
    ∷ []

abbrev pub cpus : ℕ → Node
cpus harts = node (codes "cpus") cpus_properties (nodes_from cpu 0 harts)

-- the interrupt controller (2.4)
abbrev pub board_properties : List Property
board_properties =
    property (codes "compatible") (text (codes "firecracker,rv64-board"))
    ∷ property (codes "reg") (region window_start window_size)
    ∷ property (codes "#interrupt-cells") (cell 1)
    ∷ property (codes "interrupt-controller") []
    ∷ property (codes "phandle") (cell 1)
    ∷ []

abbrev pub board : Node
board = node (at_unit (codes "board") window_start) board_properties no_nodes

-- a port of a device: one page for each, and the line of its number (VIRTIO 1.2, 4.2.1)
abbrev pub device_properties : ℕ → List Property
device_properties k =
    property (codes "compatible") (text (codes "virtio,mmio"))
    ∷ property (codes "reg") (region (ports_start + port_size * k) port_size)
    ∷ property (codes "interrupts") (cell k)
    ∷ []

abbrev pub device : ℕ → Node
device k = node (at_unit (codes "virtio_mmio") (ports_start + port_size * k)) (device_properties k) no_nodes

-- what stands in the memory map (4.5)
abbrev pub soc_properties : List Property
soc_properties =
    property (codes "#address-cells") (cell 2)
    ∷ property (codes "#size-cells") (cell 2)
    ∷ property (codes "compatible") (text (codes "simple-bus"))
    ∷ property (codes "ranges") []
    ∷ property (codes "interrupt-parent") (cell 1)
    ∷ []

abbrev pub soc : ℕ → Node
soc devices = node (codes "soc") soc_properties (and_node board (nodes_from device 0 devices))

abbrev pub root_properties : List Property
root_properties =
    property (codes "#address-cells") (cell 2)
    ∷ property (codes "#size-cells") (cell 2)
    ∷ property (codes "compatible") (text (codes "firecracker,rv64"))
    ∷ []

-- ---- the machine

abbrev pub args_by : Option BootSource → List ℕ
args_by None = []
args_by (Some source) = source.boot_args

-- with so many devices
abbrev pub tree_with : Config → Option InitrdPlace → ℕ → Node
tree_with config initrd devices =
    node [] root_properties (
    and_node (chosen (args_by config.boot_source) initrd)
    (and_node (memory config.machine.mem_size_mib)
    (and_node (cpus config.machine.vcpu_count)
    (and_node (soc devices) no_nodes))))

abbrev pub tree_of : Config → Option InitrdPlace → Node
tree_of config initrd = tree_with config initrd (device_count config)

-- its file
abbrev pub tree_bytes : Config → Option InitrdPlace → List ℕ
tree_bytes config initrd = flattened (tree_of config initrd)
