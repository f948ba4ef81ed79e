-- The file of a machine's tree has bytes, where its boot arguments are bytes.
use Rattle.std.proofs.Common.{◌≡◌, ◌<◌, ℕ, zero, suc, ◌+◌, ◌-◌, ◌*◌, ◌/◌, ◌%◌, ◌^◌, ◌==◌, Bool, true, false, if◌then◌else◌, nat_lt, List, [], ◌∷◌, ◌++◌, length, map, replicate, refl, arith, Option, Some, None}
use Rattle.std.specs.Prelude.{codes}
use Rattle.std.specs.List.{All, AllByRecursion, flat_map, list_all, list_any}
use Rattle.std.specs.Fmt.{digits, digits_onto, digit_glyph}
use Rattle.std.specs.Str.{bytes_eq}
use Rattle.std.proofs.lemmas.Bool.{and_parts, ltb-true}
use Rattle.std.proofs.lemmas.List.Elements.{All-append, All-cons, All-nil, All-replicate}
use Rattle.guest_memory.specs.Boot.{bytes_of_mib}
use Rattle.guest_memory.specs.Ram.{ram_start}
use Rattle.board_table.specs.Window.{window_size, window_start}
use Rattle.port_table.specs.Window.{port_size, ports_start}
use Rattle.vm_config.specs.declared.config.Config.{Config}
use Rattle.vm_config.specs.Devices.{device_count}
use Rattle.devtree.specs.declared.machine.InitrdPlace.{InitrdPlace}
use Rattle.devtree.specs.Tree.{Node, Nodes, node, no_nodes, and_node, Property, at_unit, cell, wide, region, text}
use Rattle.devtree.specs.Flat.{Token, begin, property, end, property_token, tokens_of, tokens_of_all, noted, noting, names_of, strings_of, padding, padded, header, bytes_of, structure_of, file_by, offset_of}
use Rattle.devtree.specs.Machine.{nodes_from, chosen, chosen_properties, memory, memory_properties, board, board_properties, cpu, cpu_properties, cpus, cpus_properties, device, device_properties, initrd_properties, root_properties, soc, soc_properties, args_by, tree_of, tree_bytes}

abbrev pub IsByte : ℕ → Type 0
IsByte b = b < 256

abbrev pub AreBytes : List ℕ → Type 0
AreBytes bytes = All IsByte bytes

-- ---- values

-- a literal's bytes are tested
by_test : (bytes : List ℕ) → list_all (λ (b : ℕ). nat_lt b 256) bytes ≡ true → AreBytes bytes
by_test [] is = All-nil IsByte
by_test (b ∷ bytes) is =
    let p = and_parts (nat_lt b 256) (list_all (λ (d : ℕ). nat_lt d 256) bytes) is in
    All-cons IsByte b bytes (ltb-true b 256 p.0) (by_test bytes p.1)

cell_bytes : (n : ℕ) → AreBytes (cell n)
unfolding cell
cell_bytes n =
    All-cons IsByte (n / 2 ^ 24 % 256) (n / 2 ^ 16 % 256 ∷ n / 2 ^ 8 % 256 ∷ n % 256 ∷ []) (omega arith)
    (All-cons IsByte (n / 2 ^ 16 % 256) (n / 2 ^ 8 % 256 ∷ n % 256 ∷ []) (omega arith)
    (All-cons IsByte (n / 2 ^ 8 % 256) (n % 256 ∷ []) (omega arith) (All-cons IsByte (n % 256) [] (omega arith) (All-nil IsByte))))

wide_bytes : (n : ℕ) → AreBytes (wide n)
wide_bytes n = All-append IsByte (cell (n / 2 ^ 32)) (cell n) (cell_bytes _) (cell_bytes n)

region_bytes : (at len : ℕ) → AreBytes (region at len)
region_bytes at len = All-append IsByte (wide at) (wide len) (wide_bytes at) (wide_bytes len)

text_bytes : (t : List ℕ) → AreBytes t → AreBytes (text t)
text_bytes t bytes = All-append IsByte t (0 ∷ []) bytes (by_test (0 ∷ []) refl)

-- ---- names with an address

glyph : (low : Bool) (d : ℕ) → d < 16 → (if low then 48 + d else 87 + d) < 256
glyph true d few = omega (arith, few)
glyph false d few = omega (arith, few)

glyph_byte : (d : ℕ) → d < 16 → IsByte (digit_glyph false d)
glyph_byte d few = glyph (nat_lt d 10) d few

onto_bytes : (turns n : ℕ) (behind : List ℕ) → AreBytes behind → AreBytes (digits_onto turns 16 false n behind)
onto_bytes zero n behind bytes = bytes
onto_bytes (suc turns) n behind bytes =
    let one = All-cons IsByte (digit_glyph false (n % 16)) behind (glyph_byte (n % 16) (omega arith)) bytes in
    either (n / 16 == 0) _ _ one (onto_bytes turns (n / 16) (digit_glyph false (n % 16) ∷ behind) one)
  where
    either : (last : Bool) (xs ys : List ℕ) → AreBytes xs → AreBytes ys → AreBytes (if last then xs else ys)
    either true xs ys first second = first
    either false xs ys first second = second

unit_bytes : (n : ℕ) → AreBytes (digits 16 false n)
unfolding digits
unit_bytes n = onto_bytes 64 n [] (All-nil IsByte)

at_bytes : (name : List ℕ) (unit : ℕ) → AreBytes name → AreBytes (at_unit name unit)
at_bytes name unit bytes =
    All-append IsByte (name ++ codes "@") (digits 16 false unit)
    (All-append IsByte name (codes "@") bytes (by_test (codes "@") refl)) (unit_bytes unit)

-- ---- tokens

abbrev IsSmall : Token → Type 0
IsSmall (begin name) = AreBytes name
IsSmall (property name value) = AreBytes name × AreBytes value
IsSmall end = Unit {0}

abbrev AreSmall : List Token → Type 0
AreSmall tokens = AllByRecursion IsSmall tokens

small_both : (xs ys : List Token) → AreSmall xs → AreSmall ys → AreSmall (xs ++ ys)
small_both [] ys first second = second
small_both (x ∷ xs) ys first second = (first.0, small_both xs ys first.1 second)

-- the names among the strings
abbrev Names : List (List ℕ) → Type 0
Names names = AllByRecursion AreBytes names

names_more : (names : List (List ℕ)) (name : List ℕ) → Names names → AreBytes name → Names (names ++ name ∷ [])
names_more [] name all bytes = (bytes, tt)
names_more (n ∷ names) name all bytes = (all.0, names_more names name all.1 bytes)

noted_bytes : (known : Bool) (names : List (List ℕ)) (name : List ℕ) → Names names → AreBytes name
    → Names (if known then names else names ++ name ∷ [])
noted_bytes true names name all bytes = all
noted_bytes false names name all bytes = names_more names name all bytes

noting_bytes : (tokens : List Token) (names : List (List ℕ)) → AreSmall tokens → Names names → Names (noting names tokens)
noting_bytes [] names small all = all
noting_bytes (property name value ∷ tokens) names small all =
    noting_bytes tokens (noted names name) small.1
    (noted_bytes (list_any (λ (known : List ℕ). bytes_eq known name) names) names name all small.0.0)
noting_bytes (begin name ∷ tokens) names small all = noting_bytes tokens names small.1 all
noting_bytes (end ∷ tokens) names small all = noting_bytes tokens names small.1 all

strings_bytes : (names : List (List ℕ)) → Names names → AreBytes (strings_of names)
strings_bytes [] all = All-nil IsByte
strings_bytes (n ∷ names) all =
    All-append IsByte (text n) (flat_map text names) (text_bytes n all.0) (strings_bytes names all.1)

padded_bytes : (bytes : List ℕ) → AreBytes bytes → AreBytes (padded bytes)
padded_bytes bytes all =
    All-append IsByte bytes (padding (length bytes)) all (All-replicate IsByte _ 0 (omega arith))

token_bytes : (names : List (List ℕ)) (t : Token) → IsSmall t → AreBytes (bytes_of names t)
token_bytes names (begin name) small =
    All-append IsByte (cell 1) (padded (text name)) (cell_bytes 1) (padded_bytes (text name) (text_bytes name small))
token_bytes names (property name value) small =
    All-append IsByte (cell 3 ++ cell (length value) ++ cell (offset_of names name)) (padded value)
    (All-append IsByte (cell 3 ++ cell (length value)) (cell (offset_of names name))
    (All-append IsByte (cell 3) (cell (length value)) (cell_bytes 3) (cell_bytes _)) (cell_bytes _)) (padded_bytes value small.1)
token_bytes names end small = cell_bytes 2

each_bytes : (names : List (List ℕ)) (tokens : List Token) → AreSmall tokens → AreBytes (flat_map (bytes_of names) tokens)
each_bytes names [] small = All-nil IsByte
each_bytes names (t ∷ tokens) small =
    All-append IsByte (bytes_of names t) (flat_map (bytes_of names) tokens) (token_bytes names t small.0) (each_bytes names tokens small.1)

header_bytes : (structure strings : ℕ) → AreBytes (header structure strings)
header_bytes structure strings =
    more _ (more _ (more _ (more _ (more _ (more _ (more _ (more _ (more _ (cell_bytes 0xd00dfeed) _) _) _) _) _) _) _) _) _
  where
    more : (front : List ℕ) → AreBytes front → (n : ℕ) → AreBytes (front ++ cell n)
    more front all n = All-append IsByte front (cell n) all (cell_bytes n)

file_bytes : (tokens : List Token) → AreSmall tokens → AreBytes (file_by tokens)
file_bytes tokens small =
    let names = noting_bytes tokens [] small tt in
    let structure = All-append IsByte (flat_map (bytes_of (names_of tokens)) tokens) (cell 9) (each_bytes (names_of tokens) tokens small) (cell_bytes 9) in
    All-append IsByte _ (strings_of (names_of tokens))
    (All-append IsByte _ (structure_of (names_of tokens) tokens)
    (All-append IsByte (header _ _) (replicate 16 0) (header_bytes _ _) (All-replicate IsByte 16 0 (omega arith))) structure)
    (strings_bytes (names_of tokens) names)

-- ---- nodes

abbrev AreProperties : List Property → Type 0
AreProperties ps = AllByRecursion (λ (p : Property). AreBytes p.name × AreBytes p.value) ps

properties_small : (ps : List Property) → AreProperties ps → AreSmall (map property_token ps)
properties_small [] all = tt
properties_small (p ∷ ps) all = (all.0, properties_small ps all.1)

node_small : (name : List ℕ) (ps : List Property) (ns : Nodes) → AreBytes name → AreProperties ps → AreSmall (tokens_of_all ns)
    → AreSmall (tokens_of (node name ps ns))
node_small name ps ns bytes all others = (
  bytes,
  small_both (map property_token ps ++ tokens_of_all ns) (end ∷ [])
      (small_both (map property_token ps) (tokens_of_all ns) (properties_small ps all) others) (tt, tt),
)

nodes_small : (n : Node) (ns : Nodes) → AreSmall (tokens_of n) → AreSmall (tokens_of_all ns) → AreSmall (tokens_of_all (and_node n ns))
nodes_small n ns first others = small_both (tokens_of n) (tokens_of_all ns) first others

many_small : (make : ℕ → Node) (k count : ℕ) → ((j : ℕ) → AreSmall (tokens_of (make j))) → AreSmall (tokens_of_all (nodes_from make k count))
many_small make k zero each = tt
many_small make k (suc count) each =
    nodes_small (make k) (nodes_from make (suc k) count) (each k) (many_small make (suc k) count each)

-- ---- the machine's

initrd_small : (initrd : Option InitrdPlace) → AreProperties (initrd_properties initrd)
initrd_small None = tt
initrd_small (Some initrd) = (
  (by_test (codes "linux,initrd-start") refl, wide_bytes initrd.start),
  ((by_test (codes "linux,initrd-end") refl, wide_bytes initrd.end), tt),
)

chosen_small : (args : List ℕ) (initrd : Option InitrdPlace) → AreBytes args → AreSmall (tokens_of (chosen args initrd))
chosen_small args initrd bytes =
    node_small (codes "chosen") (chosen_properties args initrd) no_nodes (by_test (codes "chosen") refl)
    ((by_test (codes "bootargs") refl, text_bytes args bytes), initrd_small initrd) tt

memory_small : (mib : ℕ) → AreSmall (tokens_of (memory mib))
memory_small mib =
    node_small (at_unit (codes "memory") ram_start) (memory_properties mib) no_nodes (at_bytes (codes "memory") ram_start (by_test (codes "memory") refl)) (
      (by_test (codes "device_type") refl, text_bytes (codes "memory") (by_test (codes "memory") refl)),
      ((by_test (codes "reg") refl, region_bytes ram_start (bytes_of_mib mib)), tt),
    ) tt

cpu_small : (k : ℕ) → AreSmall (tokens_of (cpu k))
cpu_small k =
    node_small (at_unit (codes "cpu") k) (cpu_properties k) no_nodes (at_bytes (codes "cpu") k (by_test (codes "cpu") refl)) (
      (by_test (codes "device_type") refl, text_bytes (codes "cpu") (by_test (codes "cpu") refl)),
      (
        (by_test (codes "reg") refl, cell_bytes k),
        (
          (by_test (codes "status") refl, text_bytes (codes "okay") (by_test (codes "okay") refl)),
          (
            (by_test (codes "compatible") refl, text_bytes (codes "riscv") (by_test (codes "riscv") refl)),
            ((by_test (codes "riscv,isa") refl, text_bytes (codes "rv64ima") (by_test (codes "rv64ima") refl)), tt),
          ),
        ),
      ),
    ) tt

cpus_small : (harts : ℕ) → AreSmall (tokens_of (cpus harts))
cpus_small harts =
    node_small (codes "cpus") cpus_properties (nodes_from cpu 0 harts) (by_test (codes "cpus") refl) (
      (by_test (codes "#address-cells") refl, cell_bytes 1),
      ((by_test (codes "#size-cells") refl, cell_bytes 0), ((by_test (codes "timebase-frequency") refl, cell_bytes 1000000000), tt)),
    ) (many_small cpu 0 harts cpu_small)

board_small : AreSmall (tokens_of board)
board_small =
    node_small (at_unit (codes "board") window_start) board_properties no_nodes (at_bytes (codes "board") window_start (by_test (codes "board") refl)) (
      (by_test (codes "compatible") refl, text_bytes (codes "firecracker,rv64-board") (by_test (codes "firecracker,rv64-board") refl)),
      (
        (by_test (codes "reg") refl, region_bytes window_start window_size),
        (
          (by_test (codes "#interrupt-cells") refl, cell_bytes 1),
          ((by_test (codes "interrupt-controller") refl, All-nil IsByte), ((by_test (codes "phandle") refl, cell_bytes 1), tt)),
        ),
      ),
    ) tt

device_small : (k : ℕ) → AreSmall (tokens_of (device k))
device_small k =
    node_small (at_unit (codes "virtio_mmio") (ports_start + port_size * k)) (device_properties k) no_nodes
    (at_bytes (codes "virtio_mmio") (ports_start + port_size * k) (by_test (codes "virtio_mmio") refl)) (
      (by_test (codes "compatible") refl, text_bytes (codes "virtio,mmio") (by_test (codes "virtio,mmio") refl)),
      ((by_test (codes "reg") refl, region_bytes (ports_start + port_size * k) port_size), ((by_test (codes "interrupts") refl, cell_bytes k), tt)),
    ) tt

soc_small : (devices : ℕ) → AreSmall (tokens_of (soc devices))
soc_small devices =
    node_small (codes "soc") soc_properties (and_node board (nodes_from device 0 devices)) (by_test (codes "soc") refl) (
      (by_test (codes "#address-cells") refl, cell_bytes 2),
      (
        (by_test (codes "#size-cells") refl, cell_bytes 2),
        (
          (by_test (codes "compatible") refl, text_bytes (codes "simple-bus") (by_test (codes "simple-bus") refl)),
          ((by_test (codes "ranges") refl, All-nil IsByte), ((by_test (codes "interrupt-parent") refl, cell_bytes 1), tt)),
        ),
      ),
    ) (nodes_small board (nodes_from device 0 devices) board_small (many_small device 0 devices device_small))

pub tree_small : (config : Config) (initrd : Option InitrdPlace) → AreBytes (args_by config.boot_source) → AreBytes (tree_bytes config initrd)
tree_small config initrd args =
    let last : Nodes = and_node (soc (device_count config)) no_nodes in
    let third : Nodes = and_node (cpus config.machine.vcpu_count) last in
    let second : Nodes = and_node (memory config.machine.mem_size_mib) third in
    let first : Nodes = and_node (chosen (args_by config.boot_source) initrd) second in
    file_bytes (tokens_of (tree_of config initrd))
    (node_small [] root_properties first (All-nil IsByte) (
      (by_test (codes "#address-cells") refl, cell_bytes 2),
      (
        (by_test (codes "#size-cells") refl, cell_bytes 2),
        ((by_test (codes "compatible") refl, text_bytes (codes "firecracker,rv64") (by_test (codes "firecracker,rv64") refl)), tt),
      ),
    )
    (nodes_small (chosen (args_by config.boot_source) initrd) second (chosen_small (args_by config.boot_source) initrd args)
    (nodes_small (memory config.machine.mem_size_mib) third (memory_small config.machine.mem_size_mib)
    (nodes_small (cpus config.machine.vcpu_count) last (cpus_small config.machine.vcpu_count)
    (nodes_small (soc (device_count config)) no_nodes (soc_small (device_count config)) tt)))))
