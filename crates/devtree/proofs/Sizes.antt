-- How long the file of a tree is.
use Rattle.std.proofs.Common.{◌≡◌, ◌≤◌, ℕ, zero, suc, ◌+◌, ◌-◌, ◌*◌, ◌%◌, ◌/◌, ◌^◌, Bool, true, false, if◌then◌else◌, List, [], ◌∷◌, ◌++◌, length, map, refl, arith, Option, Some, None, length-append}
use Rattle.std.proofs.lemmas.List.{length-replicate}
use Rattle.std.specs.Prelude.{codes, ◌==◌}
use Rattle.std.specs.List.{flat_map, list_any}
use Rattle.std.specs.Str.{bytes_eq}
use Rattle.std.specs.Fmt.{digits, digits_onto, digit_glyph}
use Rattle.board_table.specs.Window.{window_size, window_start}
use Rattle.port_table.specs.Window.{port_size, ports_start}
use Rattle.guest_memory.specs.Boot.{bytes_of_mib}
use Rattle.guest_memory.specs.Ram.{ram_start}
use Rattle.vm_config.specs.declared.config.Config.{Config}
use Rattle.vm_config.specs.Devices.{device_count}
use Rattle.devtree.specs.declared.machine.InitrdPlace.{InitrdPlace}
use Rattle.devtree.specs.Tree.{Node, Nodes, node, no_nodes, and_node, Property, cell, wide, region, text}
use Rattle.devtree.specs.Flat.{Token, begin, property, end, property_token, tokens_of, tokens_of_all, noted, noting, names_of, strings_of, padding, bytes_of, structure_of, file_by}
use Rattle.devtree.specs.Machine.{nodes_from, chosen, memory, board, cpu, cpus, cpus_properties, device, root_properties, soc, soc_properties, args_by, tree_of, tree_bytes}

length-cell : (n : ℕ) → length (cell n) ≡ 4
unfolding cell
length-cell n = refl

length-wide : (n : ℕ) → length (wide n) ≡ 8
length-wide n = omega (arith, length-append (cell (n / 2 ^ 32)) (cell n), length-cell (n / 2 ^ 32), length-cell n)

length-region : (at len : ℕ) → length (region at len) ≡ 16
length-region at len = omega (arith, length-append (wide at) (wide len), length-wide at, length-wide len)

length-padding : (n : ℕ) → length (padding n) ≤ 3
length-padding n = omega (arith, length-replicate {A = ℕ} ((4 - n % 4) % 4) 0)

-- a digit for each turn at most, of 64
onto : (turns n : ℕ) (behind : List ℕ) → length (digits_onto turns 16 false n behind) ≤ turns + length behind
onto zero n behind = omega arith
onto (suc turns) n behind =
    let rest = onto turns (n / 16) (digit_glyph false (n % 16) ∷ behind) in
    by_last (n / 16 == 0) (digit_glyph false (n % 16)) (digits_onto turns 16 false (n / 16) (digit_glyph false (n % 16) ∷ behind)) rest
  where
    by_last : (last : Bool) (digit : ℕ) (others : List ℕ) → length others ≤ turns + suc (length behind)
        → length (if last then digit ∷ behind else others) ≤ suc turns + length behind
    by_last true digit others rest = omega arith
    by_last false digit others rest = omega (arith, rest)

length-unit : (n : ℕ) → length (digits 16 false n) ≤ 64
unfolding digits
length-unit n = onto 64 n []

-- ---- the bytes of a token, and those of its name among the strings

abbrev own_size : Token → ℕ
own_size (begin name) = length name + 8
own_size (property name value) = length value + 15
own_size end = 4

abbrev name_size : Token → ℕ
name_size (begin name) = 0
name_size (property name value) = length name + 1
name_size end = 0

abbrev size : List Token → ℕ
size [] = 0
size (t ∷ tokens) = own_size t + name_size t + size tokens

token_size : (names : List (List ℕ)) (t : Token) → length (bytes_of names t) ≤ own_size t
token_size names (begin name) = omega (arith, length-append {A = ℕ}, length-cell 1, length-padding (length (text name)))
token_size names (property name value) =
    omega (arith, length-append {A = ℕ}, length-cell, length-padding (length value))
token_size names end = omega (arith, length-cell 2)

abbrev own_sizes : List Token → ℕ
own_sizes [] = 0
own_sizes (t ∷ tokens) = own_size t + own_sizes tokens

abbrev name_sizes : List Token → ℕ
name_sizes [] = 0
name_sizes (t ∷ tokens) = name_size t + name_sizes tokens

tokens_size : (names : List (List ℕ)) (tokens : List Token) → length (flat_map (bytes_of names) tokens) ≤ own_sizes tokens
tokens_size names [] = omega arith
tokens_size names (t ∷ tokens) =
    omega (arith, length-append (bytes_of names t) (flat_map (bytes_of names) tokens), token_size names t, tokens_size names tokens)

strings_more : (names : List (List ℕ)) (name : List ℕ) → length (strings_of (names ++ name ∷ [])) ≡ length (strings_of names) + (length name + 1)
strings_more [] name = omega (arith, length-append (text name) [], length-append name (0 ∷ []))
strings_more (known ∷ names) name =
    omega (arith, length-append (text known) (strings_of (names ++ name ∷ [])), length-append (text known) (strings_of names), strings_more names name)

noted_size : (names : List (List ℕ)) (name : List ℕ) → length (strings_of (noted names name)) ≤ length (strings_of names) + (length name + 1)
noted_size names name = by_there (list_any (λ known. bytes_eq known name) names)
  where
    by_there : (there : Bool) → length (strings_of (if there then names else names ++ name ∷ [])) ≤ length (strings_of names) + (length name + 1)
    by_there true = omega arith
    by_there false = omega (arith, strings_more names name)

noting_size : (names : List (List ℕ)) (tokens : List Token) → length (strings_of (noting names tokens)) ≤ length (strings_of names) + name_sizes tokens
noting_size names [] = omega arith
noting_size names (begin name ∷ tokens) = omega (arith, noting_size names tokens)
noting_size names (property name value ∷ tokens) = omega (arith, noting_size (noted names name) tokens, noted_size names name)
noting_size names (end ∷ tokens) = omega (arith, noting_size names tokens)

both_sizes : (tokens : List Token) → own_sizes tokens + name_sizes tokens ≡ size tokens
both_sizes [] = refl
both_sizes (t ∷ tokens) = omega (arith, both_sizes tokens)

file_size : (tokens : List Token) → length (file_by tokens) ≤ 60 + size tokens
file_size tokens =
    let names = names_of tokens in
    let structure = structure_of names tokens in
    let strings = strings_of names in
    omega (arith, length-append {A = ℕ}, length-cell, length-replicate {A = ℕ} 16 0, tokens_size names tokens, noting_size [] tokens, both_sizes tokens)

-- ---- of nodes

size-append : (xs ys : List Token) → size (xs ++ ys) ≡ size xs + size ys
size-append [] ys = omega arith
size-append (t ∷ xs) ys = omega (arith, size-append xs ys)

nodes_size : (make : ℕ → Node) (most : ℕ) → ((k : ℕ) → size (tokens_of (make k)) ≤ most) → (k count : ℕ)
    → size (tokens_of_all (nodes_from make k count)) ≤ count * most
nodes_size make most each k zero = omega arith
nodes_size make most each k (suc count) =
    let whole = size-append (tokens_of (make k)) (tokens_of_all (nodes_from make (suc k) count)) in
    let product : suc count * most ≡ most + count * most = omega arith in
    omega (arith, whole, product, each k, nodes_size make most each (suc k) count)

node_size : (name : List ℕ) (properties : List Property) (nodes : Nodes)
    → size (tokens_of (node name properties nodes)) ≡ length name + 12 + size (map property_token properties) + size (tokens_of_all nodes)
node_size name properties nodes =
    omega (
      arith,
      size-append (map property_token properties ++ tokens_of_all nodes) (end ∷ []),
      size-append (map property_token properties) (tokens_of_all nodes),
    )

all_size : (n : Node) (nodes : Nodes) → size (tokens_of_all (and_node n nodes)) ≡ size (tokens_of n) + size (tokens_of_all nodes)
all_size n nodes = size-append (tokens_of n) (tokens_of_all nodes)

-- ---- of this tree

cpu_size : (k : ℕ) → size (tokens_of (cpu k)) ≤ 300
cpu_size k = omega (arith, length-cell k, length-unit k)

device_size : (k : ℕ) → size (tokens_of (device k)) ≤ 300
device_size k = omega (arith, length-cell k, length-unit (ports_start + port_size * k), length-region (ports_start + port_size * k) port_size)

chosen_size : (args : List ℕ) (initrd : Option InitrdPlace) → size (tokens_of (chosen args initrd)) ≤ length args + 200
chosen_size args None = omega (arith, length-append args (0 ∷ []))
chosen_size args (Some initrd) = omega (arith, length-append args (0 ∷ []), length-wide initrd.start, length-wide initrd.end)

memory_size : (mib : ℕ) → size (tokens_of (memory mib)) ≤ 300
memory_size mib = omega (arith, length-unit ram_start, length-region ram_start (bytes_of_mib mib))

board_size : size (tokens_of board) ≤ 400
board_size = omega (arith, length-unit window_start, length-region window_start window_size, length-cell)

cpus_size : (harts : ℕ) → size (tokens_of (cpus harts)) ≤ 300 + harts * 300
cpus_size harts = omega (arith, node_size (codes "cpus") cpus_properties (nodes_from cpu 0 harts), nodes_size cpu 300 cpu_size 0 harts, length-cell)

soc_size : (devices : ℕ) → size (tokens_of (soc devices)) ≤ 800 + devices * 300
soc_size devices =
    omega (
      arith,
      node_size (codes "soc") soc_properties (and_node board (nodes_from device 0 devices)),
      all_size board (nodes_from device 0 devices),
      nodes_size device 300 device_size 0 devices,
      board_size,
      length-cell,
    )

tree_size : (config : Config) (initrd : Option InitrdPlace)
    → size (tokens_of (tree_of config initrd))
    ≤ 2000 + length (args_by config.boot_source) + config.machine.vcpu_count * 300 + device_count config * 300
tree_size config initrd =
    let last : Nodes = and_node (soc (device_count config)) no_nodes in
    let third : Nodes = and_node (cpus config.machine.vcpu_count) last in
    let second : Nodes = and_node (memory config.machine.mem_size_mib) third in
    let first : Node = chosen (args_by config.boot_source) initrd in
    omega (
      arith,
      node_size [] root_properties (and_node first second),
      all_size first second,
      all_size (memory config.machine.mem_size_mib) third,
      all_size (cpus config.machine.vcpu_count) last,
      all_size (soc (device_count config)) no_nodes,
      chosen_size (args_by config.boot_source) initrd,
      memory_size config.machine.mem_size_mib,
      cpus_size config.machine.vcpu_count,
      soc_size (device_count config),
      length-cell,
    )

-- the tree of a machine that the API takes has room
pub tree_fits : (config : Config) (initrd : Option InitrdPlace) → length (args_by config.boot_source) ≤ 2048
    → config.machine.vcpu_count ≤ 32 → device_count config ≤ 16 → length (tree_bytes config initrd) ≤ 65536
tree_fits config initrd args harts devices =
    omega (arith, file_size (tokens_of (tree_of config initrd)), tree_size config initrd, args, harts, devices)
