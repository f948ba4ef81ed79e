-- Which bytes of memory parts are, in their order.
use Rattle.std.specs.Prelude.{ℕ, zero, suc, ◌+◌, ◌^◌, ◌<◌, ◌≤◌, List, [], ◌∷◌, ◌++◌}
use Rattle.vq_split.specs.declared.queue.Part.{Part}

-- so many addresses, one after another
abbrev pub addresses_from : ℕ → ℕ → List ℕ
addresses_from at zero = []
addresses_from at (suc n) = at ∷ addresses_from (suc at) n

-- the addresses of all bytes of the parts
abbrev pub addresses : List Part → List ℕ
addresses [] = []
addresses (part ∷ parts) = addresses_from part.at part.len ++ addresses parts

-- parts of at least one byte, which lie in the 2^64 addresses
abbrev pub AreParts : List Part → Type 0
AreParts [] = Unit {0}
AreParts (part ∷ parts) = (0 < part.len) × (part.at + part.len ≤ 2 ^ 64) × AreParts parts
